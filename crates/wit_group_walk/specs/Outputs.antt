-- What holds of the output of a text.
use Rattle.std.specs.Prelude.{◌≡◌, ◌⊎◌, ℕ, List}
use Rattle.std.specs.List.{AllZip}
use Rattle.wit_tree.specs.declared.tree.SourceFile.{SourceFile}
use Rattle.wit_grammar.specs.Seen.{see_file}
use Rattle.wit_bundle.specs.Laid.{AreLaid}
use Rattle.wit_lex.specs.declared.source.Source.{Source}
use Rattle.wit_lex.specs.Sources.{as_stated}
use Rattle.wit_model.specs.declared.unresolved.UnresolvedPackage.{UnresolvedPackage}
use Rattle.wit_syntax.specs.Broken.{IsLegal}
use Rattle.wit_arena.specs.Made.{Makes}
use Rattle.wit_groups.specs.PushFaults.{files_of}
use Rattle.wit_outcome.specs.declared.outcome.Outcome.{Outcome}
use Rattle.wit_outcome.specs.declared.outcome.Outcome.TheVariants as outcome
use Rattle.wit_outcome.specs.Outcome.{IsOutcome, outcome_json}
use Rattle.wit_tool.specs.Output.{IsOutput, IsSourcesOutput}

-- trees that say the same, wherever they lie, make one package
abbrev pub OnePackageOfTrees : Type 0
OnePackageOfTrees = (trees others : List SourceFile) (p q : UnresolvedPackage) → AllZip (λ (s t : SourceFile). see_file s ≡ see_file t) trees others → IsLegal (files_of trees) →
    Makes (files_of trees) p → Makes (files_of others) q → p ≡ q

-- sources of the same paths and texts have one output
abbrev pub OneSourcesOutput : Type 0
OneSourcesOutput = (parts : List (List ℕ × List ℕ)) (sources others : List Source) → AreLaid parts sources → AreLaid parts others → (status other : ℕ) (output another : List ℕ) →
    IsSourcesOutput sources status output → IsSourcesOutput others other another → (status ≡ other) × (output ≡ another)

-- an outcome that says that an allocation failed: E45
abbrev pub IsMemoryOutcome : Outcome → Type 0
IsMemoryOutcome (outcome.Group g) = ⊥
IsMemoryOutcome (outcome.Refusal p) = p.rule ≡ 45

-- two outcomes are one: groups of the same packages and sources, or the same refusal
abbrev pub SameOutcome : Outcome → Outcome → Type 0
SameOutcome (outcome.Group g) (outcome.Group h) = (g.main ≡ h.main) × (g.nested ≡ h.nested) × (as_stated g.source_map.sources.items ≡ as_stated h.source_map.sources.items)
SameOutcome (outcome.Refusal p) (outcome.Refusal q) = p ≡ q
SameOutcome o other = ⊥

-- sources of the same paths and texts have one outcome, unless an allocation failed
abbrev pub OneOutcome : Type 0
OneOutcome = (parts : List (List ℕ × List ℕ)) (o other : Outcome) → IsOutcome parts o → IsOutcome parts other → IsMemoryOutcome o ⊎ (IsMemoryOutcome other ⊎ SameOutcome o other)

-- and one outcome has one JSON
abbrev pub OneJson : Type 0
OneJson = (o other : Outcome) → SameOutcome o other → outcome_json o ≡ outcome_json other

-- a text has one output
abbrev pub OneOutput : Type 0
OneOutput = (text : List ℕ) (status other : ℕ) (output another : List ℕ) → IsOutput text status output → IsOutput text other another → (status ≡ other) × (output ≡ another)
