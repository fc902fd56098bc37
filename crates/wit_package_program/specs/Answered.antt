-- What is written of a text: the JSON of the group that its sources make, or of their refusal.
use Rattle.std.specs.Prelude.{ℕ, List, [], ◌∷◌, ◌++◌, Bool, true, false, Option, Result, Ok, Err}
use Rattle.std.specs.Io.KnownBytes.{Appends, Keeps}
use Rattle.wit_bundle.specs.Bundle.{sources_of}
use Rattle.wit_listing.specs.declared.fault.RunFault.{RunFault}
use Rattle.wit_listing.specs.declared.fault.RunFault.TheVariants.{Output, Memory}
use Rattle.wit_listing.specs.Output.{IsCutShort}
use Rattle.wit_json.specs.ValueTokens.{json_text}
use Rattle.wit_outcome.specs.declared.outcome.Outcome.{Outcome}
use Rattle.wit_outcome.specs.declared.outcome.Outcome.TheVariants as outcome
use Rattle.wit_outcome.specs.Outcome.{IsOutcome, outcome_json}

-- the JSON of an outcome as a line
abbrev pub outcome_line : Outcome → List ℕ
outcome_line o = json_text (outcome_json o) ++ 10 ∷ []

abbrev pub is_group : Outcome → Bool
is_group (outcome.Group g) = true
is_group (outcome.Refusal p) = false

-- the line of what the sources of the text come to was written; after a failed write a beginning of it and not the whole, after a failed allocation nothing
abbrev pub IsAnswered : List ℕ → Option (List ℕ) → Option (List ℕ) → Result Outcome RunFault → Type 0
IsAnswered text old new (Ok o) = IsOutcome (sources_of text) o × Appends old new (outcome_line o)
IsAnswered text old new (Err Output) = (o : Outcome) × IsOutcome (sources_of text) o × IsCutShort old new (outcome_line o)
IsAnswered text old new (Err Memory) = Keeps old new
