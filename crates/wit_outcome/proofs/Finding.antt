-- The outcome of paths and texts, from that of their sources, or from their being too large.
use Rattle.std.proofs.Common.{◌≡◌, ℕ, ◌<◌, ◌≤◌, List, [], arith, subst, sym}
use Rattle.std.specs.Prelude.{Result, Ok, Err, IfOk, IfErr, OnOk}
use Rattle.wit_type_tree.specs.declared.error.ParseError.{ParseError}
use Rattle.wit_type_tree.specs.declared.error.ParseErrorKind.{ParseErrorKind}
use Rattle.wit_type_tree.specs.declared.error.ParseErrorKind.TheVariants.{Syntax, ItemNotFound, TypeCycle, OutOfMemory}
use Rattle.wit_lex.specs.declared.source.Source.{Source}
use Rattle.wit_lex.specs.declared.source_map.SourceMap.{SourceMap}
use Rattle.wit_lex.specs.Sources.{IsTooLarge, ReportsTooLarge}
use Rattle.wit_bundle.specs.Laid.{AreLaid, room}
use Rattle.wit_groups.specs.Groups.{IsGroup}
use Rattle.wit_outcome.specs.declared.outcome.Outcome.{Outcome}
use Rattle.wit_outcome.specs.declared.outcome.Outcome.TheVariants as outcome
use Rattle.wit_outcome.specs.declared.plain.Plain.{Plain}
use Rattle.wit_outcome.specs.Plain.{IsPlain}
use Rattle.wit_outcome.specs.Outcome.{AreMapped, IsOutcome, IsOutcomeOf}
use Rattle.wit_outcome.specs.Outcome.IsOutcome.{Made, Declined, TooMuch}

outcome_of : (parts : List (List ℕ × List ℕ)) (sources : List Source) → room parts ≤ 4294967295 → AreLaid parts sources → (o : Outcome) → IsOutcomeOf sources o → IsOutcome parts o
outcome_of parts sources fits are (outcome.Group g) is =
    let same = sym is.0 in
    Made g (record { fits = fits; are = subst (AreLaid parts) same are; group = subst (λ s. IsGroup s g.main g.nested) same is.1 })
outcome_of parts sources fits are (outcome.Refusal p) is = Declined p (record { sources = sources; fits = fits; are = are; e = is.0; refused = is.1; first = is.2; plain = is.3 })

pub result_of : {E : Type 0} (parts : List (List ℕ × List ℕ)) (sources : List Source) (r : Result Outcome E) → (room parts ≤ 4294967295) × AreLaid parts sources → IfOk r (IsOutcomeOf sources) → IfOk r (IsOutcome parts)
result_of parts sources (Ok o) are is = outcome_of parts sources are.0 are.1 o is
result_of parts sources (Err e) are is = tt

-- a map that has them, or is refused
pub mapped : (parts : List (List ℕ × List ℕ)) (r : Result SourceMap ParseError) → IfOk r (λ map. AreLaid parts map.sources.items) → OnOk r (room parts ≤ 4294967295) → IfErr r (IsTooLarge (room parts)) → AreMapped parts r
mapped parts (Ok map) laid fits large = (fits, laid)
mapped parts (Err e) laid fits large = large

large_end : (end number : ℕ) (kind : ParseErrorKind) → ReportsTooLarge end number kind → (number ≡ 45 → ⊥) → 4294967295 < end
large_end end number (Syntax span message) gives is = gives.1
large_end end number (ItemNotFound span name kind hint) gives is = absurd gives
large_end end number (TypeCycle span name kind) gives is = absurd gives
large_end end number OutOfMemory gives is = absurd (is gives)

other_than_45 : (number : ℕ) → number ≡ 52 → number ≡ 45 → ⊥
other_than_45 number is other = absurd (omega arith)

pub too_much : (parts : List (List ℕ × List ℕ)) (e : ParseError) → IsTooLarge (room parts) e → e.rule ≡ 52 → (p : Plain) → IsPlain [] e p → IsOutcome parts (outcome.Refusal p)
too_much parts e large is p plain =
    TooMuch p (record { large = large_end _ e.rule e.kind large.gives (other_than_45 e.rule is); e = e; rule = is; gives = large; plain = plain })
