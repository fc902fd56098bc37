-- The answer of an outcome.
use Rattle.std.proofs.Common.{◌≡◌, ℕ, List}
use Rattle.wit_json.specs.ValueTokens.{json_text}
use Rattle.wit_outcome.specs.declared.outcome.Outcome.{Outcome}
use Rattle.wit_outcome.specs.declared.outcome.Outcome.TheVariants as outcome
use Rattle.wit_outcome.specs.Outcome.{IsOutcome, outcome_json}
use Rattle.wit_ffi.specs.Answer.{IsAnswer, outcome_status}
use Rattle.wit_ffi.specs.Answer.IsAnswer.{Group, Refusal}

pub answer_of : (parts : List (List ℕ × List ℕ)) (o : Outcome) → IsOutcome parts o → (status : ℕ) (json : List ℕ) → status ≡ outcome_status o → json ≡ json_text (outcome_json o) → IsAnswer parts status json
answer_of parts (outcome.Group g) is status json said text = Group said g is text
answer_of parts (outcome.Refusal p) is status json said text = Refusal said p is text
