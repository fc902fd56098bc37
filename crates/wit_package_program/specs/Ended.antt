-- The status that the program ends with, and what it has written then.
use Rattle.std.specs.Prelude.{ℕ, List, Option, Result, Ok}
use Rattle.std.specs.Io.KnownBytes.{Keeps}
use Rattle.wit_groups.specs.declared.group.UnresolvedPackageGroup.{UnresolvedPackageGroup}
use Rattle.wit_listing.specs.declared.fault.RunFault.{RunFault}
use Rattle.wit_outcome.specs.declared.outcome.Outcome.{Outcome}
use Rattle.wit_outcome.specs.declared.outcome.Outcome.TheVariants as outcome
use Rattle.wit_outcome.specs.declared.plain.Plain.{Plain}
use Rattle.wit_package_program.specs.Answered.{IsAnswered}

-- by the status: 0, the JSON of a group was written; 1, that of a refusal; 2, a beginning of one of these, or the whole that was not flushed; or nothing, since no text was read
pub data IsEnded (text : List ℕ) (old new : Option (List ℕ)) : ℕ → Type 0 where
  Group : (g : UnresolvedPackageGroup) → IsAnswered text old new (Ok (outcome.Group g)) → IsEnded text old new 0
  Refusal : (p : Plain) → IsAnswered text old new (Ok (outcome.Refusal p)) → IsEnded text old new 1
  Failed : (result : Result Outcome RunFault) → IsAnswered text old new result → IsEnded text old new 2
  Unread : Keeps old new → IsEnded text old new 2
