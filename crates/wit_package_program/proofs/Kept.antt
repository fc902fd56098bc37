-- What was written stays written if a writer keeps what it holds.
use Rattle.std.proofs.Common.{ℕ, List}
use Rattle.std.specs.Prelude.{◌≡◌, Bool, Option, Some, None, IfSome, Result, Ok, Err}
use Rattle.std.specs.Io.KnownBytes.{Keeps}
use Rattle.wit_listing.specs.declared.fault.RunFault.{RunFault}
use Rattle.wit_listing.specs.declared.fault.RunFault.TheVariants.{Output, Memory}
use Rattle.wit_program.specs.Status.{status_of}
use Rattle.wit_program.proofs.Kept.{appends_kept, keeps_itself, keeps_then}
use Rattle.wit_outcome.specs.declared.outcome.Outcome.{Outcome}
use Rattle.wit_outcome.specs.declared.outcome.Outcome.TheVariants as outcome
use Rattle.wit_package_program.specs.Answered.{IsAnswered, is_group}
use Rattle.wit_package_program.specs.Ended.{IsEnded}
use Rattle.wit_package_program.specs.Ended.IsEnded.{Group, Refusal, Failed, Unread}

pub answered_kept : (text : List ℕ) (a b c : Option (List ℕ)) (result : Result Outcome RunFault) → IsAnswered text a b result → Keeps b c → IsAnswered text a c result
answered_kept text a b c (Ok o) w q = (w.0, appends_kept a b c _ w.1 q)
answered_kept text a b c (Err Output) w q = (w.0, w.1, (w.2.0, w.2.1, appends_kept a b c _ w.2.2 q))
answered_kept text a b c (Err Memory) w q = keeps_then a b c w q

-- the whole line was written
pub ended : (E : Type 0) (text : List ℕ) (a b : Option (List ℕ)) (o : Outcome) → IsAnswered text a b (Ok o) → IsEnded text a b (status_of {E = E} (Ok (is_group o)))
ended E text a b (outcome.Group g) answered = Group g answered
ended E text a b (outcome.Refusal p) answered = Refusal p answered

-- perhaps it was not
pub failed : {E : Type 0} (text : List ℕ) (a b : Option (List ℕ)) (result : Result Outcome RunFault) (r : Result Bool E) (e : E) → r ≡ Err e → IsAnswered text a b result → IsEnded text a b (status_of r)
failed text a b result r e is answered = rw is (Failed result answered)

-- no text was read
pub unread : {E : Type 0} (known a : Option (List ℕ)) (r : Result Bool E) (e : E) → r ≡ Err e → IfSome known (λ text. IsEnded text a a (status_of r))
unread None a r e is = tt
unread (Some text) a r e is = rw is (Unread (keeps_itself a))

-- the same, and then the writer was flushed
pub ended_kept : (E : Type 0) (text : List ℕ) (a b c : Option (List ℕ)) (o : Outcome) → IsAnswered text a b (Ok o) → Keeps b c → IsEnded text a c (status_of {E = E} (Ok (is_group o)))
ended_kept E text a b c o answered keeps = ended E text a c o (answered_kept text a b c (Ok o) answered keeps)

pub failed_kept : {E : Type 0} (text : List ℕ) (a b c : Option (List ℕ)) (result : Result Outcome RunFault) (r : Result Bool E) (e : E) → r ≡ Err e → IsAnswered text a b result → Keeps b c →
    IsEnded text a c (status_of r)
failed_kept text a b c result r e is answered keeps = failed text a c result r e is (answered_kept text a b c result answered keeps)
