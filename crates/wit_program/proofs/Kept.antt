-- What was written stays written where a writer keeps what it holds.
use Rattle.std.proofs.Common.{◌≡◌, ℕ, List, ◌∙◌, refl, sym, subst, take, take_all, length, arith}
use Rattle.std.specs.Prelude.{Bool, Option, Some, None, IfSome, is_some, Result, Ok, Err}
use Rattle.std.specs.Io.KnownBytes.{Appends, Keeps}
use Rattle.wit_groups.specs.declared.group.UnresolvedPackageGroup.{UnresolvedPackageGroup}
use Rattle.wit_listing.specs.declared.fault.RunFault.{RunFault}
use Rattle.wit_listing.specs.declared.fault.RunFault.TheVariants.{Output, Memory}
use Rattle.wit_tool.specs.Output.{IsPrinted, Writes, listed_status}
use Rattle.wit_program.specs.Status.{IsEnded, status_of}
use Rattle.wit_program.specs.Status.IsEnded.{Printed, Failed, Nothing}

pub keeps_itself : (a : Option (List ℕ)) → Keeps a a
keeps_itself None = tt
keeps_itself (Some xs) = refl

pub keeps_then : (a b c : Option (List ℕ)) → Keeps a b → Keeps b c → Keeps a c
keeps_then None b c p q = tt
keeps_then (Some xs) None c p q = absurd p
keeps_then (Some xs) (Some ys) None p q = absurd q
keeps_then (Some xs) (Some ys) (Some zs) p q = q ∙ p

pub appends_kept : (a b c : Option (List ℕ)) (text : List ℕ) → Appends a b text → Keeps b c → Appends a c text
appends_kept None b c text p q = tt
appends_kept (Some xs) None c text p q = absurd p
appends_kept (Some xs) (Some ys) None text p q = absurd q
appends_kept (Some xs) (Some ys) (Some zs) text p q = q ∙ p

pub writes_kept : (IsOut : ℕ → List ℕ → Type 0) (a b c : Option (List ℕ)) (result : Result (Option UnresolvedPackageGroup) RunFault) → Writes IsOut a b result → Keeps b c → Writes IsOut a c result
writes_kept IsOut a b c (Ok answer) w q = (w.0, w.1, appends_kept a b c w.0 w.2 q)
writes_kept IsOut a b c (Err Output) w q = (w.0, w.1, w.2, (w.3.0, w.3.1, appends_kept a b c (take w.3.0 w.1) w.3.2 q))
writes_kept IsOut a b c (Err Memory) w q = keeps_then a b c w q

-- an answer that went out whole
pub ended : (E : Type 0) (text : List ℕ) (a b : Option (List ℕ)) (listed : Option UnresolvedPackageGroup) → Writes (IsPrinted text) a b (Ok listed) → IsEnded text a b (status_of {E = E} (Ok (is_some listed)))
ended E text a b (Some group) w = Printed w.0 w.1 w.2
ended E text a b None w = Printed w.0 w.1 w.2

-- one that may not have
part : (text : List ℕ) (a b : Option (List ℕ)) (result : Result (Option UnresolvedPackageGroup) RunFault) → Writes (IsPrinted text) a b result → IsEnded text a b 2
part text a b (Ok answer) w = Failed refl (listed_status answer) w.0 (length w.0) w.1 (subst (Appends a b) (sym (take_all (length w.0) w.0 (omega arith))) w.2)
part text a b (Err Output) w = Failed refl w.0 w.1 w.3.0 w.2 w.3.2
part text a b (Err Memory) w = Nothing refl w

pub failed : {E : Type 0} (text : List ℕ) (a b : Option (List ℕ)) (result : Result (Option UnresolvedPackageGroup) RunFault) (r : Result Bool E) (e : E) → r ≡ Err e → Writes (IsPrinted text) a b result → IsEnded text a b (status_of r)
failed text a b result r e is w = rw is (part text a b result w)

-- the text that a reader gave
pub of_read : (known : Option (List ℕ)) (bytes text : List ℕ) (a b : Option (List ℕ)) (status : ℕ) → IfSome known (λ xs. bytes ≡ xs) → text ≡ bytes → IsEnded text a b status → IfSome known (λ xs. IsEnded xs a b status)
of_read None bytes text a b status read same it = tt
of_read (Some xs) bytes text a b status read same it = subst (λ (t : List ℕ). IsEnded t a b status) (same ∙ read) it

-- none
pub unread : {E : Type 0} (known a : Option (List ℕ)) (r : Result Bool E) (e : E) → r ≡ Err e → IfSome known (λ text. IsEnded text a a (status_of r))
unread None a r e is = tt
unread (Some text) a r e is = rw is (Nothing refl (keeps_itself a))
