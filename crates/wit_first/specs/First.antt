-- The first fault, in the order in which faults are looked for.
use Rattle.std.specs.Prelude.{◌≡◌, ◌⊎◌, ℕ, if◌then◌else◌, List, [], ◌∷◌, ◌++◌, map, take, find, Option, Some, None, Result, MatchResult}
use Rattle.std.specs.List.{list_any}
use Rattle.std.specs.Option.{option_map, option_or}
use Rattle.std.specs.Str.{bytes_eq}
use Rattle.wit_type_tree.specs.declared.error.ParseError.{ParseError}
use Rattle.wit_type_tree.specs.RefusalText.{IsAllocationFailure}
use Rattle.wit_syntax.specs.Fault.{Fault, fault_of}
use Rattle.wit_syntax.specs.Repeats.{IsRepeatAt, AllDiffer}

-- the first fault of items, where each may have one
abbrev pub first_in : {X : Type 0} → (X → Option Fault) → List X → Option Fault
first_in wrong [] = None
first_in wrong (x ∷ xs) = option_or (wrong x) (first_in wrong xs)

-- the same, where the fault of an item depends on the items before it too; `before` is what comes before all of these
abbrev pub first_after : {X : Type 0} → (List X → X → Option Fault) → List X → List X → Option Fault
first_after wrong before [] = None
first_after wrong before (x ∷ xs) = option_or (wrong before x) (first_after wrong (before ++ x ∷ []) xs)

-- an error reports the first fault, or that an allocation failed
abbrev pub Reports : Option Fault → ParseError → Type 0
Reports first e = IsAllocationFailure e ⊎ (first ≡ Some (fault_of e))

-- a call returns Ok where there is no fault, and else an error that reports the first; an allocation may fail in either case
abbrev pub Finds : {T : Type 0} → Option Fault → Result T ParseError → Type 0
Finds first r = MatchResult r (λ _. first ≡ None) (λ e. Reports first e)

-- the first fault, where a relation says which it is: an earlier one, or else the one that the relation says
abbrev pub IsOr : Option Fault → (Option Fault → Type 0) → Option Fault → Type 0
IsOr None IsLater first = IsLater first
IsOr (Some f) IsLater first = first ≡ Some f

-- a call returns Ok where that is none, and else an error that reports it; an allocation may fail in either case
abbrev pub FindsBy : {T : Type 0} → (Option Fault → Type 0) → Result T ParseError → Type 0
FindsBy IsFirst r = MatchResult r (λ _. IsFirst None) (λ e. IsAllocationFailure e ⊎ IsFirst (Some (fault_of e)))

-- an item has the key of an earlier one: the fault is made of the later one
abbrev pub repeat_of : {X : Type 0} → (X → List ℕ) → (X → Fault) → List X → X → Option Fault
repeat_of key as_fault before x = if list_any (λ y. bytes_eq (key y) (key x)) before then Some (as_fault x) else None

-- the same, where the fault is made of both: the earlier one is the first that has the key
abbrev pub clash_of : {X : Type 0} → (X → List ℕ) → (X → X → Fault) → List X → X → Option Fault
clash_of key as_fault before x = option_map (λ y. as_fault y x) (find (λ y. bytes_eq (key y) (key x)) before)

-- the place of the first item that has, if one has
abbrev pub IsFirstRepeat : {X : Type 0} → (X → List ℕ) → List X → Option ℕ → Type 0
IsFirstRepeat key xs None = AllDiffer (map key xs)
IsFirstRepeat key xs (Some place) = (first : ℕ) × IsRepeatAt (map key xs) first place × AllDiffer (take place (map key xs))

-- the first item that has
abbrev pub first_repeat : {X : Type 0} → (X → List ℕ) → (X → Fault) → List X → Option Fault
first_repeat key as_fault xs = first_after (repeat_of key as_fault) [] xs
