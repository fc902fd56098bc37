-- Written types by their parts: what holds of a type where it holds of its parts, and the first fault of one by those of its parts.
use Rattle.std.proofs.Common.{◌≡◌, ℕ, zero, suc, List, [], ◌∷◌, Option, Some, None, refl, sym, ap, ◌∙◌, subst, Vec}
use Rattle.wit_syntax.proofs.Common.{Both', Err', Fault, Global, Id, Neither, None', Ok', ResultTypes, Row_of-Type, Some', Span, Tuple, end_of-Type, more_of-Type, option_or, part_types, result_types, row_types, slice_get, tuple_types, «Type» as Written}
use Rattle.wit_type_tree.specs.declared.types.«Type».TheVariants as written
use Rattle.wit_syntax.specs.Fault.{fault}
use Rattle.wit_first.specs.First.{first_in}
use Rattle.wit_first.specs.KeyFaults.{key_fault}
use Rattle.wit_first.specs.ListFaults.{empty_fault}
use Rattle.wit_first.specs.TypeFaults.{type_fault, row_fault, prefix_fault, back_fault}
use Rattle.wit_first.proofs.Bridge.{or_none_both}
use Rattle.wit_first.proofs.First.{none_both, or_none}

-- something holds of each of some types
abbrev pub AllTypes : (Written → Type 0) → List Written → Type 0
AllTypes P [] = Unit {0}
AllTypes P (t ∷ ts) = P t × AllTypes P ts

pub type_at : (P : Written → Type 0) (ts : List Written) → AllTypes P ts → (i : ℕ) (t : Written) → slice_get ts i ≡ Some t → P t
type_at P [] all i t at = absurd (let f : ⊥ = cc in f)
type_at P (u ∷ ts) all zero t at = (let same : u ≡ t = cc in subst P same all.0)
type_at P (u ∷ ts) all (suc i) t at = type_at P ts all.1 i t at

-- what holds of each type whose parts it holds of holds of all types
mutual
  pub by_parts : (P : Written → Type 0) → ((t : Written) → AllTypes P (part_types t) → P t) → (t : Written) → P t
  by_parts P step (written.Primitive span p) = step (written.Primitive span p) tt
  by_parts P step (written.Name id) = step (written.Name id) tt
  by_parts P step (written.List' span p t) = step (written.List' span p t) (by_parts P step t, tt)
  by_parts P step (written.FixedLengthList' span p t size) = step (written.FixedLengthList' span p t size) (by_parts P step t, tt)
  by_parts P step (written.Map' span p key q value) = step (written.Map' span p key q value) (by_parts P step key, (by_parts P step value, tt))
  by_parts P step (written.Option' span p t) = step (written.Option' span p t) (by_parts P step t, tt)
  by_parts P step (written.Result span of) = step (written.Result span of) (by_result P step of)
  by_parts P step (written.Tuple' span shape ts) = step (written.Tuple' span shape ts) (by_row P step ts)
  by_parts P step (written.Future' span None') = step (written.Future' span None') tt
  by_parts P step (written.Future' span (Some' p t)) = step (written.Future' span (Some' p t)) (by_parts P step t, tt)
  by_parts P step (written.Stream' span None') = step (written.Stream' span None') tt
  by_parts P step (written.Stream' span (Some' p t)) = step (written.Stream' span (Some' p t)) (by_parts P step t, tt)
  by_parts P step (written.Own span id) = step (written.Own span id) tt
  by_parts P step (written.Borrow span id) = step (written.Borrow span id) tt

  by_result : (P : Written → Type 0) → ((t : Written) → AllTypes P (part_types t) → P t) → (of : ResultTypes) → AllTypes P (result_types of)
  by_result P step Neither = tt
  by_result P step (Ok' p t) = (by_parts P step t, tt)
  by_result P step (Err' p t) = (by_parts P step t, tt)
  by_result P step (Both' p t q u) = (by_parts P step t, (by_parts P step u, tt))

  by_row : (P : Written → Type 0) → ((t : Written) → AllTypes P (part_types t) → P t) → {m : _} (ts : Row_of-Type m) → AllTypes P (row_types ts)
  by_row P step end_of-Type = tt
  by_row P step (more_of-Type t rest) = (by_parts P step t, by_row P step rest)

-- one part, and two, with what is looked at after them
only : {X : Type 0} (a : Option X) → a ≡ option_or (option_or a None) None
only None = refl
only (Some x) = refl

both : {X : Type 0} (a b : Option X) → option_or a b ≡ option_or (option_or a (option_or b None)) None
both None b = only b
both (Some x) b = refl

two : {X : Type 0} (a b o : Option X) → option_or a (option_or b o) ≡ option_or (option_or a (option_or b None)) o
two None None o = refl
two None (Some y) o = refl
two (Some x) b o = refl

of_result : (word handle : Id → Option Fault) (span : Span) (of : ResultTypes) → type_fault word handle (written.Result span of) ≡ option_or (first_in (type_fault word handle) (result_types of)) None
of_result word handle span Neither = refl
of_result word handle span (Ok' p t) = only (type_fault word handle t)
of_result word handle span (Err' p t) = only (type_fault word handle t)
of_result word handle span (Both' p t q u) = both (type_fault word handle t) (type_fault word handle u)

of_row : (word handle : Id → Option Fault) {m : _} (ts : Row_of-Type m) → row_fault word handle None ts ≡ first_in (type_fault word handle) (row_types ts)
of_row word handle end_of-Type = refl
of_row word handle (more_of-Type t rest) = ap (option_or (type_fault word handle t)) (of_row word handle rest)

of_tuple : (word handle : Id → Option Fault) (span : Span) {m : _} (ts : Row_of-Type m) → row_fault word handle (Some (fault 22 span)) ts ≡ option_or (empty_fault 22 (row_types ts) span) (option_or (first_in (type_fault word handle) (row_types ts)) None)
of_tuple word handle span end_of-Type = refl
of_tuple word handle span (more_of-Type t rest) = of_row word handle (more_of-Type t rest) ∙ sym (or_none (first_in (type_fault word handle) (row_types (more_of-Type t rest))))

-- the first fault of a type: one that is looked at before its parts, or theirs, or one after them
pub fault_parts : (word handle : Id → Option Fault) (t : Written) → type_fault word handle t ≡ option_or (prefix_fault word handle t) (option_or (first_in (type_fault word handle) (part_types t)) (back_fault t))
fault_parts word handle (written.Primitive span p) = refl
fault_parts word handle (written.Name id) = sym (or_none (word id))
fault_parts word handle (written.List' span p t) = only (type_fault word handle t)
fault_parts word handle (written.FixedLengthList' span p t size) = only (type_fault word handle t)
fault_parts word handle (written.Map' span p key q value) = two (type_fault word handle key) (type_fault word handle value) (key_fault key span)
fault_parts word handle (written.Option' span p t) = only (type_fault word handle t)
fault_parts word handle (written.Result span of) = of_result word handle span of
fault_parts word handle (written.Tuple' span shape ts) = of_tuple word handle span ts
fault_parts word handle (written.Future' span None') = refl
fault_parts word handle (written.Future' span (Some' p t)) = only (type_fault word handle t)
fault_parts word handle (written.Stream' span None') = refl
fault_parts word handle (written.Stream' span (Some' p t)) = only (type_fault word handle t)
fault_parts word handle (written.Own span id) = sym (or_none (handle id))
fault_parts word handle (written.Borrow span id) = sym (or_none (handle id))

-- a type without a fault: nothing is wrong before its parts, with one of them, or after them
pub record AreNone (word handle : Id → Option Fault) (t : Written) : Type 0 where
  pub prefix : prefix_fault word handle t ≡ None
  pub parts : first_in (type_fault word handle) (part_types t) ≡ None
  pub back : back_fault t ≡ None

pub none_parts : (word handle : Id → Option Fault) (t : Written) → type_fault word handle t ≡ None → AreNone word handle t
none_parts word handle t none =
    let own = or_none_both (prefix_fault word handle t) (option_or (first_in (type_fault word handle) (part_types t)) (back_fault t)) (sym (fault_parts word handle t) ∙ none) in
    let rest = or_none_both (first_in (type_fault word handle) (part_types t)) (back_fault t) own.1 in
    record { prefix = own.0; parts = rest.0; back = rest.1 }

-- names with which nothing is wrong by one test, and so by another
module _ (word handle word' handle' : Id → Option Fault) (words : (id : Id) → word id ≡ None → word' id ≡ None) (handles : (id : Id) → handle id ≡ None → handle' id ≡ None) where
  abbrev IsKept : Written → Type 0
  IsKept t = type_fault word handle t ≡ None → type_fault word' handle' t ≡ None

  prefix_kept : (t : Written) → prefix_fault word handle t ≡ None → prefix_fault word' handle' t ≡ None
  prefix_kept (written.Name id) h = words id h
  prefix_kept (written.Own span id) h = handles id h
  prefix_kept (written.Borrow span id) h = handles id h
  prefix_kept (written.Tuple' span shape ts) h = h
  prefix_kept _ h = refl

  all_kept : (ts : List Written) → AllTypes IsKept ts → first_in (type_fault word handle) ts ≡ None → first_in (type_fault word' handle') ts ≡ None
  all_kept [] all h = refl
  all_kept (t ∷ ts) all h =
      let one = or_none_both (type_fault word handle t) (first_in (type_fault word handle) ts) h in
      none_both (all.0 one.0) (all_kept ts all.1 one.1)

  -- a type in which nothing is wrong by the one is so by the other
  pub type_kept : (t : Written) → type_fault word handle t ≡ None → type_fault word' handle' t ≡ None
  type_kept = by_parts IsKept (λ t parts none.
      let are = none_parts word handle t none in
      fault_parts word' handle' t ∙ none_both (prefix_kept t are.prefix) (none_both (all_kept (part_types t) parts are.parts) are.back))

-- a tuple, by the list of its types
pub tuple_fault : (word handle : Id → Option Fault) (span : Span) (v : Vec Written Global) → type_fault word handle (Tuple span v) ≡ option_or (empty_fault 22 v.items span) (first_in (type_fault word handle) v.items)
tuple_fault word handle span v =
    let part = type_fault word handle in
    fault_parts word handle (Tuple span v) ∙ (ap (λ (l : List Written). option_or (empty_fault 22 l span) (option_or (first_in part l) None)) (tuple_types span v) ∙ ap (option_or (empty_fault 22 v.items span)) (or_none (first_in part v.items)))
