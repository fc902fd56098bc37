-- The names of a scope as they are resolved: the used ones, and then the definitions in their order.
use Rattle.std.proofs.Common.{◌≡◌, ℕ, zero, suc, ◌+◌, ◌<◌, Bool, true, false, not, List, [], ◌∷◌, ◌++◌, length, Some, ◌⊎◌, inl, inr, refl, sym, ap, ◌∙◌, subst, arith}
use Rattle.std.specs.Prelude.{slice_get, map}
use Rattle.std.proofs.lemmas.List.{length-map}
use Rattle.std.proofs.lemmas.Option.{slice_get_within}
use Rattle.wit_type_tree.specs.declared.leaves.Attribute.{Attribute}
use Rattle.wit_tree.specs.declared.tree.UseName.{UseName}
use Rattle.wit_type_tree.specs.declared.types.TypeDef.{TypeDef as Definition}
use Rattle.wit_type_tree.specs.declared.leaves.Id.{Id}
use Rattle.wit_graph.specs.Table.{IsOrder}
use Rattle.wit_syntax.specs.Address.{Address}
use Rattle.wit_syntax.specs.Source.{ScopeName, Used, Defined, ForeignName, local_name}
use Rattle.wit_syntax.specs.ScopeTables.{rows_of, in_order, is_defined, used, defined, in_turn, AreDistinct}
use Rattle.wit_syntax.specs.Repeats.{AllDiffer}
use Rattle.wit_syntax.proofs.Lists.{at_prefix, at_back}
use Rattle.wit_syntax.proofs.Repeated.{differ_none, differ_at, differ_by}
use Rattle.wit_syntax.proofs.Kept.{kept_at, kept_has, differ_cons, differ_head, differ_tail, kept_differ}
use Rattle.wit_syntax.proofs.Orders.{order_within, in_order_at, in_order_has, index_of, index_once}
use Rattle.wit_syntax.proofs.Rows.{row_of}

-- what is in two lists, one after the other, is in one of them
pub at_part : {X : Type 0} (xs ys : List X) (i : ℕ) (x : X) → slice_get (xs ++ ys) i ≡ Some x → ((j : ℕ) × (slice_get xs j ≡ Some x)) ⊎ ((j : ℕ) × (slice_get ys j ≡ Some x))
at_part [] ys i x at = inr (i, at)
at_part (z ∷ xs) ys zero x at = inl (0, at)
at_part (z ∷ xs) ys (suc i) x at = elim (at_part xs ys i x at) [
  | inl h ↦ inl (suc h.0, h.1)
  | inr h ↦ inr h
]

abbrev is_used : ScopeName → Bool
is_used x = not (is_defined x)

pub used_at : (xs : List ScopeName) (i : ℕ) (x : ScopeName) → slice_get (used xs) i ≡ Some x → (p : ℕ) × (slice_get xs p ≡ Some x)
used_at xs i x at = let it = kept_at is_used xs i x at in (it.0, it.1)

pub defined_at : (xs : List ScopeName) (i : ℕ) (x : ScopeName) → slice_get (defined xs) i ≡ Some x → (p : ℕ) × (slice_get xs p ≡ Some x)
defined_at xs i x at = let it = kept_at is_defined xs i x at in (it.0, it.1)

pub used_has : (xs : List ScopeName) (p : ℕ) (from : Address) (attributes : List Attribute) (n : UseName) → slice_get xs p ≡ Some (Used from attributes n) → (i : ℕ) × (slice_get (used xs) i ≡ Some (Used from attributes n))
used_has xs p from attributes n at = kept_has is_used xs p (Used from attributes n) refl at

in_use_has : (xs : List ScopeName) (p : ℕ) (attributes : List Attribute) (id : Id) → slice_get xs p ≡ Some (ForeignName attributes id) → (i : ℕ) × (slice_get (used xs) i ≡ Some (ForeignName attributes id))
in_use_has xs p attributes id at = kept_has is_used xs p (ForeignName attributes id) refl at

pub defined_has : (xs : List ScopeName) (p : ℕ) (d : Definition) → slice_get xs p ≡ Some (Defined d) → (i : ℕ) × (slice_get (defined xs) i ≡ Some (Defined d))
defined_has xs p d at = kept_has is_defined xs p (Defined d) refl at

-- none of these is taken from another package
abbrev pub AreOwn : List ScopeName → Type 0
AreOwn xs = (i : ℕ) (attributes : List Attribute) (id : Id) → slice_get xs i ≡ Some (ForeignName attributes id) → ⊥

is_used-true : (x : ScopeName) → is_used x ≡ true → ((attributes : List Attribute) (id : Id) → x ≡ ForeignName attributes id → ⊥) → (from : Address) × (attributes : List Attribute) × (n : UseName) × (x ≡ Used from attributes n)
is_used-true (Used from attributes n) h own = (from, attributes, n, refl)
is_used-true (Defined d) h own = absurd (let f : ⊥ = cc in f)
is_used-true (ForeignName attributes id) h own = absurd (own attributes id refl)

-- a used name is one that is used, where none is taken
pub used_is : (xs : List ScopeName) → AreOwn xs → (i : ℕ) (x : ScopeName) → slice_get (used xs) i ≡ Some x → (from : Address) × (attributes : List Attribute) × (n : UseName) × (x ≡ Used from attributes n)
used_is xs own i x at =
    let it = kept_at is_used xs i x at in
    is_used-true x it.2 (λ attributes id same. own it.0 attributes id (it.1 ∙ ap Some same))

-- a name of a scope is used or defined
pub either_at : (xs : List ScopeName) (p : ℕ) (x : ScopeName) → slice_get xs p ≡ Some x → ((i : ℕ) × (slice_get (used xs) i ≡ Some x)) ⊎ ((i : ℕ) × (slice_get (defined xs) i ≡ Some x))
either_at xs p (Used from attributes n) at = inl (used_has xs p from attributes n at)
either_at xs p (Defined d) at = inr (defined_has xs p d at)
either_at xs p (ForeignName attributes id) at = inl (in_use_has xs p attributes id at)

-- none of these goes by the name
abbrev pub IsFresh : List ℕ → List ScopeName → Type 0
IsFresh name xs = (i : ℕ) (x : ScopeName) → slice_get xs i ≡ Some x → local_name x ≡ name → ⊥

-- no name of one list is one of another
abbrev pub AreApart : List ScopeName → List ScopeName → Type 0
AreApart xs ys = (i : ℕ) (x : ScopeName) → slice_get xs i ≡ Some x → IsFresh (local_name x) ys

pub distinct_none : AreDistinct []
distinct_none = differ_none

pub distinct_cons : (x : ScopeName) (xs : List ScopeName) → IsFresh (local_name x) xs → AreDistinct xs → AreDistinct (x ∷ xs)
distinct_cons x xs fresh d = differ_cons local_name x xs fresh d

pub distinct_head : (x : ScopeName) (xs : List ScopeName) → AreDistinct (x ∷ xs) → IsFresh (local_name x) xs
distinct_head x xs d = differ_head local_name x xs d

pub distinct_tail : (x : ScopeName) (xs : List ScopeName) → AreDistinct (x ∷ xs) → AreDistinct xs
distinct_tail x xs d = differ_tail local_name x xs d

fresh_join : (name : List ℕ) (xs ys : List ScopeName) → IsFresh name xs → IsFresh name ys → IsFresh name (xs ++ ys)
fresh_join name xs ys a b i x at same = elim (at_part xs ys i x at) [
  | inl h ↦ a h.0 x h.1 same
  | inr h ↦ b h.0 x h.1 same
]

-- two lists of distinct names, apart from one another
pub distinct_join : (xs ys : List ScopeName) → AreDistinct xs → AreDistinct ys → AreApart xs ys → AreDistinct (xs ++ ys)
distinct_join [] ys a b apart = b
distinct_join (x ∷ xs) ys a b apart = distinct_cons x (xs ++ ys) (fresh_join (local_name x) xs ys (distinct_head x xs a) (apart 0 x refl)) (distinct_join xs ys (distinct_tail x xs a) b (λ i y at. apart (suc i) y at))

pub distinct_left : (xs ys : List ScopeName) → AreDistinct (xs ++ ys) → AreDistinct xs
distinct_left xs ys d = differ_by local_name xs (λ i j x y at_i at_j same. differ_at local_name (xs ++ ys) d i j x y (at_prefix xs ys i x at_i) (at_prefix xs ys j y at_j) same)

pub distinct_right : (xs ys : List ScopeName) → AreDistinct (xs ++ ys) → AreDistinct ys
distinct_right [] ys d = d
distinct_right (x ∷ xs) ys d = distinct_right xs ys (distinct_tail x (xs ++ ys) d)

pub distinct_apart : (xs ys : List ScopeName) → AreDistinct (xs ++ ys) → AreApart xs ys
distinct_apart xs ys d i x at j y there same =
    let both = differ_at local_name (xs ++ ys) d i (length xs + j) x y (at_prefix xs ys i x at) (at_back xs ys j y there) (sym same) in
    let lt = slice_get_within xs i x at in
    omega arith

-- the used ones and the definitions hold every name
parts_distinct : (xs : List ScopeName) → AreDistinct (used xs) → AreDistinct (defined xs) → AreApart (used xs) (defined xs) → AreDistinct xs
parts_distinct [] a b apart = distinct_none
parts_distinct (Used from attributes n ∷ xs) a b apart =
    let x = Used from attributes n in
    let fresh : IsFresh (local_name x) xs = λ i y at same. elim (either_at xs i y at) [
      | inl h ↦ distinct_head x (used xs) a h.0 y h.1 same
      | inr h ↦ apart 0 x refl h.0 y h.1 same
    ] in
    distinct_cons x xs fresh (parts_distinct xs (distinct_tail x (used xs) a) b (λ i y at. apart (suc i) y at))
parts_distinct (ForeignName attributes id ∷ xs) a b apart =
    let x = ForeignName attributes id in
    let fresh : IsFresh (local_name x) xs = λ i y at same. elim (either_at xs i y at) [
      | inl h ↦ distinct_head x (used xs) a h.0 y h.1 same
      | inr h ↦ apart 0 x refl h.0 y h.1 same
    ] in
    distinct_cons x xs fresh (parts_distinct xs (distinct_tail x (used xs) a) b (λ i y at. apart (suc i) y at))
parts_distinct (Defined d ∷ xs) a b apart =
    let x = Defined d in
    let fresh : IsFresh (local_name x) xs = λ i y at same. elim (either_at xs i y at) [
      | inl h ↦ apart h.0 y h.1 0 x refl (sym same)
      | inr h ↦ distinct_head x (defined xs) b h.0 y h.1 same
    ] in
    distinct_cons x xs fresh (parts_distinct xs a (distinct_tail x (defined xs) b) (λ i y at j z there same. apart i y at (suc j) z there same))

-- where all local names differ, the names are distinct in source order too
pub distinct_names : (xs : List ScopeName) → AllDiffer (map local_name (used xs ++ defined xs)) → AreDistinct xs
distinct_names xs differ =
    let d = differ in
    parts_distinct xs (distinct_left (used xs) (defined xs) d) (distinct_right (used xs) (defined xs) d) (distinct_apart (used xs) (defined xs) d)

pub used_distinct : (xs : List ScopeName) → AreDistinct xs → AreDistinct (used xs)
used_distinct xs d = kept_differ local_name is_used xs d

pub defined_distinct : (xs : List ScopeName) → AreDistinct xs → AreDistinct (defined xs)
defined_distinct xs d = kept_differ local_name is_defined xs d

-- places of an order are those of names
pub names_within : (xs : List ScopeName) (order : List ℕ) → IsOrder (rows_of xs) order → (j p : ℕ) → slice_get order j ≡ Some p → p < length xs
names_within xs order least j p at = subst (λ (n : ℕ). p < n) (length-map xs row_of) (order_within (rows_of xs) order least j p at)

pub in_order_among : (xs : List ScopeName) (order : List ℕ) → IsOrder (rows_of xs) order → (i : ℕ) (x : ScopeName) → slice_get (in_order xs order) i ≡ Some x → (p : ℕ) × (slice_get xs p ≡ Some x)
in_order_among xs order least i x at = let it = in_order_at xs order i x (names_within xs order least) at in (it.0, it.2)

pub in_order_all : (xs : List ScopeName) (order : List ℕ) → IsOrder (rows_of xs) order → (p : ℕ) (x : ScopeName) → slice_get xs p ≡ Some x → (i : ℕ) × (slice_get (in_order xs order) i ≡ Some x)
in_order_all xs order least p x at =
    let it = index_of (rows_of xs) order p least (subst (λ (n : ℕ). p < n) (sym (length-map xs row_of)) (slice_get_within xs p x at)) in
    in_order_has xs order it.0 p x it.1 at

pub in_order_distinct : (xs : List ScopeName) (order : List ℕ) → IsOrder (rows_of xs) order → AreDistinct xs → AreDistinct (in_order xs order)
in_order_distinct xs order least d = differ_by local_name (in_order xs order) (λ i j x y at_i at_j same. (
    let a = in_order_at xs order i x (names_within xs order least) at_i in
    let b = in_order_at xs order j y (names_within xs order least) at_j in
    index_once (rows_of xs) order i j a.0 b.0 least a.1 b.1 (differ_at local_name xs d a.0 b.0 x y a.2 b.2 same)))

-- each name in turn is one of the scope
pub in_turn_among : (xs : List ScopeName) (order : List ℕ) → IsOrder (rows_of xs) order → (i : ℕ) (x : ScopeName) → slice_get (in_turn xs order) i ≡ Some x → (p : ℕ) × (slice_get xs p ≡ Some x)
in_turn_among xs order least i x at = elim (at_part (used xs) (defined (in_order xs order)) i x at) [
  | inl h ↦ used_at xs h.0 x h.1
  | inr h ↦ (let it = defined_at (in_order xs order) h.0 x h.1 in in_order_among xs order least it.0 x it.1)
]

-- and each name of the scope comes in turn
pub in_turn_has : (xs : List ScopeName) (order : List ℕ) → IsOrder (rows_of xs) order → (p : ℕ) (x : ScopeName) → slice_get xs p ≡ Some x → (i : ℕ) × (slice_get (in_turn xs order) i ≡ Some x)
in_turn_has xs order least p (Used from attributes n) at =
    let it = used_has xs p from attributes n at in
    (it.0, at_prefix (used xs) (defined (in_order xs order)) it.0 (Used from attributes n) it.1)
in_turn_has xs order least p (ForeignName attributes id) at =
    let it = in_use_has xs p attributes id at in
    (it.0, at_prefix (used xs) (defined (in_order xs order)) it.0 (ForeignName attributes id) it.1)
in_turn_has xs order least p (Defined d) at =
    let there = in_order_all xs order least p (Defined d) at in
    let it = defined_has (in_order xs order) there.0 d there.1 in
    (length (used xs) + it.0, at_back (used xs) (defined (in_order xs order)) it.0 (Defined d) it.1)

never_both : (x y : ScopeName) → is_used x ≡ true → is_defined y ≡ true → y ≡ x → ⊥
never_both x y u d same =
    let wrong : is_used x ≡ false = ap is_used (sym same) ∙ ap not d in
    let f : ⊥ = cc in
    f

turns_apart : (xs : List ScopeName) (order : List ℕ) → IsOrder (rows_of xs) order → AreDistinct xs → AreApart (used xs) (defined (in_order xs order))
turns_apart xs order least distinct i x at j y there same =
    let p = kept_at is_used xs i x at in
    let it = kept_at is_defined (in_order xs order) j y there in
    let q = in_order_among xs order least it.0 y it.1 in
    let places : q.0 ≡ p.0 = differ_at local_name xs distinct q.0 p.0 y x q.1 p.1 same in
    let both : Some y ≡ Some x = sym q.1 ∙ ap (slice_get xs) places ∙ p.1 in
    never_both x y p.2 it.2 (let one : y ≡ x = cc in one)

pub in_turn_distinct : (xs : List ScopeName) (order : List ℕ) → IsOrder (rows_of xs) order → AreDistinct xs → AreDistinct (in_turn xs order)
in_turn_distinct xs order least distinct = distinct_join (used xs) (defined (in_order xs order)) (used_distinct xs distinct) (defined_distinct (in_order xs order) (in_order_distinct xs order least distinct)) (turns_apart xs order least distinct)
