-- A list that is read one element after another, and what passes a test among those that are read.
use Rattle.std.proofs.Common.{◌≡◌, ℕ, ◌+◌, Bool, List, [], ◌∷◌, ◌++◌, length, take, drop, Some, inl, inr, refl, sym, ap, ◌∙◌, subst, append_assoc, add-zero}
use Rattle.wit_arena.proofs.Common.{append-nil, at_back, cases_Bool, cond, cond-false, cond-true, filter, filter-append, flat_map, flat_map-append, slice_get, take-append-drop, take_next}

-- what comes after a prefix, and before the rest
pub at_middle : {X : Type 0} (prefix : List X) (x : X) (back : List X) → slice_get (prefix ++ (x ∷ back)) (length prefix) ≡ Some x
at_middle prefix x back = subst (λ n. slice_get (prefix ++ (x ∷ back)) n ≡ Some x) (add-zero (length prefix)) (at_back prefix (x ∷ back) 0 x refl)

-- those before an item, that one, and those after it
pub split_at : {X : Type 0} (xs : List X) (i : ℕ) (x : X) → slice_get xs i ≡ Some x → xs ≡ take i xs ++ (x ∷ [] ++ drop (i + 1) xs)
split_at xs i x at =
    sym (take-append-drop (i + 1) xs)
    ∙ ap (λ l. l ++ drop (i + 1) xs) (take_next xs i x at)
    ∙ append_assoc (take i xs) (x ∷ []) (drop (i + 1) xs)

pub kept_next : {X Y : Type 0} (g : X → List Y) (test : X → Bool) (xs : List X) (i : ℕ) (x : X) → slice_get xs i ≡ Some x → flat_map g (filter test (take (i + 1) xs)) ≡ flat_map g (filter test (take i xs)) ++ flat_map g (filter test (x ∷ []))
kept_next g test xs i x at =
    ap (λ l. flat_map g (filter test l)) (take_next xs i x at)
    ∙ ap (flat_map g) (filter-append test (take i xs) (x ∷ []))
    ∙ flat_map-append g (filter test (take i xs)) (filter test (x ∷ []))

-- what one item becomes, where it passes the test
pub kept_one : {X Y : Type 0} (g : X → List Y) (test : X → Bool) (x : X) (ys : List Y) → g x ≡ ys → cond (test x) ys [] ≡ flat_map g (filter test (x ∷ []))
kept_one g test x ys becomes = elim (cases_Bool (test x)) [
  | inl hit ↦ cond-true (test x) ys [] hit ∙ sym becomes ∙ sym (append-nil (g x)) ∙ sym (ap (flat_map g) (cond-true (test x) (x ∷ []) [] hit))
  | inr miss ↦ cond-false (test x) ys [] miss ∙ sym (ap (flat_map g) (cond-false (test x) (x ∷ []) [] miss))
]

pub kept_nothing : {X Y : Type 0} (g : X → List Y) (test : X → Bool) (x : X) → g x ≡ [] → [] ≡ flat_map g (filter test (x ∷ []))
kept_nothing g test x becomes = elim (cases_Bool (test x)) [
  | inl hit ↦ sym becomes ∙ sym (append-nil (g x)) ∙ sym (ap (flat_map g) (cond-true (test x) (x ∷ []) [] hit))
  | inr miss ↦ sym (ap (flat_map g) (cond-false (test x) (x ∷ []) [] miss))
]
