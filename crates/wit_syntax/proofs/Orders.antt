-- Lists in an order of their places.
use Rattle.std.proofs.Common.{◌≡◌, ℕ, zero, suc, ◌+◌, ◌<◌, List, [], ◌∷◌, ◌++◌, length, take, Option, Some, None, ◌⊎◌, inl, inr, refl, sym, ap, ◌∙◌, subst, arith}
use Rattle.std.specs.Prelude.{slice_get, slice_index}
use Rattle.std.specs.List.{cons_option}
use Rattle.std.proofs.lemmas.List.{take_more}
use Rattle.std.proofs.lemmas.List.Elements.{filter_map-append}
use Rattle.std.proofs.lemmas.Option.{slice_get-get_or, slice_get_within, get_or_from_slice_get}
use Rattle.wit_graph.specs.Table.{Row, IsOrder}
use Rattle.wit_syntax.specs.ScopeTables.{in_order}
use Rattle.wit_syntax.proofs.Lists.{at_within}

-- one element more
pub take_next : {X : Type 0} (xs : List X) (i : ℕ) (x : X) → slice_get xs i ≡ Some x → take (i + 1) xs ≡ take i xs ++ x ∷ []
take_next xs i x at = take_more xs i x (slice_get_within xs i x at) ∙ ap (λ y. take i xs ++ y ∷ []) (get_or_from_slice_get xs i x x at)

pub in_order-append : {X : Type 0} (xs : List X) (ks ls : List ℕ) → in_order xs (ks ++ ls) ≡ in_order xs ks ++ in_order xs ls
in_order-append xs ks ls = filter_map-append (slice_get xs) ks ls

-- what is at places, one place more
pub in_order-more : {X : Type 0} (xs : List X) (places : List ℕ) (i p : ℕ) (x : X) → slice_get places i ≡ Some p → slice_get xs p ≡ Some x → in_order xs (take (i + 1) places) ≡ in_order xs (take i places) ++ x ∷ []
in_order-more xs places i p x at there = ap (in_order xs) (take_next places i p at) ∙ in_order-append xs (take i places) (p ∷ []) ∙ ap (λ o. in_order xs (take i places) ++ cons_option o []) there

-- what is at a place that is among them
pub in_order_has : {X : Type 0} (xs : List X) (places : List ℕ) (m p : ℕ) (x : X) → slice_get places m ≡ Some p → slice_get xs p ≡ Some x → (i : ℕ) × (slice_get (in_order xs places) i ≡ Some x)
in_order_has xs [] m p x at there = absurd (let f : ⊥ = cc in f)
in_order_has xs (k ∷ ks) zero p x at there =
    let same : k ≡ p = cc in
    (0, ap (λ o. slice_get (cons_option o (in_order xs ks)) 0) (ap (slice_get xs) same ∙ there))
in_order_has {X} xs (k ∷ ks) (suc m) p x at there = rest_after (slice_get xs k) (in_order_has xs ks m p x at there)
  where
    rest_after : (o : Option X) → (i : ℕ) × (slice_get (in_order xs ks) i ≡ Some x) → (i : ℕ) × (slice_get (cons_option o (in_order xs ks)) i ≡ Some x)
    rest_after None h = h
    rest_after (Some y) h = (suc h.0, h.1)

pub order_within : (rs : List Row) (places : List ℕ) → IsOrder rs places → (j p : ℕ) → slice_get places j ≡ Some p → p < length rs
order_within rs places order j p h =
    let lt = slice_get_within places j p h in
    let long = order.sorted.long in
    let here : slice_index places j ≡ p = get_or_from_slice_get places j p 0 h in
    subst (λ (k : ℕ). k < length rs) here (order.sorted.within j (omega arith))

one_after : {X : Type 0} (xs : List X) (k : ℕ) (ks : List ℕ) (y x : X) (i : ℕ) → slice_get xs k ≡ Some y → ((j : ℕ) → slice_get (in_order xs ks) j ≡ Some x → (p : ℕ) × (slice_get ks j ≡ Some p) × (slice_get xs p ≡ Some x)) → slice_get (y ∷ in_order xs ks) i ≡ Some x → (p : ℕ) × (slice_get (k ∷ ks) i ≡ Some p) × (slice_get xs p ≡ Some x)
one_after xs k ks y x zero is rest at = (k, refl, is ∙ at)
one_after xs k ks y x (suc i) is rest at = rest i at

-- where an element of the ordered ones is
pub in_order_at : {X : Type 0} (xs : List X) (places : List ℕ) (i : ℕ) (x : X) → ((j p : ℕ) → slice_get places j ≡ Some p → p < length xs) → slice_get (in_order xs places) i ≡ Some x → (p : ℕ) × (slice_get places i ≡ Some p) × (slice_get xs p ≡ Some x)
in_order_at xs [] i x within at = absurd (let f : ⊥ = cc in f)
in_order_at xs (k ∷ ks) i x within at =
    let y = at_within xs k (within 0 k refl) in
    one_after xs k ks y.0 x i y.1 (λ j h. in_order_at xs ks j x (λ l p there. within (suc l) p there) h) (sym (ap (λ o. slice_get (cons_option o (in_order xs ks)) i) y.1) ∙ at)

pub length-in_order : {X : Type 0} (xs : List X) (places : List ℕ) → ((j p : ℕ) → slice_get places j ≡ Some p → p < length xs) → length (in_order xs places) ≡ length places
length-in_order xs [] within = refl
length-in_order xs (k ∷ ks) within =
    let y = at_within xs k (within 0 k refl) in
    ap (λ o. length (cons_option o (in_order xs ks))) y.1 ∙ ap suc (length-in_order xs ks (λ j p h. within (suc j) p h))

-- what is at the place that is at an index of the order
pub in_order_read : {X : Type 0} (xs : List X) (places : List ℕ) (i p : ℕ) (x : X) → ((j p : ℕ) → slice_get places j ≡ Some p → p < length xs) → slice_get places i ≡ Some p → slice_get xs p ≡ Some x → slice_get (in_order xs places) i ≡ Some x
in_order_read xs places i p x within at there =
    let lt = slice_get_within places i p at in
    let y = at_within (in_order xs places) i (omega (arith, length-in_order xs places within)) in
    let it = in_order_at xs places i y.0 within y.1 in
    let same : Some p ≡ Some it.0 = sym at ∙ it.1 in
    y.1 ∙ sym it.2 ∙ ap (slice_get xs) (let q : it.0 ≡ p = cc in q) ∙ there

-- the index of a place in an order
pub index_of : (rs : List Row) (places : List ℕ) (p : ℕ) → IsOrder rs places → p < length rs → (i : ℕ) × (slice_get places i ≡ Some p)
index_of rs places p order lt =
    let it = order.sorted.each p lt in
    let below = it.below in
    let long = order.sorted.long in
    (it.index, slice_get-get_or places it.index 0 (omega arith) ∙ ap Some it.is)

-- one place is not at two indices
apart : (rs : List Row) (places : List ℕ) (first second p q : ℕ) → IsOrder rs places → first < second → slice_get places first ≡ Some p → slice_get places second ≡ Some q → p ≡ q → ⊥
apart rs places first second p q order before at_p at_q same =
    let within = slice_get_within places second q at_q in
    let long = order.sorted.long in
    let a : slice_index places first ≡ p = get_or_from_slice_get places first p 0 at_p in
    let b : slice_index places second ≡ q = get_or_from_slice_get places second q 0 at_q in
    order.sorted.once first second before (omega arith) (a ∙ same ∙ sym b)

pub three_ways : (m n : ℕ) → (m < n) ⊎ ((m ≡ n) ⊎ (n < m))
three_ways m n = grind arith

-- each place is once in an order
pub index_once : (rs : List Row) (places : List ℕ) (i j p q : ℕ) → IsOrder rs places → slice_get places i ≡ Some p → slice_get places j ≡ Some q → p ≡ q → i ≡ j
index_once rs places i j p q order at_p at_q same = elim (three_ways i j) [
  | inl lt ↦ absurd (apart rs places i j p q order lt at_p at_q same)
  | inr rest ↦ elim rest [
    | inl eq ↦ eq
    | inr gt ↦ absurd (apart rs places j i q p order gt at_q at_p (sym same))
  ]
]
