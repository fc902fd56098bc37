-- What a test keeps of a list.
use Rattle.std.proofs.Common.{◌≡◌, ℕ, zero, suc, ◌+◌, ◌<◌, Bool, true, false, List, [], ◌∷◌, ◌++◌, take, Some, ◌⊎◌, inl, inr, refl, sym, ap, ◌∙◌, subst, arith}
use Rattle.std.specs.Prelude.{slice_get, map}
use Rattle.std.specs.List.{filter}
use Rattle.std.proofs.lemmas.Bool.{cases_Bool, cond-true, cond-false}
use Rattle.std.proofs.lemmas.List.{append-nil}
use Rattle.std.proofs.lemmas.List.Elements.{filter-append}
use Rattle.wit_graph.proofs.Tables.{slice_get-take}
use Rattle.wit_syntax.specs.ScopeTables.{in_order}
use Rattle.wit_syntax.specs.Repeats.{AllDiffer}
use Rattle.wit_syntax.proofs.Orders.{in_order-more, in_order_has}
use Rattle.wit_syntax.proofs.Repeated.{differ_none, differ_at, differ_by}

-- what comes after one more is that one, or is in the list
pub after_one : {X : Type 0} (y : X) (zs : List X) (i : ℕ) (x : X) → slice_get (y ∷ zs) i ≡ Some x → (y ≡ x) ⊎ ((j : ℕ) × (slice_get zs j ≡ Some x))
after_one y zs zero x at = inl cc
after_one y zs (suc i) x at = inr (i, at)

-- what is kept is in the list, and passes the test
pub kept_at : {X : Type 0} (test : X → Bool) (xs : List X) (i : ℕ) (x : X) → slice_get (filter test xs) i ≡ Some x → (p : ℕ) × (slice_get xs p ≡ Some x) × (test x ≡ true)
kept_at test [] i x at = absurd (let f : ⊥ = cc in f)
kept_at test (y ∷ ys) i x at = elim (cases_Bool (test y)) [
  | inl hit ↦ elim (after_one y (filter test ys) i x (sym (ap (λ zs. slice_get zs i) (cond-true (test y) (y ∷ filter test ys) (filter test ys) hit)) ∙ at)) [
    | inl here ↦ (0, ap Some here, ap test (sym here) ∙ hit)
    | inr rest ↦ (let it = kept_at test ys rest.0 x rest.1 in (suc it.0, it.1, it.2))
  ]
  | inr miss ↦ (let it = kept_at test ys i x (sym (ap (λ zs. slice_get zs i) (cond-false (test y) (y ∷ filter test ys) (filter test ys) miss)) ∙ at) in (suc it.0, it.1, it.2))
]

-- what passes the test is kept
pub kept_has : {X : Type 0} (test : X → Bool) (xs : List X) (p : ℕ) (x : X) → test x ≡ true → slice_get xs p ≡ Some x → (i : ℕ) × (slice_get (filter test xs) i ≡ Some x)
kept_has test [] p x passes at = absurd (let f : ⊥ = cc in f)
kept_has test (y ∷ ys) zero x passes at =
    let same : y ≡ x = cc in
    (0, ap (λ zs. slice_get zs 0) (cond-true (test y) (y ∷ filter test ys) (filter test ys) (ap test same ∙ passes)) ∙ at)
kept_has test (y ∷ ys) (suc p) x passes at =
    let rest = kept_has test ys p x passes at in
    elim (cases_Bool (test y)) [
      | inl hit ↦ (suc rest.0, ap (λ zs. slice_get zs (suc rest.0)) (cond-true (test y) (y ∷ filter test ys) (filter test ys) hit) ∙ rest.1)
      | inr miss ↦ (rest.0, ap (λ zs. slice_get zs rest.0) (cond-false (test y) (y ∷ filter test ys) (filter test ys) miss) ∙ rest.1)
    ]

module _ {X K : Type 0} (key : X → K) where
  -- none of these has the key
  abbrev pub HasNot : K → List X → Type 0
  HasNot k xs = (i : ℕ) (x : X) → slice_get xs i ≡ Some x → key x ≡ k → ⊥

  once_cons : (x : X) (xs : List X) → HasNot (key x) xs → AllDiffer (map key xs) → (i j : ℕ) (y z : X) → slice_get (x ∷ xs) i ≡ Some y → slice_get (x ∷ xs) j ≡ Some z → key y ≡ key z → i ≡ j
  once_cons x xs fresh d zero zero y z at_i at_j same = refl
  once_cons x xs fresh d zero (suc j) y z at_i at_j same = let is : x ≡ y = cc in absurd (fresh j z at_j (sym same ∙ ap key (sym is)))
  once_cons x xs fresh d (suc i) zero y z at_i at_j same = let is : x ≡ z = cc in absurd (fresh i y at_i (same ∙ ap key (sym is)))
  once_cons x xs fresh d (suc i) (suc j) y z at_i at_j same = ap suc (differ_at key xs d i j y z at_i at_j same)

  -- one more in front that has another key
  pub differ_cons : (x : X) (xs : List X) → HasNot (key x) xs → AllDiffer (map key xs) → AllDiffer (map key (x ∷ xs))
  differ_cons x xs fresh d = differ_by key (x ∷ xs) (once_cons x xs fresh d)

  pub differ_head : (x : X) (xs : List X) → AllDiffer (map key (x ∷ xs)) → HasNot (key x) xs
  differ_head x xs d i y at same = zero_is_not_suc i (differ_at key (x ∷ xs) d 0 (suc i) x y refl at (sym same))
    where
      zero_is_not_suc : (n : ℕ) → 0 ≡ suc n → ⊥
      zero_is_not_suc n e = omega (arith, e)

  pub differ_tail : (x : X) (xs : List X) → AllDiffer (map key (x ∷ xs)) → AllDiffer (map key xs)
  differ_tail x xs d = differ_by key xs (λ i j y z at_i at_j same. suc_same i j (differ_at key (x ∷ xs) d (suc i) (suc j) y z at_i at_j same))
    where
      suc_same : (m n : ℕ) → suc m ≡ suc n → m ≡ n
      suc_same m n e = omega (arith, e)

  -- where all keys differ, those of what is kept do
  pub kept_differ : (test : X → Bool) (xs : List X) → AllDiffer (map key xs) → AllDiffer (map key (filter test xs))
  kept_differ test [] d = differ_none
  kept_differ test (x ∷ xs) d =
      let rest = kept_differ test xs (differ_tail x xs d) in
      let fresh : HasNot (key x) (filter test xs) = λ i y at same. (let p = kept_at test xs i y at in differ_head x xs d p.0 y p.1 same) in
      elim (cases_Bool (test x)) [
        | inl hit ↦ subst (λ (l : List X). AllDiffer (map key l)) (sym (cond-true (test x) (x ∷ filter test xs) (filter test xs) hit)) (differ_cons x (filter test xs) fresh rest)
        | inr miss ↦ subst (λ (l : List X). AllDiffer (map key l)) (sym (cond-false (test x) (x ∷ filter test xs) (filter test xs) miss)) rest
      ]

-- and one of those at the first places that passes it is kept
pub kept_early : {X : Type 0} (test : X → Bool) (xs : List X) (places : List ℕ) (n t q : ℕ) (x : X) → t < n → slice_get places t ≡ Some q → slice_get xs q ≡ Some x → test x ≡ true → (i : ℕ) × (slice_get (filter test (in_order xs (take n places))) i ≡ Some x)
kept_early test xs places n t q x lt at there passes =
    let it = in_order_has xs (take n places) t q x (slice_get-take places n t lt ∙ at) there in
    kept_has test (in_order xs (take n places)) it.0 x passes it.1

-- one place more, where the test keeps what is at it
pub kept_next : {X : Type 0} (test : X → Bool) (xs : List X) (places : List ℕ) (n p : ℕ) (x : X) → slice_get places n ≡ Some p → slice_get xs p ≡ Some x → test x ≡ true → filter test (in_order xs (take (n + 1) places)) ≡ filter test (in_order xs (take n places)) ++ x ∷ []
kept_next test xs places n p x at there passes =
    let prefix = in_order xs (take n places) in
    ap (filter test) (in_order-more xs places n p x at there) ∙ filter-append test prefix (x ∷ []) ∙ ap (λ l. filter test prefix ++ l) (cond-true (test x) (x ∷ []) [] passes)

-- and where it does not
pub kept_past : {X : Type 0} (test : X → Bool) (xs : List X) (places : List ℕ) (n p : ℕ) (x : X) → slice_get places n ≡ Some p → slice_get xs p ≡ Some x → test x ≡ false → filter test (in_order xs (take (n + 1) places)) ≡ filter test (in_order xs (take n places))
kept_past test xs places n p x at there fails =
    let prefix = in_order xs (take n places) in
    ap (filter test) (in_order-more xs places n p x at there) ∙ filter-append test prefix (x ∷ []) ∙ ap (λ l. filter test prefix ++ l) (cond-false (test x) (x ∷ []) [] fails) ∙ append-nil (filter test prefix)
