-- Names, and tables of names.
use Rattle.std.proofs.Common.{◌≡◌, ℕ, zero, suc, arith, Bool, true, false, cond, List, [], ◌∷◌, ◌++◌, Some, None, ◌⊎◌, inl, inr, nat_eq, refl, sym, ap, ◌∙◌}
use Rattle.std.specs.Cmp.Lexicographic.{pointwise}
use Rattle.std.specs.Map.{lookup}
use Rattle.std.specs.Prelude.{map, slice_get}
use Rattle.std.specs.Option.{option_map}
use Rattle.std.proofs.lemmas.Option.{slice_get-map}
use Rattle.std.proofs.lemmas.Slice.Eq.{bytes_eq-Decides}
use Rattle.indexmap.specs.IndexMap.{insert_entry}

pub name_cases : (xs ys : List ℕ) → (xs ≡ ys) ⊎ (pointwise nat_eq xs ys ≡ false)
name_cases xs ys = go (pointwise nat_eq xs ys) refl
  where
    go : (b : Bool) → pointwise nat_eq xs ys ≡ b → (xs ≡ ys) ⊎ (pointwise nat_eq xs ys ≡ false)
    go true e = inl ((bytes_eq-Decides xs ys).0 e)
    go false e = inr e

pub name_itself : (xs : List ℕ) → pointwise nat_eq xs xs ≡ true
name_itself xs = (bytes_eq-Decides xs xs).1 refl

pub name_equal : (xs ys : List ℕ) → pointwise nat_eq xs ys ≡ true → xs ≡ ys
name_equal xs ys h = (bytes_eq-Decides xs ys).0 h

-- what a name finds once a value was put at a name
pub lookup-insert_entry : (es : List (List ℕ × ℕ)) (k q : List ℕ) (v : ℕ) → lookup (pointwise nat_eq q) (insert_entry (pointwise nat_eq) es k v) ≡ cond (pointwise nat_eq q k) (Some v) (lookup (pointwise nat_eq q) es)
lookup-insert_entry [] k q v = refl
lookup-insert_entry (e ∷ es) k q v = elim (name_cases k e.0) [
  | inl same ↦ elim (name_cases q k) [
    | inl here ↦ rw (here, same) (simp name_itself)
    | inr other ↦ (let miss : pointwise nat_eq q e.0 ≡ false = ap (pointwise nat_eq q) (sym same) ∙ other in rw (other, same, name_itself e.0, miss) refl)
  ]
  | inr miss ↦ elim (name_cases q e.0) [
    | inl here ↦ (let other : pointwise nat_eq q k ≡ false = flip q k e.0 here miss in rw (miss, other) (rw (here, name_itself e.0) refl))
    | inr far ↦ rw (miss, far) (lookup-insert_entry es k q v)
  ]
]
  where
    flip : (q k x : List ℕ) → q ≡ x → pointwise nat_eq k x ≡ false → pointwise nat_eq q k ≡ false
    flip q k x here miss = elim (name_cases q k) [
      | inl same ↦ (let wrong : pointwise nat_eq k x ≡ true = ap (λ n. pointwise nat_eq n x) (sym same ∙ here) ∙ name_itself x in cc)
      | inr other ↦ other
    ]

-- a new name comes last
pub names-insert_entry : (es : List (List ℕ × ℕ)) (k : List ℕ) (v : ℕ) → lookup (pointwise nat_eq k) es ≡ None → map (λ p. p.0) (insert_entry (pointwise nat_eq) es k v) ≡ map (λ p. p.0) es ++ k ∷ []
names-insert_entry [] k v none = refl
names-insert_entry (e ∷ es) k v none = elim (name_cases k e.0) [
  | inl same ↦ absurd (let hit : pointwise nat_eq k e.0 ≡ true = ap (pointwise nat_eq k) (sym same) ∙ name_itself k in let wrong : Some e.1 ≡ None = rw hit at none in let f : ⊥ = cc in f)
  | inr miss ↦ (let rest = rw miss at none in rw miss (ap (λ ns. e.0 ∷ ns) (names-insert_entry es k v rest)))
]

-- the value that a name finds where no name occurs twice
pub lookup-at : (es : List (List ℕ × ℕ)) (k : ℕ) (name : List ℕ) (id : ℕ) → ((i j : ℕ) (n : List ℕ) → slice_get (map (λ p. p.0) es) i ≡ Some n → slice_get (map (λ p. p.0) es) j ≡ Some n → i ≡ j) → slice_get es k ≡ Some (name, id) → lookup (pointwise nat_eq name) es ≡ Some id
lookup-at [] k name id once at = absurd (let f : ⊥ = cc in f)
lookup-at (e ∷ es) zero name id once at =
    let here : e ≡ (name, id) = cc in
    let key : pointwise nat_eq name e.0 ≡ true = ap (λ (x : List ℕ × ℕ). pointwise nat_eq name x.0) here ∙ name_itself name in
    rw key (ap (λ (x : List ℕ × ℕ). Some x.1) here)
lookup-at (e ∷ es) (suc k) name id once at = elim (name_cases name e.0) [
  | inl same ↦ absurd (
      let there : slice_get (map (λ p. p.0) es) k ≡ Some name = slice_get-map (λ (p : List ℕ × ℕ). p.0) es k ∙ ap (option_map (λ (p : List ℕ × ℕ). p.0)) at in
      let both = once 0 (suc k) name (ap Some (sym same)) there in
      let f : ⊥ = omega arith in
      f)
  | inr other ↦ rw other (lookup-at es k name id (λ i j n ati atj. (let both = once (suc i) (suc j) n ati atj in omega arith)) at)
]

-- where a name that finds a value is
pub lookup-place : (es : List (List ℕ × ℕ)) (name : List ℕ) (id : ℕ) → lookup (pointwise nat_eq name) es ≡ Some id → (k : ℕ) × (slice_get es k ≡ Some (name, id))
lookup-place [] name id h = absurd (let f : ⊥ = cc in f)
lookup-place (e ∷ es) name id h = elim (name_cases name e.0) [
  | inl same ↦ (
      let hit : pointwise nat_eq name e.0 ≡ true = ap (λ n. pointwise nat_eq n e.0) same ∙ name_itself e.0 in
      let value : Some e.1 ≡ Some id = rw hit at h in
      let v : e.1 ≡ id = cc in
      (0, ap (λ (n : List ℕ). Some (n, e.1)) (sym same) ∙ ap (λ (x : ℕ). Some (name, x)) v))
  | inr other ↦ (let rest = lookup-place es name id (rw other at h) in (suc rest.0, rest.1))
]
