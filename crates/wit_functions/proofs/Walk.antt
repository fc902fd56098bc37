-- Steps of a walk down the slots of a backward arena.
use Rattle.std.proofs.Common.{◌≡◌, ◌≤◌, ◌+◌, ◌++◌, ◌||◌, ℕ, zero, suc, Bool, true, false, List, [], ◌∷◌, Option, Some, take, get_or, slice_get, length, refl, sym, ap, ◌∙◌, inl, inr, arith, append_assoc}
use Rattle.std.proofs.lemmas.Bool.{cases_Bool}
use Rattle.std.proofs.lemmas.List.{flat_map_more, take_all, take_more}
use Rattle.std.proofs.lemmas.List.Folds.{list_any_more}
use Rattle.std.proofs.lemmas.Option.{get_or_from_slice_get, slice_get_within}
use Rattle.std.specs.List.{flat_map, list_any}
use Rattle.wit_functions.specs.Futures.{futures, has_unknown, is_awaited, is_unknown, itself}
use Rattle.wit_types.specs.InnerTypes.{IsBackward, place_of_slot, places_to, rank, slots}
use Rattle.wit_types.specs.declared.types.«Type».{«Type» as Ty}
use Rattle.wit_types.specs.declared.types.TypeDef.{TypeDef}

-- the type in a slot of an entry is earlier
pub slot_below : (types : List TypeDef) (id : ℕ) (d : TypeDef) (i : ℕ) (s : Option Ty) → IsBackward types → slice_get types id ≡ Some d → slice_get (slots d.kind) i ≡ Some s → rank s ≤ id
slot_below types id d i s back at here =
    let inside = slice_get_within (slots d.kind) i s here in
    let is : get_or (slots d.kind) i s ≡ s = get_or_from_slice_get (slots d.kind) i s s here in
    let low = (back id d at).0 i s inside in
    omega (arith, low, ap rank is)

-- one more element of a list
pub take_one_more : {X : Type 0} (xs : List X) (i : ℕ) (x : X) → slice_get xs i ≡ Some x → take (i + 1) xs ≡ take i xs ++ (x ∷ [])
take_one_more xs i x here =
    let is : get_or xs i x ≡ x = get_or_from_slice_get xs i x x here in
    take_more xs i x (slice_get_within xs i x here) ∙ ap (λ y. take i xs ++ (y ∷ [])) is

pub flat_map_one_more : {X A : Type 0} (f : X → List A) (xs : List X) (i : ℕ) (x : X) (out cur new : List A) → slice_get xs i ≡ Some x
    → cur ≡ out ++ flat_map f (take i xs) → new ≡ cur ++ f x → new ≡ out ++ flat_map f (take (i + 1) xs)
flat_map_one_more f xs i x out cur new here was now =
    now ∙ ap (λ l. l ++ f x) was ∙ flat_map_more f out (take i xs) x ∙ ap (λ l. out ++ flat_map f l) (sym (take_one_more xs i x here))

pub list_any_one_more : {X : Type 0} (t : X → Bool) (xs : List X) (i : ℕ) (x : X) → slice_get xs i ≡ Some x
    → list_any t (take i xs) ≡ false → t x ≡ false → list_any t (take (i + 1) xs) ≡ false
list_any_one_more t xs i x here was now =
    let is : get_or xs i x ≡ x = get_or_from_slice_get xs i x x here in
    let more : list_any t (take (i + 1) xs) ≡ (list_any t (take i xs) || t (get_or xs i x)) = list_any_more t xs i x (slice_get_within xs i x here) in
    more ∙ ap (λ y. list_any t (take i xs) || t y) is ∙ ap (λ b. b || t x) was ∙ now

pub list_any-found : {X : Type 0} (t : X → Bool) (xs : List X) (i : ℕ) (x : X) → slice_get xs i ≡ Some x → t x ≡ true → list_any t xs ≡ true
list_any-found t [] i x here hit = cc
list_any-found t (y ∷ ys) zero x here hit = let same : y ≡ x = cc in rw (same, hit) refl
list_any-found t (y ∷ ys) (suc i) x here hit = elim (cases_Bool (t y)) [
  | inl first ↦ rw first refl
  | inr other ↦ rw other (list_any-found t ys i x here hit)
]

module _ (types : List TypeDef) (slot : Option Ty) (id : ℕ) (d : TypeDef) (is : place_of_slot slot ≡ Some id) (at : slice_get types id ≡ Some d) where
  -- all slots and then the entry itself, where that is so at each depth
  pub futures_whole : (n k : ℕ) (out cur new : List ℕ) → rank slot ≤ n → length (slots d.kind) ≤ k
      → ((m : ℕ) → rank slot ≤ suc m → cur ≡ out ++ flat_map (futures types m) (take k (slots d.kind)))
      → new ≡ cur ++ itself (is_awaited d.kind) id → new ≡ out ++ futures types n slot
  futures_whole zero k out cur new low all below last = let high : rank slot ≡ id + 1 = ap places_to is in absurd (omega (arith, high, low))
  futures_whole (suc m) k out cur new low all below last =
      let whole = below m low ∙ ap (λ l. out ++ flat_map (futures types m) l) (take_all k (slots d.kind) all) in
      let one : futures types (suc m) slot ≡ flat_map (futures types m) (slots d.kind) ++ itself (is_awaited d.kind) id = rw (is, at) refl in
      last ∙ ap (λ l. l ++ itself (is_awaited d.kind) id) whole ∙ append_assoc out (flat_map (futures types m) (slots d.kind)) (itself (is_awaited d.kind) id) ∙ ap (λ l. out ++ l) (sym one)

  -- the entry or a slot is unknown, where that is so at each depth
  pub unknown_found : (n : ℕ) → rank slot ≤ n → ((m : ℕ) → rank slot ≤ suc m → (is_unknown d.kind || list_any (has_unknown types m) (slots d.kind)) ≡ true) → true ≡ has_unknown types n slot
  unknown_found zero low found = let high : rank slot ≡ id + 1 = ap places_to is in absurd (omega (arith, high, low))
  unknown_found (suc m) low found =
      let one : has_unknown types (suc m) slot ≡ (is_unknown d.kind || list_any (has_unknown types m) (slots d.kind)) = rw (is, at) refl in
      sym (one ∙ found m low)

  pub unknown_missing : (n k : ℕ) → rank slot ≤ n → length (slots d.kind) ≤ k → is_unknown d.kind ≡ false
      → ((m : ℕ) → rank slot ≤ suc m → list_any (has_unknown types m) (take k (slots d.kind)) ≡ false) → false ≡ has_unknown types n slot
  unknown_missing zero k low all plain none = let high : rank slot ≡ id + 1 = ap places_to is in absurd (omega (arith, high, low))
  unknown_missing (suc m) k low all plain none =
      let one : has_unknown types (suc m) slot ≡ (is_unknown d.kind || list_any (has_unknown types m) (slots d.kind)) = rw (is, at) refl in
      let rest = none m low ∙ refl in
      let whole : list_any (has_unknown types m) (slots d.kind) ≡ false = ap (λ l. list_any (has_unknown types m) l) (sym (take_all k (slots d.kind) all)) ∙ rest in
      sym (one ∙ ap (λ b. b || list_any (has_unknown types m) (slots d.kind)) plain ∙ whole)
