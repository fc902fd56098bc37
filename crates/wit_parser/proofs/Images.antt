-- Two lists of images, one after the other.
use Rattle.std.proofs.Common.{◌≡◌, ℕ, ◌+◌, List, ◌++◌, length, Some, inl, inr, sym, ap, ◌∙◌, subst}
use Rattle.wit_items.proofs.Common.{at_back, at_prefix, at_split, length-map, map, map_at, option_map, slice_get, slice_get-map}

module _ {X Y Z : Type 0} (f : X → Z) (g : Y → Z) (xs : List X) (ys : List Y) (all : List Z) (are : all ≡ map f xs ++ map g ys) where
  -- an image of the first is at its place, and one of the second after as many
  pub first_at : (k : ℕ) (x : X) → slice_get xs k ≡ Some x → slice_get all k ≡ Some (f x)
  first_at k x at = ap (λ (l : List Z). slice_get l k) are ∙ at_prefix (map f xs) (map g ys) k (f x) (slice_get-map f xs k ∙ ap (option_map f) at)

  pub second_at : {W : Type 0} (h : X → W) (k : ℕ) (y : Y) → slice_get ys k ≡ Some y → slice_get all (length (map h xs) + k) ≡ Some (g y)
  second_at h k y at =
      let long : length (map h xs) ≡ length (map f xs) = length-map xs h ∙ sym (length-map xs f) in
      ap (λ (n : ℕ). slice_get all (n + k)) long ∙ ap (λ (l : List Z). slice_get l (length (map f xs) + k)) are ∙ at_back (map f xs) (map g ys) k (g y) (slice_get-map g ys k ∙ ap (option_map g) at)

  -- so what holds of all images holds of each that is there
  pub images_at : (P : ℕ → Z → Type 0) → ((k : ℕ) (x : X) → slice_get xs k ≡ Some x → P k (f x)) → ((k : ℕ) (y : Y) → slice_get ys k ≡ Some y → P (length (map f xs) + k) (g y)) → (k : ℕ) (z : Z) → slice_get all k ≡ Some z → P k z
  images_at P first second k z at = elim (at_split (map f xs) (map g ys) k z (ap (λ (l : List Z). slice_get l k) (sym are) ∙ at)) [
    | inl prefix ↦ (let x = map_at f xs k z prefix in subst (P k) x.2 (first k x.0 x.1))
    | inr back ↦ (
        let y = map_at g ys back.0 z back.2 in
        subst (λ (n : ℕ). P n z) (sym back.1) (subst (P (length (map f xs) + back.0)) y.2 (second back.0 y.0 y.1)))
  ]
