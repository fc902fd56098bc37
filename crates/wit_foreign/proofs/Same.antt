-- Packages, and names, from either end.
use Rattle.std.proofs.Common.{◌≡◌, ℕ, Bool, true, false, List, refl, sym, ap, ◌∙◌}
use Rattle.wit_syntax.proofs.Common.{PackageName, bytes_eq, name_equal, name_itself, same_package, same_package-equal, same_package-itself}

-- a test that holds exactly of equal ones can be read from its other end
flip : {X : Type 0} (eq : X → X → Bool) → ((x : X) → eq x x ≡ true) → ((x y : X) → eq x y ≡ true → x ≡ y) → (x y : X) → eq x y ≡ eq y x
flip {X} eq itself equal x y = go (eq x y) (eq y x) refl refl
  where
    go : (a b : Bool) → eq x y ≡ a → eq y x ≡ b → eq x y ≡ eq y x
    go true true e f = e ∙ sym f
    go false false e f = e ∙ sym f
    go true false e f = let same = equal x y e in ap (λ z. eq z y) same ∙ ap (λ z. eq y z) (sym same)
    go false true e f = let same = equal y x f in ap (λ z. eq x z) same ∙ ap (λ z. eq z x) (sym same)

-- two packages are one from either end
pub same_package-flip : (p q : PackageName) → same_package p q ≡ same_package q p
same_package-flip p q = flip same_package same_package-itself same_package-equal p q

-- two names are one from either end
pub name-flip : (a b : List ℕ) → bytes_eq a b ≡ bytes_eq b a
name-flip a b = flip bytes_eq name_itself name_equal a b
