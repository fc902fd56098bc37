-- Texts without a letter in upper case, and the keys of names.
use Rattle.std.proofs.Common.{◌≡◌, ℕ, ◌||◌, Bool, true, false, List, [], ◌∷◌, refl, sym, ap, ◌∙◌, arith}
use Rattle.wit_syntax.proofs.Common.{Id, is_ascii_uppercase, list_any, lower_case, map, map_map, nat_tests, to_ascii_lowercase}
use denote.Ref.{Bor}

none_of : (a b : Bool) → (a || b) ≡ false → (a ≡ false) × (b ≡ false)
none_of false b h = (refl, h)
none_of true b h = absurd (let f : ⊥ = cc in f)

lower-byte : (b : ℕ) → is_ascii_uppercase b ≡ false → to_ascii_lowercase b ≡ b
lower-byte b h = grind (arith, nat_tests)

lower-text : (text : List ℕ) → list_any is_ascii_uppercase text ≡ false → lower_case text ≡ text
lower-text [] h = refl
lower-text (b ∷ text) h =
    let as_stated = none_of (is_ascii_uppercase b) (list_any is_ascii_uppercase text) h in
    rw (lower-byte b as_stated.0) (ap (λ t. b ∷ t) (lower-text text as_stated.1))

-- their keys are the texts
pub texts-lower : (ts : List (Bor (List ℕ))) → list_any (λ (t : Bor (List ℕ)). list_any is_ascii_uppercase t.now) ts ≡ false → map (λ (t : Bor (List ℕ)). t.now) ts ≡ map (λ (t : Bor (List ℕ)). lower_case t.now) ts
texts-lower [] h = refl
texts-lower (t ∷ ts) h =
    let as_stated = none_of (list_any is_ascii_uppercase t.now) (list_any (λ (u : Bor (List ℕ)). list_any is_ascii_uppercase u.now) ts) h in
    rw (lower-text t.now as_stated.0) (ap (λ ns. t.now ∷ ns) (texts-lower ts as_stated.1))

-- the keys of texts that are those of names
pub names-folded : (ts : List (Bor (List ℕ))) (names : List Id) → map (λ (t : Bor (List ℕ)). t.now) ts ≡ map (λ (id : Id). id.name.now) names → map (λ (t : Bor (List ℕ)). lower_case t.now) ts ≡ map (λ (id : Id). lower_case id.name.now) names
names-folded ts names h = sym (map_map lower_case (λ (t : Bor (List ℕ)). t.now) ts) ∙ ap (map lower_case) h ∙ map_map lower_case (λ (id : Id). id.name.now) names
