-- Where no item is a setter, all stay where they are.
use Rattle.std.proofs.Common.{◌≡◌, ◌||◌, Bool, true, false, List, [], ◌∷◌, nat_eq, refl, ap, ◌∙◌}
use Rattle.std.specs.Prelude.{Option}
use Rattle.std.specs.Cmp.Lexicographic.{pointwise}
use Rattle.std.specs.List.{flat_map, list_any}
use Rattle.wit_functions.specs.SettersPlaced.{early, others, setters_placed, with_setters, both}
use Rattle.wit_functions.specs.declared.function.Function.{Function}
use Rattle.wit_functions.specs.MaybeFunction.{goes, is_setter, offered}
use Rattle.wit_functions.proofs.GetterNames.{goes_wanted, wants_none}

none_of : (a b : Bool) → (a || b) ≡ false → (a ≡ false) × (b ≡ false)
none_of false b h = (refl, h)
none_of true b h = absurd (let f : ⊥ = cc in f)

-- with no setter after it, each is alone
pub each_alone : {X : Type 0} (test : X → X → Bool) (es : List X) → flat_map (with_setters test []) es ≡ es
each_alone test [] = refl
each_alone test (e ∷ es) = ap (λ l. e ∷ l) (each_alone test es)

module _ {X : Type 0} (function_at : X → Option Function) where
  none_goes : (s : X) (es : List X) → is_setter (function_at s) ≡ false → list_any (goes function_at s) es ≡ false
  none_goes s [] h = refl
  none_goes s (e ∷ es) h =
      let one : goes function_at s e ≡ false = goes_wanted (function_at s) (function_at e) ∙ ap (λ o. both (pointwise nat_eq) o (offered (function_at e))) (wants_none (function_at s) h) in
      rw one (none_goes s es h)

  early_none : (es : List X) → list_any (λ e. is_setter (function_at e)) es ≡ false → early (goes function_at) es ≡ []
  early_none [] h = refl
  early_none (e ∷ es) h =
      let as_stated = none_of (is_setter (function_at e)) (list_any (λ x. is_setter (function_at x)) es) h in
      rw (none_goes e es as_stated.0) (early_none es as_stated.1)

  others_none : (es : List X) → list_any (λ e. is_setter (function_at e)) es ≡ false → others (goes function_at) es ≡ es
  others_none [] h = refl
  others_none (e ∷ es) h =
      let as_stated = none_of (is_setter (function_at e)) (list_any (λ x. is_setter (function_at x)) es) h in
      rw (none_goes e es as_stated.0) (ap (λ l. e ∷ l) (others_none es as_stated.1))

  pub no_setters : (es : List X) → list_any (λ e. is_setter (function_at e)) es ≡ false → setters_placed (goes function_at) es ≡ es
  no_setters es h =
      ap (λ l. flat_map (with_setters (goes function_at) l) (others (goes function_at) es)) (early_none es h)
      ∙ ap (flat_map (with_setters (goes function_at) [])) (others_none es h)
      ∙ each_alone (goes function_at) es
