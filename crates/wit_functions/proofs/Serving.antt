-- Items, each with the setter that waits for it after it, are the placed ones.
use Rattle.std.proofs.Common.{◌≡◌, ℕ, suc, ◌++◌, ◌∷◌, Bool, true, false, List, [], Option, Some, None, reverse, nat_eq, inl, inr, refl, sym, ap, ◌∙◌, append_assoc}
use Rattle.std.specs.Prelude.{if◌then◌else◌, slice_get}
use Rattle.std.specs.Cmp.Lexicographic.{pointwise}
use Rattle.std.specs.List.{filter, flat_map, list_any}
use Rattle.std.specs.Option.{option_and_then, option_to_list}
use Rattle.std.proofs.lemmas.Bool.{cases_Bool}
use Rattle.wit_functions.specs.declared.function.Function.{Function}
use Rattle.wit_functions.specs.SettersPlaced.{early, is_getter, others, setters_placed, with_setters, both}
use Rattle.wit_functions.specs.MaybeFunction.{goes, offered, wanted, HaveOwnNames}
use Rattle.wit_functions.specs.Parted.{served, waiting_for, without, IsParted}
use Rattle.wit_functions.proofs.GetterNames.{goes_wanted, same_as_none}
use Rattle.wit_functions.proofs.OwnNames.{Apart, own_apart, own_tail}

-- what waits for one function still does, once what waits for another is gone
still_waits : {X : Type 0} (waits : List ℕ → Option X) (o p : Option Function) → Apart o p → option_and_then (without (offered o) waits) (offered p) ≡ option_and_then waits (offered p)
still_waits waits o None apart = refl
still_waits waits None (Some g) apart = none (offered (Some g))
  where
    none : (q : Option (List ℕ)) → option_and_then (without None waits) q ≡ option_and_then waits q
    none None = refl
    none (Some n) = refl
still_waits {X} waits (Some f) (Some g) apart = go (is_getter f.kind) (is_getter g.kind)
  where
    go : (a b : Bool) → option_and_then (without (if a then Some f.name else None) waits) (if b then Some g.name else None) ≡ option_and_then waits (if b then Some g.name else None)
    go a false = refl
    go false true = refl
    go true true =
        let kept : Bool → Option X = λ gone. if gone then None else waits g.name in
        ap kept (apart f g refl refl)

module _ {X : Type 0} (function_at : X → Option Function) where
  -- an item, and after it what waits for it
  abbrev with_waiting : (List ℕ → Option X) → X → List X
  with_waiting waits g = g ∷ option_to_list (waiting_for function_at waits g)

  -- one more is served
  pub served_next : (waits now : List ℕ → Option X) (was placed : List X) (x : X) (rest : List X) → placed ≡ was ++ x ∷ option_to_list (waiting_for function_at waits x) → ((name : List ℕ) → now name ≡ without (offered (function_at x)) waits name) → placed ++ served function_at now rest ≡ was ++ served function_at waits (x ∷ rest)
  served_next waits now was placed x rest put left =
      let pair = x ∷ option_to_list (waiting_for function_at waits x) in
      ap (λ l. l ++ served function_at now rest) put
      ∙ append_assoc was pair (served function_at now rest)
      ∙ (λ i. was ++ (pair ++ served function_at (λ name. left name i) rest))

  serves : (waits now : List ℕ → Option X) (es : List X) → HaveOwnNames function_at es → ((i : ℕ) (x : X) → slice_get es i ≡ Some x → waiting_for function_at now x ≡ waiting_for function_at waits x) → served function_at now (others (goes function_at) es) ≡ flat_map (with_waiting waits) (others (goes function_at) es)
  serves waits now [] own agree = refl
  serves waits now (e ∷ es) own agree =
      let tail = own_tail function_at e es own in
      elim (cases_Bool (list_any (goes function_at e) es)) [
        | inl hit ↦ rw hit (serves waits now es tail (λ i x at. agree (suc i) x at))
        | inr miss ↦ (
            let left = without (offered (function_at e)) now in
            let rest = serves waits left es tail (λ i x at. still_waits now (function_at e) (function_at x) (own_apart function_at e es own i x at) ∙ agree (suc i) x at) in
            rw miss (λ i. e ∷ (option_to_list (agree 0 e refl i) ++ rest i)))
      ]

  wanted_none : (ss : List X) → filter (λ s. both (pointwise nat_eq) (wanted (function_at s)) None) ss ≡ []
  wanted_none [] = refl
  wanted_none (s ∷ ss) = rw (same_as_none (wanted (function_at s))) (wanted_none ss)

  module _ (es kept : List X) (has : List ℕ → Bool) (waits : List ℕ → Option X) (was : IsParted function_at es kept has waits) where
    waits_for : (o : Option (List ℕ)) → option_to_list (option_and_then waits o) ≡ filter (λ s. both (pointwise nat_eq) (wanted (function_at s)) o) (early (goes function_at) es)
    waits_for None = sym (wanted_none (early (goes function_at) es))
    waits_for (Some n) = was.wait n

    waits_with : (g : X) → with_waiting waits g ≡ with_setters (goes function_at) (early (goes function_at) es) g
    waits_with g = ap (λ l. g ∷ l) (waits_for (offered (function_at g)) ∙ (λ i. filter (λ s. sym (goes_wanted (function_at s) (function_at g)) i) (early (goes function_at) es)))

    -- once parted, the others are served, the last first
    pub served_placed : HaveOwnNames function_at es → served function_at waits (reverse kept) ≡ setters_placed (goes function_at) es
    served_placed own =
        ap (served function_at waits) was.stay
        ∙ serves waits waits es own (λ i x at. refl)
        ∙ (λ i. flat_map (λ g. waits_with g i) (others (goes function_at) es))
