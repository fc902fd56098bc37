-- No two functions have one name, where each is at its name.
use Rattle.std.proofs.Common.{◌≡◌, ℕ, suc, ◌∷◌, List, [], Option, Some, refl, sym, ap, ◌∙◌}
use Rattle.wit_syntax.proofs.Common.{AllDiffer, HasNot, differ_head, differ_tail, map, slice_get}
use Rattle.std.specs.List.{IsDistinct}
use Rattle.wit_functions.specs.declared.function.Function.{Function}
use Rattle.wit_functions.specs.MaybeFunction.{HaveOwnNames}
use Rattle.wit_functions.proofs.OwnNames.{Differs, differs_more, names, own_more}

module _ {X K : Type 0} (function_at : X → Option Function) (key : X → K) (as_key : List ℕ → K) where
  -- each function is at its name
  abbrev pub AtNames : List X → Type 0
  AtNames es = (k : ℕ) (e : X) (f : Function) → slice_get es k ≡ Some e → function_at e ≡ Some f → key e ≡ as_key f.name

  differ_from : (name : List ℕ) (es : List X) → HasNot key (as_key name) es → AtNames es → Differs name (names function_at es)
  differ_from name [] new at = tt
  differ_from name (e ∷ es) new at = differs_more name (function_at e) (names function_at es) (λ f is same. new 0 e refl (at 0 e f refl is ∙ ap as_key (sym same))) (differ_from name es (λ i x here. new (suc i) x here) (λ k x f here. at (suc k) x f here))

  -- where keys differ, and each function is at its name
  pub own_names : (es : List X) → AllDiffer (map key es) → AtNames es → HaveOwnNames function_at es
  unfolding IsDistinct
  own_names [] d at = tt
  own_names (e ∷ es) d at =
      let later = λ (k : ℕ) (x : X) (g : Function) (here : slice_get es k ≡ Some x). at (suc k) x g here in
      own_more (function_at e) (names function_at es) (λ f is. differ_from f.name es (λ i x here same. differ_head key e es d i x here (same ∙ sym (at 0 e f refl is))) later) (own_names es (differ_tail key e es d) later)
