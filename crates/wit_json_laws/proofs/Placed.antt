-- The keys of functions still differ once setters are placed.
use Rattle.std.proofs.Common.{◌≡◌, ℕ, suc, List, [], ◌∷◌, Option, Some, map, refl, sym, ap, ◌∙◌, subst}
use Rattle.wit_arena.proofs.Common.{AllDiffer, Function, HasNot, differ_head, differ_tail, pairs, placed, slice_get}
use Rattle.std.specs.List.{IsDistinct}
use Rattle.wit_functions.specs.MaybeFunction.{HaveOwnNames}
use Rattle.wit_functions.proofs.OwnNames.{Differs, differs_more, names, own_more}
use Rattle.wit_functions.proofs.Pairs.{in_turn-placed}
use Rattle.wit_setters.proofs.Keys.{in_turn_differ}

module _ {K V : Type 0} (gives : V → Option Function) (as_key : List ℕ → K) where
  abbrev key : K × V → K
  key e = e.0

  abbrev as_stated : K × V → Option Function
  as_stated e = gives e.1

  -- where it is a function, it is at its name
  abbrev pub IsAtName : K × V → Type 0
  IsAtName e = (f : Function) → gives e.1 ≡ Some f → e.0 ≡ as_key f.name

  abbrev AreAtName : List (K × V) → Type 0
  AreAtName es = (k : ℕ) (e : K × V) → slice_get es k ≡ Some e → IsAtName e

  other_names : (name : List ℕ) (es : List (K × V)) → HasNot key (as_key name) es → AreAtName es → Differs name (names as_stated es)
  other_names name [] new at = tt
  other_names name (e ∷ es) new at = differs_more name (as_stated e) (names as_stated es) (λ f is same. new 0 e refl (at 0 e refl f is ∙ ap as_key (sym same))) (other_names name es (λ i x here. new (suc i) x here) (λ k x here. at (suc k) x here))

  -- where keys differ, no two functions have one name
  own_names : (es : List (K × V)) → AllDiffer (map key es) → AreAtName es → HaveOwnNames as_stated es
  unfolding IsDistinct
  own_names [] d at = tt
  own_names (e ∷ es) d at =
      let later : AreAtName es = λ k x here. at (suc k) x here in
      own_more (as_stated e) (names as_stated es) (λ f is. other_names f.name es (λ i x here same. differ_head key e es d i x here (same ∙ sym (at 0 e refl f is))) later) (own_names es (differ_tail key e es d) later)

  pub placed_differ : (es : List (K × V)) → AllDiffer (map (λ (e : K × V). e.0) es) → ((k : ℕ) (e : K × V) → slice_get es k ≡ Some e → IsAtName e) → AllDiffer (map (λ (e : K × V). e.0) (placed gives es))
  placed_differ es differ named = subst (λ (l : List (K × V)). AllDiffer (map key l)) (in_turn-placed gives es (own_names es differ named)) (in_turn_differ key (pairs gives) es differ)
