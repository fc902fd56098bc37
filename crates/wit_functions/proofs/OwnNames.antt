-- No two functions have one name.
use Rattle.std.proofs.Common.{◌≡◌, ℕ, zero, suc, ◌++◌, ◌∷◌, false, List, [], Option, Some, None, nat_eq, inl, inr, refl, ap, ◌∙◌}
use Rattle.std.specs.Prelude.{slice_get}
use Rattle.std.specs.Cmp.Lexicographic.{pointwise}
use Rattle.std.specs.List.{AllByRecursion, IsDistinct, flat_map}
use Rattle.wit_functions.specs.declared.function.Function.{Function}
use Rattle.wit_functions.specs.SettersPlaced.{name_in}
use Rattle.wit_functions.specs.MaybeFunction.{HaveOwnNames}
use Rattle.wit_functions.proofs.Names.{name_cases}

-- a name is none of these
abbrev pub Differs : List ℕ → List (List ℕ) → Type 0
Differs name names = AllByRecursion (λ n. pointwise nat_eq name n ≡ false) names

-- where two are functions, their names differ
abbrev pub Apart : Option Function → Option Function → Type 0
Apart o p = (f g : Function) → o ≡ Some f → p ≡ Some g → pointwise nat_eq f.name g.name ≡ false

-- one more that may be a function
pub differs_more : (name : List ℕ) (o : Option Function) (ns : List (List ℕ)) → ((f : Function) → o ≡ Some f → name ≡ f.name → ⊥) → Differs name ns → Differs name (name_in o ++ ns)
differs_more name None ns new d = d
differs_more name (Some f) ns new d = elim (name_cases name f.name) [
  | inl same ↦ absurd (new f refl same)
  | inr apart ↦ (apart, d)
]

pub own_more : (o : Option Function) (ns : List (List ℕ)) → ((f : Function) → o ≡ Some f → Differs f.name ns) → IsDistinct (pointwise nat_eq) ns → IsDistinct (pointwise nat_eq) (name_in o ++ ns)
unfolding IsDistinct
own_more None ns new d = d
own_more (Some f) ns new d = (new f refl, d)

own_rest : (o : Option Function) (ns : List (List ℕ)) → IsDistinct (pointwise nat_eq) (name_in o ++ ns) → IsDistinct (pointwise nat_eq) ns
unfolding IsDistinct
own_rest None ns d = d
own_rest (Some f) ns d = d.1

own_first : (o : Option Function) (f : Function) (ns : List (List ℕ)) → o ≡ Some f → IsDistinct (pointwise nat_eq) (name_in o ++ ns) → Differs f.name ns
unfolding IsDistinct
own_first None f ns is d = cc
own_first (Some h) f ns is d = (let same : h ≡ f = cc in rw (← same) d.0)

pub differs_rest : (name : List ℕ) (o : Option Function) (ns : List (List ℕ)) → Differs name (name_in o ++ ns) → Differs name ns
differs_rest name None ns d = d
differs_rest name (Some f) ns d = d.1

differs_first : (name : List ℕ) (o : Option Function) (g : Function) (ns : List (List ℕ)) → o ≡ Some g → Differs name (name_in o ++ ns) → pointwise nat_eq name g.name ≡ false
differs_first name None g ns is d = cc
differs_first name (Some h) g ns is d = (let same : h ≡ g = cc in rw (← same) d.0)

module _ {X : Type 0} (function_at : X → Option Function) where
  -- the names of the functions
  abbrev pub names : List X → List (List ℕ)
  names es = flat_map (λ e. name_in (function_at e)) es

  pub own_tail : (e : X) (es : List X) → HaveOwnNames function_at (e ∷ es) → HaveOwnNames function_at es
  own_tail e es d = own_rest (function_at e) (names es) d

  pub own_after : (prefix es : List X) → HaveOwnNames function_at (prefix ++ es) → HaveOwnNames function_at es
  own_after [] es d = d
  own_after (e ∷ prefix) es d = own_after prefix es (own_tail e (prefix ++ es) d)

  pub own_head : (e : X) (f : Function) (es : List X) → function_at e ≡ Some f → HaveOwnNames function_at (e ∷ es) → Differs f.name (names es)
  own_head e f es is d = own_first (function_at e) f (names es) is d

  differs_at : (name : List ℕ) (es : List X) → Differs name (names es) → (i : ℕ) (x : X) (g : Function) → slice_get es i ≡ Some x → function_at x ≡ Some g → pointwise nat_eq name g.name ≡ false
  differs_at name [] d i x g at is = cc
  differs_at name (e ∷ es) d zero x g at is = (let same : e ≡ x = cc in differs_first name (function_at e) g (names es) (ap function_at same ∙ is) d)
  differs_at name (e ∷ es) d (suc i) x g at is = differs_at name es (differs_rest name (function_at e) (names es) d) i x g at is

  -- a function's name is none of those after it
  pub own_apart : (e : X) (es : List X) → HaveOwnNames function_at (e ∷ es) → (i : ℕ) (x : X) → slice_get es i ≡ Some x → Apart (function_at e) (function_at x)
  own_apart e es d i x at f g is_f is_g = differs_at f.name es (own_head e f es is_f d) i x g at is_g
