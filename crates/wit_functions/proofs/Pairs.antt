-- A getter is no setter, and among distinct names a setter has one getter.
use Rattle.std.proofs.Common.{◌≡◌, ℕ, ◌&&◌, ◌++◌, Bool, true, false, List, [], ◌∷◌, Option, Some, None, take, drop, length, nat_eq, refl, sym, ap, ◌∙◌, inl, inr}
use Rattle.std.proofs.lemmas.Bool.{cases_Bool}
use Rattle.std.proofs.lemmas.List.{take-append-drop}
use Rattle.std.proofs.lemmas.Slice.Eq.{bytes_eq-Decides}
use Rattle.std.specs.Cmp.Lexicographic.{pointwise}
use Rattle.std.specs.List.{AllByRecursion, IsDistinct, list_any, starts_with}
use Rattle.wit_names.specs.Prefix.{rest_after}
use Rattle.wit_functions.specs.SettersPlaced.{HaveDistinctNames, prefixes, goes_on_alike, is_getter, name_in, pairs, placed, stated_names, both, is_getter_of}
use Rattle.wit_functions.specs.declared.function.Function.{Function}
use Rattle.wit_functions.specs.declared.function.FunctionKind.{FunctionKind}
use Rattle.wit_functions.specs.declared.function.FunctionKind.TheVariants as kind
use Rattle.wit_functions.proofs.InTurn.{AtMostOne, in_turn, in_turn-setters_placed}

and_left : (a b : Bool) → (a && b) ≡ true → a ≡ true
and_left true b h = refl
and_left false b h = h

and_right : (a b : Bool) → (a && b) ≡ true → b ≡ true
and_right true b h = h
and_right false b h = cc

and_false : (a : Bool) → (a && false) ≡ false
and_false true = refl
and_false false = refl

prefixes-of_getter : (k : FunctionKind) → is_getter k ≡ true → prefixes k ≡ None
prefixes-of_getter kind.Getter h = refl
prefixes-of_getter (kind.MethodGetter r) h = refl
prefixes-of_getter (kind.StaticGetter r) h = refl
prefixes-of_getter kind.Freestanding h = refl
prefixes-of_getter kind.AsyncFreestanding h = refl
prefixes-of_getter kind.Setter h = cc
prefixes-of_getter (kind.Method r) h = refl
prefixes-of_getter (kind.AsyncMethod r) h = refl
prefixes-of_getter (kind.MethodSetter r) h = cc
prefixes-of_getter (kind.Static r) h = refl
prefixes-of_getter (kind.AsyncStatic r) h = refl
prefixes-of_getter (kind.StaticSetter r) h = cc
prefixes-of_getter (kind.Constructor r) h = refl

getter_no_setter : (o p q : Option Function) → both is_getter_of o p ≡ true → both is_getter_of p q ≡ false
getter_no_setter None p q h = cc
getter_no_setter (Some s) None q h = cc
getter_no_setter (Some s) (Some g) None h = refl
getter_no_setter (Some s) (Some g) (Some x) h =
    let none = prefixes-of_getter g.kind (and_left (is_getter g.kind) (goes_on_alike (prefixes s.kind) s.name g.name) h) in
    rw none (and_false (is_getter x.kind))

rest_after-text : (prefix text rest : List ℕ) → rest_after prefix text ≡ Some rest → text ≡ prefix ++ rest
rest_after-text prefix text rest h = elim (cases_Bool (starts_with nat_eq text prefix)) [
  | inl hit ↦
      let found : Some (drop (length prefix) text) ≡ Some rest = rw hit at h in
      let tail : drop (length prefix) text ≡ rest = cc in
      let head = (bytes_eq-Decides prefix (take (length prefix) text)).0 hit in
      sym (take-append-drop (length prefix) text) ∙ (λ i. sym head i ++ tail i)
  | inr miss ↦ let none : None ≡ Some rest = rw miss at h in cc
]

same_text-first : (p q : Option (List ℕ)) → both (pointwise nat_eq) p q ≡ true → (x : List ℕ) × (p ≡ Some x) × (q ≡ Some x)
same_text-first None q h = cc
same_text-first (Some a) None h = cc
same_text-first (Some a) (Some b) h = (a, refl, ap (λ (l : List ℕ). Some l) (sym ((bytes_eq-Decides a b).0 h)))

some_injective : (a b : List ℕ) (p : Option (List ℕ)) → p ≡ Some a → p ≡ Some b → a ≡ b
some_injective a b p x y = cc

alike-name : (f : Option (List ℕ × List ℕ)) (s g h : List ℕ) → goes_on_alike f s g ≡ true → goes_on_alike f s h ≡ true → g ≡ h
alike-name None s g h a b = cc
alike-name (Some f) s g h a b =
    let x = same_text-first (rest_after f.0 s) (rest_after f.1 g) a in
    let y = same_text-first (rest_after f.0 s) (rest_after f.1 h) b in
    let same = some_injective x.0 y.0 (rest_after f.0 s) x.1 y.1 in
    rest_after-text f.1 g x.0 x.2 ∙ ap (λ l. f.1 ++ l) same ∙ sym (rest_after-text f.1 h y.0 y.2)

-- two getters of one setter have one name
getter_name : (s : Option Function) (g h : Function) → both is_getter_of s (Some g) ≡ true → both is_getter_of s (Some h) ≡ true → g.name ≡ h.name
getter_name None g h a b = cc
getter_name (Some s) g h a b =
    alike-name (prefixes s.kind) s.name g.name h.name
    (and_right (is_getter g.kind) (goes_on_alike (prefixes s.kind) s.name g.name) a)
    (and_right (is_getter h.kind) (goes_on_alike (prefixes s.kind) s.name h.name) b)

abbrev Differs : List ℕ → List (List ℕ) → Type 0
Differs n ns = AllByRecursion (λ y. pointwise nat_eq n y ≡ false) ns

-- another function is no getter of the setter, where its name differs
apart-one : (s : Option Function) (g : Function) (o : Option Function) (ns : List (List ℕ)) → both is_getter_of s (Some g) ≡ true → Differs g.name (name_in o ++ ns) → both is_getter_of s o ≡ false
apart-one None g o ns pair differs = cc
apart-one (Some s) g None ns pair differs = refl
apart-one (Some s) g (Some h) ns pair differs = elim (cases_Bool (both is_getter_of (Some s) (Some h))) [
  | inl hit ↦ let same = (bytes_eq-Decides g.name h.name).1 (getter_name (Some s) g h pair hit) in let not_same = differs.0 in cc
  | inr miss ↦ miss
]

differs-rest : (n : List ℕ) (o : Option Function) (ns : List (List ℕ)) → Differs n (name_in o ++ ns) → Differs n ns
differs-rest n None ns d = d
differs-rest n (Some h) ns d = d.1

distinct-rest : (o : Option Function) (ns : List (List ℕ)) → IsDistinct (pointwise nat_eq) (name_in o ++ ns) → IsDistinct (pointwise nat_eq) ns
unfolding IsDistinct
distinct-rest None ns d = d
distinct-rest (Some h) ns d = d.1

distinct-first : (g : Function) (ns : List (List ℕ)) → IsDistinct (pointwise nat_eq) (name_in (Some g) ++ ns) → Differs g.name ns
unfolding IsDistinct
distinct-first g ns d = d.0

module _ {K V : Type 0} (function_at : V → Option Function) where
  apart : (s : Option Function) (g : Function) (es : List (K × V)) → both is_getter_of s (Some g) ≡ true → Differs g.name (stated_names function_at es) → list_any (λ x. both is_getter_of s (function_at x.1)) es ≡ false
  apart s g [] pair differs = refl
  apart s g (e ∷ es) pair differs =
      let one = apart-one s g (function_at e.1) (stated_names function_at es) pair differs in
      rw one (apart s g es pair (differs-rest g.name (function_at e.1) (stated_names function_at es) differs))

  apart-maybe_function : (s o : Option Function) (es : List (K × V)) → both is_getter_of s o ≡ true → IsDistinct (pointwise nat_eq) (name_in o ++ stated_names function_at es) → list_any (λ x. both is_getter_of s (function_at x.1)) es ≡ false
  apart-maybe_function None None es pair d = cc
  apart-maybe_function (Some s) None es pair d = cc
  apart-maybe_function s (Some g) es pair d = apart s g es pair (distinct-first g (stated_names function_at es) d)

  one_getter : (es : List (K × V)) → HaveDistinctNames function_at es → (e : K × V) → AtMostOne (pairs function_at e) es
  one_getter [] d e = tt
  one_getter (x ∷ es) d e = (
    λ hit. apart-maybe_function (function_at e.1) (function_at x.1) es hit d,
    one_getter es (distinct-rest (function_at x.1) (stated_names function_at es) d) e,
  )

  -- under distinct names the setters placed in turn come directly after their getters
  pub in_turn-placed : (es : List (K × V)) → HaveDistinctNames function_at es → in_turn (pairs function_at) es ≡ placed function_at es
  in_turn-placed es d = in_turn-setters_placed (pairs function_at) (λ e g x h. getter_no_setter (function_at e.1) (function_at g.1) (function_at x.1) h) es (one_getter es d)
