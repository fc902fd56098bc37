-- Where each setter comes after its getter, all stay where they are.
use Rattle.std.proofs.Common.{◌≡◌, ℕ, suc, ◌<◌, Bool, true, false, List, [], ◌∷◌, Option, Some, None, inl, inr, refl, sym, ap, ◌∙◌, nat_eq, arith}
use Rattle.wit_syntax.proofs.Common.{AllDiffer, cases_Bool, flat_map, if◌then◌else◌, list_any, map, name_equal, option_map, pointwise, slice_get, slice_get-map, slice_get_within}
use Rattle.wit_functions.specs.SettersPlaced.{early, is_getter, is_getter_of, others, setters_placed, with_setters, both}
use Rattle.wit_functions.specs.declared.function.Function.{Function}
use Rattle.wit_setters.specs.Paired.{ArePaired}
use Rattle.wit_functions.specs.MaybeFunction.{is_setter, offered, wanted}
use Rattle.wit_functions.proofs.GetterNames.{goes_wanted, same_as_none, wants_none}
use Rattle.wit_functions.proofs.NoSetters.{each_alone}

-- no item goes with one after it
abbrev NoneWaits : {X : Type 0} → (X → X → Bool) → List X → Type 0
NoneWaits {X} test es = (i j : ℕ) (s g : X) → i < j → slice_get es i ≡ Some s → slice_get es j ≡ Some g → test s g ≡ false

waits_tail : {X : Type 0} (test : X → X → Bool) (e : X) (es : List X) → NoneWaits test (e ∷ es) → NoneWaits test es
waits_tail test e es h = λ i j s g lt ats atg. h (suc i) (suc j) s g (omega arith) ats atg

none_passes : {X : Type 0} (test : X → Bool) (es : List X) → ((j : ℕ) (g : X) → slice_get es j ≡ Some g → test g ≡ false) → list_any test es ≡ false
none_passes test [] h = refl
none_passes test (e ∷ es) h = rw (h 0 e refl) (none_passes test es (λ j g at. h (suc j) g at))

none_after : {X : Type 0} (test : X → X → Bool) (e : X) (es : List X) → NoneWaits test (e ∷ es) → list_any (test e) es ≡ false
none_after test e es h = none_passes (test e) es (λ j g at. h 0 (suc j) e g (omega arith) refl at)

early_empty : {X : Type 0} (test : X → X → Bool) (es : List X) → NoneWaits test es → early test es ≡ []
early_empty test [] h = refl
early_empty test (e ∷ es) h = rw (none_after test e es h) (early_empty test es (waits_tail test e es h))

others_all : {X : Type 0} (test : X → X → Bool) (es : List X) → NoneWaits test es → others test es ≡ es
others_all test [] h = refl
others_all test (e ∷ es) h = rw (none_after test e es h) (ap (λ l. e ∷ l) (others_all test es (waits_tail test e es h)))

none_moves : {X : Type 0} (test : X → X → Bool) (es : List X) → NoneWaits test es → setters_placed test es ≡ es
none_moves test es h =
    ap (λ l. flat_map (with_setters test l) (others test es)) (early_empty test es h)
    ∙ ap (flat_map (with_setters test [])) (others_all test es h)
    ∙ each_alone test es

-- what a setter wants is the name of its getter
getter_named : (o : Option (List ℕ)) (g : Function) → both (pointwise nat_eq) o (offered (Some g)) ≡ true → o ≡ Some g.name
getter_named o g h = go (is_getter g.kind) o h
  where
    go : (b : Bool) (o : Option (List ℕ)) → both (pointwise nat_eq) o (if b then Some g.name else None) ≡ true → o ≡ Some g.name
    go true None h = absurd (let f : ⊥ = cc in f)
    go true (Some a) h = ap Some (name_equal a g.name h)
    go false o h = absurd (let wrong : true ≡ false = sym h ∙ same_as_none o in let f : ⊥ = cc in f)

one_getter : (s g h : Function) → is_getter_of s g ≡ true → is_getter_of s h ≡ true → g.name ≡ h.name
one_getter s g h of_g of_h =
    let one = getter_named (wanted (Some s)) g (sym (goes_wanted (Some s) (Some g)) ∙ of_g) in
    let other = getter_named (wanted (Some s)) h (sym (goes_wanted (Some s) (Some h)) ∙ of_h) in
    let same : Some g.name ≡ Some h.name = sym one ∙ other in
    cc

no_getter : (s g : Function) → is_setter (Some s) ≡ false → is_getter_of s g ≡ false
no_getter s g none = goes_wanted (Some s) (Some g) ∙ ap (λ o. both (pointwise nat_eq) o (offered (Some g))) (wants_none (Some s) none)

none_waits : (fs : List Function) → AllDiffer (map (λ f. f.name) fs) → ArePaired fs → NoneWaits is_getter_of fs
none_waits fs own paired = λ i j s g lt ats atg. elim (cases_Bool (is_getter_of s g)) [
  | inl goes ↦ elim (cases_Bool (is_setter (Some s))) [
    | inl sets ↦ (
        let pair = paired i (slice_get_within fs i s ats) s ats sets in
        let same : pair.1.name ≡ g.name = one_getter s pair.1 g pair.4 goes in
        let one : slice_get (map (λ f. f.name) fs) pair.0 ≡ Some g.name = slice_get-map (λ f. f.name) fs pair.0 ∙ ap (option_map (λ f. f.name)) pair.3 ∙ ap Some same in
        let other : slice_get (map (λ f. f.name) fs) j ≡ Some g.name = slice_get-map (λ f. f.name) fs j ∙ ap (option_map (λ f. f.name)) atg in
        let at = own.differ pair.0 j g.name one other in
        let before = pair.2 in
        absurd (omega arith))
    | inr no_setter ↦ no_getter s g no_setter
  ]
  | inr apart ↦ apart
]

pub paired_stay : (fs : List Function) → AllDiffer (map (λ f. f.name) fs) → ArePaired fs → setters_placed is_getter_of fs ≡ fs
paired_stay fs own paired = none_moves is_getter_of fs (none_waits fs own paired)
