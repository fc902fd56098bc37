-- Setters and their getters are given by their names.
use Rattle.std.specs.Prelude.{⊤}
use Rattle.std.proofs.Common.{◌≡◌, ℕ, ◌++◌, ◌&&◌, Bool, true, false, List, [], ◌∷◌, Option, Some, None, take, drop, length, get_or, nat_eq, inl, inr, refl, sym, ap, ◌∙◌}
use Rattle.std.specs.Prelude.{slice_set, if◌then◌else◌}
use Rattle.std.specs.Cmp.Lexicographic.{pointwise}
use Rattle.std.specs.List.{starts_with}
use Rattle.std.specs.Option.{is_some, option_map}
use Rattle.std.proofs.lemmas.Bool.{cases_Bool}
use Rattle.std.proofs.lemmas.List.{take-append-drop}
use Rattle.wit_names.specs.Prefix.{rest_after}
use Rattle.wit_functions.specs.declared.function.Function.{Function}
use Rattle.wit_functions.specs.declared.function.FunctionKind.{FunctionKind}
use Rattle.wit_functions.specs.declared.function.FunctionKind.TheVariants as kind
use Rattle.wit_functions.specs.SettersPlaced.{prefixes, goes_on_alike, is_getter, both, is_getter_of}
use Rattle.wit_functions.proofs.Names.{name_equal}
use Rattle.wit_functions.specs.MaybeFunction.{is_setter, offered, turned, wanted}

-- no text is the same as none
pub same_as_none : (o : Option (List ℕ)) → both (pointwise nat_eq) o None ≡ false
same_as_none None = refl
same_as_none (Some a) = refl

same_after : (rest prefix name : List ℕ) → both (pointwise nat_eq) (Some rest) (rest_after prefix name) ≡ pointwise nat_eq (prefix ++ rest) name
same_after rest [] name = refl
same_after rest (a ∷ prefix) [] = refl
same_after rest (a ∷ prefix) (b ∷ name) = elim (cases_Bool (nat_eq a b)) [
  | inl hit ↦ rw hit (same_after rest prefix name)
  | inr miss ↦ rw miss refl
]

alike_turned : (f : Option (List ℕ × List ℕ)) (s g : List ℕ) → goes_on_alike f s g ≡ both (pointwise nat_eq) (turned f s) (Some g)
alike_turned None s g = refl
alike_turned (Some f) s g = go (rest_after f.0 s)
  where
    go : (o : Option (List ℕ)) → both (pointwise nat_eq) o (rest_after f.1 g) ≡ both (pointwise nat_eq) (option_map (λ rest. f.1 ++ rest) o) (Some g)
    go None = refl
    go (Some rest) = same_after rest f.1 g

-- a setter's getter offers the name that it wants
pub goes_wanted : (s g : Option Function) → both is_getter_of s g ≡ both (pointwise nat_eq) (wanted s) (offered g)
goes_wanted None g = refl
goes_wanted (Some s) None = sym (same_as_none (wanted (Some s)))
goes_wanted (Some s) (Some g) = ap (λ b. is_getter g.kind && b) (alike_turned (prefixes s.kind) s.name g.name) ∙ go (is_getter g.kind)
  where
    go : (b : Bool) → (b && both (pointwise nat_eq) (wanted (Some s)) (Some g.name)) ≡ both (pointwise nat_eq) (wanted (Some s)) (if b then Some g.name else None)
    go true = refl
    go false = sym (same_as_none (wanted (Some s)))

-- what is no setter wants none
pub wants_none : (o : Option Function) → is_setter o ≡ false → wanted o ≡ None
wants_none None h = refl
wants_none (Some f) h = go (prefixes f.kind) h
  where
    go : (o : Option (List ℕ × List ℕ)) → is_some o ≡ false → turned o f.name ≡ None
    go None h = refl
    go (Some p) h = cc

-- a setter offers none
pub offers_none : (o : Option Function) (name : List ℕ) → wanted o ≡ Some name → offered o ≡ None
offers_none None name h = refl
offers_none (Some f) name h = ap (λ (b : Bool). if b then Some f.name else None) (go f.kind h)
  where
    go : (k : FunctionKind) → turned (prefixes k) f.name ≡ Some name → is_getter k ≡ false
    go kind.Getter h = cc
    go (kind.MethodGetter r) h = cc
    go (kind.StaticGetter r) h = cc
    go kind.Freestanding h = refl
    go kind.AsyncFreestanding h = refl
    go kind.Setter h = refl
    go (kind.Method r) h = refl
    go (kind.AsyncMethod r) h = refl
    go (kind.MethodSetter r) h = refl
    go (kind.Static r) h = refl
    go (kind.AsyncStatic r) h = refl
    go (kind.StaticSetter r) h = refl
    go (kind.Constructor r) h = refl

-- a getter's name with an s for the g of its `[get]`
abbrev setter_name : List ℕ → List ℕ
setter_name name = if nat_eq (get_or name 1 0) 103 then slice_set name 1 115 else slice_set name 9 115

abbrev TurnsBack : Option (List ℕ × List ℕ) → Type 0
TurnsBack None = ⊤
TurnsBack (Some f) = (rest : List ℕ) → setter_name (f.1 ++ rest) ≡ f.0 ++ rest

turns_back : (k : FunctionKind) → TurnsBack (prefixes k)
turns_back kind.Setter = λ rest. refl
turns_back (kind.MethodSetter r) = λ rest. refl
turns_back (kind.StaticSetter r) = λ rest. refl
turns_back kind.Freestanding = tt
turns_back kind.AsyncFreestanding = tt
turns_back kind.Getter = tt
turns_back (kind.Method r) = tt
turns_back (kind.AsyncMethod r) = tt
turns_back (kind.MethodGetter r) = tt
turns_back (kind.Static r) = tt
turns_back (kind.AsyncStatic r) = tt
turns_back (kind.StaticGetter r) = tt
turns_back (kind.Constructor r) = tt

setter_named : (f : Option (List ℕ × List ℕ)) (s name : List ℕ) → TurnsBack f → turned f s ≡ Some name → setter_name name ≡ s
setter_named None s name back h = cc
setter_named (Some f) s name back h = elim (cases_Bool (starts_with nat_eq s f.0)) [
  | inl hit ↦ (
      let found : Some (f.1 ++ drop (length f.0) s) ≡ Some name = rw hit at h in
      let is : f.1 ++ drop (length f.0) s ≡ name = cc in
      let head : f.0 ≡ take (length f.0) s = name_equal f.0 (take (length f.0) s) hit in
      ap setter_name (sym is) ∙ back (drop (length f.0) s) ∙ ap (λ l. l ++ drop (length f.0) s) head ∙ take-append-drop (length f.0) s)
  | inr miss ↦ let none : None ≡ Some name = rw miss at h in cc
]

-- two setters that want one name have one name
pub one_setter : (s t : Function) (name : List ℕ) → wanted (Some s) ≡ Some name → wanted (Some t) ≡ Some name → s.name ≡ t.name
one_setter s t name of_s of_t = sym (setter_named (prefixes s.kind) s.name name (turns_back s.kind) of_s) ∙ setter_named (prefixes t.kind) t.name name (turns_back t.kind) of_t
