-- Items parted on the way back through them, one more in front.
use Rattle.std.proofs.Common.{◌≡◌, ℕ, ◌++◌, ◌||◌, Bool, true, false, cond, List, [], ◌∷◌, Option, Some, None, reverse, nat_eq, inl, inr, refl, sym, ap, ◌∙◌, append_assoc}
use Rattle.std.specs.Prelude.{if◌then◌else◌}
use Rattle.std.specs.Cmp.Lexicographic.{pointwise}
use Rattle.std.specs.List.{filter, list_any}
use Rattle.std.specs.Option.{is_some, option_to_list}
use Rattle.std.specs.Str.{bytes_eq}
use Rattle.std.proofs.lemmas.Bool.{cases_Bool}
use Rattle.std.proofs.lemmas.List.{reverse-append}
use Rattle.wit_functions.specs.declared.function.Function.{Function}
use Rattle.wit_functions.specs.SettersPlaced.{early, name_in, others, both}
use Rattle.wit_functions.proofs.Names.{name_cases, name_equal, name_itself}
use Rattle.wit_functions.specs.MaybeFunction.{goes, offered, wanted, HaveOwnNames}
use Rattle.wit_functions.specs.Parted.{known, IsParted}
use Rattle.wit_functions.proofs.GetterNames.{goes_wanted, offers_none, one_setter}
use Rattle.wit_functions.proofs.OwnNames.{Differs, differs_rest, names, own_head}

-- a name that is known is that name
known_name : (has : List ℕ → Bool) (o : Option (List ℕ)) (name : List ℕ) → known has o ≡ Some name → o ≡ Some name
known_name has None name h = cc
known_name has (Some n) name h = elim (cases_Bool (has n)) [
  | inl hit ↦ rw hit at h
  | inr miss ↦ let none : None ≡ Some name = rw miss at h in cc
]

known_test : (has : List ℕ → Bool) (n : List ℕ) → is_some (known has (Some n)) ≡ has n
known_test has n = elim (cases_Bool (has n)) [
  | inl hit ↦ rw hit refl
  | inr miss ↦ rw miss refl
]

same_text : (o : Option (List ℕ)) (name : List ℕ) → both (pointwise nat_eq) o (Some name) ≡ true → o ≡ Some name
same_text None name h = cc
same_text (Some n) name h = ap Some (name_equal n name h)

module _ {X : Type 0} (test : X → X → Bool) (e : X) (es : List X) where
  others_early : list_any (test e) es ≡ true → others test (e ∷ es) ≡ others test es
  others_early hit = rw hit refl

  early_early : list_any (test e) es ≡ true → early test (e ∷ es) ≡ e ∷ early test es
  early_early hit = rw hit refl

  others_kept : list_any (test e) es ≡ false → others test (e ∷ es) ≡ e ∷ others test es
  others_kept miss = rw miss refl

  early_kept : list_any (test e) es ≡ false → early test (e ∷ es) ≡ early test es
  early_kept miss = rw miss refl

-- of items taken from the last, the next comes before those before it
pub turned_next : {X : Type 0} (prefix rest : List X) (x : X) → reverse rest ++ reverse (prefix ++ x ∷ []) ≡ reverse (x ∷ rest) ++ reverse prefix
turned_next prefix rest x =
    ap (λ l. reverse rest ++ l) (reverse-append prefix (x ∷ []))
    ∙ sym (append_assoc (reverse rest) (x ∷ []) (reverse prefix))
    ∙ ap (λ l. l ++ reverse prefix) (sym (reverse-append (x ∷ []) rest))

-- one more in front, where the test says so
chosen : {X : Type 0} (x : X) (xs : List X) (b : Bool) (o : Option X) → (b ≡ true → xs ≡ []) → option_to_list o ≡ xs → option_to_list (if b then Some x else o) ≡ (if b then x ∷ xs else xs)
chosen x xs true o none was = ap (λ l. x ∷ l) (sym (none refl))
chosen x xs false o none was = was

module _ {X : Type 0} (function_at : X → Option Function) where
  -- these want the name
  abbrev wanting : List ℕ → X → Bool
  wanting name s = both (pointwise nat_eq) (wanted (function_at s)) (Some name)

  -- no function of another name wants what a setter does
  other_wants : (f : Function) (name : List ℕ) (o : Option Function) (ns : List (List ℕ)) → wanted (Some f) ≡ Some name → Differs f.name (name_in o ++ ns) → both (pointwise nat_eq) (wanted o) (Some name) ≡ false
  other_wants f name None ns wants d = refl
  other_wants f name (Some g) ns wants d = elim (cases_Bool (both (pointwise nat_eq) (wanted (Some g)) (Some name))) [
    | inl hit ↦ (
        let same = one_setter f g name wants (same_text (wanted (Some g)) name hit) in
        let wrong : false ≡ true = sym d.0 ∙ ap (pointwise nat_eq f.name) (sym same) ∙ name_itself f.name in
        absurd (let f : ⊥ = cc in f))
    | inr miss ↦ miss
  ]

  none_want : (f : Function) (name : List ℕ) (es : List X) → wanted (Some f) ≡ Some name → Differs f.name (names function_at es) → filter (wanting name) (early (goes function_at) es) ≡ []
  none_want f name [] wants d = refl
  none_want f name (e ∷ es) wants d =
      let rest = none_want f name es wants (differs_rest f.name (function_at e) (names function_at es) d) in
      elim (cases_Bool (list_any (goes function_at e) es)) [
        | inl hit ↦ (let other : wanting name e ≡ false = other_wants f name (function_at e) (names function_at es) wants d in rw (hit, other) rest)
        | inr miss ↦ rw miss rest
      ]

  -- no other setter wants the name that a setter wants
  alone : (s : X) (es : List X) (name : List ℕ) → wanted (function_at s) ≡ Some name → HaveOwnNames function_at (s ∷ es) → filter (wanting name) (early (goes function_at) es) ≡ []
  alone s es name wants own = go (function_at s) refl
    where
      go : (o : Option Function) → function_at s ≡ o → filter (wanting name) (early (goes function_at) es) ≡ []
      go None is = (let none : None ≡ Some name = ap wanted (sym is) ∙ wants in absurd (let f : ⊥ = cc in f))
      go (Some f) is = none_want f name es (ap wanted (sym is) ∙ wants) (own_head function_at s f es is own)

  no_name : (es : List X) → list_any (λ g. both (pointwise nat_eq) None (offered (function_at g))) es ≡ false
  no_name [] = refl
  no_name (e ∷ es) = no_name es

  module _ (es kept : List X) (has : List ℕ → Bool) (waits : List ℕ → Option X) (was : IsParted function_at es kept has waits) where
    -- a getter is known exactly if it is one of these
    inverse : (s : X) → list_any (goes function_at s) es ≡ is_some (known has (wanted (function_at s)))
    inverse s = (λ i. list_any (λ g. goes_wanted (function_at s) (function_at g) i) es) ∙ go (wanted (function_at s))
      where
        go : (o : Option (List ℕ)) → list_any (λ g. both (pointwise nat_eq) o (offered (function_at g))) es ≡ is_some (known has o)
        go None = no_name es
        go (Some n) = sym (was.offer n) ∙ sym (known_test has n)

    -- a setter more that waits
    pub parted_early : (now : List ℕ → Option X) (s : X) (name : List ℕ) → known has (wanted (function_at s)) ≡ Some name → ((n : List ℕ) → now n ≡ (if pointwise nat_eq name n then Some s else waits n)) → HaveOwnNames function_at (s ∷ es) → IsParted function_at (s ∷ es) kept has now
    parted_early now s name h put own =
        let hit : list_any (goes function_at s) es ≡ true = inverse s ∙ ap is_some h in
        let wants = known_name has (wanted (function_at s)) name h in
        record {
          stay = was.stay ∙ sym (others_early (goes function_at) s es hit);
          offer = λ n. was.offer n ∙ ap (λ o. both (pointwise nat_eq) (Some n) o || list_any (λ g. both (pointwise nat_eq) (Some n) (offered (function_at g))) es) (sym (offers_none (function_at s) name wants));
          wait = λ n. (
              let mine = filter (wanting n) (early (goes function_at) es) in
              let none : pointwise nat_eq name n ≡ true → mine ≡ [] = λ same. ap (λ q. filter (wanting q) (early (goes function_at) es)) (sym (name_equal name n same)) ∙ alone s es name wants own in
              ap option_to_list (put n)
              ∙ chosen s mine (pointwise nat_eq name n) (waits n) none (was.wait n)
              ∙ ap (λ o. if both (pointwise nat_eq) o (Some n) then s ∷ mine else mine) (sym wants)
              ∙ ap (filter (wanting n)) (sym (early_early (goes function_at) s es hit)));
        }

    -- an item more that waits for none
    pub parted_kept : (kept_now : List X) (has_now : List ℕ → Bool) (x : X) → known has (wanted (function_at x)) ≡ None → kept_now ≡ kept ++ x ∷ [] → ((n : List ℕ) → has_now n ≡ (both (pointwise nat_eq) (Some n) (offered (function_at x)) || has n)) → IsParted function_at (x ∷ es) kept_now has_now waits
    parted_kept kept_now has_now x h more put =
        let miss : list_any (goes function_at x) es ≡ false = inverse x ∙ ap is_some h in
        record {
          stay = ap reverse more ∙ reverse-append kept (x ∷ []) ∙ ap (λ l. x ∷ l) was.stay ∙ sym (others_kept (goes function_at) x es miss);
          offer = λ n. put n ∙ ap (λ b. both (pointwise nat_eq) (Some n) (offered (function_at x)) || b) (was.offer n);
          wait = λ n. was.wait n ∙ ap (filter (wanting n)) (sym (early_kept (goes function_at) x es miss));
        }

-- the names with one more that is offered
or_cond : (a b : Bool) → cond a true b ≡ (a || b)
or_cond true b = refl
or_cond false b = refl

same_either_way : (m n : List ℕ) → pointwise nat_eq m n ≡ pointwise nat_eq n m
same_either_way m n = elim (name_cases m n) [
  | inl same ↦ rw same refl
  | inr other ↦ elim (name_cases n m) [
    | inl same ↦ rw same refl
    | inr apart ↦ other ∙ sym apart
  ]
]

pub offered_more : (k n name : List ℕ) (o : Option (List ℕ)) (b : Bool) → k ≡ n → o ≡ Some n → cond (bytes_eq k name) true b ≡ (both (pointwise nat_eq) (Some name) o || b)
offered_more k n name o b same is = ap (λ m. cond (bytes_eq m name) true b) same ∙ or_cond (bytes_eq n name) b ∙ ap (λ a. a || b) (same_either_way n name) ∙ ap (λ m. both (pointwise nat_eq) (Some name) m || b) (sym is)
