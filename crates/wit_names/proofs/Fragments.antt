-- Fragments stated in one pass: what is still to come of a text, where three flags say of the bytes since the last dash.
use Rattle.std.proofs.Common.{◌≡◌, ◌∙◌, ℕ, ◌==◌, ◌&&◌, ◌||◌, not, Bool, true, false, if◌then◌else◌, List, [], ◌∷◌, length, refl, ap, sym, arith}
use Rattle.std.specs.Char.{is_ascii_alphanumeric, is_ascii_lowercase, is_ascii_uppercase}
use Rattle.std.specs.List.{list_all, list_any, onto_first}
use Rattle.std.proofs.lemmas.Bool.{ne_eqb}
use Rattle.wit_names.specs.Label.{fragments, is_fragment, is_of_one_case}

-- a fragment may end here
abbrev pub may_end : Bool → Bool → Bool → Bool
may_end empty lower upper = not empty && not (lower && upper)

-- the rest of a text ends its fragments well
abbrev pub ends_well : Bool → Bool → Bool → List ℕ → Bool
ends_well empty lower upper [] = may_end empty lower upper
ends_well empty lower upper (b ∷ text) = if b == 45 then may_end empty lower upper && ends_well true false false text else (is_ascii_alphanumeric b && ends_well false (lower || is_ascii_lowercase b) (upper || is_ascii_uppercase b) text)

-- the rest of a fragment ends it well, and what comes after it is well
abbrev rest_is_well : Bool → Bool → Bool → List ℕ → Bool → Bool
rest_is_well empty lower upper [] rest_after = may_end empty lower upper && rest_after
rest_is_well empty lower upper (b ∷ part) rest_after = is_ascii_alphanumeric b && rest_is_well false (lower || is_ascii_lowercase b) (upper || is_ascii_uppercase b) part rest_after

abbrev first_is_well : Bool → Bool → Bool → List (List ℕ) → Bool
first_is_well empty lower upper [] = rest_is_well empty lower upper [] true
first_is_well empty lower upper (part ∷ parts) = rest_is_well empty lower upper part (list_all is_fragment parts)

abbrev is_nil : List ℕ → Bool
is_nil [] = true
is_nil (b ∷ part) = false

-- the same, said of the whole rest of a fragment
abbrev is_well : Bool → Bool → Bool → List ℕ → Bool
is_well empty lower upper part = not (empty && is_nil part) && list_all is_ascii_alphanumeric part && not ((lower || list_any is_ascii_lowercase part) && (upper || list_any is_ascii_uppercase part))

and_true : (a : Bool) → (a && true) ≡ a
and_true true = refl
and_true false = refl

and_false : (a : Bool) → (a && false) ≡ false
and_false true = refl
and_false false = refl

or_false : (a : Bool) → (a || false) ≡ a
or_false true = refl
or_false false = refl

or_assoc : (a b c : Bool) → ((a || b) || c) ≡ (a || (b || c))
or_assoc true b c = refl
or_assoc false b c = refl

rest-whole : (empty lower upper : Bool) (part : List ℕ) (rest_after : Bool) → rest_is_well empty lower upper part rest_after ≡ (is_well empty lower upper part && rest_after)
rest-whole empty lower upper [] rest_after = rw (and_true empty, and_true (not empty), or_false lower, or_false upper) refl
rest-whole empty lower upper (b ∷ part) rest_after = ap (λ w. is_ascii_alphanumeric b && w) (rest-whole false (lower || is_ascii_lowercase b) (upper || is_ascii_uppercase b) part rest_after) ∙ by (is_ascii_alphanumeric b) where
  by : (a : Bool) → (a && (((true && list_all is_ascii_alphanumeric part) && not (((lower || is_ascii_lowercase b) || list_any is_ascii_lowercase part) && ((upper || is_ascii_uppercase b) || list_any is_ascii_uppercase part))) && rest_after))
      ≡ (((not (empty && false) && (a && list_all is_ascii_alphanumeric part)) && not ((lower || (is_ascii_lowercase b || list_any is_ascii_lowercase part)) && (upper || (is_ascii_uppercase b || list_any is_ascii_uppercase part)))) && rest_after)
  by true = rw (and_false empty, or_assoc lower (is_ascii_lowercase b) (list_any is_ascii_lowercase part), or_assoc upper (is_ascii_uppercase b) (list_any is_ascii_uppercase part)) refl
  by false = rw (and_false empty) refl

list_all-not : (test : ℕ → Bool) (xs : List ℕ) → list_all (λ b. not (test b)) xs ≡ not (list_any test xs)
list_all-not test [] = refl
list_all-not test (x ∷ xs) = by (test x) (list_all-not test xs) where
  by : (v : Bool) → list_all (λ b. not (test b)) xs ≡ not (list_any test xs) → (not v && list_all (λ b. not (test b)) xs) ≡ not (v || list_any test xs)
  by true rest = refl
  by false rest = rest

one_case : (part : List ℕ) → is_of_one_case part ≡ not (list_any is_ascii_lowercase part && list_any is_ascii_uppercase part)
one_case part = (λ i. list_all-not is_ascii_uppercase part i || list_all-not is_ascii_lowercase part i) ∙ by (list_any is_ascii_lowercase part) (list_any is_ascii_uppercase part) where
  by : (l u : Bool) → (not u || not l) ≡ not (l && u)
  by true true = refl
  by true false = refl
  by false true = refl
  by false false = refl

is_nil-length : (part : List ℕ) → (length part == 0) ≡ is_nil part
is_nil-length [] = refl
is_nil-length (b ∷ part) = ne_eqb (length (b ∷ part)) 0 (λ e. omega (arith, e))

fragment-well : (part : List ℕ) → is_fragment part ≡ is_well true false false part
fragment-well part = λ i. not (is_nil-length part i) && list_all is_ascii_alphanumeric part && one_case part i

-- with nothing before it, the rest of a fragment is the fragment
rest-fragment : (part : List ℕ) (rest_after : Bool) → rest_is_well true false false part rest_after ≡ (is_fragment part && rest_after)
rest-fragment part rest_after = rest-whole true false false part rest_after ∙ ap (λ w. w && rest_after) (sym (fragment-well part))

first-onto : (b : ℕ) (parts : List (List ℕ)) → first_is_well true false false (onto_first b parts) ≡ list_all is_fragment (onto_first b parts)
first-onto b [] = rest-fragment (b ∷ []) true
first-onto b (part ∷ parts) = rest-fragment (b ∷ part) (list_all is_fragment parts)

first-fragments : (text : List ℕ) → first_is_well true false false (fragments text) ≡ list_all is_fragment (fragments text)
first-fragments [] = refl
first-fragments (b ∷ text) = by (b == 45) where
  by : (v : Bool) → first_is_well true false false (if v then [] ∷ fragments text else onto_first b (fragments text)) ≡ list_all is_fragment (if v then [] ∷ fragments text else onto_first b (fragments text))
  by true = refl
  by false = first-onto b (fragments text)

-- a byte put onto the first fragment
onto-well : (empty lower upper : Bool) (b : ℕ) (parts : List (List ℕ)) → (is_ascii_alphanumeric b && first_is_well false (lower || is_ascii_lowercase b) (upper || is_ascii_uppercase b) parts) ≡ first_is_well empty lower upper (onto_first b parts)
onto-well empty lower upper b [] = refl
onto-well empty lower upper b (part ∷ parts) = refl

ends-first : (empty lower upper : Bool) (text : List ℕ) → ends_well empty lower upper text ≡ first_is_well empty lower upper (fragments text)
ends-first empty lower upper [] = sym (and_true (may_end empty lower upper))
ends-first empty lower upper (b ∷ text) =
    let lower' = lower || is_ascii_lowercase b in
    let upper' = upper || is_ascii_uppercase b in
    by (b == 45) (ends-first true false false text) (ends-first false lower' upper' text) where
      by : (v : Bool) → ends_well true false false text ≡ first_is_well true false false (fragments text)
          → ends_well false (lower || is_ascii_lowercase b) (upper || is_ascii_uppercase b) text ≡ first_is_well false (lower || is_ascii_lowercase b) (upper || is_ascii_uppercase b) (fragments text)
          → (if v then may_end empty lower upper && ends_well true false false text else (is_ascii_alphanumeric b && ends_well false (lower || is_ascii_lowercase b) (upper || is_ascii_uppercase b) text))
          ≡ first_is_well empty lower upper (if v then [] ∷ fragments text else onto_first b (fragments text))
      by true anew on = ap (λ w. may_end empty lower upper && w) (anew ∙ first-fragments text)
      by false anew on = ap (λ w. is_ascii_alphanumeric b && w) on ∙ onto-well empty lower upper b (fragments text)

-- at the prefix of a text, all its fragments are stated
pub ends_well-fragments : (text : List ℕ) → ends_well true false false text ≡ list_all is_fragment (fragments text)
ends_well-fragments text = ends-first true false false text ∙ first-fragments text
