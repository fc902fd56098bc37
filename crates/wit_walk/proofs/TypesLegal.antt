-- A written type without a fault breaks no rule, and nothing is wrong with the names in it.
use Rattle.std.proofs.Common.{◌≡◌, ◌⊎◌, ℕ, suc, List, [], ◌∷◌, ◌++◌, Option, Some, None, inl, inr, refl, sym, ap, ◌∙◌, subst, Contains}
use Rattle.wit_syntax.proofs.Common.{Both', Contains-append_cases, Err', Fault, Id, Inside, IsBrokenForm, IsBrokenType, Itself, Neither, None', Ok', Some', after_one, all_handles, all_shapes, all_words, append-nil, at_contains, handles, part_types, row_types, shape_of, slice_get, words, «Type» as Written}
use Rattle.wit_type_tree.specs.declared.types.«Type».TheVariants as written
use Rattle.wit_first.specs.TypeFaults.{type_fault, prefix_fault, back_fault}
use Rattle.wit_first.proofs.Bridge.{empty_agrees, in_only, key_agrees}
use Rattle.wit_first.proofs.TypeFaults.{AllTypes, by_parts, none_parts, type_at}
use Rattle.wit_walk.proofs.TypeFaults.{nothing, row_handles_all, row_words}

-- a name in types is in one of them
abbrev IsInOne : (Written → List Id) → List Written → Id → Type 0
IsInOne names ts id = (k : ℕ) × (t : Written) × (slice_get ts k ≡ Some t) × Contains (names t) id

one_later : (names : Written → List Id) (u : Written) (ts : List Written) (id : Id) → IsInOne names ts id → IsInOne names (u ∷ ts) id
one_later names u ts id h = (suc h.0, h.1, h.2, h.3)

pub handles_at : (ts : List Written) (id : Id) → Contains (all_handles ts) id → IsInOne handles ts id
handles_at [] id h = absurd (nothing id h)
handles_at (t ∷ ts) id h = elim (Contains-append_cases (handles t) (all_handles ts) id h) [
  | inl own ↦ (0, t, refl, own)
  | inr far ↦ one_later handles t ts id (handles_at ts id far)
]

abbrev type_words : Written → List Id
type_words t = words (shape_of t)

words_at : (ts : List Written) (id : Id) → Contains (all_words (all_shapes ts)) id → IsInOne type_words ts id
words_at [] id h = absurd (nothing id h)
words_at (t ∷ ts) id h = elim (Contains-append_cases (type_words t) (all_words (all_shapes ts)) id h) [
  | inl own ↦ (0, t, refl, own)
  | inr far ↦ one_later type_words t ts id (words_at ts id far)
]

pub single_is : (x y : Id) → Contains (x ∷ []) y → x ≡ y
single_is x y h =
    let k = at_contains (x ∷ []) y h in
    elim (after_one x [] k.0 y k.1) [
      | inl same ↦ same
      | inr far ↦ absurd (let wrong = far.1 in let f : ⊥ = cc in f)
    ]

-- names of one part, and of two
alone : (l : List Id) (id : Id) → Contains l id → Contains (l ++ []) id
alone l id h = subst (λ (m : List Id). Contains m id) (sym (append-nil l)) h

two : (l m : List Id) (id : Id) → Contains (l ++ m) id → Contains (l ++ (m ++ [])) id
two l m id h = subst (λ (n : List Id). Contains (l ++ n) id) (sym (append-nil m)) h

module _ (word handle : Id → Option Fault) where
  form_legal : (t : Written) → prefix_fault word handle t ≡ None → back_fault t ≡ None → (f : Fault) → IsBrokenForm t f → ⊥
  form_legal (written.Tuple' span shape ts) prefix back f h = (empty_agrees 22 (row_types ts) span).unbroken prefix f h
  form_legal (written.Map' span p key q value) prefix back f h = (key_agrees key span).unbroken back f h
  form_legal t prefix back f h = h

  pub type_legal : (t : Written) (f : Fault) → IsBrokenType t f → type_fault word handle t ≡ None → ⊥
  type_legal t f (Itself broken) none = (let are = none_parts word handle t none in form_legal t are.prefix are.back f broken)
  type_legal t f (Inside {t = part} among broken) none =
      let k = at_contains (part_types t) part among in
      type_legal part f broken (in_only (type_fault word handle) (part_types t) (none_parts word handle t none).parts k.0 part k.1)

  -- a name in a handle: nothing is wrong with it where nothing is wrong before the parts of the type, or it is in a part
  abbrev IsHandle : Written → Id → Type 0
  IsHandle t id = (prefix_fault word handle t ≡ None → handle id ≡ None) ⊎ Contains (all_handles (part_types t)) id

  handle_cases : (t : Written) (id : Id) → Contains (handles t) id → IsHandle t id
  handle_cases (written.Own span name) id h = inl (λ none. ap handle (sym (single_is name id h)) ∙ none)
  handle_cases (written.Borrow span name) id h = inl (λ none. ap handle (sym (single_is name id h)) ∙ none)
  handle_cases (written.List' span p t) id h = inr (alone (handles t) id h)
  handle_cases (written.FixedLengthList' span p t size) id h = inr (alone (handles t) id h)
  handle_cases (written.Map' span p key q value) id h = inr (two (handles key) (handles value) id h)
  handle_cases (written.Option' span p t) id h = inr (alone (handles t) id h)
  handle_cases (written.Tuple' span shape ts) id h = inr (subst (λ (l : List Id). Contains l id) (sym (row_handles_all ts)) h)
  handle_cases (written.Result span Neither) id h = inr h
  handle_cases (written.Result span (Ok' p t)) id h = inr (alone (handles t) id h)
  handle_cases (written.Result span (Err' p t)) id h = inr (alone (handles t) id h)
  handle_cases (written.Result span (Both' p t q u)) id h = inr (two (handles t) (handles u) id h)
  handle_cases (written.Future' span None') id h = inr h
  handle_cases (written.Future' span (Some' p t)) id h = inr (alone (handles t) id h)
  handle_cases (written.Stream' span None') id h = inr h
  handle_cases (written.Stream' span (Some' p t)) id h = inr (alone (handles t) id h)
  handle_cases (written.Primitive span p) id h = inr h
  handle_cases (written.Name name) id h = inr h

  -- a type in which nothing is wrong with such names
  abbrev IsFree : (Written → List Id) → (Id → Option Fault) → Written → Type 0
  IsFree names of t = type_fault word handle t ≡ None → (id : Id) → Contains (names t) id → of id ≡ None

  in_part : (names : Written → List Id) (of : Id → Option Fault) (t : Written) → AllTypes (IsFree names of) (part_types t) → type_fault word handle t ≡ None → (id : Id) → IsInOne names (part_types t) id → of id ≡ None
  in_part names of t parts none id it = type_at (IsFree names of) (part_types t) parts it.0 it.1 it.2 (in_only (type_fault word handle) (part_types t) (none_parts word handle t none).parts it.0 it.1 it.2) id it.3

  handles_step : (t : Written) → AllTypes (IsFree handles handle) (part_types t) → IsFree handles handle t
  handles_step t parts none id h = elim (handle_cases t id h) [
    | inl own ↦ own (none_parts word handle t none).prefix
    | inr far ↦ in_part handles handle t parts none id (handles_at (part_types t) id far)
  ]

  pub handles_free : (t : Written) → IsFree handles handle t
  handles_free t none id h = by_parts (IsFree handles handle) handles_step t none id h

  -- the same of any name, where what is wrong with one by itself is wrong with it in a handle
  module _ (too : (id : Id) → handle id ≡ None → word id ≡ None) where
    abbrev IsWord : Written → Id → Type 0
    IsWord t id = (prefix_fault word handle t ≡ None → word id ≡ None) ⊎ Contains (all_words (all_shapes (part_types t))) id

    word_cases : (t : Written) (id : Id) → Contains (type_words t) id → IsWord t id
    word_cases (written.Name name) id h = inl (λ none. ap word (sym (single_is name id h)) ∙ none)
    word_cases (written.Own span name) id h = inl (λ none. too id (ap handle (sym (single_is name id h)) ∙ none))
    word_cases (written.Borrow span name) id h = inl (λ none. too id (ap handle (sym (single_is name id h)) ∙ none))
    word_cases (written.Tuple' span shape ts) id h = inr (subst (λ (l : List Id). Contains l id) (sym (row_words ts)) h)
    word_cases (written.Result span Neither) id h = inr h
    word_cases (written.Result span (Ok' p t)) id h = inr h
    word_cases (written.Result span (Err' p t)) id h = inr h
    word_cases (written.Result span (Both' p t q u)) id h = inr h
    word_cases (written.Future' span None') id h = inr h
    word_cases (written.Future' span (Some' p t)) id h = inr h
    word_cases (written.Stream' span None') id h = inr h
    word_cases (written.Stream' span (Some' p t)) id h = inr h
    word_cases _ id h = inr h

    words_step : (t : Written) → AllTypes (IsFree type_words word) (part_types t) → IsFree type_words word t
    words_step t parts none id h = elim (word_cases t id h) [
      | inl own ↦ own (none_parts word handle t none).prefix
      | inr far ↦ in_part type_words word t parts none id (words_at (part_types t) id far)
    ]

    pub words_free : (t : Written) → IsFree type_words word t
    words_free t none id h = by_parts (IsFree type_words word) words_step t none id h
