-- What the first fault of a written type is: something that is wrong with it, or the fault of a name in it.
use Rattle.std.proofs.Common.{◌≡◌, ◌⊎◌, ℕ, zero, suc, List, [], ◌∷◌, ◌++◌, Option, Some, inl, inr, refl, sym, ap, ◌∙◌, subst, Contains, arith}
use Rattle.wit_syntax.proofs.Common.{Both', Contains-append_left, Contains-append_right, Err', Fault, Id, Inside, IsBrokenForm, IsBrokenType, Itself, Neither, None', Ok', Row_of-Type, Some', all_handles, all_shapes, all_words, append-nil, contains_at, end_of-Type, handles, more_of-Type, option_or, part_types, row_handles, row_shapes, row_types, shape_of, slice_get, words, «Type» as Written}
use Rattle.wit_type_tree.specs.declared.types.«Type».TheVariants as written
use Rattle.wit_first.specs.First.{first_in}
use Rattle.wit_first.specs.TypeFaults.{type_fault, prefix_fault, back_fault}
use Rattle.wit_first.proofs.Bridge.{empty_agrees, in_some, key_agrees, or_some}
use Rattle.wit_first.proofs.TypeFaults.{AllTypes, by_parts, fault_parts, type_at}

-- the fault of one of these names, which is one of those too
pub record IsOf (names those : List Id) (of : Id → Option Fault) (f : Fault) : Type 0 where
  pub id : Id
  pub among : Contains names id
  pub too : Contains those id
  pub is : of id ≡ Some f

of_wider : (names those more others : List Id) (of : Id → Option Fault) (f : Fault) → ((id : Id) → Contains names id → Contains more id) → ((id : Id) → Contains those id → Contains others id) → IsOf names those of f → IsOf more others of f
of_wider names those more others of f wider further h = record { id = h.id; among = wider h.id h.among; too = further h.id h.too; is = h.is }

here : (id : Id) (of : Id → Option Fault) (f : Fault) → of id ≡ Some f → IsOf (id ∷ []) (id ∷ []) of f
here id of f is = record { id = id; among = (0, omega arith, refl); too = (0, omega arith, refl); is = is }

-- the names in a type of a list are among those of the list
pub handles_among : (ts : List Written) (k : ℕ) (t : Written) → slice_get ts k ≡ Some t → (id : Id) → Contains (handles t) id → Contains (all_handles ts) id
handles_among [] k t at id h = absurd (let f : ⊥ = cc in f)
handles_among (u ∷ ts) zero t at id h = (let same : u ≡ t = cc in Contains-append_left (handles u) (all_handles ts) id (rw same h))
handles_among (u ∷ ts) (suc k) t at id h = Contains-append_right (handles u) (all_handles ts) id (handles_among ts k t at id h)

pub words_among : (ts : List Written) (k : ℕ) (t : Written) → slice_get ts k ≡ Some t → (id : Id) → Contains (words (shape_of t)) id → Contains (all_words (all_shapes ts)) id
words_among [] k t at id h = absurd (let f : ⊥ = cc in f)
words_among (u ∷ ts) zero t at id h = (let same : u ≡ t = cc in Contains-append_left (words (shape_of u)) (all_words (all_shapes ts)) id (rw same h))
words_among (u ∷ ts) (suc k) t at id h = Contains-append_right (words (shape_of u)) (all_words (all_shapes ts)) id (words_among ts k t at id h)

pub nothing : (id : Id) → Contains [] id → ⊥
nothing id (k, lt, is) = omega arith

-- those in the parts of a type are among those in it
pub row_words : {m : _} (ts : Row_of-Type m) → all_words (all_shapes (row_types ts)) ≡ all_words (row_shapes ts)
row_words end_of-Type = refl
row_words (more_of-Type t rest) = ap (λ (l : List Id). words (shape_of t) ++ l) (row_words rest)

pub words_inside : (t : Written) (id : Id) → Contains (all_words (all_shapes (part_types t))) id → Contains (words (shape_of t)) id
words_inside (written.Name word) id h = absurd (nothing id h)
words_inside (written.Own span word) id h = absurd (nothing id h)
words_inside (written.Borrow span word) id h = absurd (nothing id h)
words_inside (written.Tuple' span shape ts) id h = subst (λ (l : List Id). Contains l id) (row_words ts) h
words_inside (written.Result span Neither) id h = h
words_inside (written.Result span (Ok' p t)) id h = h
words_inside (written.Result span (Err' p t)) id h = h
words_inside (written.Result span (Both' p t q u)) id h = h
words_inside (written.Future' span None') id h = h
words_inside (written.Future' span (Some' p t)) id h = h
words_inside (written.Stream' span None') id h = h
words_inside (written.Stream' span (Some' p t)) id h = h
words_inside _ id h = h

pub row_handles_all : {m : _} (ts : Row_of-Type m) → all_handles (row_types ts) ≡ row_handles ts
row_handles_all end_of-Type = refl
row_handles_all (more_of-Type t rest) = ap (λ (l : List Id). handles t ++ l) (row_handles_all rest)

single : (l : List Id) (id : Id) → Contains (l ++ []) id → Contains l id
single l id h = subst (λ (m : List Id). Contains m id) (append-nil l) h

both : (l m : List Id) (id : Id) → Contains (l ++ (m ++ [])) id → Contains (l ++ m) id
both l m id h = subst (λ (n : List Id). Contains (l ++ n) id) (append-nil m) h

handles_inside : (t : Written) (id : Id) → Contains (all_handles (part_types t)) id → Contains (handles t) id
handles_inside (written.Own span word) id h = absurd (nothing id h)
handles_inside (written.Borrow span word) id h = absurd (nothing id h)
handles_inside (written.List' span p t) id h = single (handles t) id h
handles_inside (written.FixedLengthList' span p t size) id h = single (handles t) id h
handles_inside (written.Map' span p key q value) id h = both (handles key) (handles value) id h
handles_inside (written.Option' span p t) id h = single (handles t) id h
handles_inside (written.Tuple' span shape ts) id h = subst (λ (l : List Id). Contains l id) (row_handles_all ts) h
handles_inside (written.Result span Neither) id h = h
handles_inside (written.Result span (Ok' p t)) id h = single (handles t) id h
handles_inside (written.Result span (Err' p t)) id h = single (handles t) id h
handles_inside (written.Result span (Both' p t q u)) id h = both (handles t) (handles u) id h
handles_inside (written.Future' span None') id h = h
handles_inside (written.Future' span (Some' p t)) id h = single (handles t) id h
handles_inside (written.Stream' span None') id h = h
handles_inside (written.Stream' span (Some' p t)) id h = single (handles t) id h
handles_inside _ id h = h

module _ (word handle : Id → Option Fault) where
  -- what the first fault of a type may be
  abbrev pub IsWrong : Written → Fault → Type 0
  IsWrong t f = IsBrokenType t f ⊎ (IsOf (words (shape_of t)) (words (shape_of t)) word f ⊎ IsOf (handles t) (words (shape_of t)) handle f)

  prefix_wrong : (t : Written) (f : Fault) → prefix_fault word handle t ≡ Some f → IsWrong t f
  prefix_wrong (written.Name id) f h = inr (inl (here id word f h))
  prefix_wrong (written.Own span id) f h = inr (inr (here id handle f h))
  prefix_wrong (written.Borrow span id) f h = inr (inr (here id handle f h))
  prefix_wrong (written.Tuple' span shape ts) f h = inl (Itself ((empty_agrees 22 (row_types ts) span).broken f h))
  prefix_wrong _ f h = absurd (let g : ⊥ = cc in g)

  back_wrong : (t : Written) (f : Fault) → back_fault t ≡ Some f → IsBrokenForm t f
  back_wrong (written.Map' span p key q value) f h = (key_agrees key span).broken f h
  back_wrong _ f h = absurd (let g : ⊥ = cc in g)

  part_wrong : (t u : Written) (k : ℕ) (f : Fault) → slice_get (part_types t) k ≡ Some u → IsWrong u f → IsWrong t f
  part_wrong t u k f at (inl broken) = inl (Inside (contains_at (part_types t) k u at) broken)
  part_wrong t u k f at (inr (inl name)) = inr (inl (of_wider (words (shape_of u)) (words (shape_of u)) (words (shape_of t)) (words (shape_of t)) word f (λ id h. words_inside t id (words_among (part_types t) k u at id h)) (λ id h. words_inside t id (words_among (part_types t) k u at id h)) name))
  part_wrong t u k f at (inr (inr name)) = inr (inr (of_wider (handles u) (words (shape_of u)) (handles t) (words (shape_of t)) handle f (λ id h. handles_inside t id (handles_among (part_types t) k u at id h)) (λ id h. words_inside t id (words_among (part_types t) k u at id h)) name))

  abbrev IsStated : Written → Type 0
  IsStated t = (f : Fault) → type_fault word handle t ≡ Some f → IsWrong t f

  by_step : (t : Written) → AllTypes IsStated (part_types t) → IsStated t
  by_step t parts f h =
      let inside = first_in (type_fault word handle) (part_types t) in
      elim (or_some (prefix_fault word handle t) (option_or inside (back_fault t)) f (sym (fault_parts word handle t) ∙ h)) [
        | inl prefix ↦ prefix_wrong t f prefix
        | inr later ↦ elim (or_some inside (back_fault t) f later.1) [
          | inl part ↦ (
              let it = in_some (type_fault word handle) (part_types t) f part in
              part_wrong t it.1 it.0 f it.2 (type_at IsStated (part_types t) parts it.0 it.1 it.2 f it.3))
          | inr back ↦ inl (Itself (back_wrong t f back.1))
        ]
      ]

  pub type_wrong : (t : Written) (f : Fault) → type_fault word handle t ≡ Some f → IsWrong t f
  type_wrong t f h = by_parts IsStated by_step t f h
