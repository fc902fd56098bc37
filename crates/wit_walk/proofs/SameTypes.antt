-- Tests of names that agree on the names in a written type find one fault in it.
use Rattle.std.proofs.Common.{◌≡◌, List, [], ◌∷◌, Option, refl, sym, ap, ◌∙◌, Contains, arith}
use Rattle.wit_syntax.proofs.Common.{Contains-append_left, Contains-append_right, Fault, Id, all_shapes, all_words, option_or, part_types, shape_of, words, «Type» as Written}
use Rattle.wit_type_tree.specs.declared.types.«Type».TheVariants as written
use Rattle.wit_first.specs.First.{first_in}
use Rattle.wit_first.specs.TypeFaults.{type_fault, prefix_fault, back_fault}
use Rattle.wit_first.proofs.TypeFaults.{AllTypes, by_parts, fault_parts}
use Rattle.wit_walk.proofs.TypeFaults.{words_inside}

module _ (word handle word' handle' : Id → Option Fault) where
  -- they agree on these names
  pub record Agree (ids : List Id) : Type 0 where
    pub words : (id : Id) → Contains ids id → word id ≡ word' id
    pub handles : (id : Id) → Contains ids id → handle id ≡ handle' id

  fewer : (ids more : List Id) → ((id : Id) → Contains ids id → Contains more id) → Agree more → Agree ids
  fewer ids more within agree = record { words = λ id among. agree.words id (within id among); handles = λ id among. agree.handles id (within id among) }

  abbrev IsSame : Written → Type 0
  IsSame t = Agree (words (shape_of t)) → type_fault word handle t ≡ type_fault word' handle' t

  prefix_same : (t : Written) → Agree (words (shape_of t)) → prefix_fault word handle t ≡ prefix_fault word' handle' t
  prefix_same (written.Name id) agree = agree.words id (0, omega arith, refl)
  prefix_same (written.Own span id) agree = agree.handles id (0, omega arith, refl)
  prefix_same (written.Borrow span id) agree = agree.handles id (0, omega arith, refl)
  prefix_same (written.Tuple' span shape ts) agree = refl
  prefix_same _ agree = refl

  all_same : (ts : List Written) → AllTypes IsSame ts → Agree (all_words (all_shapes ts)) → first_in (type_fault word handle) ts ≡ first_in (type_fault word' handle') ts
  all_same [] all agree = refl
  all_same (t ∷ ts) all agree =
      let own = words (shape_of t) in
      let rest = all_words (all_shapes ts) in
      let one : type_fault word handle t ≡ type_fault word' handle' t = all.0 (fewer own (all_words (all_shapes (t ∷ ts))) (λ id h. Contains-append_left own rest id h) agree) in
      let others = all_same ts all.1 (fewer rest (all_words (all_shapes (t ∷ ts))) (λ id h. Contains-append_right own rest id h) agree) in
      ap (λ (o : Option Fault). option_or o (first_in (type_fault word handle) ts)) one ∙ ap (option_or (type_fault word' handle' t)) others

  by_step : (t : Written) → AllTypes IsSame (part_types t) → IsSame t
  by_step t parts agree =
      let inside = all_same (part_types t) parts (fewer (all_words (all_shapes (part_types t))) (words (shape_of t)) (words_inside t) agree) in
      fault_parts word handle t
      ∙ ap (λ (o : Option Fault). option_or o (option_or (first_in (type_fault word handle) (part_types t)) (back_fault t))) (prefix_same t agree)
      ∙ ap (λ (o : Option Fault). option_or (prefix_fault word' handle' t) (option_or o (back_fault t))) inside
      ∙ sym (fault_parts word' handle' t)

  pub type_same : (t : Written) → Agree (words (shape_of t)) → type_fault word handle t ≡ type_fault word' handle' t
  type_same t agree = by_parts IsSame by_step t agree

  -- the same of types one after another
  pub types_same : (ts : List Written) → Agree (all_words (all_shapes ts)) → first_in (type_fault word handle) ts ≡ first_in (type_fault word' handle') ts
  types_same [] agree = refl
  types_same (t ∷ ts) agree =
      let own = words (shape_of t) in
      let rest = all_words (all_shapes ts) in
      let one : type_fault word handle t ≡ type_fault word' handle' t = type_same t (fewer own (all_words (all_shapes (t ∷ ts))) (λ id h. Contains-append_left own rest id h) agree) in
      let others = types_same ts (fewer rest (all_words (all_shapes (t ∷ ts))) (λ id h. Contains-append_right own rest id h) agree) in
      ap (λ (o : Option Fault). option_or o (first_in (type_fault word handle) ts)) one ∙ ap (option_or (type_fault word' handle' t)) others
