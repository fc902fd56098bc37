-- Repeats among the keys of items.
use Rattle.std.proofs.Common.{◌≡◌, ℕ, ◌+◌, List, [], ◌∷◌, ◌++◌, length, Some, inl, inr, sym, ap, ◌∙◌, arith}
use Rattle.std.specs.Prelude.{slice_get, map, codes}
use Rattle.std.specs.Option.{option_map}
use Rattle.std.proofs.lemmas.Option.{slice_get-map}
use Rattle.wit_syntax.specs.Bodies.{IsRepeated}
use Rattle.wit_syntax.specs.Repeats.{AllDiffer}
use Rattle.wit_syntax.specs.SignatureRules.{Called}
use Rattle.wit_syntax.specs.Function.{SourceFunction}
use Rattle.wit_names.specs.Folded.{folded_key}
use Rattle.wit_syntax.proofs.Lists.{at_either, at_split, map_at}

-- a function by its name, and the key by which names of a scope are distinguished
abbrev pub function_called : SourceFunction → Called
function_called fn = record { name = fn.name; span = fn.span; sort = codes "func" }

abbrev pub called_key : Called → List ℕ
called_key c = folded_key c.name

pub key_at : {X : Type 0} (key : X → List ℕ) (xs : List X) (i : ℕ) (x : X) → slice_get xs i ≡ Some x → slice_get (map key xs) i ≡ Some (key x)
key_at key xs i x h = slice_get-map key xs i ∙ ap (option_map key) h

-- where all keys differ, no item has the key of an earlier one
pub no_repeat : {X : Type 0} (key : X → List ℕ) (xs : List X) (later : X) → AllDiffer (map key xs) → IsRepeated key xs later → ⊥
no_repeat key xs later d r =
    let same = d.differ r.0 r.1 (key r.3) (key_at key xs r.0 r.3 r.4) (key_at key xs r.1 later r.5 ∙ ap Some (sym r.6)) in
    let before = r.2 in
    omega arith

-- where all keys differ, items of one key are one item
pub differ_at : {X K : Type 0} (key : X → K) (xs : List X) → AllDiffer (map key xs) → (i j : ℕ) (x y : X) → slice_get xs i ≡ Some x → slice_get xs j ≡ Some y → key x ≡ key y → i ≡ j
differ_at key xs d i j x y at_i at_j same = d.differ i j (key x) (slice_get-map key xs i ∙ ap (option_map key) at_i) (slice_get-map key xs j ∙ ap (option_map key) at_j ∙ ap Some (sym same))

pub differ_by : {X K : Type 0} (key : X → K) (xs : List X) → ((i j : ℕ) (x y : X) → slice_get xs i ≡ Some x → slice_get xs j ≡ Some y → key x ≡ key y → i ≡ j) → AllDiffer (map key xs)
differ_by key xs one = record {
  differ = λ i j k at_i at_j. (
      let x = map_at key xs i k at_i in
      let y = map_at key xs j k at_j in
      one i j x.0 y.0 x.1 y.1 (x.2 ∙ sym y.2));
}

pub differ_none : {X : Type 0} → AllDiffer {X = X} []
differ_none = record { differ = λ i j x at_i at_j. absurd (let f : ⊥ = cc in f) }

-- one more that is none of them
pub differ_more : {X : Type 0} (xs : List X) (x : X) → AllDiffer xs → ((i : ℕ) → slice_get xs i ≡ Some x → ⊥) → AllDiffer (xs ++ x ∷ [])
differ_more xs x d new = record {
  differ = λ i j y at_i at_j. elim (at_either xs x i y at_i) [
    | inl old_i ↦ elim (at_either xs x j y at_j) [
      | inl old_j ↦ d.differ i j y old_i old_j
      | inr new_j ↦ absurd (new i (old_i ∙ ap Some new_j.1))
    ]
    | inr new_i ↦ elim (at_either xs x j y at_j) [
      | inl old_j ↦ absurd (new j (old_j ∙ ap Some new_i.1))
      | inr new_j ↦ new_i.0 ∙ sym new_j.0
    ]
  ];
}

-- two lists, where nothing of the one is in the other
pub differ_join : {X : Type 0} (xs ys : List X) → AllDiffer xs → AllDiffer ys → ((i j : ℕ) (x : X) → slice_get xs i ≡ Some x → slice_get ys j ≡ Some x → ⊥) → AllDiffer (xs ++ ys)
differ_join xs ys a b apart = record {
  differ = λ i j x at_i at_j. elim (at_split xs ys i x at_i) [
    | inl prefix_i ↦ elim (at_split xs ys j x at_j) [
      | inl prefix_j ↦ a.differ i j x prefix_i prefix_j
      | inr back_j ↦ absurd (apart i back_j.0 x prefix_i back_j.2)
    ]
    | inr back_i ↦ elim (at_split xs ys j x at_j) [
      | inl prefix_j ↦ absurd (apart j back_i.0 x prefix_j back_i.2)
      | inr back_j ↦ back_i.1 ∙ ap (λ n. length xs + n) (b.differ back_i.0 back_j.0 x back_i.2 back_j.2) ∙ sym back_j.1
    ]
  ];
}
