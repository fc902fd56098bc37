-- The names of functions: where no two keys of a scope are one, no two of them are.
use Rattle.std.proofs.Common.{◌≡◌, ℕ, suc, ◌+◌, false, List, [], ◌∷◌, ◌++◌, length, map, Some, inl, inr, refl, sym, ap, ◌∙◌, subst, arith, nat_eq}
use Rattle.wit_arena.proofs.Names.{AllByRecursion, AllDiffer, Called, Function, HaveDistinctNames, ScopeName, SideFunction, SourceFunction, WorldSide, at_back, by_name, called_functions, called_key, differ_at, differ_by, differ_head, differ_tail, flat_map, folded_key, function_called, function_name, in_turn, items_on, name_called, name_cases, name_in, names_on, on_side, option_map, pointwise, side_called, slice_get, slice_get-map}
use Rattle.std.specs.List.{IsDistinct}

-- where the keys on a side of a scope differ on which only functions come after names, so do the names of these
pub names_differ : (side : WorldSide) (xs : List ScopeName) (fns : List SourceFunction) (order : List ℕ) → AllDiffer (map called_key (side_called side xs (items_on side (map SideFunction fns)) order)) → AllDiffer (map function_name (on_side side fns))
names_differ side xs fns order keys = differ_by function_name (on_side side fns) (λ i j x y at_x at_y same. (
    let names = map name_called (names_on side (in_turn xs order)) in
    let ours = on_side side fns in
    let all = names ++ map function_called ours in
    let whole : side_called side xs (items_on side (map SideFunction fns)) order ≡ all = ap (λ (l : List Called). names ++ l) (called_functions side fns) in
    let apart : AllDiffer (map called_key all) = subst (λ (l : List Called). AllDiffer (map called_key l)) whole keys in
    let places = differ_at called_key all apart (length names + i) (length names + j) (function_called x) (function_called y) (at_back names (map function_called ours) i (function_called x) (slice_get-map function_called ours i ∙ ap (option_map function_called) at_x)) (at_back names (map function_called ours) j (function_called y) (slice_get-map function_called ours j ∙ ap (option_map function_called) at_y)) (ap folded_key same) in
    omega arith))

-- functions of the package have the names of the written ones
abbrev pub made_name : Function → List ℕ
made_name f = f.name

-- each of these has another name
all_apart : (f : Function) (fs : List Function) → ((i : ℕ) (g : Function) → slice_get fs i ≡ Some g → made_name g ≡ f.name → ⊥) → AllByRecursion (λ n. pointwise nat_eq f.name n ≡ false) (map made_name fs)
all_apart f [] fresh = tt
all_apart f (g ∷ fs) fresh = elim (name_cases f.name g.name) [
  | inl same ↦ absurd (fresh 0 g refl (sym same))
  | inr other ↦ (other, all_apart f fs (λ i h at. fresh (suc i) h at))
]

as_stated : (fs : List Function) → flat_map (λ (e : List ℕ × Function). name_in (Some e.1)) (map by_name fs) ≡ map made_name fs
as_stated [] = refl
as_stated (f ∷ fs) = ap (λ (l : List (List ℕ)). f.name ∷ l) (as_stated fs)

distinct : (fs : List Function) → AllDiffer (map made_name fs) → IsDistinct (pointwise nat_eq) (map made_name fs)
unfolding IsDistinct
distinct [] d = tt
distinct (f ∷ fs) d = (all_apart f fs (differ_head made_name f fs d), distinct fs (differ_tail made_name f fs d))

-- functions whose names differ have distinct names, as setters to be placed want them
pub names_distinct : (fs : List Function) → AllDiffer (map made_name fs) → HaveDistinctNames Some (map by_name fs)
names_distinct fs d = subst (IsDistinct (pointwise nat_eq)) (sym (as_stated fs)) (distinct fs d)
