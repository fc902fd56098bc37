-- Where the walk finds no setter without its getter, each has one.
use Rattle.std.proofs.Common.{◌≡◌, ◌&&◌, not, List, None, inl, inr, ap, subst, [], length, ◌==◌}
use Rattle.wit_syntax.proofs.Common.{Exported, Fault, Imported, Include, IsSetterAlone, Item, SourceFunction, WorldSide, and_from, any_found, at_contains, bytes_eq, cases_Bool, contains_at, functions, getter_of, if◌then◌else◌, list_any, lone_setter, name_equal, not_from_false, on_side, option_or}
use Rattle.wit_first.proofs.Bridge.{in_only, or_none_both}
use Rattle.wit_walk.specs.Setters.{is_setter, setter_fault, setters_fault, side_setters_fault}
use Rattle.wit_walk.proofs.ScopeFaults.{if_none}

side_none : (i : Item) → option_or (side_setters_fault i Imported) (side_setters_fault i Exported) ≡ None → (side : WorldSide) → side_setters_fault i side ≡ None
side_none i none Imported = (or_none_both (side_setters_fault i Imported) (side_setters_fault i Exported) none).0
side_none i none Exported = (or_none_both (side_setters_fault i Imported) (side_setters_fault i Exported) none).1

pub setters_legal : (i : Item) → setters_fault i ≡ None → (f : Fault) → IsSetterAlone i f → ⊥
setters_legal i none f (empty, side, (fn, among, is, alone, says)) =
    let fns = on_side side (functions i) in
    let right = side_none i (subst (λ (ns : List Include). (if length ns == 0 then option_or (side_setters_fault i Imported) (side_setters_fault i Exported) else None) ≡ None) empty none) side in
    let k = at_contains fns fn among in
    let test = λ (g : SourceFunction). bytes_eq g.name (getter_of fn.name) in
    elim (cases_Bool (list_any test fns)) [
      | inl hit ↦ (let it = any_found test fns hit in alone it.1 (contains_at fns it.0 it.1 it.2) (name_equal it.1.name (getter_of fn.name) it.3))
      | inr miss ↦ if_none (is_setter fn.func.form && not (list_any test fns)) (lone_setter fn.name fn.span) (in_only (setter_fault fns) fns right k.0 fn k.1) (and_from (is_setter fn.func.form) (not (list_any test fns)) (ap is_setter is) (not_from_false (list_any test fns) miss))
    ]
