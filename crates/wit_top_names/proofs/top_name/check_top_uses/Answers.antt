use Rattle.std.proofs.Common.{◌≡◌, List, Some, None, refl, sym, ap, ◌∙◌}
use Rattle.wit_syntax.proofs.Common.{AstItem, Item, ToplevelUse, err_from_is_err_and, slice_get, slice_get-get_or}
use Rattle.wit_tree.specs.declared.tree.AstItem.TheVariants as ast
use Rattle.wit_first.specs.FileFaults.{top_fault}
use Rattle.wit_first.proofs.First.{in-all, in-next, reports-in}
use Rattle.wit_top_names.proofs.top_name.check_top_uses.Goals.{in-Use+in_ok-check_top_use, in_default}
use Rattle.wit_top_names.proofs.top_name.check_top_uses.Goals as goal

-- a declaration that is no `use`
other : (is : List Item) (x : AstItem) → ((u : ToplevelUse) → x ≡ ast.Use u → ⊥) → top_fault is x ≡ None
other is (ast.Use u) not = absurd (not u refl)
other is (ast.Interface i) not = refl
other is (ast.World w) not = refl

pub returns-in_err-check_top_use : goal.returns-in_err-check_top_use
returns-in_err-check_top_use g c =
    let q = err_from_is_err_and c.from_residual.result c.from_residual.ensures.1 in
    let xs = c.declarations-items.result.now in
    let i = c.loop-item.item-index in
    let at : slice_get xs i ≡ Some (ast.Use c.in-Use.used) = slice_get-get_or xs i c.item-item.result c.loop-item-test.true ∙ ap Some (sym c.item-item.is ∙ c.in-Use.is) in
    λ is named. rw (← c.declarations-items.ensures, q.1, q.2) (reports-in (top_fault is) xs i (ast.Use c.in-Use.used) _ at (c.loop-item.invariant is named) (c.in_err-check_top_use.ensures is named))

pub loop-item-preserved : goal.loop-item-preserved
loop-item-preserved g c = λ is named. (
    let x = c.item-item.result in
    let right : top_fault is x ≡ None = elim c.match-item.branch [
      | in-Use+in_ok-check_top_use w ↦ ap (top_fault is) w.in-Use.is ∙ w.in_ok-check_top_use.ensures is named
      | in_default w ↦ other is x w.in_default.not-Use
    ] in
    in-next (top_fault is) c.declarations-items.result.now c.loop-item.item-index x c.loop-item-test.true c.item-item.is (c.loop-item.invariant is named) right)

pub returns : goal.returns
returns g c = λ is named. rw (← c.declarations-items.ensures) (in-all (top_fault is) c.declarations-items.result.now c.loop-item.item-index c.loop-item-test.false (c.loop-item.invariant is named))
