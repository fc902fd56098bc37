use Rattle.std.proofs.Common.{◌≡◌, Some, ap, sym, ◌∙◌, length, map}
use Rattle.wit_arena.proofs.Common.{read_map, slice_get}
use Rattle.wit_scopes.specs.BorrowedNames.{name_view}
use Rattle.wit_scopes.proofs.Placed.{none_more, some_needed}
use Rattle.wit_scopes.proofs.definition_order.need_none.Goals as goal

pub returns-then-as_slice-ne0 : goal.returns-then-as_slice-ne0
returns-then-as_slice-ne0 c =
    let names = c.args.names.now in
    let i = c.loop-name.name-index in
    let x = name_view c.name-item.result in
    let at : slice_get (map name_view names) i ≡ Some x = read_map name_view names i c.name-item.result c.loop-name-test.true c.name-item.is in
    some_needed (map name_view names) i (length c.as_slice.result.now) x at (ap length (sym c.in_ok-needed.ensures) ∙ ap length (sym c.as_slice.ensures.value)) c.if-as_slice-ne0.true

pub loop-name-preserved : goal.loop-name-preserved
loop-name-preserved c =
    let names = c.args.names.now in
    let i = c.loop-name.name-index in
    let x = name_view c.name-item.result in
    let at : slice_get (map name_view names) i ≡ Some x = read_map name_view names i c.name-item.result c.loop-name-test.true c.name-item.is in
    none_more (map name_view names) i x c.loop-name.invariant at (ap length (sym c.in_ok-needed.ensures) ∙ ap length (sym c.as_slice.ensures.value) ∙ c.if-as_slice-ne0.false)
