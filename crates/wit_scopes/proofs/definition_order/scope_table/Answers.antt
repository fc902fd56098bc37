use Rattle.std.proofs.Common.{◌≡◌, ◌+◌, List, Some, ap, sym, ◌∙◌}
use Rattle.wit_arena.proofs.Common.{Id, fresh_row, map, read_map, row_of, rows_more, rows_of, slice_get, take-map, take_all}
use Rattle.wit_scopes.specs.BorrowedNames.{Borrowed, name_view}
use Rattle.wit_scopes.proofs.definition_order.scope_table.Goals as goal

pub loop-name-preserved : goal.loop-name-preserved
loop-name-preserved c =
    let names = c.args.names.now in
    let xs = map name_view names in
    let i = c.loop-name.name-index in
    let x = name_view c.name-item.result in
    let at : slice_get xs i ≡ Some x = read_map name_view names i c.name-item.result c.loop-name-test.true c.name-item.is in
    rows_more row_of xs i x c.loop-name.table c.put.new.self _ _ at (c.loop-name.invariant ∙ ap rows_of (sym (take-map name_view i names))) (fresh_row row_of xs i x c.requires.distinct at) c.in_ok-put.ensures.ok (ap (λ (id : Id). id.name.now) c.local_id.ensures) c.in_ok-needed.ensures ∙ ap rows_of (take-map name_view (i + 1) names)

pub returns : goal.returns
returns c = record { rows = c.loop-name.invariant ∙ ap (λ (l : List Borrowed). rows_of (map name_view l)) (take_all c.loop-name.name-index c.args.names.now c.loop-name-test.false) }
