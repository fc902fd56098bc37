use Rattle.std.proofs.Common.{◌≡◌, List, ◌++◌, Option, Some, map, sym, ap, ◌∙◌}
use Rattle.wit_syntax.proofs.Common.{Fault, Id, Item, TopName, WorldItem, err_from_is_err_and, flat_map, include_path, slice_get, slice_get-get_or, world_part}
use Rattle.wit_first.specs.FileFaults.{unnamed_fault}
use Rattle.wit_first.specs.First.{first_in}
use Rattle.wit_first.proofs.First.{in-all, in-next, in-parts, reports-in, reports_same}
use Rattle.wit_top_names.specs.Checks.{edges_of}
use Rattle.wit_top_names.proofs.Lost.{edges_more}
use Rattle.wit_files.proofs.item_table.world_edges.Goals as goal

-- of the paths of a part
abbrev wrong : List Item → List TopName → WorldItem → Option Fault
wrong is top p = first_in (unnamed_fault is top) (include_path (world_part p))

-- of those of parts that are read
whole : (is : List Item) (top : List TopName) (xs parts : List WorldItem) → xs ≡ parts → first_in (wrong is top) xs ≡ first_in (unnamed_fault is top) (flat_map include_path (map world_part parts))
whole is top xs parts same = ap (first_in (wrong is top)) same ∙ sym (in-parts (unnamed_fault is top) include_path world_part parts)

pub returns-in_err-add_include-clause-first : goal.returns-in_err-add_include-clause-first
returns-in_err-add_include-clause-first c =
    let p = err_from_is_err_and c.from_residual.result c.from_residual.ensures.1 in
    let xs = c.world_items-part-items.result.now in
    let i = c.loop-part.part-index in
    let x = c.part-item.result in
    let at : slice_get xs i ≡ Some x = slice_get-get_or xs i x c.loop-part-test.true ∙ ap Some (sym c.part-item.is) in
    rw (p.1, p.2) (λ top is named all. reports_same (whole is top xs c.args.world.now.items.items c.world_items-part-items.ensures) (reports-in (wrong is top) xs i x _ at (c.loop-part.invariant.none top is named all) (c.in_err-add_include.ensures.first top is named all)))

pub loop-part-preserved : goal.loop-part-preserved
loop-part-preserved c =
    let xs = c.world_items-part-items.result.now in
    let i = c.loop-part.part-index in
    let x = c.part-item.result in
    let was = c.loop-part.invariant in
    let own = c.in_ok-add_include.ensures in
    record {
      edges = λ top named. own.edges top named ∙ ap (λ (l : List Id). l ++ edges_of top (include_path (world_part x))) (was.edges top named) ∙ sym (edges_more include_path world_part top xs i x c.loop-part-test.true c.part-item.is);
      none = λ top is named all. in-next (wrong is top) xs i x c.loop-part-test.true c.part-item.is (was.none top is named all) (own.first top is named all);
    }

pub returns-clause-first : goal.returns-clause-first
returns-clause-first c = λ top is named all. (
    let xs = c.world_items-part-items.result.now in
    sym (whole is top xs c.args.world.now.items.items c.world_items-part-items.ensures) ∙ in-all (wrong is top) xs c.loop-part.part-index c.loop-part-test.false (c.loop-part.invariant.none top is named all))
