use Rattle.std.proofs.Common.{◌≡◌, List, ◌++◌, Option, Some, None, map, sym, ap, ◌∙◌, subst, Vec, Global}
use Rattle.wit_syntax.proofs.Common.{AllDiffer, AstItem, Fault, Id, Item, TheInterface, TheWorld, TopName, declared_items, err_from_is_err_and, flat_map, if◌then◌else◌, include_paths, is_world, item_name, item_row, needed-paths, option_or, rows, slice_get, slice_get-get_or, top_names, use_paths}
use Rattle.wit_tree.specs.declared.tree.AstItem.TheVariants.{Interface as InterfaceItem', World as WorldItem'}
use Rattle.wit_first.specs.FileFaults.{paths_fault, unnamed_fault}
use Rattle.wit_first.specs.First.{first_in}
use Rattle.wit_first.proofs.First.{in-all, in-flat, in-next, or_none, reports-in, reports_same}
use Rattle.wit_files.proofs.Gathering.{item_added, item_skipped}
use Rattle.wit_files.proofs.item_table.add_items.Goals.{in-Interface+in_ok-interface_edges-in-Interface, in-World+in_ok-world_edges-in-World}
use Rattle.wit_files.proofs.item_table.add_items.Goals as goal
use Rattle.wit_top_names.specs.Checks.{edges_of}

-- of the item that a declaration makes
abbrev wrong : List Item → List TopName → AstItem → Option Fault
wrong is top d = first_in (paths_fault is) (declared_items top d)

-- of one that a declaration makes: by its paths
at_item : (is : List Item) (w : Item) → first_in (unnamed_fault is w.top) (if is_world w then include_paths w else use_paths w) ≡ option_or (paths_fault is w) None
at_item is w = ap (first_in (unnamed_fault is w.top)) (sym (needed-paths w)) ∙ sym (or_none (paths_fault is w))

-- of those of declarations that are read
whole : (is : List Item) (top : List TopName) (xs ds : List AstItem) → xs ≡ ds → first_in (wrong is top) xs ≡ first_in (paths_fault is) (flat_map (declared_items top) ds)
whole is top xs ds same = ap (first_in (wrong is top)) same ∙ sym (in-flat (paths_fault is) (declared_items top) ds)

pub returns-in_err-interface_edges-in-Interface-clause-first : goal.returns-in_err-interface_edges-in-Interface-clause-first
returns-in_err-interface_edges-in-Interface-clause-first c =
    let p = err_from_is_err_and c.from_residual.result c.from_residual.ensures.1 in
    let file = c.args.file.now in
    let top = top_names file in
    let xs = c.declarations-items.result.now in
    let i = c.loop-item.item-index in
    let w : Item = record { top = top; declared = TheInterface c.in-Interface.interface } in
    let at : slice_get xs i ≡ Some (InterfaceItem' c.in-Interface.interface) = slice_get-get_or xs i c.item-item.result c.loop-item-test.true ∙ ap Some (sym c.item-item.is ∙ c.in-Interface.is) in
    rw (p.1, p.2) (λ is all. reports_same (whole is top xs file.decl_list.items.items c.declarations-items.ensures) (reports-in (wrong is top) xs i (InterfaceItem' c.in-Interface.interface) _ at (c.loop-item.invariant.none is all) (reports_same (at_item is w) (c.in_err-interface_edges-in-Interface.ensures.first top is c.requires.named all))))

pub returns-in_err-world_edges-in-World-clause-first : goal.returns-in_err-world_edges-in-World-clause-first
returns-in_err-world_edges-in-World-clause-first c =
    let p = err_from_is_err_and c.from_residual-in_err-world_edges-in-World.result c.from_residual-in_err-world_edges-in-World.ensures.1 in
    let file = c.args.file.now in
    let top = top_names file in
    let xs = c.declarations-items.result.now in
    let i = c.loop-item.item-index in
    let w : Item = record { top = top; declared = TheWorld c.in-World.world } in
    let at : slice_get xs i ≡ Some (WorldItem' c.in-World.world) = slice_get-get_or xs i c.item-item.result c.loop-item-test.true ∙ ap Some (sym c.item-item.is ∙ c.in-World.is) in
    rw (p.1, p.2) (λ is all. reports_same (whole is top xs file.decl_list.items.items c.declarations-items.ensures) (reports-in (wrong is top) xs i (WorldItem' c.in-World.world) _ at (c.loop-item.invariant.none is all) (reports_same (at_item is w) (c.in_err-world_edges-in-World.ensures.first top is c.requires.named all))))

pub loop-item-preserved : goal.loop-item-preserved
loop-item-preserved c =
    let top = top_names c.args.file.now in
    let xs = c.declarations-items.result.now in
    let i = c.loop-item.item-index in
    let x = c.item-item.result in
    let was = c.loop-item.invariant in
    let differ = subst (λ (l : List AstItem). AllDiffer (map (λ row. row.name) (rows c.args.table.now) ++ map item_name (flat_map (declared_items top) l))) (sym c.declarations-items.ensures) c.requires.distinct in
    let at : slice_get xs i ≡ Some x = slice_get-get_or xs i x c.loop-item-test.true ∙ ap Some (sym c.item-item.is) in
    record {
      rows = elim c.match-item.branch [
        | in-Interface+in_ok-interface_edges-in-Interface b ↦ item_added top (rows c.args.table.now) xs i x (record { top = top; declared = TheInterface b.in-Interface.interface }) c.loop-item.table c.put.new.self _ _ at (ap (declared_items top) b.in-Interface.is) differ was.rows c.in_ok-put.ensures.ok (ap (λ (p : Id × Vec Id Global). p.0.name.now) b.edges-is) (ap (λ (p : Id × Vec Id Global). p.1.items) b.edges-is ∙ b.in_ok-interface_edges-in-Interface.ensures.edges top c.requires.named ∙ ap (edges_of top) (sym (needed-paths (record { top = top; declared = TheInterface b.in-Interface.interface }))))
        | in-World+in_ok-world_edges-in-World b ↦ item_added top (rows c.args.table.now) xs i x (record { top = top; declared = TheWorld b.in-World.world }) c.loop-item.table c.put.new.self _ _ at (ap (declared_items top) b.in-World.is) differ was.rows c.in_ok-put.ensures.ok (ap (λ (p : Id × Vec Id Global). p.0.name.now) b.edges-is) (ap (λ (p : Id × Vec Id Global). p.1.items) b.edges-is ∙ b.in_ok-world_edges-in-World.ensures.edges top c.requires.named ∙ ap (edges_of top) (sym (needed-paths (record { top = top; declared = TheWorld b.in-World.world }))))
      ];
      none = λ is all. (
          let right : wrong is top x ≡ None = elim c.match-item.branch [
            | in-Interface+in_ok-interface_edges-in-Interface b ↦ ap (wrong is top) b.in-Interface.is ∙ sym (at_item is (record { top = top; declared = TheInterface b.in-Interface.interface })) ∙ b.in_ok-interface_edges-in-Interface.ensures.first top is c.requires.named all
            | in-World+in_ok-world_edges-in-World b ↦ ap (wrong is top) b.in-World.is ∙ sym (at_item is (record { top = top; declared = TheWorld b.in-World.world })) ∙ b.in_ok-world_edges-in-World.ensures.first top is c.requires.named all
          ] in
          in-next (wrong is top) xs i x c.loop-item-test.true c.item-item.is (was.none is all) right);
    }

pub loop-item-preserved-in-Use : goal.loop-item-preserved-in-Use
loop-item-preserved-in-Use c =
    let top = top_names c.args.file.now in
    let xs = c.declarations-items.result.now in
    let i = c.loop-item.item-index in
    let x = c.item-item.result in
    let was = c.loop-item.invariant in
    let at : slice_get xs i ≡ Some x = slice_get-get_or xs i x c.loop-item-test.true ∙ ap Some (sym c.item-item.is) in
    record {
      rows = was.rows ∙ ap (λ (l : List Item). rows c.args.table.now ++ map item_row l) (sym (item_skipped top xs i x at (ap (declared_items top) c.in-Use.is)));
      none = λ is all. in-next (wrong is top) xs i x c.loop-item-test.true c.item-item.is (was.none is all) (ap (wrong is top) c.in-Use.is);
    }

pub returns-clause-first : goal.returns-clause-first
returns-clause-first c = λ is all. (
    let top = top_names c.args.file.now in
    let xs = c.declarations-items.result.now in
    sym (whole is top xs c.args.file.now.decl_list.items.items c.declarations-items.ensures) ∙ in-all (wrong is top) xs c.loop-item.item-index c.loop-item-test.false (c.loop-item.invariant.none is all))
