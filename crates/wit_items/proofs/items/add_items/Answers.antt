use Rattle.std.proofs.Common.{◌≡◌, ◌+◌, ◌++◌, ℕ, None, List, ◌∷◌, [], Option, Some, Contains, map, take, refl, sym, ap, ◌∙◌}
use Rattle.wit_syntax.proofs.Common.{AstItem}
use Rattle.wit_arena.proofs.Common.{Exported, Fault, Imported, Item, PackageFile, ParseError, TheInterface, TheWorld, TopName, append-nil, declared_items, err_from_is_err_and, file_items, flat_map, foreign_interfaces, inline_part_uses, slice_get, slice_get_read, take_more, top_names, visited}
use Rattle.wit_tree.specs.declared.tree.AstItem.TheVariants as ast
use Rattle.wit_first.specs.First.{Reports, first_in}
use Rattle.wit_first.specs.UseFaults.{item_uses_fault}
use Rattle.wit_first.proofs.First.{in-all, in-flat, in-following, or_none, reports-in, reports_same}
use Rattle.wit_files.specs.FileNames.{names_at_top}
use Rattle.wit_top_names.proofs.Lost.{flat_more}
use Rattle.wit_scopes.specs.BorrowedNames.{AreNamesPlaced}
use Rattle.wit_scopes.proofs.Placed.{one_more}
use Rattle.wit_items.specs.BorrowedItems.{inside_view, item_view, Inside}
use Rattle.wit_items.proofs.Inlined.{interface_inside}
use Rattle.wit_items.proofs.PlacedNames.{items_more, none_all, placed_inside}
use Rattle.wit_items.proofs.Written.{use_has_path, declared_among, item_among, item_declared, interface_uses, inside_is}
use Rattle.wit_items.proofs.items.add_items.Goals.{in-Interface+in_ok-interface_names-in-Interface+in_ok-push-in-Interface, in-World+in_ok-names-in-World+in_ok-push-in-World, in-Use}
use Rattle.wit_items.proofs.items.add_items.Goals as goal

-- of the uses of the item that a declaration makes
abbrev wrong : List PackageFile → List TopName → AstItem → Option Fault
wrong files top d = first_in (item_uses_fault files) (declared_items top d)

-- of those of declarations that are read
whole : (files : List PackageFile) (top : List TopName) (xs ds : List AstItem) → xs ≡ ds → first_in (wrong files top) xs ≡ first_in (item_uses_fault files) (flat_map (declared_items top) ds)
whole files top xs ds same = ap (first_in (wrong files top)) same ∙ sym (in-flat (item_uses_fault files) (declared_items top) ds)

-- the fault of the item that a declaration makes, where the ones before make none
made_reported : (files : List PackageFile) (file : PackageFile) (xs : List AstItem) (i : ℕ) (x : AstItem) (w : Item) (own : Option Fault) (e : ParseError) → xs ≡ file.decl_list.items.items → slice_get xs i ≡ Some x → declared_items (top_names file) x ≡ w ∷ [] → item_uses_fault files w ≡ own → first_in (wrong files (top_names file)) (take i xs) ≡ None → Reports own e → Reports (first_in (item_uses_fault files) (file_items file)) e
made_reported files file xs i x w own e all at only is none report =
    let top = top_names file in
    reports_same (whole files top xs file.decl_list.items.items all) (reports-in (wrong files top) xs i x e at none (reports_same (sym (ap (first_in (item_uses_fault files)) only ∙ or_none (item_uses_fault files w) ∙ is)) report))

pub returns-in_err-interface_names-in-Interface-clause-first : goal.returns-in_err-interface_names-in-Interface-clause-first
returns-in_err-interface_names-in-Interface-clause-first c =
    let p = err_from_is_err_and c.from_residual.result c.from_residual.ensures.1 in
    let files = c.args.files.now in
    let top = top_names c.args.file.now in
    let at = slice_get_read c.declarations-declared.result.now _ c.loop-item.item-index c.item-item.result refl c.loop-item-test.true c.item-item.is ∙ ap Some c.in-Interface.is in
    rw (p.1, p.2) (made_reported files c.args.file.now c.declarations-declared.result.now c.loop-item.item-index (ast.Interface c.in-Interface.interface) (record { top = top; declared = TheInterface c.in-Interface.interface }) _ _ c.declarations-declared.ensures at refl (interface_uses files top c.in-Interface.interface) c.loop-item.invariant.none (rw (c.deref.ensures.value, ap names_at_top c.requires.file) at c.in_err-interface_names-in-Interface.ensures.first))

pub returns-in_err-names-in-World-clause-first : goal.returns-in_err-names-in-World-clause-first
returns-in_err-names-in-World-clause-first c =
    let p = err_from_is_err_and c.from_residual-in_err-names-in-World.result c.from_residual-in_err-names-in-World.ensures.1 in
    let w : Item = record { top = top_names c.args.file.now; declared = TheWorld c.in-World.world } in
    let at = slice_get_read c.declarations-declared.result.now _ c.loop-item.item-index c.item-item.result refl c.loop-item-test.true c.item-item.is ∙ ap Some c.in-World.is in
    rw (p.1, p.2) (made_reported c.args.files.now c.args.file.now c.declarations-declared.result.now c.loop-item.item-index (ast.World c.in-World.world) w _ _ c.declarations-declared.ensures at refl refl c.loop-item.invariant.none (rw (ap names_at_top c.requires.file) at c.in_err-names-in-World.ensures.first))

pub interface_names-requires : goal.interface_names-requires
interface_names-requires c = record {
  paths = λ u has. (
      let file = c.args.file.now in
      let xs = c.declarations-declared.result.now in
      let d = TheInterface c.in-Interface.interface in
      let at : slice_get xs c.loop-item.item-index ≡ Some (ast.Interface c.in-Interface.interface) = slice_get_read xs _ c.loop-item.item-index c.item-item.result refl c.loop-item-test.true c.item-item.is ∙ ap Some c.in-Interface.is in
      let here = item_declared c.args.files.now c.args.place file xs c.loop-item.item-index _ d c.requires.file c.declarations-declared.ensures at refl in
      use_has_path c.args.files.now c.args.place d u here (rw (inline_part_uses c.in-Interface.interface.items.items) (rw c.deref.ensures.value at has)));
}

pub names_of_world-requires : goal.names_of_world-requires
names_of_world-requires c =
    let file = c.args.file.now in
    let xs = c.declarations-declared.result.now in
    let at : slice_get xs c.loop-item.item-index ≡ Some (ast.World c.in-World.world) = slice_get_read xs _ c.loop-item.item-index c.item-item.result refl c.loop-item-test.true c.item-item.is ∙ ap Some c.in-World.is in
    item_declared c.args.files.now c.args.place file xs c.loop-item.item-index _ (TheWorld c.in-World.world) c.requires.file c.declarations-declared.ensures at refl

pub loop-item-preserved : goal.loop-item-preserved
loop-item-preserved c =
    let file = c.args.file.now in
    let top = top_names file in
    let xs = c.declarations-declared.result.now in
    let i = c.loop-item.item-index in
    let x = c.item-item.result in
    let before = flat_map (declared_items top) (take i xs) in
    let all = flat_map (declared_items top) (take (i + 1) xs) in
    let old = c.args.items.now.items in
    let out = c.loop-item.items.items in
    let was = c.loop-item.invariant in
    let files = c.args.files.now in
    let top_is = ap names_at_top c.requires.file in
    let prefix = map visited (foreign_interfaces files) in
    let more : take (i + 1) xs ≡ take i xs ++ x ∷ [] = take_more xs i x c.loop-item-test.true ∙ ap (λ y. take i xs ++ y ∷ []) (sym c.item-item.is) in
    let here : slice_get xs i ≡ Some x = slice_get_read xs _ i x refl c.loop-item-test.true c.item-item.is in
    let extended : all ≡ before ++ declared_items top x = flat_more (declared_items top) (take i xs) (take (i + 1) xs) x more in
    elim c.match-item.branch [
      | in-Interface+in_ok-interface_names-in-Interface+in_ok-push-in-Interface b ↦ (
          let w : Item = record { top = top; declared = TheInterface b.in-Interface.interface } in
          let one : all ≡ before ++ w ∷ [] = extended ∙ ap (λ (d : AstItem). before ++ declared_items top d) b.in-Interface.is in
          let at : slice_get xs i ≡ Some (ast.Interface b.in-Interface.interface) = here ∙ ap Some b.in-Interface.is in
          let among : Contains (file_items file) w = rw c.declarations-declared.ensures at (declared_among (declared_items top) xs i _ w at refl) in
          let new = b.in_ok-push-in-Interface.ensures in
          let e = rw (b.deref.ensures.value, top_is) at b.in_ok-interface_names-in-Interface.ensures in
          rw b.items-is (record {
            items = one_more item_view (map item_view old) out _ _ before all w new was.items refl one;
            each = λ before. items_more files out _ _ new (was.each before) (record {
              file = c.requires.file;
              among = item_among files c.args.place file w c.requires.file among;
              named = e.view;
              written = inside_is _ w (ap (map (inside_view w)) b.new.ensures.items ∙ interface_inside Imported w refl) (ap (map (inside_view w)) b.new-in-Interface.ensures.items ∙ interface_inside Exported w refl);
              placed = record { own = e.placed; inside = placed_inside prefix _ (none_all (λ (n : Inside). AreNamesPlaced prefix n.names.items) _ b.new.ensures.items) (none_all (λ (n : Inside). AreNamesPlaced prefix n.names.items) _ b.new-in-Interface.ensures.items) };
            });
            none = in-following (wrong files top) xs i x here was.none (ap (wrong files top) b.in-Interface.is ∙ or_none (item_uses_fault files w) ∙ interface_uses files top b.in-Interface.interface ∙ e.first);
          }))
      | in-World+in_ok-names-in-World+in_ok-push-in-World b ↦ (
          let w : Item = record { top = top; declared = TheWorld b.in-World.world } in
          let one : all ≡ before ++ w ∷ [] = extended ∙ ap (λ (d : AstItem). before ++ declared_items top d) b.in-World.is in
          let at : slice_get xs i ≡ Some (ast.World b.in-World.world) = here ∙ ap Some b.in-World.is in
          let among : Contains (file_items file) w = rw c.declarations-declared.ensures at (declared_among (declared_items top) xs i _ w at refl) in
          let new = b.in_ok-push-in-World.ensures in
          let e = b.in_ok-names-in-World.ensures.names in
          rw b.items-is (record {
            items = one_more item_view (map item_view old) out _ _ before all w new was.items refl one;
            each = λ before. items_more files out _ _ new (was.each before) (record {
              file = c.requires.file;
              among = item_among files c.args.place file w c.requires.file among;
              named = rw top_is at e.own;
              written = inside_is _ w (rw top_is at e.imported) (rw top_is at e.exported);
              placed = record { own = e.own_placed; inside = placed_inside prefix _ e.imported_placed e.exported_placed };
            });
            none = in-following (wrong files top) xs i x here was.none (ap (wrong files top) b.in-World.is ∙ or_none (item_uses_fault files w) ∙ (rw top_is at b.in_ok-names-in-World.ensures.first));
          }))
      | in-Use b ↦ (
          let skipped : all ≡ before = extended ∙ ap (λ (d : AstItem). before ++ declared_items top d) b.in-Use.is ∙ append-nil before in
          rw b.items-is (record {
            items = rw skipped was.items;
            each = was.each;
            none = in-following (wrong files top) xs i x here was.none (ap (wrong files top) b.in-Use.is);
          }))
    ]

pub returns-clause-first : goal.returns-clause-first
returns-clause-first c =
    let files = c.args.files.now in
    let top = top_names c.args.file.now in
    let xs = c.declarations-declared.result.now in
    sym (whole files top xs c.args.file.now.decl_list.items.items c.declarations-declared.ensures) ∙ in-all (wrong files top) xs c.loop-item.item-index c.loop-item-test.false c.loop-item.invariant.none
