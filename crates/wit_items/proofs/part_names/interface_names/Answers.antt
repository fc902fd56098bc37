use Rattle.std.proofs.Common.{◌≡◌, ◌+◌, ◌++◌, List, ◌∷◌, [], Option, Some, map, take, refl, sym, ap, ◌∙◌}
use Rattle.wit_arena.proofs.Common.{flat_map, part_names, Fault, InterfaceItem, PackageFile, TopName, err_from_is_err_and, interface_part, option_map, own_uses, slice_get, slice_get-map, slice_get_read, take_all, take_more}
use Rattle.wit_first.specs.UseFaults.{use_fault}
use Rattle.wit_first.proofs.First.{in-all, in-following, in-parts, reports-in, reports_same}
use Rattle.wit_items.specs.ItemPaths.{part_view, prefix_of}
use Rattle.wit_items.proofs.Written.{parts_more, among_flat}
use Rattle.wit_items.proofs.PlacedNames.{no_names}
use Rattle.wit_files.specs.FileNames.{top_at}
use Rattle.wit_items.proofs.part_names.interface_names.Goals as goal
use Rattle.wit_first.specs.First.{first_in}

-- of the uses of an item
abbrev wrong : List PackageFile → List TopName → InterfaceItem → Option Fault
wrong files top x = first_in (use_fault files top) (own_uses (interface_part x))

pub loop-part-init : goal.loop-part-init
loop-part-init c = rw c.in_ok-names.ensures.items (record {
  view = refl;
  placed = no_names (prefix_of c.args.files.now);
  none = refl;
})

pub add_part-requires : goal.add_part-requires
add_part-requires c = record {
  paths = λ u among. (
      let xs = c.args.items.now in
      let i = c.loop-part.part-index in
      let x = c.part-item.result in
      let at : slice_get (map interface_part xs) i ≡ Some (interface_part x) = slice_get-map interface_part xs i ∙ ap (option_map interface_part) (slice_get_read xs _ i x refl c.loop-part-test.true c.part-item.is) in
      c.requires.paths u (among_flat own_uses (map interface_part xs) i (interface_part x) u at (rw c.interface_part.ensures at among)));
}

pub returns-in_err-add_part-clause-first : goal.returns-in_err-add_part-clause-first
returns-in_err-add_part-clause-first c =
    let files = c.args.files.now in
    let top = top_at files c.args.place in
    let p = err_from_is_err_and c.from_residual-in_err-add_part.result c.from_residual-in_err-add_part.ensures.1 in
    let xs = c.args.items.now in
    let i = c.loop-part.part-index in
    let x = c.part-item.result in
    let own = ap own_uses c.interface_part.ensures in
    let at : slice_get xs i ≡ Some x = slice_get_read xs _ i x refl c.loop-part-test.true c.part-item.is in
    rw (p.1, p.2) (reports_same (sym (in-parts (use_fault files top) own_uses interface_part xs)) (reports-in (wrong files top) xs i x _ at c.loop-part.invariant.none (rw own at c.in_err-add_part.ensures.first)))

pub loop-part-preserved : goal.loop-part-preserved
loop-part-preserved c =
    let files = c.args.files.now in
    let top = top_at files c.args.place in
    let xs = c.args.items.now in
    let i = c.loop-part.part-index in
    let x = c.part-item.result in
    let was = c.loop-part.invariant in
    let e = c.in_ok-add_part.ensures in
    let own = ap own_uses c.interface_part.ensures in
    let more : take (i + 1) xs ≡ take i xs ++ x ∷ [] = take_more xs i x c.loop-part-test.true ∙ ap (λ y. take i xs ++ y ∷ []) (sym c.part-item.is) in
    record {
      view = e.view ∙ ap (λ l. l ++ part_names top (part_view c.interface_part.result)) was.view ∙ sym (parts_more (part_names top) interface_part (take i xs) (take (i + 1) xs) x (part_view c.interface_part.result) more c.interface_part.ensures);
      placed = e.placed was.placed;
      none = in-following (wrong files top) xs i x (slice_get_read xs _ i x refl c.loop-part-test.true c.part-item.is) was.none (rw own at e.first);
    }

pub returns-clause-view : goal.returns-clause-view
returns-clause-view c = c.loop-part.invariant.view ∙ ap (λ l. flat_map (part_names (top_at c.args.files.now c.args.place)) (map interface_part l)) (take_all c.loop-part.part-index c.args.items.now c.loop-part-test.false)

pub returns-clause-placed : goal.returns-clause-placed
returns-clause-placed c = c.loop-part.invariant.placed

pub returns-clause-first : goal.returns-clause-first
returns-clause-first c =
    let files = c.args.files.now in
    let top = top_at files c.args.place in
    let xs = c.args.items.now in
    in-parts (use_fault files top) own_uses interface_part xs ∙ in-all (wrong files top) xs c.loop-part.part-index c.loop-part-test.false c.loop-part.invariant.none
