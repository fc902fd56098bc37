use Rattle.std.proofs.Common.{◌≡◌, ◌+◌, ◌++◌, List, ◌∷◌, [], Option, Some, map, take, refl, sym, ap, ◌∙◌}
use Rattle.wit_arena.proofs.Common.{flat_map, part_names, Fault, PackageFile, TheWorld, TopName, err_from_is_err_and, option_map, own_uses, part_uses, slice_get, slice_get-map, slice_get_read, take_all, take_more, world_part}
use Rattle.wit_syntax.proofs.Common.{WorldItem}
use Rattle.wit_first.specs.UseFaults.{use_fault}
use Rattle.wit_first.proofs.First.{in-all, in-following, in-parts, reports-in, reports_same}
use Rattle.wit_items.specs.ItemPaths.{part_view, prefix_of}
use Rattle.wit_items.proofs.PlacedNames.{no_names}
use Rattle.wit_items.proofs.Written.{own_among, parts_more, among_flat, use_has_path}
use Rattle.wit_files.specs.FileNames.{top_at}
use Rattle.wit_items.proofs.part_names.world_names.Goals as goal
use Rattle.wit_first.specs.First.{first_in}

-- of the uses of a part
abbrev wrong : List PackageFile → List TopName → WorldItem → Option Fault
wrong files top x = first_in (use_fault files top) (own_uses (world_part x))

pub loop-part-init : goal.loop-part-init
loop-part-init c = rw c.in_ok-names.ensures.items (record {
  view = refl;
  placed = no_names (prefix_of c.args.files.now);
  none = refl;
})

pub add_part-requires : goal.add_part-requires
add_part-requires c = record {
  paths = λ u among. (
      let xs = c.world_items-written.result.now in
      let i = c.loop-part.part-index in
      let q = part_view c.world_part.result in
      let at : slice_get (map world_part xs) i ≡ Some q = slice_get-map world_part xs i ∙ ap (option_map world_part) (slice_get_read xs _ i c.part-item.result refl c.loop-part-test.true c.part-item.is) ∙ ap Some (sym c.world_part.ensures) in
      use_has_path c.args.files.now c.args.place (TheWorld c.args.world.now) u c.requires.item (rw c.world_items-written.ensures at (among_flat part_uses (map world_part xs) i q u at (own_among q u among))));
}

pub returns-in_err-add_part-clause-first : goal.returns-in_err-add_part-clause-first
returns-in_err-add_part-clause-first c =
    let files = c.args.files.now in
    let top = top_at files c.args.place in
    let p = err_from_is_err_and c.from_residual-in_err-add_part.result c.from_residual-in_err-add_part.ensures.1 in
    let xs = c.world_items-written.result.now in
    let i = c.loop-part.part-index in
    let x = c.part-item.result in
    let own = ap own_uses c.world_part.ensures in
    let at : slice_get xs i ≡ Some x = slice_get_read xs _ i x refl c.loop-part-test.true c.part-item.is in
    rw (p.1, p.2, sym c.world_items-written.ensures) (reports_same (sym (in-parts (use_fault files top) own_uses world_part xs)) (reports-in (wrong files top) xs i x _ at c.loop-part.invariant.none (rw own at c.in_err-add_part.ensures.first)))

pub loop-part-preserved : goal.loop-part-preserved
loop-part-preserved c =
    let files = c.args.files.now in
    let top = top_at files c.args.place in
    let xs = c.world_items-written.result.now in
    let i = c.loop-part.part-index in
    let x = c.part-item.result in
    let was = c.loop-part.invariant in
    let e = c.in_ok-add_part.ensures in
    let more : take (i + 1) xs ≡ take i xs ++ x ∷ [] = take_more xs i x c.loop-part-test.true ∙ ap (λ y. take i xs ++ y ∷ []) (sym c.part-item.is) in
    record {
      view = e.view ∙ ap (λ l. l ++ part_names top (part_view c.world_part.result)) was.view ∙ sym (parts_more (part_names top) world_part (take i xs) (take (i + 1) xs) x (part_view c.world_part.result) more c.world_part.ensures);
      placed = e.placed was.placed;
      none = in-following (wrong files top) xs i x (slice_get_read xs _ i x refl c.loop-part-test.true c.part-item.is) was.none (rw (ap own_uses c.world_part.ensures) at e.first);
    }

pub returns-clause-view : goal.returns-clause-view
returns-clause-view c = c.loop-part.invariant.view ∙ ap (λ l. flat_map (part_names (top_at c.args.files.now c.args.place)) (map world_part l)) (take_all c.loop-part.part-index c.world_items-written.result.now c.loop-part-test.false ∙ c.world_items-written.ensures)

pub returns-clause-placed : goal.returns-clause-placed
returns-clause-placed c = c.loop-part.invariant.placed

pub returns-clause-first : goal.returns-clause-first
returns-clause-first c =
    let files = c.args.files.now in
    let top = top_at files c.args.place in
    let xs = c.world_items-written.result.now in
    rw (sym c.world_items-written.ensures) (in-parts (use_fault files top) own_uses world_part xs ∙ in-all (wrong files top) xs c.loop-part.part-index c.loop-part-test.false c.loop-part.invariant.none)
