use Rattle.std.proofs.Common.{◌≡◌, ◌+◌, ◌++◌, List, [], ◌∷◌, Option, Some, Bor, Contains, length, map, take, refl, sym, ap, ◌∙◌}
use Rattle.wit_arena.proofs.Common.{Extern, ExternKind, Fault, InterfaceItem, Item, PackageFile, Part, ScopeName, SideItem, TheWorld, TopName, WorldSide, append-nil, err_from_is_err_and, extern_items, flat_map, inline_item, inline_uses, map-append, option_copied, option_map, option_map_or, part_uses, slice_get, slice_get-map, slice_get_read, take_all, take_more, world_part}
use Rattle.wit_syntax.proofs.Common.{Use, WorldItem}
use Rattle.wit_syntax.proofs.Inline.{inlined}
use Rattle.wit_first.specs.First.{first_in}
use Rattle.wit_first.specs.UseFaults.{use_fault}
use Rattle.wit_first.proofs.First.{in-all, in-following, in-parts, reports-in, reports_same}
use Rattle.wit_files.specs.FileNames.{top_at}
use Rattle.wit_scopes.specs.BorrowedNames.{AreNamesPlaced}
use Rattle.wit_items.specs.ItemPaths.{HasPath, item_in, prefix_of}
use Rattle.wit_items.specs.BorrowedItems.{Inside, inside_view, side_uses, with_names}
use Rattle.wit_items.proofs.PlacedNames.{all_more}
use Rattle.wit_items.proofs.Inlined.{inline_from, inside_more, numbered, one_counted}
use Rattle.wit_items.proofs.Written.{among_flat, extern_uses, part_on, parts_more, parts_on, side_among, use_has_path, uses_written, written_uses}
use Rattle.wit_items.proofs.inline_names.names_inside.Goals.{in-Interface+in_ok-names-in-Interface+in_ok-push_few-in-Interface, in-Path, in-Func, in-NamedPath}
use Rattle.wit_items.proofs.inline_names.names_inside.Goals as goal

-- of the uses of the interface that is written in a part
abbrev wrong : List PackageFile → List TopName → WorldSide → WorldItem → Option Fault
wrong files top side x = first_in (use_fault files top) (side_uses side (world_part x))

-- the interfaces that are lent
abbrev lent : Option (Bor Extern) → List SideItem
lent o = option_map_or (λ (x : Extern). extern_items x x.kind) (option_copied o) []

-- the uses of a part are those of the interface that it is on the side
uses_of : (side : WorldSide) (p : Part) (x : Extern) → part_on side p ≡ extern_items x x.kind → side_uses side p ≡ inline_uses x.kind
uses_of side p x is = uses_written side p ∙ ap (flat_map written_uses) is ∙ extern_uses x x.kind

pub interface_names-requires : goal.interface_names-requires
interface_names-requires c =
    let xs = c.world_items-part-items.result.now in
    let i = c.loop-part.part-index in
    let p = world_part c.part-item.result in
    let y = c.in-Some.written.now in
    let at : slice_get (map world_part xs) i ≡ Some p = slice_get-map world_part xs i ∙ ap (option_map world_part) (slice_get_read xs _ i c.part-item.result refl c.loop-part-test.true c.part-item.is) in
    let uses = uses_of c.args.side p y (c.interface_on.ensures ∙ ap lent c.in-Some.is) in
    let all : (u : Use) → Contains (inline_uses y.kind) u → HasPath c.args.files.now c.args.place u.from = λ u among. use_has_path c.args.files.now c.args.place (TheWorld c.args.world.now) u c.requires.item (rw c.world_items-part-items.ensures at (among_flat part_uses (map world_part xs) i p u at (side_among c.args.side p u (rw (sym uses) at among)))) in
    record { paths = rw c.deref-items.ensures.value (rw c.in-Interface.is at all) }

pub returns-in_err-names-in-Interface-clause-first : goal.returns-in_err-names-in-Interface-clause-first
returns-in_err-names-in-Interface-clause-first c =
    let files = c.args.files.now in
    let found = first_in (use_fault files (top_at files c.args.place)) in
    let e = err_from_is_err_and c.from_residual.result c.from_residual.ensures.1 in
    let side = c.args.side in
    let xs = c.world_items-part-items.result.now in
    let i = c.loop-part.part-index in
    let x = c.part-item.result in
    let at : slice_get xs i ≡ Some x = slice_get_read xs _ i x refl c.loop-part-test.true c.part-item.is in
    let uses = uses_of side (world_part x) c.in-Some.written.now (c.interface_on.ensures ∙ ap lent c.in-Some.is) in
    rw (e.1, e.2, sym c.world_items-part-items.ensures) (reports_same (sym (in-parts (use_fault files (top_at files c.args.place)) (side_uses side) world_part xs)) (reports-in (wrong files (top_at files c.args.place) side) xs i x _ at c.loop-part.invariant.none (reports_same (sym (ap found (uses ∙ ap inline_uses c.in-Interface.is))) (rw c.deref-items.ensures.value at c.in_err-names-in-Interface.ensures.first))))

pub loop-part-preserved : goal.loop-part-preserved
loop-part-preserved c =
    let files = c.args.files.now in
    let found = first_in (use_fault files (top_at files c.args.place)) in
    let side = c.args.side in
    let w : Item = item_in files c.args.place (TheWorld c.args.world.now) in
    let xs = c.world_items-part-items.result.now in
    let i = c.loop-part.part-index in
    let x = c.part-item.result in
    let p = world_part x in
    let y = c.in-Some.written.now in
    let was = c.loop-part.invariant in
    let more : take (i + 1) xs ≡ take i xs ++ x ∷ [] = take_more xs i x c.loop-part-test.true ∙ ap (λ y. take i xs ++ y ∷ []) (sym c.part-item.is) in
    let before = flat_map (part_on side) (map world_part (take i xs)) in
    let after = flat_map (part_on side) (map world_part (take (i + 1) xs)) in
    let is : part_on side p ≡ extern_items y y.kind = c.interface_on.ensures ∙ ap lent c.in-Some.is in
    let one : after ≡ before ++ extern_items y y.kind = parts_more (part_on side) world_part (take i xs) (take (i + 1) xs) x p more refl ∙ ap (λ (l : List SideItem). before ++ l) is in
    let at : slice_get xs i ≡ Some x = slice_get_read xs _ i x refl c.loop-part-test.true c.part-item.is in
    let old = c.loop-part.inside.items in
    let n = c.loop-part.before in
    let kept = sym (append-nil (map (inside_view w) old)) in
    let adds : map (inside_view w) c.match-written.inside.items ≡ map (inside_view w) old ++ map with_names (flat_map (inline_item w n) (extern_items y y.kind)) = elim c.match-written.branch [
      | in-Interface+in_ok-names-in-Interface+in_ok-push_few-in-Interface b ↦ (
          let of = λ (l : List InterfaceItem). inlined w n y b.in-Interface.name l in
          let named = ap (λ (names : List ScopeName). map (inside_view w) old ++ (of b.deref-items.result.now, names) ∷ []) b.in_ok-names-in-Interface.ensures.view in
          let written = ap (λ (l : List InterfaceItem). map (inside_view w) old ++ with_names (of l) ∷ []) b.deref-items.ensures.value in
          rw b.inside-is (ap (map (inside_view w)) b.in_ok-push_few-in-Interface.ensures ∙ map-append (inside_view w) old (_ ∷ []) ∙ named ∙ written ∙ ap (λ (k : ExternKind). map (inside_view w) old ++ map with_names (flat_map (inline_item w n) (extern_items y k))) (sym b.in-Interface.is)))
      | in-Path b ↦ rw (b.inside-is, b.in-Path.is) kept
      | in-Func b ↦ rw (b.inside-is, b.in-Func.is) kept
      | in-NamedPath b ↦ rw (b.inside-is, b.in-NamedPath.is) kept
    ] in
    record {
      counted = one_counted w before after y n one was.counted _ c.in_ok-before.ensures;
      are = inside_more w before after y n one was.counted old _ was.are adds;
      placed = elim c.match-written.branch [
        | in-Interface+in_ok-names-in-Interface+in_ok-push_few-in-Interface b ↦ rw b.inside-is (all_more (λ (n : Inside). AreNamesPlaced (prefix_of files) n.names.items) old _ _ b.in_ok-push_few-in-Interface.ensures was.placed b.in_ok-names-in-Interface.ensures.placed)
        | in-Path b ↦ rw b.inside-is was.placed
        | in-Func b ↦ rw b.inside-is was.placed
        | in-NamedPath b ↦ rw b.inside-is was.placed
      ];
      none = in-following (wrong files (top_at files c.args.place) side) xs i x at was.none (ap found (uses_of side p y is) ∙ elim c.match-written.branch [
        | in-Interface+in_ok-names-in-Interface+in_ok-push_few-in-Interface b ↦ rw b.in-Interface.is (rw b.deref-items.ensures.value at b.in_ok-names-in-Interface.ensures.first)
        | in-Path b ↦ rw b.in-Path.is refl
        | in-Func b ↦ rw b.in-Func.is refl
        | in-NamedPath b ↦ rw b.in-NamedPath.is refl
      ]);
    }

pub loop-part-preserved-in_default : goal.loop-part-preserved-in_default
loop-part-preserved-in_default c =
    let files = c.args.files.now in
    let found = first_in (use_fault files (top_at files c.args.place)) in
    let side = c.args.side in
    let w : Item = item_in files c.args.place (TheWorld c.args.world.now) in
    let xs = c.world_items-part-items.result.now in
    let i = c.loop-part.part-index in
    let x = c.part-item.result in
    let p = world_part x in
    let was = c.loop-part.invariant in
    let more : take (i + 1) xs ≡ take i xs ++ x ∷ [] = take_more xs i x c.loop-part-test.true ∙ ap (λ y. take i xs ++ y ∷ []) (sym c.part-item.is) in
    let before = flat_map (part_on side) (map world_part (take i xs)) in
    let is : part_on side p ≡ [] = c.interface_on.ensures ∙ ap lent c.in_default.is in
    let same : flat_map (part_on side) (map world_part (take (i + 1) xs)) ≡ before = parts_more (part_on side) world_part (take i xs) (take (i + 1) xs) x p more refl ∙ ap (λ (l : List SideItem). before ++ l) is ∙ append-nil before in
    record {
      counted = was.counted ∙ ap length (sym same);
      are = was.are ∙ ap (λ (l : List SideItem). map with_names (inline_from w 0 l)) (sym same);
      placed = was.placed;
      none = in-following (wrong files (top_at files c.args.place) side) xs i x (slice_get_read xs _ i x refl c.loop-part-test.true c.part-item.is) was.none (ap found (uses_written side p ∙ ap (flat_map written_uses) is));
    }

pub returns-clause-are : goal.returns-clause-are
returns-clause-are c =
    let side = c.args.side in
    let w = item_in c.args.files.now c.args.place (TheWorld c.args.world.now) in
    let whole = take_all c.loop-part.part-index c.world_items-part-items.result.now c.loop-part-test.false ∙ c.world_items-part-items.ensures in
    c.loop-part.invariant.are
    ∙ ap (λ (l : List WorldItem). map with_names (inline_from w 0 (flat_map (part_on side) (map world_part l)))) whole
    ∙ ap (λ (l : List SideItem). map with_names (inline_from w 0 l)) (sym (parts_on side (map world_part c.args.world.now.items.items)))
    ∙ ap (map with_names) (sym (numbered side w))

pub returns-clause-first : goal.returns-clause-first
returns-clause-first c =
    let files = c.args.files.now in
    let top = top_at files c.args.place in
    let xs = c.world_items-part-items.result.now in
    rw (sym c.world_items-part-items.ensures) (in-parts (use_fault files top) (side_uses c.args.side) world_part xs ∙ in-all (wrong files top c.args.side) xs c.loop-part.part-index c.loop-part-test.false c.loop-part.invariant.none)
