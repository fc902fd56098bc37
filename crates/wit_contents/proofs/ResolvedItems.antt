-- Interfaces and worlds of files that are resolved, one after another, in the order of their places.
use Rattle.std.proofs.Common.{None, ◌≡◌, ◌<◌, ℕ, ◌+◌, All, get_or, Bool, true, false, not, List, [], ◌∷◌, ◌++◌, length, take, Some, refl, sym, ap, ◌∙◌, subst, append_assoc}
use Rattle.wit_contents.proofs.Names.{AddsDeclared, AddsDeclaredWorld, AddsInterface, AddsWorld, AllDiffer, AreUsableUses, AreWorldsDone, Growing, Interface, Interfaces, InterfacesDone, IsIndexed, IsItemOf, IsNameIndex, IsReady, IsRight, Item as BorrowedItem, Known, Making, Names, PackageFile, Required, World, WorldNamed, all_items, append-nil, are_interfaces, are_worlds, at_seam, contents_fault, distinct_items, filter, first_in, in-more, in_order, interfaces_of, interfaces_sort, is_world, item_name, item_view, items_within, kept_next, kept_prefix, length-map, map, option_map, others_of, package_of, prefix_of, prefix_scopes, resolved_scopes, slice_get, slice_get-get_or, slice_get-map, uses_usable, worlds_at, worlds_of, worlds_sort}
use Rattle.wit_arena.proofs.Common.{Item, first_docs, headers}
use Rattle.wit_tree.specs.declared.tree.PackageName.{PackageName as Header}
use Rattle.wit_arena.proofs.DoneWorlds.{interface_next, no_interface}
use Rattle.wit_arena.proofs.Worlds.{no_world, world_more}
use Rattle.wit_arena.proofs.MadePackage.{makes}
use Rattle.wit_contents.specs.Files.{AreMade, contents_in}
use Rattle.wit_contents.specs.Making.{IsBegun}
use Rattle.wit_contents.proofs.Files.{prefix_index, prefix_worlds_index}
use Rattle.wit_model.specs.Packages.{package_of_parts}

-- what comes next in an order comes after those kept before it
pub next_kept : (test : Item → Bool) (all : List Item) (places : List ℕ) (k p : ℕ) (w : Item) → slice_get places k ≡ Some p → slice_get all p ≡ Some w → test w ≡ true → slice_get (filter test (in_order all places)) (length (filter test (in_order all (take k places)))) ≡ Some w
next_kept test all places k p w next at passes =
    let before = filter test (in_order all (take k places)) in
    kept_prefix test all places (k + 1) (length before) w (ap (λ (l : List Item). slice_get l (length before)) (kept_next test all places k p w next at passes) ∙ at_seam before w)

-- a borrowed item of files, by its place in an order
pub record IsAt (files : List PackageFile) (places : List ℕ) (k : ℕ) (x : BorrowedItem) : Type 0 where
  pub place : ℕ
  pub next : slice_get places k ≡ Some place
  pub at : slice_get (all_items files) place ≡ Some (item_view x)
  pub own : IsItemOf files x

-- the interfaces of files at these places, and the worlds
abbrev pub interfaces_in : List PackageFile → List ℕ → List Item
interfaces_in files places = interfaces_of (in_order (all_items files) places)

abbrev pub worlds_in : List PackageFile → List ℕ → List Item
worlds_in files places = worlds_of (in_order (all_items files) places)

-- after those of other packages the first of the interfaces of files are resolved, and nothing is wrong with them
pub record HasInterfaces (files : List PackageFile) (places : List ℕ) (start : Making) (us : List Item) (is : Interfaces) (g : Growing) : Type 0 where
  pub same : is.files ≡ files
  pub own : List Interface
  pub arena : is.arena ≡ start.resolved.interfaces.arena ++ own
  pub done : InterfacesDone files (interfaces_in files places) (worlds_in files places) start.resolved.interfaces.arena us g.types own g.required.items
  pub index : IsIndexed is
  pub first : (known : Known) → IsRight files known → first_in (contents_fault files known) us ≡ None

-- and no world of files is
pub record HasOnlyInterfaces (files : List PackageFile) (places : List ℕ) (start : Making) (us : List Item) (m : Making) : Type 0 where
  pub interfaces : HasInterfaces files places start us m.resolved.interfaces m.growing
  pub worlds : m.resolved.worlds ≡ start.resolved.worlds
  pub world_names : m.resolved.world_names ≡ start.resolved.world_names
  pub inside : m.growing.inside ≡ start.growing.inside

-- all interfaces of files are resolved, and after the worlds of other packages the first of their worlds
pub record HasWorldsOver (files : List PackageFile) (places : List ℕ) (start : Making) (us : List Item) (is : Interfaces) (worlds : List World) (names : Names) (g : Growing) : Type 0 where
  pub middle : Growing
  pub interfaces : HasInterfaces files places start (interfaces_in files places) is middle
  pub required : List Required
  pub list : g.required.items ≡ middle.required.items ++ required
  pub done : AreWorldsDone files (interfaces_in files places) (worlds_in files places) start.resolved.worlds (prefix_scopes files start.resolved.interfaces.arena ++ interfaces.done.scopes) us g.types worlds g.inside required
  pub index : IsNameIndex WorldNamed (worlds_at (others_of is.files) worlds) names
  pub first : (known : Known) → IsRight files known → first_in (contents_fault files known) us ≡ None

abbrev pub HasWorlds : List PackageFile → List ℕ → Making → List Item → Making → Type 0
HasWorlds files places start us m = HasWorldsOver files places start us m.resolved.interfaces m.resolved.worlds m.resolved.world_names m.growing

module _ (start : Making) (begun : IsBegun start) (items : List BorrowedItem) (places : List ℕ) (r : IsReady start.resolved.interfaces.files items places) where
  abbrev files : List PackageFile
  files = start.resolved.interfaces.files

  abbrev all : List Item
  all = all_items files

  abbrev prefix : List Interface
  prefix = start.resolved.interfaces.arena

  abbrev differ : AllDiffer (map item_name all)
  differ = distinct_items files r.unbroken

  abbrev usable : AreUsableUses files all
  usable = uses_usable files r.uses

  within : All (λ (place : ℕ). place < length items) places
  within i d lt =
      let p = get_or places i d in
      let long : length all ≡ length items = sym (ap length r.all) ∙ length-map items item_view in
      subst (λ (n : ℕ). p < n) long (items_within files places r.order i p (slice_get-get_or places i d lt))

  pub item_at : (k : ℕ) (x : BorrowedItem) → k < length places → x ≡ get_or items (get_or places k 0) x → IsAt files places k x
  item_at k x lt is =
      let p = get_or places k 0 in
      let own : slice_get items p ≡ Some x = slice_get-get_or items p x (within k 0 lt) ∙ ap Some (sym is) in
      record {
        place = p;
        next = slice_get-get_or places k 0 lt;
        at = subst (λ (l : List Item). slice_get l p ≡ Some (item_view x)) r.all (slice_get-map item_view items p ∙ ap (option_map item_view) own);
        own = r.each.each p x own;
      }

  -- none is resolved yet
  pub none_resolved : HasOnlyInterfaces files places start [] start
  none_resolved = record {
    interfaces = record {
      same = refl;
      own = [];
      arena = sym (append-nil prefix);
      done = subst (λ (rs : List Required). InterfacesDone files (interfaces_in files places) (worlds_in files places) prefix [] start.growing.types [] rs) (sym begun.bare.required) (no_interface files (interfaces_in files places) (worlds_in files places) (interfaces_sort (in_order all places)) (worlds_sort (in_order all places)) (are_interfaces files places r.order differ) (are_worlds files places r.order differ) usable start.growing.types prefix start.resolved.worlds begun.foreign);
      index = prefix_index files start.growing.types prefix start.resolved.worlds begun.foreign start.resolved.interfaces.by_name begun.interfaces;
      first = λ known right. refl;
    };
    worlds = refl;
    world_names = refl;
    inside = refl;
  }

  -- the item that comes next
  module _ (count : ℕ) (i : BorrowedItem) (x : IsAt files places count i) (now after : Making) where
    abbrev w : Item
    w = item_view i

    -- an interface is resolved too, once it is added
    pub interface_resolved : is_world w ≡ false → HasOnlyInterfaces files places start (interfaces_in files (take count places)) now → AddsDeclared now after w → ((known : Known) → IsRight files known → contents_fault files known w ≡ None) → HasOnlyInterfaces files places start (interfaces_in files (take (count + 1) places)) after
    interface_resolved sort has adds none =
        let h = has.interfaces in
        let p = adds.puts in
        let q = adds.adds.appends in
        let us = interfaces_in files (take count places) in
        let next_all = kept_next (λ v. not (is_world v)) all places count x.place w x.next x.at (ap not sort) in
        let there = next_kept (λ v. not (is_world v)) all places count x.place w x.next x.at (ap not sort) in
        let placed = subst (λ (l : List Interface). AddsInterface (resolved_scopes (prefix_of files) l) (length l) now.growing.types after.growing.types adds.added q.own w) h.arena (subst (λ (fs : List PackageFile). AddsInterface (resolved_scopes (prefix_of fs) now.resolved.interfaces.arena) (length now.resolved.interfaces.arena) now.growing.types after.growing.types adds.added q.own w) h.same q.holds) in
        let more = interface_next files (interfaces_in files places) (worlds_in files places) (interfaces_sort (in_order all places)) (worlds_sort (in_order all places)) (are_interfaces files places r.order differ) (are_worlds files places r.order differ) usable start.growing.types prefix start.resolved.worlds begun.foreign us now.growing.types h.own now.growing.required.items w there h.done after.growing.types adds.added q.own placed in
        record {
          interfaces = record {
            same = p.files ∙ h.same;
            own = h.own ++ adds.added ∷ [];
            arena = p.arena ∙ ap (λ (l : List Interface). l ++ adds.added ∷ []) h.arena ∙ append_assoc prefix h.own (adds.added ∷ []);
            done = rw (q.list, next_all) more;
            index = p.index h.index;
            first = λ known right. ap (first_in (contents_fault files known)) next_all ∙ in-more (contents_fault files known) us w (h.first known right) ∙ none known right;
          };
          worlds = p.worlds ∙ has.worlds;
          world_names = p.world_names ∙ has.world_names;
          inside = adds.inside ∙ has.inside;
        }

    -- a world is
    pub world_resolved : is_world w ≡ true → HasWorlds files places start (worlds_in files (take count places)) now → AddsDeclaredWorld now after i → ((known : Known) → IsRight files known → contents_fault files known w ≡ None) → HasWorlds files places start (worlds_in files (take (count + 1) places)) after
    world_resolved sort h adds none =
        let p = adds.puts in
        let q = adds.adds in
        let us = worlds_in files (take count places) in
        let next_all = kept_next is_world all places count x.place w x.next x.at sort in
        let there = next_kept is_world all places count x.place w x.next x.at sort in
        let placed = subst (λ (l : List Interface). AddsWorld (prefix_of files) (others_of files) l now.growing.types after.growing.types now.resolved.worlds (now.resolved.worlds ++ adds.added ∷ []) now.growing.inside after.growing.inside q.own w) h.interfaces.arena (subst (λ (fs : List PackageFile). AddsWorld (prefix_of fs) (others_of fs) now.resolved.interfaces.arena now.growing.types after.growing.types now.resolved.worlds (now.resolved.worlds ++ adds.added ∷ []) now.growing.inside after.growing.inside q.own w) h.interfaces.same q.holds) in
        let more = world_more files (interfaces_in files places) (worlds_in files places) (interfaces_sort (in_order all places)) (worlds_sort (in_order all places)) (are_interfaces files places r.order differ) (are_worlds files places r.order differ) usable start.growing.types prefix start.resolved.worlds begun.foreign h.middle.types h.interfaces.own h.middle.required.items h.interfaces.done us now.growing.types now.resolved.worlds now.growing.inside h.required h.done w there after.growing.types (now.resolved.worlds ++ adds.added ∷ []) after.growing.inside q.own placed in
        subst (λ (is : Interfaces). HasWorldsOver files places start (worlds_in files (take (count + 1) places)) is after.resolved.worlds after.resolved.world_names after.growing) (sym p.interfaces) (record {
          middle = h.middle;
          interfaces = h.interfaces;
          required = h.required ++ q.own;
          list = q.list ∙ ap (λ (l : List Required). l ++ q.own) h.list ∙ append_assoc h.middle.required.items h.required q.own;
          done = rw (p.arena, next_all) more;
          index = subst (λ (is : Interfaces). IsNameIndex WorldNamed (worlds_at (others_of is.files) after.resolved.worlds) after.resolved.world_names) p.interfaces (p.index h.index);
          first = λ known right. ap (first_in (contents_fault files known)) next_all ∙ in-more (contents_fault files known) us w (h.first known right) ∙ none known right;
        })

  -- no world is resolved yet
  pub no_world_resolved : (m : Making) → HasOnlyInterfaces files places start (interfaces_in files places) m → HasWorlds files places start [] m
  no_world_resolved m h = record {
    middle = m.growing;
    interfaces = h.interfaces;
    required = [];
    list = sym (append-nil m.growing.required.items);
    done = rw (h.worlds, h.inside ∙ begun.bare.inside) (no_world files (interfaces_in files places) (worlds_in files places) (interfaces_sort (in_order all places)) (worlds_sort (in_order all places)) (are_interfaces files places r.order differ) (are_worlds files places r.order differ) usable start.growing.types prefix start.resolved.worlds begun.foreign m.growing.types h.interfaces.own m.growing.required.items h.interfaces.done);
    index = rw (h.worlds, h.world_names ∙ begun.worlds, h.interfaces.same) (prefix_worlds_index files start.growing.types prefix start.resolved.worlds begun.foreign);
    first = λ known right. refl;
  }

  -- all of them are what files make
  pub arenas_made : (m : Making) → HasWorlds files places start (worlds_in files places) m → AreMade files m
  arenas_made m h named n = record {
    made = λ header last legal. makes files places r.order r.unbroken start.growing.types h.middle.types prefix h.interfaces.own start.resolved.worlds begun.foreign h.middle.required.items h.required m.growing.types m.resolved.worlds m.growing.inside h.interfaces.done h.done
        (package_of_parts (package_of header) (contents_in m named).arenas (first_docs (headers files)) header.span named)
        refl (ap (λ (l : List Interface). l ++ m.growing.inside) h.interfaces.arena) refl (n.required ∙ h.list)
        (ap (option_map package_of) last) (ap (option_map (λ (h : Header). h.span)) last) refl (n.deps, n.spans, n.unknown);
  }
