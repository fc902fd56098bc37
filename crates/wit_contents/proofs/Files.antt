-- What holds of files, of what comes before their interfaces and worlds, and once these were added.
use Rattle.std.proofs.Common.{◌≡◌, List, sym, ap, ◌∙◌, All, length, map, subst, ◌≤◌, [], arith, refl, false}
use Rattle.wit_contents.proofs.Names.{AddsForeign, AreItemsOf, ForeignVisit, Interface, InterfaceNamed, Interfaces, IsItemIn, IsItemPlaced, IsLent, IsNameIndex, ItemScope, Item as BorrowedItem, Names, PackageFile, TypeDef, World, WorldNamed, all_items, append-nil, foreign_entry, foreign_interfaces, foreign_items, foreign_view, foreign_worlds, index_prefix, interfaces_at, interfaces_at-append, interfaces_differ, item_view, length-map, name_view, others_of, prefix_of, scope_item, visited, visited_foreign, visits_differ, worlds_at, worlds_at-append}
use Rattle.wit_arena.proofs.Common.{interfaces_count, worlds_count}
use Rattle.wit_files.specs.declared.foreign.ForeignVisit.{ForeignVisit as BorrowedVisit}
use Rattle.wit_front.specs.declared.foreign.ForeignArenas.{ForeignArenas}
use Rattle.wit_front.specs.ForeignPrefix.{AddsPrefix, AreAdded, HasUsed, IsPrefix, entries_after}
use Rattle.wit_front.proofs.ForeignUses.{items_placed}
use Rattle.wit_front.proofs.Prefixes.{entries_after-among}

module _ (files : List PackageFile) (es : List TypeDef) (is : List Interface) (ws : List World) (adds : AddsForeign files es is ws) where
  -- nothing in front goes by a name
  pub prefix_index : (by_name : Names) → by_name ≡ [] → IsNameIndex InterfaceNamed (interfaces_at (prefix_of files) is) by_name
  prefix_index by_name none =
      let ss = prefix_of files in
      let all : interfaces_at ss is ≡ ss = ap (interfaces_at ss) (sym (append-nil is)) ∙ interfaces_at-append ss is [] (interfaces_count adds ∙ sym (length-map (foreign_interfaces files) visited)) ∙ append-nil ss in
      rw none (subst (λ l. IsNameIndex InterfaceNamed l []) (sym all) (index_prefix InterfaceNamed (λ name. refl) ss (visited_foreign (foreign_interfaces files))))

  pub prefix_worlds_index : IsNameIndex WorldNamed (worlds_at (others_of files) ws) []
  prefix_worlds_index =
      let ss = others_of files in
      let all : worlds_at ss ws ≡ ss = ap (worlds_at ss) (sym (append-nil ws)) ∙ worlds_at-append ss ws [] (worlds_count adds ∙ sym (length-map (foreign_worlds files) visited)) ∙ append-nil ss in
      subst (λ l. IsNameIndex WorldNamed l []) (sym all) (index_prefix WorldNamed (λ name. refl) ss (visited_foreign (foreign_worlds files)))

  -- they are as many as other packages have
  pub interfaces_enough : length (prefix_of files) ≤ length is
  interfaces_enough = omega (arith, interfaces_count adds, length-map (foreign_interfaces files) visited)

-- the items of other packages before anything is taken from them
bare : (files : List PackageFile) (vs : List BorrowedVisit) (types : List TypeDef) (a : ForeignArenas) → map foreign_view vs ≡ foreign_items files → types ≡ [] → AreAdded (map foreign_view vs) [] [] a → AreAdded (foreign_items files) [] types a
bare files vs types a all empty h = subst (λ (ts : List TypeDef). AreAdded (foreign_items files) [] ts a) (sym empty) (subst (λ (l : List ForeignVisit). AreAdded l [] [] a) all h)

module _ (files : List PackageFile) (vs : List BorrowedVisit) (types : List TypeDef) (a : ForeignArenas) (all : map foreign_view vs ≡ foreign_items files) (empty : types ≡ []) (made : AreAdded (map foreign_view vs) [] [] a) where
  -- the entries of these items
  pub prefix_entries : a.entries.items ≡ map (foreign_entry files) (foreign_items files)
  prefix_entries = made.entries ∙ ap (entries_after 0 0) all ∙ entries_after-among (foreign_items files) (visits_differ files)

  module _ (items borrowed : List BorrowedItem) (lent : borrowed ≡ items) (are : AreItemsOf files items) where
    -- names can be taken from them
    pub prefix_started : HasUsed types a (λ prefix. All (IsItemPlaced prefix) borrowed)
    prefix_started = record {
      vs = foreign_items files;
      ts = [];
      apart = interfaces_differ files;
      in_use = bare files vs types a all empty made;
      placed = subst (All (IsItemPlaced (prefix_of files))) (sym lent) (items_placed files items are);
    }

    -- once all are taken, they are what comes first
    pub prefix_used : (types' : List TypeDef) (a' : ForeignArenas) → map item_view items ≡ all_items files → AddsPrefix types a types' a' borrowed → IsPrefix files types' a'
    prefix_used types' a' view in_use = in_use files (bare files vs types a all empty made) (subst (AreItemsOf files) (sym lent) are) (ap (map item_view) lent ∙ view)

-- an interface of files as it is lent
pub item_lent : (is : Interfaces) (i : BorrowedItem) (s : ItemScope) → IsItemIn is false i → scope_item s ≡ item_view i → s.names.now ≡ i.names.items → IsLent s is.files (item_view i)
item_lent is i s own same borrowed = record {
  sort = own.sort;
  item = same;
  named = ap (map name_view) borrowed ∙ own.item.named;
  placed = rw borrowed (own.item.placed.own);
}
