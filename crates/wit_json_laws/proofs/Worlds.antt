-- The maps of worlds that legal files make have no key twice.
use Rattle.std.proofs.Common.{◌≡◌, ℕ, false, List, [], ◌∷◌, ◌++◌, length, map, take, Some, Contains, refl, sym, ap, ◌∙◌, subst}
use Rattle.wit_arena.proofs.Common.{Address, All, AllDiffer, Called, Exported, ForeignVisit, Imported, Include, IsLegal, IsOrder, Item, Key, Link, LinkedTwice, PackageFile, ScopeName, SideItem, SideLink, WorldItem, WorldKey, WorldSide, address, all_items, all_scopes, called_key, contains_at, differ_at, differ_by, entries_on, entries_walked, flat_map, flat_map-append, folded_key, foreign_world, foreign_worlds, function_of, in_order, includes, inline_items, interface_scopes, is_world_at, item_called, item_inline, item_rows, item_side, items_on, kept_at, leads, length-inline_after, linked_twice, map-append, name_called, name_imports, names_in_turn, own_world, path_id, path_scope, placed, rows_of, same_side, scope_names, scope_place, scopes_declared, settled, side_called, side_items, slice_get, slice_get-take, walked_entries, world_entries, worlds_of}
use Rattle.wit_model.specs.declared.world.WorldKey.TheVariants as key
use Rattle.wit_json.specs.DistinctKeys.{HasOwnKeys, HasOwnSides}
use Rattle.wit_parser.proofs.PartsScopes.{link_leads, HasPlace}
use Rattle.wit_json_laws.proofs.Lists.{all_both, all_map, no_keys, own_keys}
use Rattle.wit_json_laws.proofs.Members.{side_keys, worlds_declared}
use Rattle.wit_json_laws.proofs.Placed.{placed_differ}
use Rattle.wit_json_laws.proofs.Sides.{AreAtNames, AreLinksApart, Entry, bare_differ, bare_place, both_at_names, called_name, import_at_names, import_names, import_places, key_names, key_of, key_places, keys_differ, names_among, places_among, side_at_names, side_names, side_places}

place_determines : (ss : List Address) (a b : Address) → HasPlace ss a → HasPlace ss b → scope_place ss a ≡ scope_place ss b → a ≡ b
place_determines ss a b one other same = (let both : Some a ≡ Some b = sym one ∙ ap (slice_get ss) same ∙ other in cc)

-- names that differ once folded do
called_differ : (cs : List Called) → AllDiffer (map called_key cs) → AllDiffer (map called_name cs)
called_differ cs d = differ_by called_name cs (λ i j x y at_x at_y same. differ_at called_key cs d i j x y at_x at_y (ap folded_key same))

settled_keys : (ns : List Include) (es : List Entry) → AllDiffer (map key_of es) → AreAtNames es → HasOwnKeys (settled ns es)
settled_keys [] es d named = own_keys (placed function_of es) (placed_differ function_of key.Name es d named)
settled_keys (n ∷ ns) es d named = own_keys es d

foreign_sides : (v : ForeignVisit) → HasOwnSides (foreign_world v)
foreign_sides v = record { imports = no_keys WorldKey WorldItem; exports = no_keys WorldKey WorldItem }

module _ (files : List PackageFile) (legal : IsLegal files) (items : List Item) (ordered : ((places : List ℕ) × IsOrder (item_rows files) places × (items ≡ in_order (all_items files) places))) (order : Item → List ℕ) (orders : ((i : Item) → Contains (all_scopes files) i → IsOrder (rows_of (scope_names i)) (order i))) (id : Key → ℕ) where
  abbrev ss : List Address
  ss = interface_scopes files items

  module _ (t : ℕ) (w : Item) (at : slice_get (worlds_of items) t ≡ Some w) where
    among : Contains (all_items files) w
    among = worlds_declared files legal items ordered t w at

    scope_among : Contains (all_scopes files) w
    scope_among = scopes_declared files w among

    least : IsOrder (rows_of (scope_names w)) (order w)
    least = orders w scope_among

    abbrev there : WorldSide → List SideItem
    there side = items_on side (side_items w)

    abbrev all_called : WorldSide → List Called
    all_called side = side_called side (scope_names w) (there side) (order w)

    abbrev on : WorldSide → List Entry
    on side = entries_on side (world_entries id ss w)

    count : length (inline_items w) ≡ length (flat_map item_inline (side_items w))
    count = length-inline_after w [] (side_items w)

    on_walked : (side : WorldSide) → on side ≡ entries_on side (walked_entries id ss w)
    on_walked side = ap (entries_on side) (entries_walked w id ss)

    on_names : (side : WorldSide) → names_among (on side) ≡ map called_name (flat_map item_called (there side))
    on_names side = ap names_among (on_walked side) ∙ side_names id (address w) ss w.top side (side_items w) (inline_items w) count

    on_places : (side : WorldSide) → places_among (on side) ≡ flat_map (bare_place id (address w) ss w.top) (there side)
    on_places side = ap places_among (on_walked side) ∙ side_places id (address w) ss w.top side (side_items w) (inline_items w) count

    on_at_names : (side : WorldSide) → AreAtNames (on side)
    on_at_names side = subst AreAtNames (sym (on_walked side)) (side_at_names id (address w) ss w.top side (side_items w) (inline_items w))

    linked : (side : WorldSide) (p : ℕ) (a : Link) → slice_get (there side) p ≡ Some (SideLink a) → HasPlace ss (path_scope w.top a.path) × (is_world_at files (leads w.top a.path) ≡ Some false)
    linked side p a at_a = (let k = kept_at (λ (x : SideItem). same_side side (item_side x)) (side_items w) p (SideLink a) at_a in link_leads files legal items ordered t w at k.0 a k.1)

    links_apart : (side : WorldSide) → AreLinksApart id (address w) ss w.top (there side)
    links_apart side p q a b before at_a at_b bare_a bare_b same =
        let earlier : Contains (take q (there side)) (SideLink a) = contains_at (take q (there side)) p (SideLink a) (slice_get-take (there side) q p before ∙ at_a) in
        let one = linked side p a at_a in
        let other = linked side q b at_b in
        let scopes : path_scope w.top a.path ≡ path_scope w.top b.path = place_determines ss (path_scope w.top a.path) (path_scope w.top b.path) one.0 other.0 same in
        legal (linked_twice b.side (path_id b.path).span) (LinkedTwice w among (side, q, a, b, earlier, at_b, bare_a, bare_b, scopes, other.1, refl))

    names_differ : (side : WorldSide) → AllDiffer (map called_name (all_called side))
    names_differ side = called_differ (all_called side) (side_keys files legal w scope_among (order w) least side)

    places_differ : (side : WorldSide) → AllDiffer (flat_map (bare_place id (address w) ss w.top) (there side))
    places_differ side = bare_differ id (address w) ss w.top (there side) (links_apart side)

    exported_keys : AllDiffer (map key_of (on Exported))
    exported_keys =
        keys_differ (map key_of (on Exported))
        (subst AllDiffer (sym (on_names Exported)) (names_differ Exported))
        (subst AllDiffer (sym (on_places Exported)) (places_differ Exported))

    abbrev xs : List ScopeName
    xs = names_in_turn order w

    abbrev prefix : List Entry
    prefix = name_imports id (address w) xs

    all_names : names_among (prefix ++ on Imported) ≡ map called_name (all_called Imported)
    all_names =
        ap (flat_map key_names) (map-append key_of prefix (on Imported))
        ∙ flat_map-append key_names (map key_of prefix) (map key_of (on Imported))
        ∙ ap (λ (l : List (List ℕ)). l ++ names_among (on Imported)) (import_names id (address w) xs)
        ∙ ap (λ (l : List (List ℕ)). map called_name (map name_called xs) ++ l) (on_names Imported)
        ∙ sym (map-append called_name (map name_called xs) (flat_map item_called (there Imported)))

    all_places : places_among (prefix ++ on Imported) ≡ flat_map (bare_place id (address w) ss w.top) (there Imported)
    all_places =
        ap (flat_map key_places) (map-append key_of prefix (on Imported))
        ∙ flat_map-append key_places (map key_of prefix) (map key_of (on Imported))
        ∙ ap (λ (l : List ℕ). l ++ places_among (on Imported)) (import_places id (address w) xs)
        ∙ on_places Imported

    imported_keys : AllDiffer (map key_of (prefix ++ on Imported))
    imported_keys = keys_differ (map key_of (prefix ++ on Imported)) (subst AllDiffer (sym all_names) (names_differ Imported)) (subst AllDiffer (sym all_places) (places_differ Imported))

    own_sides : (ws : List Address) → HasOwnSides (own_world id order ss ws w)
    own_sides ws = record {
      imports = settled_keys (includes w) (prefix ++ on Imported) imported_keys (both_at_names prefix (on Imported) (import_at_names id (address w) xs) (on_at_names Imported));
      exports = settled_keys (includes w) (on Exported) exported_keys (on_at_names Exported);
    }

  pub all_sides : (ws : List Address) → All HasOwnSides (map foreign_world (foreign_worlds files) ++ map (own_world id order ss ws) (worlds_of items))
  all_sides ws = all_both HasOwnSides (map foreign_world (foreign_worlds files)) (map (own_world id order ss ws) (worlds_of items))
      (all_map HasOwnSides foreign_world (foreign_worlds files) (λ k v at. foreign_sides v))
      (all_map HasOwnSides (own_world id order ss ws) (worlds_of items) (λ k w at. own_sides k w at ws))
