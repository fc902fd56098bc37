-- Files that are alike make one package.
use Rattle.std.proofs.Common.{◌≡◌, ℕ, List, ◌++◌, map, take, Some, inl, inr, refl, ap, ap₂, sym, ◌∙◌, subst}
use Rattle.wit_arena.proofs.Common.{Address, AllZip, Contains, Def, Exprs, Form, Interface, IsEntryOf, IsOrder, Item, Key, Makes, Metadata, Occurrence, PackageFile, Row, ScopeName, Span, Stability, TypeDef, TypeOwner, UnresolvedPackage, Whole, World, about_name, all_items, all_occurrences, all_scopes, entry, firsts, flat_map, foreign_interface, foreign_interfaces, foreign_use_occurrence, foreign_uses, foreign_world, foreign_worlds, in_order, interface_scopes, item_rows, item_turns, keys, last_header, name_exprs, one_answer, option_map, own_interface, own_interfaces, own_world, owner_at, package_of, rows_of, same_edges, scope, scope_names, turn_handles, turn_occurrences, types_of, world_scopes, worlds_of}
use Rattle.wit_tree.specs.declared.tree.PackageName.{PackageName as Header}
use Rattle.wit_types.specs.declared.types.«Type».{«Type» as Ty}
use Rattle.wit_grammar.specs.Trees.{PackageId}
use Rattle.wit_grammar.specs.Seen.{see_package_id}
use Rattle.wit_alike.proofs.Lists.{both_of, both_same, zip_flat, zip_same}
use Rattle.wit_alike.proofs.Paths.{SameHeader, same_package_of}
use Rattle.wit_alike.proofs.Items.{SameFile, SameItem, SameName, same_all_items, same_item_address, same_local_name, same_name_body, same_scope_names}
use Rattle.wit_alike.proofs.Tables.{SameTable, table_edges}
use Rattle.wit_alike.proofs.Foreign.{SameForeignUse, same_all_scopes, same_foreign_uses, same_scope}
use Rattle.wit_alike.proofs.Scopes.{same_in_order, same_item_rows, same_rows, same_worlds}
use Rattle.wit_alike.proofs.Walk.{flat_same, same_last}
use Rattle.wit_alike_packages.proofs.Entries.{same_own_interface, same_own_world}
use Rattle.wit_alike_packages.proofs.Occurrences.{same_foreign_occurrence, same_name_exprs}
use Rattle.wit_alike_packages.proofs.Others.{all_foreign_interfaces, all_foreign_worlds, like_among, required_alike, same_dep_spans, same_deps, same_first_docs, same_interface_scopes, same_unknown, same_world_scopes, zip_back}
use Rattle.wit_alike_packages.proofs.Stated.{same_name_metadata}
use Rattle.wit_alike_packages.proofs.Turns.{SameHandle, SameTurn, same_item_turns, same_own_interfaces, same_turn_handles, same_turn_occurrences}

-- an order of a table is an order of one that is alike
order_alike : (rs ss : List Row) → SameTable rs ss → (places : List ℕ) → IsOrder rs places → IsOrder ss places
order_alike rs ss h places is =
    let edges = same_edges rs ss (table_edges rs ss h) in
    elim (edges.alike) [
      | inl (a, b) ↦ subst (IsOrder ss) (sym (edges.same places b.0 is b.1)) b.1
      | inr (r, s) ↦ absurd ((one_answer rs).never_both (places, is) r)
    ]

-- an entry is that of what occurs, where scopes have names that are alike, and the same owners
abbrev kind_by : Form → List Ty → Form × List Ty
kind_by form parts = (form, parts)

module _ (names others : Address → List ScopeName) (same : (s : Address) → AllZip SameName (names s) (others s)) (owner more : Address → TypeOwner) (owned : (s : Address) → owner s ≡ more s) (id : Key → ℕ) (es : List TypeDef) where
  entry_alike : (k : Key) (span : Span) (given : Stability) (e : TypeDef) → IsEntryOf names owner id es k span given e → IsEntryOf others more id es k span given e
  entry_alike (Def s name) span given e h =
      let it = like_among SameName (names s) (others s) (same s) h.0 h.2 in
      let means : kind_by (about_name h.0).body.form (types_of id (name_exprs s h.0)) ≡ kind_by (about_name it.0).body.form (types_of id (name_exprs s it.0)) =
      ap₂ (λ (form : Form) (l : Exprs). kind_by form (types_of id l)) (same_name_body h.0 it.0 it.2).0 (same_name_exprs s h.0 it.0 it.2) in (
        it.0,
        h.1,
        it.1,
        sym (same_local_name h.0 it.0 it.2) ∙ h.3,
        h.4 ∙ means,
        h.5 ∙ ap₂ (λ (o : TypeOwner) (n : Metadata). entry (Some name) o n span h.1) (owned s) (same_name_metadata h.0 it.0 it.2),
      )
  entry_alike (Whole form parts) span given e h = h

module _ (files others : List PackageFile) (h : AllZip SameFile files others) (p : UnresolvedPackage) (m : Makes files p) where
  abbrev items : List Item
  items = in_order (all_items others) m.in_order.0

  items_alike : AllZip SameItem m.items items
  items_alike = subst (λ (l : List Item). AllZip SameItem l items) (sym m.in_order.2) (same_in_order SameItem (all_items files) (all_items others) m.in_order.0 m.in_order.0 refl (same_all_items files others h))

  names_in_order : (j : Item) → Contains (all_scopes others) j → IsOrder (rows_of (scope_names j)) (m.order j)
  names_in_order j among =
      let it = like_among (λ (y x : Item). SameItem x y) (all_scopes others) (all_scopes files) (zip_back SameItem (all_scopes files) (all_scopes others) (same_all_scopes files others h)) j among in
      order_alike (rows_of (scope_names it.0)) (rows_of (scope_names j)) (same_rows (scope_names it.0) (scope_names j) (same_scope_names it.0 j it.2)) (m.order j)
      (subst (IsOrder (rows_of (scope_names it.0))) (m.by_address it.0 j (same_item_address it.0 j it.2)) (m.names_in_order it.0 it.1))

  turns : AllZip SameTurn (item_turns m.order m.items) (item_turns m.order items)
  turns = same_item_turns m.order m.by_address m.items items items_alike

  occurrences : all_occurrences files (item_turns m.order m.items) ≡ all_occurrences others (item_turns m.order items)
  occurrences =
      ap₂ (λ (l n : List Occurrence). l ++ n) (zip_same SameForeignUse foreign_use_occurrence foreign_use_occurrence same_foreign_occurrence (foreign_uses files) (foreign_uses others) (same_foreign_uses files others h))
      (flat_same SameTurn turn_occurrences same_turn_occurrences (item_turns m.order m.items) (item_turns m.order items) turns)

  abbrev ss : List Address
  ss = interface_scopes others items

  abbrev ws : List Address
  ws = world_scopes others items

  interfaces_there : interface_scopes files m.items ≡ ss
  interfaces_there = same_interface_scopes files others h m.items items items_alike

  worlds_there : world_scopes files m.items ≡ ws
  worlds_there = same_world_scopes files others h m.items items items_alike

  owned : (s : Address) → owner_at (interface_scopes files m.items) (world_scopes files m.items) s ≡ owner_at ss ws s
  owned s = ap₂ (λ (l n : List Address). owner_at l n s) interfaces_there worlds_there

  interfaces : p.interfaces ≡ map (foreign_interface others m.id) (foreign_interfaces others) ++ map (own_interface m.id m.order) (own_interfaces items)
  interfaces =
      m.interfaces
      ∙ ap₂ (λ (l n : List Interface). l ++ n) (all_foreign_interfaces files others h m.id)
      (zip_same SameItem (own_interface m.id m.order) (own_interface m.id m.order) (same_own_interface m.id m.order m.by_address) (own_interfaces m.items) (own_interfaces items) (same_own_interfaces m.items items items_alike))

  worlds : p.worlds ≡ map foreign_world (foreign_worlds others) ++ map (own_world m.id m.order ss ws) (worlds_of items)
  worlds =
      m.worlds
      ∙ ap₂ (λ (l n : List Address). map foreign_world (foreign_worlds files) ++ map (own_world m.id m.order l n) (worlds_of m.items)) interfaces_there worlds_there
      ∙ ap₂ (λ (l n : List World). l ++ n) (all_foreign_worlds files others h)
      (zip_same SameItem (own_world m.id m.order ss ws) (own_world m.id m.order ss ws) (same_own_world m.id m.order m.by_address ss ws) (worlds_of m.items) (worlds_of items) (same_worlds m.items items items_alike))

  header : {A : Type 0} (f : Header → A) → ((x y : Header) → SameHeader x y → f x ≡ f y) → option_map f (last_header others) ≡ option_map f (last_header files)
  header f each = sym (both_same SameHeader f f each (last_header files) (last_header others) (both_of see_package_id (last_header files) (last_header others) (same_last files others h)))

  pub made_alike : Makes others p
  made_alike = record {
    name = header package_of same_package_of ∙ m.name;
    name_span = header (λ (x : Header). x.span) (λ x y same. ap (λ (n : PackageId). n.span) same) ∙ m.name_span;
    docs = m.docs ∙ same_first_docs files others h;
    deps = m.deps ∙ same_deps files others h;
    dep_spans = m.dep_spans ∙ same_dep_spans files others h;
    unknown = m.unknown ∙ same_unknown files others h;
    items = items;
    in_order = (m.in_order.0, order_alike (item_rows files) (item_rows others) (same_item_rows files others h) m.in_order.0 m.in_order.1, refl);
    order = m.order;
    by_address = m.by_address;
    names_in_order = names_in_order;
    same = m.same;
    gives = m.gives;
    seen = m.seen;
    first = m.first ∙ ap (firsts (λ (x y : Occurrence). m.same x.key y.key)) occurrences;
    id = m.id;
    places = m.places;
    count = m.count;
    types = λ n o e at_o at_e.
        entry_alike (scope files) (scope others) (same_scope files others h) (owner_at (interface_scopes files m.items) (world_scopes files m.items)) (owner_at ss ws) owned m.id (take n p.types) o.key o.span o.given e (m.types n o e at_o at_e);
    interfaces = interfaces;
    worlds = worlds;
    required =
        required_alike files others h (keys m.seen) (flat_map turn_handles (item_turns m.order m.items)) (flat_map turn_handles (item_turns m.order items)) p.required_resource_types
        (zip_flat SameTurn SameHandle turn_handles turn_handles same_turn_handles (item_turns m.order m.items) (item_turns m.order items) turns) m.required;
  }
