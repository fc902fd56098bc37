-- What holds of each function of an item that is made holds of those of its interface, and of all that its world imports and exports.
use Rattle.std.proofs.Common.{◌≡◌, ℕ, zero, suc, Bool, true, false, cond, List, [], ◌∷◌, ◌++◌, map, Some, None, inl, inr, refl, ap, subst, sym}
use Rattle.wit_items.proofs.Common.{Address, Def, Exported, Extern, Function, Id, Imported, Include, Key, Link, ScopeName, SideFunction, SideInline, SideItem, SideLink, SourceFunction, TopName, WorldItem, WorldKey, WorldSide, address, at_split, cons_option, entries_on, entries_walked, flat_map, function_in, functions, includes, inline_entry, inline_items, item_function, item_link, link_item, local_id, local_name, map_at, name_imports, pairs, path_scope, placed, role_side, same_side, scope_place, settled, settled_at, side_entries, side_items, slice_get, world_entries}
use Rattle.wit_arena.proofs.Common.{Item}
use Rattle.wit_arena.proofs.Settled.{placed_at}
use Rattle.wit_model.specs.declared.world.WorldItem.TheVariants as item
use Rattle.wit_model.specs.declared.world.WorldKey.TheVariants as key

abbrev pub Entry : Type 0
Entry = WorldKey × WorldItem

-- the functions of an interface, where each setter comes after its getter
module _ (made : SourceFunction → Function) where
  abbrev named : SourceFunction → List ℕ × Function
  named fn = (fn.name, made fn)

  pub members_each : (P : Function → Type 0) (fns : List SourceFunction) → ((k : ℕ) (fn : SourceFunction) → slice_get fns k ≡ Some fn → P (made fn)) → (k : ℕ) (name : List ℕ) (f : Function) → slice_get (placed Some (map named fns)) k ≡ Some (name, f) → P f
  members_each P fns each k name f at =
      let it = placed_at (pairs Some) (map named fns) k (name, f) at in
      let fn = map_at named fns it.0 (name, f) it.1 in
      subst P (ap (λ (e : List ℕ × Function). e.1) fn.2) (each it.0 fn.0 fn.1)

module _ (P : Entry → Type 0) where
  abbrev pub Each : List Entry → Type 0
  Each es = (k : ℕ) (e : Entry) → slice_get es k ≡ Some e → P e

  kept_each : (b : Bool) (x : Entry) (es : List Entry) → P x → Each es → Each (cons_option (cond b (Some x) None) es)
  kept_each true x es one rest zero e at = subst P (let same : x ≡ e = cc in same) one
  kept_each true x es one rest (suc k) e at = rest k e at
  kept_each false x es one rest k e at = rest k e at

  -- what is on a side
  on_each : (made : SourceFunction → Function) (side : WorldSide) (ss : List Address) (top : List TopName) (xs : List SideItem) (is : List Item)
      → ((k : ℕ) (fn : SourceFunction) → slice_get (flat_map item_function xs) k ≡ Some fn → P (key.Name fn.name, item.Function (made fn)))
      → ((k : ℕ) (link : Link) → slice_get (flat_map item_link xs) k ≡ Some link → P (link_item link (scope_place ss (path_scope top link.path))))
      → ((k : ℕ) (i : Item) → slice_get is k ≡ Some i → (x : Extern) (name : Id) → P (inline_entry x name (scope_place ss (address i))))
      → Each (entries_on side (side_entries made ss top xs is))
  on_each made side ss top [] is fns links inside k e at = absurd (let f : ⊥ = cc in f)
  on_each made side ss top (SideFunction fn ∷ xs) is fns links inside k e at =
      kept_each (same_side side (role_side fn.role)) (key.Name fn.name, item.Function (made fn)) (entries_on side (side_entries made ss top xs is)) (fns 0 fn refl) (on_each made side ss top xs is (λ j. fns (suc j)) links inside) k e at
  on_each made side ss top (SideLink link ∷ xs) is fns links inside k e at =
      kept_each (same_side side link.side) (link_item link (scope_place ss (path_scope top link.path))) (entries_on side (side_entries made ss top xs is)) (links 0 link refl) (on_each made side ss top xs is fns (λ j. links (suc j)) inside) k e at
  on_each made side ss top (SideInline x name items ∷ xs) [] fns links inside k e at = on_each made side ss top xs [] fns links inside k e at
  on_each made side ss top (SideInline x name items ∷ xs) (i ∷ is) fns links inside k e at =
      kept_each (same_side side x.side) (inline_entry x name (scope_place ss (address i))) (entries_on side (side_entries made ss top xs is)) (inside 0 i refl x name) (on_each made side ss top xs is fns links (λ j. inside (suc j))) k e at

  settled_each : (is : List Include) (es : List Entry) → Each es → Each (settled is es)
  settled_each is es each k e at = (let it = settled_at is es k e at in each it.0 e it.1)

  -- so it is of a world, where its names are such, too
  module _ (id : Key → ℕ) (ss : List Address) (w : Item)
      (fns : (k : ℕ) (fn : SourceFunction) → slice_get (functions w) k ≡ Some fn → P (key.Name fn.name, item.Function (function_in id (address w) fn)))
      (links : (k : ℕ) (link : Link) → slice_get (flat_map item_link (side_items w)) k ≡ Some link → P (link_item link (scope_place ss (path_scope w.top link.path))))
      (inside : (k : ℕ) (i : Item) → slice_get (inline_items w) k ≡ Some i → (x : Extern) (name : Id) → P (inline_entry x name (scope_place ss (address i)))) where
    side_each : (side : WorldSide) → Each (entries_on side (world_entries id ss w))
    side_each side = subst (λ es. Each (entries_on side es)) (sym (entries_walked w id ss)) (on_each (function_in id (address w)) side ss w.top (side_items w) (inline_items w) fns links inside)

    pub exports_each : Each (settled (includes w) (entries_on Exported (world_entries id ss w)))
    exports_each = settled_each (includes w) (entries_on Exported (world_entries id ss w)) (side_each Exported)

    pub imports_each : (xs : List ScopeName) → ((k : ℕ) (x : ScopeName) → slice_get xs k ≡ Some x → P (key.Name (local_name x), item.Type_ (id (Def (address w) (local_name x))) (local_id x).span)) → Each (settled (includes w) (name_imports id (address w) xs ++ entries_on Imported (world_entries id ss w)))
    imports_each xs names = settled_each (includes w) (name_imports id (address w) xs ++ entries_on Imported (world_entries id ss w)) (λ k e at. elim (at_split (name_imports id (address w) xs) (entries_on Imported (world_entries id ss w)) k e at) [
      | inl prefix ↦ (
          let import_of : ScopeName → Entry = λ x. (key.Name (local_name x), item.Type_ (id (Def (address w) (local_name x))) (local_id x).span) in
          let x = map_at import_of xs k e prefix in
          subst P x.2 (names k x.0 x.1))
      | inr back ↦ side_each Imported back.0 e back.2
    ])
