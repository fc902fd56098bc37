-- What files that break no rule say of names and of uses: no two names of a scope are one, and uses lead to interfaces.
use Rattle.std.proofs.Common.{◌≡◌, ℕ, zero, false, List, [], ◌++◌, Option, Some, None, inl, inr, refl, sym, ap, ◌∙◌, Contains}
use Rattle.wit_arena.proofs.Names.{Address, AllDiffer, AreDistinct, DefinedTwice, DuplicateItem, ExternPart, Fault, Foreign, ForeignNamed, ForeignVisit, IsBrokenNames, IsLegal, IsSecond, Item, Items, Local, MissingUse, PackageFile, Part, Scope, Target, UsePart, WorldUsed, about, address, all_items, all_scopes, at_contains, at_prefix, cases_Bool, contains_at, defined, differ_by, distinct_names, distinct_none, extern_paths, find_at, flat_map_at, flat_map_has, foreign_at, inline_uses, is_world, is_world_at, item_at, item_name, item_named, item_twice, item_word, leads, local_id, local_name, map, missing_at, name_twice, option_map, option_map_or, part_uses, parts, path_id, same_address, scope, scope_names, slice_get, slice_get-map, three_ways, use_path, use_paths, used, uses, world_there}
use Rattle.wit_syntax.specs.Broken.{Use}
use Rattle.wit_syntax.proofs.Common.{Use as WrittenUse}
use Rattle.wit_arena.proofs.ForeignUses.{used_distinct}
use Rattle.wit_arena.proofs.Visits.{visit_listed, foreign_at-visited, leads_visited, AreUsableUses}

-- where nothing comes after another of its key, no two have one
pub all_differ : {X : Type 0} (key : X → List ℕ) (as_stated : X → Fault) (xs : List X) → ((f : Fault) → IsSecond key as_stated xs f → ⊥) → AllDiffer (map key xs)
all_differ key as_stated xs never = differ_by key xs (λ i j x y at_x at_y same. elim (three_ways i j) [
  | inl before ↦ absurd (never (as_stated y) (y, (i, j, before, x, at_x, at_y, same), refl))
  | inr rest ↦ elim rest [
    | inl one ↦ one
    | inr rest_after ↦ absurd (never (as_stated x) (x, (j, i, rest_after, y, at_y, at_x, sym same), refl))
  ]
])

-- where no rule about names is broken, the names of items differ
pub distinct_items : (files : List PackageFile) → ((f : Fault) → IsBrokenNames files f → ⊥) → AllDiffer (map item_name (all_items files))
distinct_items files legal = all_differ item_name (λ (i : Item). item_twice (about i.declared).id) (all_items files) (λ f second. legal f (Items (DuplicateItem second)))

-- the path of a `use` of a part is one of it
path_of_use : (x : Part) (j : ℕ) (u : WrittenUse) → slice_get (part_uses x) j ≡ Some u → (i : ℕ) × (slice_get (use_path x) i ≡ Some u.from)
path_of_use (UsePart y) zero u at = (0, (let same : y ≡ u = cc in ap (λ (z : WrittenUse). Some z.from) same))
path_of_use (ExternPart x) j u at = (j, at_prefix (map (λ (u : WrittenUse). u.from) (inline_uses x.kind)) (extern_paths x.kind) j u.from (slice_get-map (λ (u : WrittenUse). u.from) (inline_uses x.kind) j ∙ ap (option_map (λ (u : WrittenUse). u.from)) at))
path_of_use _ j u at = absurd (let f : ⊥ = cc in f)

-- so it is one of its item
path_among : (w : Item) (u : WrittenUse) → Contains (uses w) u → Contains (use_paths w) u.from
path_among w u used =
    let k = at_contains (uses w) u used in
    let it = flat_map_at part_uses (parts w) k.0 u k.1 in
    let own = path_of_use it.1 it.3.0 u it.3.1 in
    let n = flat_map_has use_path (parts w) it.0 own.0 it.1 u.from it.2 own.1 in
    contains_at (use_paths w) n.0 u.from n.1

module _ (files : List PackageFile) (legal : IsLegal files) where
  -- the names of an item differ
  pub names_differ : (i : Item) → Contains (all_scopes files) i → AreDistinct (scope_names i)
  names_differ i among = distinct_names (scope_names i) (all_differ local_name (λ x. name_twice (local_id x)) (used (scope_names i) ++ defined (scope_names i)) (λ f second. legal f (Scope i among (DefinedTwice second))))

  -- what is at an address is a scope of the files
  pub scope_among : (s : Address) (i : Item) → item_at (all_scopes files) s ≡ Some i → Contains (all_scopes files) i
  scope_among s i found = (let it = find_at (λ (w : Item). same_address (address w) s) (all_scopes files) i found in contains_at (all_scopes files) it.0 i it.1)

  found_differ : (o : Option Item) → ((i : Item) → o ≡ Some i → Contains (all_scopes files) i) → AreDistinct (option_map_or scope_names o [])
  found_differ None among = distinct_none
  found_differ (Some i) among = names_differ i (among i refl)

  -- and so do those of each scope
  pub scope_differs : (s : Address) → AreDistinct (scope files s)
  scope_differs (ForeignNamed p name) = used_distinct files (ForeignNamed p name)
  scope_differs s = found_differ (item_at (all_scopes files) s) (scope_among s)

  -- where a `use` leads to a name, an item of that name is there, and it is an interface
  local_use : (w : Item) (u : WrittenUse) → Contains (all_items files) w → Contains (uses w) u → (t : Target) → leads w.top u.from ≡ t → (o : Option Item) → is_world_at files t ≡ option_map is_world o → (o ≡ None → ⊥) → is_world_at files t ≡ Some false
  local_use w u among used t lead None at missing = absurd (missing refl)
  local_use w u among used t lead (Some i) at missing = elim (cases_Bool (is_world i)) [
    | inl world ↦ absurd (legal (world_there (path_id u.from)) (Use w among (WorldUsed u.from (path_among w u used) (ap (is_world_at files) lead ∙ at ∙ ap Some world) refl)))
    | inr other ↦ at ∙ ap Some other
  ]

  use_leads : (w : Item) (u : WrittenUse) → Contains (all_items files) w → Contains (uses w) u → (t : Target) → leads w.top u.from ≡ t → is_world_at files t ≡ Some false
  use_leads w u among used (Local id) lead = local_use w u among used (Local id) lead (item_named (all_items files) id.name.now) refl (λ none. legal (missing_at 7 item_word id) (Use w among (MissingUse u.from id (path_among w u used) lead none refl)))
  use_leads w u among used (Foreign p id) lead =
      let q = at_contains (all_items files) w among in
      let here = leads_visited files q.0 w u p id q.1 used lead in
      let it = visit_listed files here.place here.v here.at in
      let v = it.1 in
      let found : is_world_at files (Foreign p id) ≡ Some v.wants_world = ap (λ (s : Address). option_map (λ (v : ForeignVisit). v.wants_world) (foreign_at files s)) (sym (it.3 ∙ here.is)) ∙ ap (option_map (λ (v : ForeignVisit). v.wants_world)) (foreign_at-visited files it.0 v it.2) in
      elim (cases_Bool v.wants_world) [
        | inl world ↦ absurd (legal (world_there (path_id u.from)) (Use w among (WorldUsed u.from (path_among w u used) (ap (is_world_at files) lead ∙ found ∙ ap Some world) refl)))
        | inr other ↦ found ∙ ap Some other
      ]

  -- the path of each `use` leads to an interface
  pub uses_lead : AreUsableUses files (all_items files)
  uses_lead = record { usable = λ w u among used. use_leads w u among used (leads w.top u.from) refl }
