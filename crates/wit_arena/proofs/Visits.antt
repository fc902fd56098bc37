-- The items of other packages, at the places of their first visits.
use Rattle.std.proofs.Common.{◌≡◌, ℕ, zero, ◌+◌, Bool, true, false, not, cond, List, [], ◌++◌, length, Option, Some, None, ◌⊎◌, inl, inr, refl, sym, ap, ◌∙◌, Contains, ◌≤◌, suc, ◌∷◌, arith, eqb-true, eq-eqb}
use Rattle.wit_arena.proofs.Names.{Address, AllDiffer, Attribute, Exported, ExternPart, Foreign, ForeignNamed, ForeignVisit, Id, Imported, Item, Local, PackageFile, PackageName, Part, TheInterface, TheWorld, TopName, UsePart, UsePath, WorldSide, address, all_items, at_back, at_contains, at_part, at_prefix, at_side, bytes_eq, cases_Bool, contains_at, declaration_visits, declared_items, dep_item, differ_at, differ_join, extern_paths, extern_visits, file_items, find, find-only, find_at, firsts_differ, firsts_has, flat_map, flat_map_at, flat_map_has, foreign_at, foreign_interfaces, foreign_items, foreign_visits, foreign_worlds, inline_uses, is_foreign, is_world_at, kept_at, kept_differ, kept_has, leads, map, map_at, not-true, option_map, option_map_or, package_of, part_uses, part_visits, parts, path_visits, same_address, same_address-equal, same_address-from, same_item, side_itself, slice_get, top_name, top_names, top_text, use_path, use_paths, uses, visited, walk, AstItem, Stability, UnresolvedPackage, dep, dep_items, filter, find_passes, find_some, firsts_at, foreign_entry, foreign_owner, foreign_packages, if◌then◌else◌, same_entry, same_package, same_package-equal, same_package-from, slice_get-map, slice_get_within, position_or_len}
use Rattle.wit_syntax.proofs.Common.{AstItem as WrittenItem, Use}
use Rattle.wit_arena.proofs.OneKind.{same_some}
use Rattle.wit_arena.proofs.Interfaces.{AreAddresses, own_address, prefix_len-only}
use Rattle.wit_tree.specs.declared.tree.UsePath.TheVariants as path
use Rattle.wit_tree.specs.declared.tree.AstItem.TheVariants as ast
use Rattle.wit_model.specs.declared.ast_item.AstItem.TheVariants as entry

-- the path of each `use` of these items leads to an interface
pub record AreUsableUses (files : List PackageFile) (items : List Item) : Type 0 where
  pub usable : (item : Item) (u : Use) → Contains items item → Contains (uses item) u → is_world_at files (leads item.top u.from) ≡ Some false

module _ (files : List PackageFile) where
  -- no item is twice
  pub visits_differ : AllDiffer (map visited (foreign_items files))
  visits_differ = firsts_differ same_item visited (λ x y. same_address-from (visited x) (visited y)) (λ x y. same_address-equal (visited x) (visited y)) (foreign_visits files)

  pub interfaces_differ : AllDiffer (map visited (foreign_interfaces files))
  interfaces_differ = kept_differ visited (λ v. not v.wants_world) (foreign_items files) visits_differ

  pub worlds_differ : AllDiffer (map visited (foreign_worlds files))
  worlds_differ = kept_differ visited (λ (v : ForeignVisit). v.wants_world) (foreign_items files) visits_differ

  -- an interface among them, and a world
  pub interface_visit : (t : ℕ) (v : ForeignVisit) → slice_get (foreign_interfaces files) t ≡ Some v → (p : ℕ) × (slice_get (foreign_items files) p ≡ Some v) × (v.wants_world ≡ false)
  interface_visit t v at = let it = kept_at (λ u. not u.wants_world) (foreign_items files) t v at in (it.0, it.1, not-true v.wants_world it.2)

  pub world_visit : (t : ℕ) (v : ForeignVisit) → slice_get (foreign_worlds files) t ≡ Some v → (p : ℕ) × (slice_get (foreign_items files) p ≡ Some v) × (v.wants_world ≡ true)
  world_visit t v at = kept_at (λ (v : ForeignVisit). v.wants_world) (foreign_items files) t v at

  -- visits of one item that are listed are one
  pub visit_once : (p q : ℕ) (u v : ForeignVisit) → slice_get (foreign_items files) p ≡ Some u → slice_get (foreign_items files) q ≡ Some v → visited u ≡ visited v → u ≡ v
  visit_once p q u v at_u at_v same =
      let place = differ_at visited (foreign_items files) visits_differ p q u v at_u at_v same in
      same_some (sym at_u ∙ ap (slice_get (foreign_items files)) place ∙ at_v)

  -- an interface is no world
  pub interface_apart : (i j : ℕ) (u v : ForeignVisit) → slice_get (foreign_interfaces files) i ≡ Some u → slice_get (foreign_worlds files) j ≡ Some v → visited u ≡ visited v → ⊥
  interface_apart i j u v at_u at_v same =
      let p = interface_visit i u at_u in
      let q = world_visit j v at_v in
      let one = visit_once p.0 q.0 u v p.1 q.1 same in
      cc (sym p.2 ∙ ap (λ (v : ForeignVisit). v.wants_world) one ∙ q.2)

  pub visited_addresses : AreAddresses (map visited (foreign_interfaces files)) (map visited (foreign_worlds files))
  visited_addresses = record {
    interfaces = interfaces_differ;
    worlds = worlds_differ;
    apart = λ i j s at_i at_j. (
        let u = map_at visited (foreign_interfaces files) i s at_i in
        let v = map_at visited (foreign_worlds files) j s at_j in
        interface_apart i j u.0 v.0 u.1 v.1 (u.2 ∙ sym v.2));
  }

  -- the item at the address of one is the one
  pub foreign_at-visited : (p : ℕ) (v : ForeignVisit) → slice_get (foreign_items files) p ≡ Some v → foreign_at files (visited v) ≡ Some v
  foreign_at-visited p v at = find-only (λ u. same_address (visited u) (visited v)) (foreign_items files) p v at (same_address-from (visited v) (visited v) refl) (λ i u at_u same. differ_at visited (foreign_items files) visits_differ i p u v at_u at (same_address-equal (visited u) (visited v) same))

  -- what is visited is listed
  pub visit_listed : (k : ℕ) (v : ForeignVisit) → slice_get (foreign_visits files) k ≡ Some v → (p : ℕ) × (u : ForeignVisit) × (slice_get (foreign_items files) p ≡ Some u) × (visited u ≡ visited v)
  visit_listed k v at = firsts_has same_item visited (λ x y. same_address-from (visited x) (visited y)) (λ x y. same_address-equal (visited x) (visited y)) (foreign_visits files) k v at

-- two lists of addresses after others that are foreign
pub addresses_join : (cs ds is ws : List Address) → AreAddresses cs ds → AreAddresses is ws → ((i : ℕ) (s : Address) → slice_get cs i ≡ Some s → is_foreign s ≡ true) → ((i : ℕ) (s : Address) → slice_get ds i ≡ Some s → is_foreign s ≡ true) → ((i : ℕ) (s : Address) → slice_get is i ≡ Some s → is_foreign s ≡ false) → ((i : ℕ) (s : Address) → slice_get ws i ≡ Some s → is_foreign s ≡ false) → AreAddresses (cs ++ is) (ds ++ ws)
addresses_join cs ds is ws prefix back cs_foreign ds_foreign is_own ws_own = record {
  interfaces = differ_join cs is prefix.interfaces back.interfaces (λ i j s at_i at_j. cc (cs_foreign i s at_i, is_own j s at_j));
  worlds = differ_join ds ws prefix.worlds back.worlds (λ i j s at_i at_j. cc (ds_foreign i s at_i, ws_own j s at_j));
  apart = λ i j s at_i at_j. elim (at_part cs is i s at_i) [
    | inl a ↦ elim (at_part ds ws j s at_j) [
      | inl b ↦ prefix.apart a.0 b.0 s a.1 b.1
      | inr w ↦ cc (cs_foreign a.0 s a.1, ws_own w.0 s w.1)
    ]
    | inr b ↦ elim (at_part ds ws j s at_j) [
      | inl a ↦ cc (ds_foreign a.0 s a.1, is_own b.0 s b.1)
      | inr w ↦ back.apart b.0 w.0 s b.1 w.1
    ]
  ];
}

-- what is visited is foreign
pub visited_foreign : (vs : List ForeignVisit) (i : ℕ) (s : Address) → slice_get (map visited vs) i ≡ Some s → is_foreign s ≡ true
visited_foreign vs i s at = let v = map_at visited vs i s at in ap is_foreign (sym v.2)

-- an item is of the package
pub address_own : (ws : List Item) (i : ℕ) (s : Address) → slice_get (map address ws) i ≡ Some s → is_foreign s ≡ false
address_own ws i s at = let w = map_at address ws i s at in ap is_foreign (sym w.2) ∙ own_address w.0

-- where an item is declared, and among which names
pub record IsOrigin (files : List PackageFile) (w : Item) : Type 0 where
  pub file : PackageFile
  pub place : ℕ
  pub at : slice_get files place ≡ Some file
  pub declaration : WrittenItem
  pub index : ℕ
  pub among : slice_get file.decl_list.items.items index ≡ Some declaration
  pub top : w.top ≡ top_names file
  pub visits : declaration_visits declaration ≡ walk part_visits extern_visits (parts w)

declared_item : (top : List TopName) (a : WrittenItem) (j : ℕ) (w : Item) → slice_get (declared_items top a) j ≡ Some w → (w.top ≡ top) × (declaration_visits a ≡ walk part_visits extern_visits (parts w))
declared_item top (ast.Interface i) zero w at = (let same : record { top = top; declared = TheInterface i } ≡ w = cc in (ap (λ (x : Item). x.top) (sym same), ap (λ (x : Item). walk part_visits extern_visits (parts x)) same))
declared_item top (ast.World i) zero w at = (let same : record { top = top; declared = TheWorld i } ≡ w = cc in (ap (λ (x : Item). x.top) (sym same), ap (λ (x : Item). walk part_visits extern_visits (parts x)) same))
declared_item top _ j w at = absurd (let f : ⊥ = cc in f)

pub item_origin : (files : List PackageFile) (p : ℕ) (w : Item) → slice_get (all_items files) p ≡ Some w → IsOrigin files w
item_origin files p w at =
    let f = flat_map_at file_items files p w at in
    let a = flat_map_at (declared_items (top_names f.1)) f.1.decl_list.items.items f.3.0 w f.3.1 in
    let is = declared_item (top_names f.1) a.1 a.3.0 w a.3.1 in
    record { file = f.1; place = f.0; at = f.2; declaration = a.1; index = a.0; among = a.2; top = is.0; visits = is.1 }

-- a visit of a declaration is one of the files
pub declaration_visited : (files : List PackageFile) (i k j : ℕ) (f : PackageFile) (a : WrittenItem) (v : ForeignVisit) → slice_get files i ≡ Some f → slice_get f.decl_list.items.items k ≡ Some a → slice_get (declaration_visits a) j ≡ Some v → (n : ℕ) × (slice_get (foreign_visits files) n ≡ Some v)
declaration_visited files i k j f a v at_file at_item at_visit =
    let inner = flat_map_has declaration_visits f.decl_list.items.items k j a v at_item at_visit in
    flat_map_has (λ (f : PackageFile). flat_map declaration_visits f.decl_list.items.items) files i inner.0 f v at_file inner.1

-- a visit by which the item of this name in this package is visited
pub record IsVisited (files : List PackageFile) (p : PackageName) (id : Id) : Type 0 where
  pub place : ℕ
  pub v : ForeignVisit
  pub at : slice_get (foreign_visits files) place ≡ Some v
  pub is : visited v ≡ ForeignNamed p id.name.now

foreign_path : (attributes : List Attribute) (world : Bool) (from : UsePath) (p : PackageName) (id : Id) → leads [] from ≡ Foreign p id → (v : ForeignVisit) × (slice_get (path_visits attributes world from) 0 ≡ Some v) × (visited v ≡ ForeignNamed p id.name.now)
foreign_path attributes world (path.Id other) p id h = absurd (let f : ⊥ = cc in f)
foreign_path attributes world (path.Package of other) p id h =
    let whose : package_of of ≡ p = cc in
    let name : other ≡ id = cc in
    (record { attributes = attributes; of = of; id = other; wants_world = world }, refl, ap (λ x. ForeignNamed x other.name.now) whose ∙ ap (λ (x : Id). ForeignNamed p x.name.now) name)

-- a name at the top of a file that leads to another package is that of a `use`
foreign_top : (a : WrittenItem) (p : PackageName) (id : Id) → (top_name a).target ≡ Foreign p id → (v : ForeignVisit) × (slice_get (declaration_visits a) 0 ≡ Some v) × (visited v ≡ ForeignNamed p id.name.now)
foreign_top (ast.Use u) p id h = foreign_path u.attributes.items false u.item p id h
foreign_top _ p id h = cc

top_leads : (o : Option TopName) (other : Id) (p : PackageName) (id : Id) → option_map_or (λ (t : TopName). t.target) o (Local other) ≡ Foreign p id → (t : TopName) × (o ≡ Some t) × (t.target ≡ Foreign p id)
top_leads None other p id h = absurd (let f : ⊥ = cc in f)
top_leads (Some t) other p id h = (t, refl, h)

-- where a path leads to another package, whose visit is one of an item, what it leads to is visited
pub path_among : (files : List PackageFile) (q : ℕ) (w : Item) (attributes : List Attribute) (world : Bool) (from : UsePath) (p : PackageName) (id : Id) → slice_get (all_items files) q ≡ Some w → ((v : ForeignVisit) → slice_get (path_visits attributes world from) 0 ≡ Some v → (n : ℕ) × (slice_get (walk part_visits extern_visits (parts w)) n ≡ Some v)) → leads w.top from ≡ Foreign p id → IsVisited files p id
path_among files q w attributes world from p id at among lead = by_path (item_origin files q w at) from refl lead
  where
    by_path : IsOrigin files w → (to : UsePath) → from ≡ to → leads w.top to ≡ Foreign p id → IsVisited files p id
    by_path origin (path.Id other) same h =
        let t = top_leads (find (λ (each : TopName). bytes_eq (top_text each) other.name.now) w.top) other p id h in
        let j = find_at (λ (y : TopName). bytes_eq (top_text y) other.name.now) w.top t.0 t.1 in
        let a = map_at top_name origin.file.decl_list.items.items j.0 t.0 (ap (λ (l : List TopName). slice_get l j.0) (sym origin.top) ∙ j.1) in
        let v = foreign_top a.0 p id (ap (λ (y : TopName). y.target) a.2 ∙ t.2) in
        let n = declaration_visited files origin.place j.0 0 origin.file a.0 v.0 origin.at a.1 v.1 in
        record { place = n.0; v = v.0; at = n.1; is = v.2 }
    by_path origin (path.Package of other) same h =
        let v = foreign_path attributes world from p id (ap (leads []) same ∙ h) in
        let inner = among v.0 v.1 in
        let n = declaration_visited files origin.place origin.index inner.0 origin.file origin.declaration v.0 origin.at origin.among (ap (λ (l : List ForeignVisit). slice_get l inner.0) origin.visits ∙ inner.1) in
        record { place = n.0; v = v.0; at = n.1; is = v.2 }

-- so where it is that of a part
pub path_visited : (files : List PackageFile) (q : ℕ) (w : Item) (m : ℕ) (x : Part) (attributes : List Attribute) (world : Bool) (from : UsePath) (p : PackageName) (id : Id) → slice_get (all_items files) q ≡ Some w → slice_get (parts w) m ≡ Some x → part_visits x ≡ path_visits attributes world from → leads w.top from ≡ Foreign p id → IsVisited files p id
path_visited files q w m x attributes world from p id at part visits lead = path_among files q w attributes world from p id at (λ v first. (
    let inner = flat_map_has part_visits (parts w) m 0 x v part (ap (λ (l : List ForeignVisit). slice_get l 0) visits ∙ first) in
    (inner.0, at_prefix (flat_map part_visits (parts w)) (flat_map (at_side extern_visits Imported) (parts w) ++ flat_map (at_side extern_visits Exported) (parts w)) inner.0 v inner.1))) lead

-- what means a side comes after a prefix
pub side_has : {Y : Type 0} (prefix : List Y) (of : WorldSide → List Y) (side : WorldSide) (j : ℕ) (y : Y) → slice_get (of side) j ≡ Some y → (k : ℕ) × (slice_get (prefix ++ (of Imported ++ of Exported)) k ≡ Some y)
side_has prefix of Imported j y at = (length prefix + j, at_back prefix (of Imported ++ of Exported) j y (at_prefix (of Imported) (of Exported) j y at))
side_has prefix of Exported j y at = (length prefix + (length (of Imported) + j), at_back prefix (of Imported ++ of Exported) (length (of Imported) + j) y (at_back (of Imported) (of Exported) j y at))

-- the visit of a `use` of a part is one of the item's
use_visited : (ps : List Part) (m : ℕ) (x : Part) (j : ℕ) (u : Use) (v : ForeignVisit) → slice_get ps m ≡ Some x → slice_get (part_uses x) j ≡ Some u → slice_get (path_visits u.attributes.items false u.from) 0 ≡ Some v → (n : ℕ) × (slice_get (walk part_visits extern_visits ps) n ≡ Some v)
use_visited ps m (UsePart y) zero u v part at first =
    let inner = flat_map_has part_visits ps m 0 (UsePart y) v part (ap (λ (z : Use). slice_get (path_visits z.attributes.items false z.from) 0) (same_some at) ∙ first) in
    (inner.0, at_prefix (flat_map part_visits ps) (flat_map (at_side extern_visits Imported) ps ++ flat_map (at_side extern_visits Exported) ps) inner.0 v inner.1)
use_visited ps m (ExternPart x) j u v part at first =
    let visits = λ (z : Use). path_visits z.attributes.items false z.from in
    let own = flat_map_has visits (inline_uses x.kind) j 0 u v at first in
    let there = at_prefix (flat_map visits (inline_uses x.kind)) (flat_map (path_visits x.attributes.items false) (extern_paths x.kind)) own.0 v own.1 in
    let here : slice_get (at_side extern_visits x.side (ExternPart x)) own.0 ≡ Some v = ap (λ (b : Bool). slice_get (cond b (extern_visits x) []) own.0) (side_itself x.side) ∙ there in
    let on_side = flat_map_has (at_side extern_visits x.side) ps m own.0 (ExternPart x) v part here in
    side_has (flat_map part_visits ps) (λ side. flat_map (at_side extern_visits side) ps) x.side on_side.0 v on_side.1
use_visited ps m _ j u v part at first = absurd (let f : ⊥ = cc in f)

-- so where the path of a `use` of an item leads to another package, what it leads to is visited
pub leads_visited : (files : List PackageFile) (q : ℕ) (w : Item) (u : Use) (p : PackageName) (id : Id) → slice_get (all_items files) q ≡ Some w → Contains (uses w) u → leads w.top u.from ≡ Foreign p id → IsVisited files p id
leads_visited files q w u p id at among lead =
    let k = at_contains (uses w) u among in
    let x = flat_map_at part_uses (parts w) k.0 u k.1 in
    path_among files q w u.attributes.items false u.from p id at (λ v first. use_visited (parts w) x.0 x.1 x.3.0 u v x.2 x.3.1 first) lead

-- a `use` of a part of an item is one of it, and the path of one among its parts is one of the item's
pub part_use_at : (w : Item) (m : ℕ) (x : Part) (j : ℕ) (u : Use) → slice_get (parts w) m ≡ Some x → slice_get (part_uses x) j ≡ Some u → Contains (uses w) u
part_use_at w m x j u part at = let it = flat_map_has part_uses (parts w) m j x u part at in contains_at (uses w) it.0 u it.1

pub use_at : (w : Item) (m : ℕ) (u : Use) → slice_get (parts w) m ≡ Some (UsePart u) → Contains (uses w) u
use_at w m u part = part_use_at w m (UsePart u) 0 u part refl

pub use_path_at : (w : Item) (m : ℕ) (u : Use) → slice_get (parts w) m ≡ Some (UsePart u) → Contains (use_paths w) u.from
use_path_at w m u part = let it = flat_map_has use_path (parts w) m 0 (UsePart u) u.from part refl in contains_at (use_paths w) it.0 u.from it.1

-- where uses lead to interfaces, one that leads to another package leads to an interface
pub used_interface_visit : (files : List PackageFile) → AreUsableUses files (all_items files) → (q : ℕ) (w : Item) (u : Use) (p : PackageName) (id : Id) → slice_get (all_items files) q ≡ Some w → Contains (uses w) u → leads w.top u.from ≡ Foreign p id → (t : ℕ) × (v : ForeignVisit) × (slice_get (foreign_interfaces files) t ≡ Some v) × (visited v ≡ ForeignNamed p id.name.now)
used_interface_visit files usable q w u p id at among lead =
    let here = leads_visited files q w u p id at among lead in
    let it = visit_listed files here.place here.v here.at in
    let v = it.1 in
    let is : visited v ≡ ForeignNamed p id.name.now = it.3 ∙ here.is in
    let found : is_world_at files (leads w.top u.from) ≡ Some v.wants_world = ap (is_world_at files) lead ∙ ap (λ s. option_map (λ (v : ForeignVisit). v.wants_world) (foreign_at files s)) (sym is) ∙ ap (option_map (λ (v : ForeignVisit). v.wants_world)) (foreign_at-visited files it.0 v it.2) in
    elim (cases_Bool v.wants_world) [
      | inl wrong ↦ cc (sym (found ∙ ap Some wrong) ∙ usable.usable w u (contains_at (all_items files) q w at) among)
      | inr right ↦ (let k = kept_has (λ x. not x.wants_world) (foreign_items files) it.0 v (ap not right) it.2 in (k.0, v, k.1, is))
    ]

-- Whose the items of other packages are, by what a package names of others.
pub same_entry-itself : (a : AstItem) → same_entry a a ≡ true
same_entry-itself (entry.Interface i) = eq-eqb i i refl
same_entry-itself (entry.World i) = eq-eqb i i refl

pub same_entry-equal : (a b : AstItem) → same_entry a b ≡ true → a ≡ b
same_entry-equal (entry.Interface i) (entry.Interface j) h = ap entry.Interface (eqb-true i j h)
same_entry-equal (entry.World i) (entry.World j) h = ap entry.World (eqb-true i j h)
same_entry-equal _ _ h = absurd (let f : ⊥ = cc in f)

-- a visit comes after as many as its place says
foreign_place-at : (vs : List ForeignVisit) (t : ℕ) (v : ForeignVisit) → AllDiffer (map visited vs) → slice_get vs t ≡ Some v → position_or_len (λ (y : ForeignVisit). same_item y v) vs ≡ t
foreign_place-at vs t v differ at = prefix_len-only (λ (u : ForeignVisit). same_item u v) vs t v at (same_address-from (visited v) (visited v) refl) (λ i u at_u same. differ_at visited vs differ i t u v at_u at (same_address-equal (visited u) (visited v) same))

-- nothing is found where nothing passes
none_found : {X : Type 0} (p : X → Bool) (xs : List X) → ((k : ℕ) (x : X) → slice_get xs k ≡ Some x → p x ≡ true → ⊥) → find p xs ≡ None
none_found p [] none = refl
none_found p (x ∷ xs) none = elim (cases_Bool (p x)) [
  | inl hit ↦ absurd (none 0 x refl hit)
  | inr miss ↦ rw miss (none_found p xs (λ k. none (suc k)))
]

module _ (files : List PackageFile) where
  abbrev entry_by : ForeignVisit → Bool → AstItem
  entry_by v world = if world then entry.World (position_or_len (λ (y : ForeignVisit). same_item y v) (foreign_worlds files)) else entry.Interface (position_or_len (λ (y : ForeignVisit). same_item y v) (foreign_interfaces files))

  -- the entry of an interface at a place, and of a world
  pub entry_of_interface : (t : ℕ) (v : ForeignVisit) → slice_get (foreign_interfaces files) t ≡ Some v → foreign_entry files v ≡ entry.Interface t
  entry_of_interface t v at = ap (entry_by v) (interface_visit files t v at).2 ∙ ap entry.Interface (foreign_place-at (foreign_interfaces files) t v (interfaces_differ files) at)

  pub entry_of_world : (t : ℕ) (v : ForeignVisit) → slice_get (foreign_worlds files) t ≡ Some v → foreign_entry files v ≡ entry.World t
  entry_of_world t v at = ap (entry_by v) (world_visit files t v at).2 ∙ ap entry.World (foreign_place-at (foreign_worlds files) t v (worlds_differ files) at)

  -- an item is an interface or a world
  pub item_sort : (q : ℕ) (v : ForeignVisit) → slice_get (foreign_items files) q ≡ Some v → ((t : ℕ) × (slice_get (foreign_interfaces files) t ≡ Some v)) ⊎ ((t : ℕ) × (slice_get (foreign_worlds files) t ≡ Some v))
  item_sort q v at = elim (cases_Bool v.wants_world) [
    | inl world ↦ inr (kept_has (λ (v : ForeignVisit). v.wants_world) (foreign_items files) q v world at)
    | inr other ↦ inl (kept_has (λ u. not u.wants_world) (foreign_items files) q v (ap not other) at)
  ]

  -- no two items have one entry
  pub foreign_entry-injective : (q r : ℕ) (u v : ForeignVisit) → slice_get (foreign_items files) q ≡ Some u → slice_get (foreign_items files) r ≡ Some v → foreign_entry files u ≡ foreign_entry files v → u ≡ v
  foreign_entry-injective q r u v at_u at_v same = elim (item_sort q u at_u) [
    | inl a ↦ elim (item_sort r v at_v) [
      | inl b ↦ cc (sym (entry_of_interface a.0 u a.1) ∙ same ∙ entry_of_interface b.0 v b.1, a.1, b.1)
      | inr b ↦ cc (sym (entry_of_interface a.0 u a.1) ∙ same ∙ entry_of_world b.0 v b.1)
    ]
    | inr a ↦ elim (item_sort r v at_v) [
      | inl b ↦ cc (sym (entry_of_world a.0 u a.1) ∙ same ∙ entry_of_interface b.0 v b.1)
      | inr b ↦ cc (sym (entry_of_world a.0 u a.1) ∙ same ∙ entry_of_world b.0 v b.1, a.1, b.1)
    ]
  ]

  mapped : {X Y : Type 0} (f : X → Y) (xs : List X) (i : ℕ) (x : X) → slice_get xs i ≡ Some x → slice_get (map f xs) i ≡ Some (f x)
  mapped f xs i x at = slice_get-map f xs i ∙ ap (option_map f) at

  -- an item of a package as it is listed
  abbrev dep_address : PackageName → List ℕ × (AstItem × List Stability) → AstItem × Address
  dep_address whose x = (x.1.0, ForeignNamed whose x.0)

  dep_listed : (whose : PackageName) (own : List ForeignVisit) (k : ℕ) (v : ForeignVisit) → slice_get own k ≡ Some v → slice_get (dep_items (whose, map (dep_item files) own)) k ≡ Some (foreign_entry files v, ForeignNamed whose v.id.name.now)
  dep_listed whose own k v at = mapped (dep_address whose) (map (dep_item files) own) k (dep_item files v) (mapped (dep_item files) own k v at)

  -- and what is listed of a package is an item of it
  item_listed : (whose : PackageName) (k : ℕ) (e : AstItem × Address) → slice_get (dep_items (whose, map (dep_item files) (filter (λ u. same_package (package_of u.of) whose) (foreign_items files)))) k ≡ Some e → (q : ℕ) × (v : ForeignVisit) × (slice_get (foreign_items files) q ≡ Some v) × (e ≡ (foreign_entry files v, visited v))
  item_listed whose k e at =
      let own = filter (λ u. same_package (package_of u.of) whose) (foreign_items files) in
      let x = map_at (dep_address whose) (map (dep_item files) own) k e at in
      let v = map_at (dep_item files) own k x.0 x.1 in
      let q = kept_at (λ y. same_package (package_of y.of) whose) (foreign_items files) k v.0 v.1 in
      let same = same_package-equal (package_of v.0.of) whose q.2 in
      let is : e ≡ (foreign_entry files v.0, ForeignNamed whose v.0.id.name.now) = sym x.2 ∙ ap (dep_address whose) (sym v.2) in
      (q.0, v.0, q.1, is ∙ ap (λ (z : PackageName). (foreign_entry files v.0, ForeignNamed z v.0.id.name.now)) (sym same))

  -- the package of an item is named
  package_of_item : (q : ℕ) (v : ForeignVisit) → slice_get (foreign_items files) q ≡ Some v → (j : ℕ) × (u : ForeignVisit) × (slice_get (foreign_packages files) j ≡ Some u) × (package_of u.of ≡ package_of v.of)
  package_of_item q v at =
      let i = firsts_at same_item (foreign_visits files) q v at in
      firsts_has (λ (a b : ForeignVisit). same_package (package_of a.of) (package_of b.of)) (λ (v : ForeignVisit). package_of v.of) (λ a b h. same_package-from (package_of a.of) (package_of b.of) h) (λ a b h. same_package-equal (package_of a.of) (package_of b.of) h) (foreign_visits files) i.0 v i.1

  module _ (p : UnresolvedPackage) (deps : p.foreign_deps ≡ map (dep files) (foreign_packages files)) where
    abbrev Dep : Type 0
    Dep = PackageName × List (List ℕ × (AstItem × List Stability))

    abbrev listed : List (AstItem × Address)
    listed = flat_map dep_items p.foreign_deps

    -- each item is listed under its entry
    listed_has : (q : ℕ) (v : ForeignVisit) → slice_get (foreign_items files) q ≡ Some v → (k : ℕ) × (s : Address) × (slice_get listed k ≡ Some (foreign_entry files v, s))
    listed_has q v at =
        let u = package_of_item q v at in
        let whose = package_of u.1.of in
        let k = kept_has (λ x. same_package (package_of x.of) whose) (foreign_items files) q v (same_package-from (package_of v.of) whose (sym u.3)) at in
        let there : slice_get p.foreign_deps u.0 ≡ Some (dep files u.1) = ap (λ (l : List Dep). slice_get l u.0) deps ∙ mapped (dep files) (foreign_packages files) u.0 u.1 u.2 in
        let n = flat_map_has dep_items p.foreign_deps u.0 k.0 (dep files u.1) (foreign_entry files v, ForeignNamed whose v.id.name.now) there (dep_listed whose (filter (λ u. same_package (package_of u.of) whose) (foreign_items files)) k.0 v k.1) in
        (n.0, ForeignNamed whose v.id.name.now, n.1)

    -- and what is listed is an item, under its entry and at its address
    listed_at : (k : ℕ) (e : AstItem × Address) → slice_get listed k ≡ Some e → (q : ℕ) × (v : ForeignVisit) × (slice_get (foreign_items files) q ≡ Some v) × (e ≡ (foreign_entry files v, visited v))
    listed_at k e at =
        let d = flat_map_at dep_items p.foreign_deps k e at in
        let u = map_at (dep files) (foreign_packages files) d.0 d.1 (ap (λ (l : List Dep). slice_get l d.0) (sym deps) ∙ d.2) in
        item_listed (package_of u.0.of) d.3.0 e (ap (λ (z : Dep). slice_get (dep_items z) d.3.0) u.2 ∙ d.3.1)

    -- the package calls an item by its address
    pub foreign_owner-entry : (q : ℕ) (v : ForeignVisit) → slice_get (foreign_items files) q ≡ Some v → foreign_owner p (foreign_entry files v) ≡ Some (visited v)
    foreign_owner-entry q v at =
        let i = foreign_entry files v in
        let test = λ (e : AstItem × Address). same_entry e.0 i in
        let k = listed_has q v at in
        let e = find_some test listed k.0 (i, k.1) k.2 (same_entry-itself i) in
        let n = find_at test listed e.0 e.1 in
        let u = listed_at n.0 e.0 n.1 in
        let passes = same_entry-equal e.0.0 i (find_passes test listed e.0 e.1) in
        let same : foreign_entry files u.1 ≡ i = ap (λ (x : AstItem × Address). x.0) (sym u.3) ∙ passes in
        let one = foreign_entry-injective u.0 q u.1 v u.2 at same in
        ap (option_map (λ (x : AstItem × Address). x.1)) e.1 ∙ ap (λ (x : AstItem × Address). Some x.1) u.3 ∙ ap (λ (x : ForeignVisit). Some (visited x)) one

    pub foreign_interface_owner : (t : ℕ) (v : ForeignVisit) → slice_get (foreign_interfaces files) t ≡ Some v → foreign_owner p (entry.Interface t) ≡ Some (visited v)
    foreign_interface_owner t v at = let q = interface_visit files t v at in ap (foreign_owner p) (sym (entry_of_interface t v at)) ∙ foreign_owner-entry q.0 v q.1

    pub foreign_world_owner : (t : ℕ) (v : ForeignVisit) → slice_get (foreign_worlds files) t ≡ Some v → foreign_owner p (entry.World t) ≡ Some (visited v)
    foreign_world_owner t v at = let q = world_visit files t v at in ap (foreign_owner p) (sym (entry_of_world t v at)) ∙ foreign_owner-entry q.0 v q.1

    -- no interface after those of other packages is one of them
    pub foreign_interface-none : (t : ℕ) → length (foreign_interfaces files) ≤ t → foreign_owner p (entry.Interface t) ≡ None
    foreign_interface-none t past = ap (option_map (λ (x : AstItem × Address). x.1)) (none_found (λ (e : AstItem × Address). same_entry e.0 (entry.Interface t)) listed (λ k e at passes. (
        let u = listed_at k e at in
        let one : foreign_entry files u.1 ≡ entry.Interface t = ap (λ (x : AstItem × Address). x.0) (sym u.3) ∙ same_entry-equal e.0 (entry.Interface t) passes in
        elim (item_sort u.0 u.1 u.2) [
          | inl h ↦ (
              let both : entry.Interface h.0 ≡ entry.Interface t = sym (entry_of_interface h.0 u.1 h.1) ∙ one in
              let place : h.0 ≡ t = cc in
              let lt = slice_get_within (foreign_interfaces files) h.0 u.1 h.1 in
              absurd (omega arith))
          | inr h ↦ cc (sym (entry_of_world h.0 u.1 h.1) ∙ one)
        ])))
