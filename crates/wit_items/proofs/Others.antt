-- Where a path leads, by the table of items.
use Rattle.std.proofs.Common.{◌≡◌, ℕ, ◌<◌, Bool, List, [], ◌∷◌, length, Option, Some, None, inl, inr, refl, sym, ap, ◌∙◌, arith, Bor, zero, suc, ◌+◌, ◌≤◌, true, false, not, cond}
use Rattle.std.specs.Slice.{IsItemAt}
use Rattle.std.proofs.lemmas.List.Folds.{find_at as find_here}
use Rattle.wit_arena.proofs.Common.{Id, Item, Local, PackageFile, Row, Target, all_items, bytes_eq, cases_Bool, find, is_world, is_world_at, item_name, item_named, item_row, item_rows, item_word, length-map, ltb-false, ltb-true, map, map_at, missing_at, name_cases, nat_lt, option_copied, option_map, place_of, position, position-Some, position_or_len, slice_get, slice_get_past, slice_get_read, target, Address, AstItem, Attribute, Contains, DefinitionPart, Extern, ExternPart, Foreign, ForeignNamed, ForeignVisit, FunctionPart, IncludePart, IsVisited, Names, PackageName, Part, UsePart, UsePath, World, WorldNamed, at_back, at_contains, at_side, at_split, env_of, extern_paths, extern_visits, find_at, find_passes, find_some, flat_map, flat_map_at, flat_map_has, foreign_at, foreign_entry, foreign_interfaces, foreign_items, foreign_worlds, inline_uses, kept_has, leads, leads_visited, part_use_at, part_visits, parts, path_among, path_visited, path_visits, same_address, same_address-equal, same_address-from, same_item, side_has, side_itself, slice_get-map, target_scope, use_path, visit_listed, visited, walk, worlds_at, Declared, about}
use Rattle.wit_first.specs.FileFaults.{lost_fault}
use Rattle.wit_first.specs.UseFaults.{reached_fault}
use Rattle.wit_first.proofs.FileFaults.{lost_at}
use Rattle.wit_files.specs.FileNames.{found_at, top_at}
use Rattle.wit_files.specs.declared.file_names.Found.{Found}
use Rattle.wit_files.specs.declared.file_names.Found.TheVariants.{Item as ItemAt, Foreign as ForeignAt}
use Rattle.wit_syntax.proofs.Common.{Use as WrittenUse}
use Rattle.wit_items.specs.ItemPaths.{HasAmong, HasPath, entry_at, world_entry, world_at}
use Rattle.wit_model.specs.declared.ast_item.AstItem.TheVariants as entry

-- whether two names are one does not hang on which is first
bytes_swap : (a b : List ℕ) → bytes_eq a b ≡ bytes_eq b a
bytes_swap a b = elim (name_cases a b) [
  | inl same ↦ rw same refl
  | inr other ↦ elim (name_cases b a) [
    | inl same ↦ rw same refl
    | inr turned ↦ other ∙ sym turned
  ]
]

-- where a name is among rows is where it is among items
position_rows : (is : List Item) (name : List ℕ) → position_or_len (λ (row : Row). bytes_eq name row.name) (map item_row is) ≡ position_or_len (λ (i : Item). bytes_eq (item_name i) name) is
position_rows [] name = refl
position_rows (w ∷ is) name = rw (bytes_swap name (item_name w), position_rows is name) refl

place_of-item : (is : List Item) (name : List ℕ) → place_of (map item_row is) name ≡ position (λ (i : Item). bytes_eq (item_name i) name) is
place_of-item is name = rw (position_rows is name, length-map is item_row) refl

-- what is found is at the position
pub find_position : {X : Type 0} (p : X → Bool) (xs : List X) (i : ℕ) → position p xs ≡ Some i → find p xs ≡ slice_get xs i
find_position p xs i h = elim (cases_Bool (nat_lt (position_or_len p xs) (length xs))) [
  | inl within ↦ (
      let both : Some (position_or_len p xs) ≡ Some i = rw within at h in
      let here : position_or_len p xs ≡ i = cc in
      find_here p xs ∙ ap (slice_get xs) here)
  | inr past ↦ absurd (let both : None ≡ Some i = rw past at h in let f : ⊥ = cc in f)
]

pub find_no_position : {X : Type 0} (p : X → Bool) (xs : List X) → position p xs ≡ None → find p xs ≡ None
find_no_position p xs h = elim (cases_Bool (nat_lt (position_or_len p xs) (length xs))) [
  | inl within ↦ absurd (let both : Some (position_or_len p xs) ≡ None = rw within at h in let f : ⊥ = cc in f)
  | inr past ↦ find_here p xs ∙ slice_get_past xs (position_or_len p xs) (ltb-false (position_or_len p xs) (length xs) past)
]

-- what is got at a place is there
pub got_at : {X : Type 0} (xs : List X) (i : ℕ) (r : Option (Bor X)) → IsItemAt xs i r → option_copied r ≡ slice_get xs i
got_at xs i None h = sym (slice_get_past xs i (ltb-false i (length xs) (sym h.0)))
got_at xs i (Some x) h = sym (slice_get_read xs (length xs) i x.now refl (ltb-true i (length xs) (sym h.0)) h.1)

-- a declared item that is found, and one that is not
found_none : (o : Option ℕ) → ((p : ℕ) → option_map ItemAt o ≡ Some (ItemAt p) → ⊥) → o ≡ None
found_none None other = refl
found_none (Some p) other = absurd (other p refl)

found_some : (o : Option ℕ) (p : ℕ) → option_map ItemAt o ≡ Some (ItemAt p) → o ≡ Some p
found_some None p h = absurd (let f : ⊥ = cc in f)
found_some (Some q) p h = cc

-- a path that leads to no place leads to no item
pub leads_nowhere : (files : List PackageFile) (to : Target) (id : Id) (r : Option Found) → to ≡ Local id → r ≡ found_at files to → ((p : ℕ) → r ≡ Some (ItemAt p) → ⊥) → item_named (all_items files) id.name.now ≡ None
leads_nowhere files to id r local found other =
    let none = found_none (target (item_rows files) id) (λ p h. other p (found ∙ ap (found_at files) local ∙ h)) in
    find_no_position (λ (i : Item). bytes_eq (item_name i) id.name.now) (all_items files) (sym (place_of-item (all_items files) id.name.now) ∙ none)

-- one that leads to a place leads to the item there
pub leads_to : (files : List PackageFile) (to : Target) (id : Id) (r : Option Found) (p : ℕ) (world : Bool) → to ≡ Local id → r ≡ found_at files to → r ≡ Some (ItemAt p) → slice_get (map is_world (all_items files)) p ≡ Some world → is_world_at files to ≡ Some world
leads_to files to id r p world local found some kind =
    let all = all_items files in
    let w = map_at is_world all p world kind in
    let at = found_some (target (item_rows files) id) p (sym (found ∙ ap (found_at files) local) ∙ some) in
    let it : item_named all id.name.now ≡ Some w.0 = find_position (λ (i : Item). bytes_eq (item_name i) id.name.now) all p (sym (place_of-item all id.name.now) ∙ at) ∙ w.1 in
    ap (is_world_at files) local ∙ ap (option_map is_world) it ∙ ap Some w.2

-- a place that a path leads to is one of an item
pub leads_within : (files : List PackageFile) (to : Target) (id : Id) (r : Option Found) (p : ℕ) → to ≡ Local id → r ≡ found_at files to → r ≡ Some (ItemAt p) → p < length (all_items files)
leads_within files to id r p local found some =
    let at = found_some (target (item_rows files) id) p (sym (found ∙ ap (found_at files) local) ∙ some) in
    let it = position-Some (λ (row : Row). bytes_eq id.name.now row.name) (item_rows files) p (record { name = []; needs = [] }) at in
    let lt : p < length (item_rows files) = it.0 in
    omega (arith, lt, length-map (all_items files) item_row)

-- the name of no item is lost
pub lost_named : (files : List PackageFile) (id from : Id) → item_named (all_items files) id.name.now ≡ None → reached_fault (is_world_at files (Local id)) from (lost_fault (all_items files) (Local id)) None ≡ Some (missing_at 7 item_word id)
lost_named files id from none = ap (λ (o : Option Bool). reached_fault o from (lost_fault (all_items files) (Local id)) None) (ap (option_map is_world) none) ∙ lost_at (all_items files) id none

-- nothing of another package is at a name
pub item_apart : (o : Option ℕ) (k : ℕ) → option_map ItemAt o ≡ Some (ForeignAt k) → ⊥
item_apart None k h = let f : ⊥ = cc in f
item_apart (Some j) k h = let wrong : ItemAt j ≡ ForeignAt k = cc in let f : ⊥ = cc in f

-- Paths to items of other packages, and the entries of those items.
-- no world is where a path leads: of the package none that was resolved, of another package an interface
abbrev pub IsNoWorld : List PackageFile → Names → Target → Type 0
IsNoWorld files by_name (Local id) = env_of by_name id.name.now ≡ None
IsNoWorld files by_name (Foreign p id) = option_map (λ (v : ForeignVisit). v.wants_world) (foreign_at files (ForeignNamed p id.name.now)) ≡ Some false

abbrev named : PackageName → Id → Address
named p id = ForeignNamed p id.name.now

abbrev is_at : Address → ForeignVisit → Bool
is_at s v = same_address (visited v) s

-- the place of another package, if it is one
foreign_place_of : (o : Option ℕ) (k : ℕ) → option_map ForeignAt o ≡ Some (ForeignAt k) → o ≡ Some k
foreign_place_of None k h = absurd (let f : ⊥ = cc in f)
foreign_place_of (Some j) k h = cc

no_foreign_place : (o : Option ℕ) → ((k : ℕ) → option_map ForeignAt o ≡ Some (ForeignAt k) → ⊥) → o ≡ None
no_foreign_place None h = refl
no_foreign_place (Some j) h = absurd (h j refl)

-- the entry at the place that is found
pub entry_found : (files : List PackageFile) (entries : List AstItem) (t : Target) (r : Option Found) (k : ℕ) → r ≡ found_at files t → r ≡ Some (ForeignAt k) → entries ≡ map (foreign_entry files) (foreign_items files) → slice_get entries k ≡ entry_at files t
entry_found files entries (Local id) r k found is all = absurd (item_apart _ k (sym found ∙ is))
entry_found files entries (Foreign p id) r k found is all =
    let s = named p id in
    let items = foreign_items files in
    let there : find (is_at s) items ≡ slice_get items k = find_position (is_at s) items k (foreign_place_of _ k (sym found ∙ is)) in
    ap (λ l. slice_get l k) all ∙ slice_get-map (foreign_entry files) items k ∙ ap (option_map (foreign_entry files)) (sym there)

-- none, where none is found
pub entry_missing : (files : List PackageFile) (t : Target) (r : Option Found) → r ≡ found_at files t → ((k : ℕ) → r ≡ Some (ForeignAt k) → ⊥) → None ≡ entry_at files t
entry_missing files (Local id) r found other = refl
entry_missing files (Foreign p id) r found other =
    let s = named p id in
    let none = no_foreign_place _ (λ k h. other k (found ∙ h)) in
    ap (option_map (foreign_entry files)) (sym (find_no_position (is_at s) (foreign_items files) none))

-- the address of an item is at its place
pub place_listed : (vs : List ForeignVisit) (j : ℕ) (v : ForeignVisit) → slice_get vs j ≡ Some v → slice_get (map visited vs) (position_or_len (λ (y : ForeignVisit). same_item y v) vs) ≡ Some (visited v)
place_listed [] j v at = absurd (let f : ⊥ = cc in f)
place_listed (u ∷ us) j v at = elim (cases_Bool (same_item u v)) [
  | inl same ↦ ap (λ (b : Bool). slice_get (map visited (u ∷ us)) (cond (not b) (1 + position_or_len (λ (y : ForeignVisit). same_item y v) us) 0)) same ∙ ap Some (same_address-equal (visited u) (visited v) same)
  | inr other ↦ ap (λ (b : Bool). slice_get (map visited (u ∷ us)) (cond (not b) (1 + position_or_len (λ (y : ForeignVisit). same_item y v) us) 0)) other ∙ ap (slice_get (map visited (u ∷ us))) (one_more (position_or_len (λ (y : ForeignVisit). same_item y v) us)) ∙ rest_after j at other (λ i here. place_listed us i v here)
]
  where
    one_more : (n : ℕ) → 1 + n ≡ suc n
    one_more n = omega arith

    rest_after : (i : ℕ) → slice_get (u ∷ us) i ≡ Some v → same_item u v ≡ false → ((k : ℕ) → slice_get us k ≡ Some v → slice_get (map visited us) (position_or_len (λ (y : ForeignVisit). same_item y v) us) ≡ Some (visited v)) → slice_get (map visited us) (position_or_len (λ (y : ForeignVisit). same_item y v) us) ≡ Some (visited v)
    rest_after zero here other rest = absurd (
        let one : u ≡ v = cc in
        let wrong : true ≡ false = sym (same_address-from (visited u) (visited v) (ap visited one)) ∙ other in
        let f : ⊥ = cc in
        f)
    rest_after (suc i) here other rest = rest i here

-- an item that is found by its address
found_item : (files : List PackageFile) (s : Address) (v : ForeignVisit) → foreign_at files s ≡ Some v → (k : ℕ) × (slice_get (foreign_items files) k ≡ Some v) × (visited v ≡ s)
found_item files s v h =
    let k = find_at (is_at s) (foreign_items files) v h in
    (k.0, k.1, same_address-equal (visited v) s (find_passes (is_at s) (foreign_items files) v h))

interface_place : (files : List PackageFile) (s : Address) (v : ForeignVisit) → foreign_at files s ≡ Some v → v.wants_world ≡ false → slice_get (map visited (foreign_interfaces files)) (position_or_len (λ (y : ForeignVisit). same_item y v) (foreign_interfaces files)) ≡ Some s
interface_place files s v h sort =
    let it = found_item files s v h in
    let k = kept_has (λ u. not u.wants_world) (foreign_items files) it.0 v (ap not sort) it.1 in
    place_listed (foreign_interfaces files) k.0 v k.1 ∙ ap Some it.2

world_place : (files : List PackageFile) (s : Address) (v : ForeignVisit) → foreign_at files s ≡ Some v → v.wants_world ≡ true → slice_get (map visited (foreign_worlds files)) (position_or_len (λ (y : ForeignVisit). same_item y v) (foreign_worlds files)) ≡ Some s
world_place files s v h sort =
    let it = found_item files s v h in
    let k = kept_has (λ (v : ForeignVisit). v.wants_world) (foreign_items files) it.0 v sort it.1 in
    place_listed (foreign_worlds files) k.0 v k.1 ∙ ap Some it.2

entry_interface : (files : List PackageFile) (v : ForeignVisit) → v.wants_world ≡ false → foreign_entry files v ≡ entry.Interface (position_or_len (λ (y : ForeignVisit). same_item y v) (foreign_interfaces files))
entry_interface files v sort = ap (λ (b : Bool). cond b (entry.World (position_or_len (λ (y : ForeignVisit). same_item y v) (foreign_worlds files))) (entry.Interface (position_or_len (λ (y : ForeignVisit). same_item y v) (foreign_interfaces files)))) sort

entry_world : (files : List PackageFile) (v : ForeignVisit) → v.wants_world ≡ true → foreign_entry files v ≡ entry.World (position_or_len (λ (y : ForeignVisit). same_item y v) (foreign_worlds files))
entry_world files v sort = ap (λ (b : Bool). cond b (entry.World (position_or_len (λ (y : ForeignVisit). same_item y v) (foreign_worlds files))) (entry.Interface (position_or_len (λ (y : ForeignVisit). same_item y v) (foreign_interfaces files)))) sort

-- where an interface is where a path leads, the path leads to an interface, whose address is at that place
pub interface_found : (files : List PackageFile) (p : PackageName) (id : Id) (i : ℕ) → entry_at files (Foreign p id) ≡ Some (entry.Interface i) → (is_world_at files (Foreign p id) ≡ Some false) × (slice_get (map visited (foreign_interfaces files)) i ≡ Some (ForeignNamed p id.name.now))
interface_found files p id i h = of_entry (foreign_at files (named p id)) refl h
  where
    of_entry : (o : Option ForeignVisit) → foreign_at files (named p id) ≡ o → option_map (foreign_entry files) o ≡ Some (entry.Interface i) → (option_map (λ (v : ForeignVisit). v.wants_world) (foreign_at files (named p id)) ≡ Some false) × (slice_get (map visited (foreign_interfaces files)) i ≡ Some (named p id))
    of_entry None found is = absurd (let f : ⊥ = cc in f)
    of_entry (Some v) found is = elim (cases_Bool v.wants_world) [
      | inl world ↦ absurd (
          let wrong : Some (entry.World (position_or_len (λ (y : ForeignVisit). same_item y v) (foreign_worlds files))) ≡ Some (entry.Interface i) = ap Some (sym (entry_world files v world)) ∙ is in
          let f : ⊥ = cc in
          f)
      | inr sort ↦ (
          let both : Some (entry.Interface (position_or_len (λ (y : ForeignVisit). same_item y v) (foreign_interfaces files))) ≡ Some (entry.Interface i) = ap Some (sym (entry_interface files v sort)) ∙ is in
          let place : position_or_len (λ (y : ForeignVisit). same_item y v) (foreign_interfaces files) ≡ i = cc in
          (ap (option_map (λ (v : ForeignVisit). v.wants_world)) found ∙ ap Some sort, ap (slice_get (map visited (foreign_interfaces files))) (sym place) ∙ interface_place files (named p id) v found sort))
    ]

-- where none is there, the path leads to a world, if it leads to an item that is visited
pub interface_missing : (files : List PackageFile) (p : PackageName) (id : Id) (v : ForeignVisit) → foreign_at files (ForeignNamed p id.name.now) ≡ Some v → ((i : ℕ) → entry_at files (Foreign p id) ≡ Some (entry.Interface i) → ⊥) → is_world_at files (Foreign p id) ≡ Some true
interface_missing files p id v found other = elim (cases_Bool v.wants_world) [
  | inl world ↦ ap (option_map (λ (v : ForeignVisit). v.wants_world)) found ∙ ap Some world
  | inr sort ↦ absurd (other (position_or_len (λ (y : ForeignVisit). same_item y v) (foreign_interfaces files)) (ap (option_map (foreign_entry files)) found ∙ ap Some (entry_interface files v sort)))
]

-- the address of a world that is where a path leads
pub world_found : (files : List PackageFile) (by_name : Names) (ws : List World) (t : Target) (w : ℕ) → ((name : List ℕ) (place : ℕ) → env_of by_name name ≡ Some place → slice_get (worlds_at (map visited (foreign_worlds files)) ws) place ≡ Some (WorldNamed name)) → length (map visited (foreign_worlds files)) ≤ length ws → world_at files by_name t ≡ Some w → slice_get (worlds_at (map visited (foreign_worlds files)) ws) w ≡ Some (target_scope WorldNamed t)
world_found files by_name ws (Local id) w present enough h = present id.name.now w h
world_found files by_name ws (Foreign p id) w present enough h = of_entry (foreign_at files (named p id)) refl h
  where
    prefix : (ss : List Address) (vs : List World) (t : ℕ) (s : Address) → length ss ≤ length vs → slice_get ss t ≡ Some s → slice_get (worlds_at ss vs) t ≡ Some s
    prefix [] vs t s count at = absurd (let f : ⊥ = cc in f)
    prefix (r ∷ ss) [] t s count at = absurd (let f : ⊥ = omega arith in f)
    prefix (r ∷ ss) (v ∷ vs) zero s count at = at
    prefix (r ∷ ss) (v ∷ vs) (suc t) s count at = prefix ss vs t s (omega arith) at

    of_entry : (o : Option ForeignVisit) → foreign_at files (named p id) ≡ o → world_entry (option_map (foreign_entry files) o) ≡ Some w → slice_get (worlds_at (map visited (foreign_worlds files)) ws) w ≡ Some (ForeignNamed p id.name.now)
    of_entry None found is = absurd (let f : ⊥ = cc in f)
    of_entry (Some v) found is = elim (cases_Bool v.wants_world) [
      | inl world ↦ (
          let both : Some (position_or_len (λ (y : ForeignVisit). same_item y v) (foreign_worlds files)) ≡ Some w = ap (λ e. world_entry (Some e)) (sym (entry_world files v world)) ∙ is in
          let place : position_or_len (λ (y : ForeignVisit). same_item y v) (foreign_worlds files) ≡ w = cc in
          prefix (map visited (foreign_worlds files)) ws w (named p id) enough (ap (slice_get (map visited (foreign_worlds files))) (sym place) ∙ world_place files (named p id) v found world))
      | inr sort ↦ absurd (
          let wrong : None ≡ Some w = ap (λ e. world_entry (Some e)) (sym (entry_interface files v sort)) ∙ is in
          let f : ⊥ = cc in
          f)
    ]

-- no world is where a path leads to no world, if it leads to an item that is visited
pub world_missing : (files : List PackageFile) (by_name : Names) (t : Target) → ((p : PackageName) (id : Id) → t ≡ Foreign p id → (v : ForeignVisit) × (foreign_at files (ForeignNamed p id.name.now) ≡ Some v)) → world_at files by_name t ≡ None → IsNoWorld files by_name t
world_missing files by_name (Local id) found h = h
world_missing files by_name (Foreign p id) found h =
    let v = found p id refl in
    elim (cases_Bool v.0.wants_world) [
      | inl world ↦ absurd (
          let wrong : Some (position_or_len (λ (y : ForeignVisit). same_item y v.0) (foreign_worlds files)) ≡ None = ap (λ e. world_entry (Some e)) (sym (entry_world files v.0 world)) ∙ ap (λ o. world_entry (option_map (foreign_entry files) o)) (sym v.1) ∙ h in
          let f : ⊥ = cc in
          f)
      | inr sort ↦ ap (option_map (λ (v : ForeignVisit). v.wants_world)) v.1 ∙ ap Some sort
    ]

-- what files visit is an item of the package that it is of
visited_here : (files : List PackageFile) (p : PackageName) (id : Id) → IsVisited files p id → (v : ForeignVisit) × (foreign_at files (ForeignNamed p id.name.now) ≡ Some v)
visited_here files p id here =
    let s = named p id in
    let it = visit_listed files here.place here.v here.at in
    find_some (is_at s) (foreign_items files) it.0 it.1 it.2 (same_address-from (visited it.1) s (it.3 ∙ here.is))

-- the item of another package where a path of a part leads is visited
pub part_visited : (files : List PackageFile) (place : ℕ) (part : Part) (attributes : List Attribute) (world : Bool) (from : UsePath) → HasAmong files place (λ (d : Declared). (about d).parts) part → part_visits part ≡ path_visits attributes world from → (p : PackageName) (id : Id) → leads (top_at files place) from ≡ Foreign p id → (v : ForeignVisit) × (foreign_at files (ForeignNamed p id.name.now) ≡ Some v)
part_visited files place part attributes world from h visits p id lead =
    let item : Item = record { top = top_at files place; declared = h.declared } in
    let q = at_contains (all_items files) item h.item.among in
    let m = at_contains _ part h.among in
    visited_here files p id (path_visited files q.0 item m.0 part attributes world from p id q.1 m.1 visits lead)

-- the visit of an import or an export by its path is one of its item's
extern_part_visited : (ps : List Part) (m : ℕ) (x : Extern) (j : ℕ) (from : UsePath) (v : ForeignVisit) → slice_get ps m ≡ Some (ExternPart x) → slice_get (extern_paths x.kind) j ≡ Some from → slice_get (path_visits x.attributes.items false from) 0 ≡ Some v → (n : ℕ) × (slice_get (walk part_visits extern_visits ps) n ≡ Some v)
extern_part_visited ps m x j from v part at first =
    let of_use : WrittenUse → List ForeignVisit = λ u. path_visits u.attributes.items false u.from in
    let of_path : UsePath → List ForeignVisit = path_visits x.attributes.items false in
    let own = flat_map_has of_path (extern_paths x.kind) j 0 from v at first in
    let there = at_back (flat_map of_use (inline_uses x.kind)) (flat_map of_path (extern_paths x.kind)) own.0 v own.1 in
    let place = length (flat_map of_use (inline_uses x.kind)) + own.0 in
    let here : slice_get (at_side extern_visits x.side (ExternPart x)) place ≡ Some v = ap (λ (b : Bool). slice_get (cond b (extern_visits x) []) place) (side_itself x.side) ∙ there in
    let on_side = flat_map_has (at_side extern_visits x.side) ps m place (ExternPart x) v part here in
    side_has (flat_map part_visits ps) (λ side. flat_map (at_side extern_visits side) ps) x.side on_side.0 v on_side.1

-- where a path of an item that wants an interface leads to another package, that item is visited
wanted_in : (files : List PackageFile) (q : ℕ) (w : Item) (m : ℕ) (x : Part) (j : ℕ) (from : UsePath) (p : PackageName) (id : Id) → slice_get (all_items files) q ≡ Some w → slice_get (parts w) m ≡ Some x → slice_get (use_path x) j ≡ Some from → leads w.top from ≡ Foreign p id → IsVisited files p id
wanted_in files q w m (DefinitionPart d) j from p id at part here lead = absurd (let f : ⊥ = cc in f)
wanted_in files q w m (UsePart u) zero from p id at part here lead =
    let same : u.from ≡ from = cc in
    path_visited files q w m (UsePart u) u.attributes.items false u.from p id at part refl (ap (leads w.top) same ∙ lead)
wanted_in files q w m (UsePart u) (suc j) from p id at part here lead = absurd (let f : ⊥ = cc in f)
wanted_in files q w m (IncludePart i) j from p id at part here lead = absurd (let f : ⊥ = cc in f)
wanted_in files q w m (FunctionPart g) j from p id at part here lead = absurd (let f : ⊥ = cc in f)
wanted_in files q w m (ExternPart x) j from p id at part here lead =
    let from_of : WrittenUse → UsePath = λ u. u.from in
    elim (at_split (map from_of (inline_uses x.kind)) (extern_paths x.kind) j from here) [
      | inl inside ↦ (
          let u = map_at from_of (inline_uses x.kind) j from inside in
          leads_visited files q w u.0 p id at (part_use_at w m (ExternPart x) j u.0 part u.1) (ap (leads w.top) u.2 ∙ lead))
      | inr own ↦ path_among files q w x.attributes.items false from p id at (λ v first. extern_part_visited (parts w) m x own.0 from v part own.2 first) lead
    ]

pub used_visited : (files : List PackageFile) (item : Item) (from : UsePath) → Contains (all_items files) item → Contains (flat_map use_path (parts item)) from → (p : PackageName) (id : Id) → leads item.top from ≡ Foreign p id → (v : ForeignVisit) × (foreign_at files (ForeignNamed p id.name.now) ≡ Some v)
used_visited files item from here among p id lead =
    let q = at_contains (all_items files) item here in
    let k = at_contains _ from among in
    let m = flat_map_at use_path (parts item) k.0 from k.1 in
    visited_here files p id (wanted_in files q.0 item m.0 m.1 m.3.0 from p id q.1 m.2 m.3.1 lead)

pub wanted_visited : (files : List PackageFile) (place : ℕ) (from : UsePath) → HasPath files place from → (p : PackageName) (id : Id) → leads (top_at files place) from ≡ Foreign p id → (v : ForeignVisit) × (foreign_at files (ForeignNamed p id.name.now) ≡ Some v)
wanted_visited files place from h p id lead = used_visited files (record { top = top_at files place; declared = h.declared }) from h.item.among h.among p id lead
