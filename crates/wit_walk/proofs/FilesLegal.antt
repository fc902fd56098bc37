-- Where the walk finds nothing in the names of files, no rule about them is broken; nor in the uses of items, and in where paths lead.
use Rattle.std.proofs.Common.{◌≡◌, ◌⊎◌, ℕ, zero, suc, Bool, true, false, List, [], ◌∷◌, Option, Some, None, inl, inr, refl, sym, ap, ◌∙◌, subst, Contains}
use Rattle.wit_syntax.proofs.Common.{DefinitionPart, Extern, ExternKind, ExternPart, Fault, FunctionPart, Id, Include, IncludePart, IsBrokenMetadata, IsBrokenStability, IsBrokenUse, IsSecond, Item, Link, Local, MissingUse, PackageFile, Part, SideItem, SideLink, TopName, Use as WrittenUse, UsePart, UsePath, WorldUsed, all_items, all_uses, all_uses_has, at_contains, at_split, contains_at, extern_items, extern_link, extern_paths, file_items, flat_has, flat_map_has, has_flat, include_path, include_paths, includes, inline_uses, interface_there, is_world, is_world_at, item_named, item_word, leads, map, map_at, missing_at, option_map, part_includes, part_items, part_uses, parts, path_id, side_items, slice_get, top_names, top_text, top_twice, use_path, use_paths, uses, world_there}
use Rattle.wit_tree.specs.declared.tree.ExternKind.TheVariants as extern
use Rattle.wit_first.specs.AttributeFaults.{metadata_fault, stability_fault}
use Rattle.wit_first.specs.FileFaults.{file_fault, files_fault, lost_fault, paths_fault}
use Rattle.wit_first.specs.First.{first_in}
use Rattle.wit_first.specs.NameFaults.{top_names_fault}
use Rattle.wit_first.specs.UseFaults.{all_uses_fault, item_uses_fault, path_fault, reached_fault, use_fault}
use Rattle.wit_first.proofs.Bridge.{in_only, metadata_agree, or_none_both, stability_agrees, top_names_agree}
use Rattle.wit_first.proofs.FileFaults.{lost_agrees}
use Rattle.wit_walk.specs.Paths.{include_fault, interface_fault}

-- names at the tops of files
pub tops_legal : (files : List PackageFile) → files_fault files ≡ None → (file : PackageFile) → Contains files file → (f : Fault) → IsSecond top_text (λ (n : TopName). top_twice n.id) (top_names file) f → ⊥
tops_legal files none file among f broken =
    let k = at_contains files file among in
    let own = or_none_both (top_names_fault file) (first_in (paths_fault (all_items files)) (file_items file)) (in_only (file_fault (all_items files)) files none k.0 file k.1) in
    (top_names_agree file).unbroken own.0 f broken

-- so nothing is wrong with a `use` of an item
use_none : (files : List PackageFile) → all_uses_fault files ≡ None → (i : Item) → Contains (all_items files) i → (u : WrittenUse) → Contains (uses i) u → (metadata_fault u.attributes.items ≡ None) × (path_fault files i.top u.from None ≡ None)
use_none files none i here u among =
    let k = at_contains (all_items files) i here in
    let all = all_uses i in
    let j = at_contains all u (all_uses_has i u among) in
    or_none_both (metadata_fault u.attributes.items) (path_fault files i.top u.from None) (in_only (use_fault files i.top) all (in_only (item_uses_fault files) (all_items files) none k.0 i k.1) j.0 u j.1)

pub use_legal : (files : List PackageFile) → all_uses_fault files ≡ None → (i : Item) → Contains (all_items files) i → (u : WrittenUse) → Contains (uses i) u → (f : Fault) → IsBrokenMetadata u.attributes.items f → ⊥
use_legal files none i here u among = (metadata_agree u.attributes.items).unbroken (use_none files none i here u among).0

-- a path of an item is that of a `use`, or that of a link
abbrev IsUsePath : List WrittenUse → UsePath → Type 0
IsUsePath us path = (u : WrittenUse) × Contains us u × (u.from ≡ path)

abbrev IsLinkPath : List SideItem → UsePath → Type 0
IsLinkPath xs path = (k : ℕ) × (link : Link) × (slice_get xs k ≡ Some (SideLink link)) × (link.path ≡ path)

extern_path : (x : Extern) (kind : ExternKind) (j : ℕ) (path : UsePath) → slice_get (extern_paths kind) j ≡ Some path → IsLinkPath (extern_items x kind) path
extern_path x (extern.Path p) zero path at = (0, extern_link x None p, refl, cc)
extern_path x (extern.Path p) (suc j) path at = absurd (let f : ⊥ = cc in f)
extern_path x (extern.NamedPath name p) zero path at = (0, extern_link x (Some name) p, refl, cc)
extern_path x (extern.NamedPath name p) (suc j) path at = absurd (let f : ⊥ = cc in f)
extern_path x (extern.Interface name items) j path at = absurd (let f : ⊥ = cc in f)
extern_path x (extern.Func name g) j path at = absurd (let f : ⊥ = cc in f)

part_path : (p : Part) (j : ℕ) (path : UsePath) → slice_get (use_path p) j ≡ Some path → IsUsePath (part_uses p) path ⊎ IsLinkPath (part_items p) path
part_path (UsePart u) zero path at = inl (u, contains_at (u ∷ []) 0 u refl, cc)
part_path (UsePart u) (suc j) path at = absurd (let f : ⊥ = cc in f)
part_path (ExternPart x) j path at =
    let from : WrittenUse → UsePath = λ u. u.from in
    elim (at_split (map from (inline_uses x.kind)) (extern_paths x.kind) j path at) [
      | inl prefix ↦ (let u = map_at from (inline_uses x.kind) j path prefix in inl (u.0, contains_at (inline_uses x.kind) j u.0 u.1, u.2))
      | inr back ↦ inr (extern_path x x.kind back.0 path back.2)
    ]
part_path (DefinitionPart d) j path at = absurd (let f : ⊥ = cc in f)
part_path (IncludePart n) j path at = absurd (let f : ⊥ = cc in f)
part_path (FunctionPart g) j path at = absurd (let f : ⊥ = cc in f)

path_cases : (i : Item) (path : UsePath) → Contains (use_paths i) path → IsUsePath (uses i) path ⊎ IsLinkPath (side_items i) path
path_cases i path h =
    let p = flat_has use_path (parts i) path h in
    elim (part_path p.1 p.3.0 path p.3.1) [
      | inl own ↦ inl (own.0, has_flat part_uses (parts i) p.0 p.1 own.0 p.2 own.1, own.2)
      | inr link ↦ (let it = flat_map_has part_items (parts i) p.0 link.0 p.1 (SideLink link.1) p.2 link.2 in inr (it.0, link.1, it.1, link.3))
    ]

-- where nothing is wrong with a path, something is there, and it is no world
world_none : (o : Option Bool) (id : Id) (lost : Option Fault) → reached_fault o id lost None ≡ None → o ≡ Some true → ⊥
world_none o id lost none is =
    let wrong : Some (world_there id) ≡ None = subst (λ (p : Option Bool). reached_fault p id lost None ≡ None) is none in
    (let f : ⊥ = cc in f)

lost_none : (o : Option Bool) (id : Id) (lost : Option Fault) → reached_fault o id lost None ≡ None → o ≡ None → lost ≡ None
lost_none o id lost none is = subst (λ (p : Option Bool). reached_fault p id lost None ≡ None) is none

path_legal : (files : List PackageFile) (top : List TopName) (path : UsePath) → path_fault files top path None ≡ None → (id : Id) → leads top path ≡ Local id → item_named (all_items files) id.name.now ≡ None → ⊥
path_legal files top path none id local missing =
    let there : is_world_at files (leads top path) ≡ None = ap (is_world_at files) local ∙ ap (option_map is_world) missing in
    let lost = lost_none (is_world_at files (leads top path)) (path_id path) (lost_fault (all_items files) (leads top path)) none there in
    (lost_agrees (all_items files) (leads top path)).unbroken lost (missing_at 7 item_word id) (record { id = id; local = local; missing = missing; is = refl })

-- so the paths of an item lead where they have to, where nothing is wrong with those of its links
pub paths_legal : (files : List PackageFile) → all_uses_fault files ≡ None → (i : Item) → Contains (all_items files) i → ((k : ℕ) (link : Link) → slice_get (side_items i) k ≡ Some (SideLink link) → path_fault files i.top link.path None ≡ None) → (f : Fault) → IsBrokenUse files i f → ⊥
paths_legal files none i here links f broken = elim broken [
  | MissingUse path id among local missing says ↦ path_legal files i.top path (right path among) id local missing
  | WorldUsed path among is says ↦ world_none (is_world_at files (leads i.top path)) (path_id path) (lost_fault (all_items files) (leads i.top path)) (right path among) is
]
  where
    right : (path : UsePath) → Contains (use_paths i) path → path_fault files i.top path None ≡ None
    right path among = elim (path_cases i path among) [
      | inl own ↦ ap (λ (p : UsePath). path_fault files i.top p None) (sym own.2) ∙ (use_none files none i here own.0 own.1).1
      | inr link ↦ ap (λ (p : UsePath). path_fault files i.top p None) (sym link.3) ∙ links link.0 link.1 link.2
    ]

-- an include
include_none : (files : List PackageFile) (i : Item) → first_in (include_fault files i.top) (includes i) ≡ None → (n : Include) → Contains (includes i) n → (stability_fault n.attributes.items ≡ None) × (interface_fault (is_world_at files (leads i.top n.from)) (path_id n.from) ≡ None)
include_none files i none n among =
    let k = at_contains (includes i) n among in
    or_none_both (stability_fault n.attributes.items) (interface_fault (is_world_at files (leads i.top n.from)) (path_id n.from)) (in_only (include_fault files i.top) (includes i) none k.0 n k.1)

pub include_legal : (files : List PackageFile) (i : Item) → first_in (include_fault files i.top) (includes i) ≡ None → (n : Include) → Contains (includes i) n → (f : Fault) → IsBrokenStability n.attributes.items f → ⊥
include_legal files i none n among = (stability_agrees n.attributes.items).unbroken (include_none files i none n among).0

include_of : (i : Item) (path : UsePath) → Contains (include_paths i) path → (n : Include) × Contains (includes i) n × (n.from ≡ path)
include_of i path h =
    let p = flat_has include_path (parts i) path h in
    let n = map_at (λ (n : Include). n.from) (part_includes p.1) p.3.0 path p.3.1 in
    (n.0, has_flat part_includes (parts i) p.0 p.1 n.0 p.2 (contains_at (part_includes p.1) p.3.0 n.0 n.1), n.2)

pub included_legal : (files : List PackageFile) (i : Item) → first_in (include_fault files i.top) (includes i) ≡ None → (path : UsePath) → Contains (include_paths i) path → is_world_at files (leads i.top path) ≡ Some false → ⊥
included_legal files i none path among is =
    let n = include_of i path among in
    let there : is_world_at files (leads i.top n.0.from) ≡ Some false = ap (λ (p : UsePath). is_world_at files (leads i.top p)) n.2 ∙ is in
    let wrong : Some (interface_there (path_id n.0.from)) ≡ None = subst (λ (o : Option Bool). interface_fault o (path_id n.0.from) ≡ None) there (include_none files i none n.0 n.1).1 in
    (let f : ⊥ = cc in f)
