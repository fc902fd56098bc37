-- The items of plain trees, and what they name of other packages.
use Rattle.std.proofs.Common.{ℕ, Bool, true, false, cond, List, [], ◌∷◌, ◌++◌, Option, Some, None, Contains, inl, inr, refl, sym, subst}
use Rattle.wit_arena.proofs.Common.{All, Attribute, DefinitionPart, Exported, Extern, ExternKind, ExternPart, ForeignUse, ForeignVisit, FunctionPart, IfSome, Imported, IncludePart, IsUsedAt, IsWritten, Item, PackageFile, Part, SideInline, TheInterface, TheWorld, TopName, UsePart, UsePath, WorldSide, about, all_items, all_scopes, at_contains, at_side, declaration_visits, declared_items, extern_paths, extern_visits, file_items, flat_map, foreign_uses, foreign_visits, functions, functions_parts, inline_items, inline_items_at, inline_uses, last_header, option_map, option_or, part_functions, part_items, part_names, part_uses, part_visits, parts, path_visits, same_side, scope_names, scopes_either, side_items, top_names, used_at, uses, walk}
use Rattle.wit_syntax.proofs.Common.{AstItem, Use}
use Rattle.wit_tree.specs.declared.tree.AstItem.TheVariants as ast
use Rattle.wit_tree.specs.declared.tree.ExternKind.TheVariants as extern
use Rattle.wit_tree.specs.declared.tree.PackageName.{PackageName as Header}
use Rattle.wit_tree.specs.declared.tree.UsePath.TheVariants as path
use Rattle.wit_grammar.specs.Seen.{see_declaration, see_kind, see_package_id, see_path}
use Rattle.wit_json_laws.specs.PlainTrees.{HasPlainNames, IsPlainDeclaration, IsPlainKind, IsPlainPackageId, IsPlainPath}
use Rattle.wit_json_laws.proofs.Lists.{all_at, all_both, all_more, all_none, all_tail, at_all}
use Rattle.wit_json_laws.proofs.PlainMetadata.{ArePlain, all_flat, all_seen}
use Rattle.wit_json_laws.proofs.PlainParts.{IsPlainPart, IsPlainScopeName, IsPlainSide, IsPlainSource, IsPlainUseOf, inline_uses_plain, interface_parts_plain, part_functions_plain, part_items_plain, part_names_plain, part_uses_plain, world_parts_plain}

-- what an item has in front, and its parts
pub record IsPlainScope (i : Item) : Type 0 where
  pub attributes : ArePlain (about i.declared).attributes
  pub parts : All IsPlainPart (parts i)

-- ---- what follows for an item
pub functions_plain : (i : Item) → IsPlainScope i → All IsPlainSource (functions i)
functions_plain i h = subst (All IsPlainSource) (sym (functions_parts i)) (all_flat IsPlainSource part_functions (parts i) (λ k p at. part_functions_plain p (at_all IsPlainPart (parts i) h.parts k p at)))

pub names_plain : (i : Item) → IsPlainScope i → All IsPlainScopeName (scope_names i)
names_plain i h = all_flat IsPlainScopeName (part_names i.top) (parts i) (λ k p at. part_names_plain i.top p (at_all IsPlainPart (parts i) h.parts k p at))

pub sides_plain : (i : Item) → IsPlainScope i → All IsPlainSide (side_items i)
sides_plain i h = all_flat IsPlainSide part_items (parts i) (λ k p at. part_items_plain p (at_all IsPlainPart (parts i) h.parts k p at))

uses_plain : (i : Item) → IsPlainScope i → All IsPlainUseOf (uses i)
uses_plain i h = all_flat IsPlainUseOf part_uses (parts i) (λ k p at. part_uses_plain p (at_all IsPlainPart (parts i) h.parts k p at))

-- ---- items
declared_plain : (top : List TopName) (a : AstItem) → IsPlainDeclaration (see_declaration a) → All IsPlainScope (declared_items top a)
declared_plain top (ast.Interface i) h = all_more IsPlainScope (record { top = top; declared = TheInterface i }) [] (record { attributes = h.attributes; parts = interface_parts_plain i.items.items h.items }) (all_none IsPlainScope)
declared_plain top (ast.World w) h = all_more IsPlainScope (record { top = top; declared = TheWorld w }) [] (record { attributes = h.attributes; parts = world_parts_plain w.items.items h.items }) (all_none IsPlainScope)
declared_plain top (ast.Use u) h = all_none IsPlainScope

file_plain : (f : PackageFile) → HasPlainNames f → All IsPlainScope (file_items f)
file_plain f h = all_flat IsPlainScope (declared_items (top_names f)) f.decl_list.items.items (λ k a at. declared_plain (top_names f) a (all_seen IsPlainDeclaration see_declaration f.decl_list.items.items h.declarations k a at))

-- ---- paths to other packages
pub record IsPlainVisit (v : ForeignVisit) : Type 0 where
  pub owner : IsPlainPackageId (see_package_id v.of)
  pub attributes : ArePlain v.attributes

path_visits_plain : (attributes : List Attribute) (world : Bool) (from : UsePath) → ArePlain attributes → IsPlainPath (see_path from) → All IsPlainVisit (path_visits attributes world from)
path_visits_plain attributes world (path.Id id) a h = all_none IsPlainVisit
path_visits_plain attributes world (path.Package p id) a h = all_more IsPlainVisit (record { attributes = attributes; of = p; id = id; wants_world = world }) [] (record { owner = h; attributes = a }) (all_none IsPlainVisit)

use_visits_plain : (u : Use) → IsPlainUseOf u → All IsPlainVisit (path_visits u.attributes.items false u.from)
use_visits_plain u h = path_visits_plain u.attributes.items false u.from h.attributes h.from

part_visits_plain : (p : Part) → IsPlainPart p → All IsPlainVisit (part_visits p)
part_visits_plain (DefinitionPart d) h = all_none IsPlainVisit
part_visits_plain (UsePart u) h = use_visits_plain u h
part_visits_plain (IncludePart i) h = path_visits_plain i.attributes.items true i.from h.attributes h.from
part_visits_plain (FunctionPart f) h = all_none IsPlainVisit
part_visits_plain (ExternPart x) h = all_none IsPlainVisit

extern_paths_plain : (k : ExternKind) → IsPlainKind (see_kind k) → All (λ (p : UsePath). IsPlainPath (see_path p)) (extern_paths k)
extern_paths_plain (extern.Interface name items) h = all_none (λ (p : UsePath). IsPlainPath (see_path p))
extern_paths_plain (extern.Path p) h = all_more (λ (p : UsePath). IsPlainPath (see_path p)) p [] h (all_none (λ (p : UsePath). IsPlainPath (see_path p)))
extern_paths_plain (extern.Func name f) h = all_none (λ (p : UsePath). IsPlainPath (see_path p))
extern_paths_plain (extern.NamedPath name p) h = all_more (λ (p : UsePath). IsPlainPath (see_path p)) p [] h.1 (all_none (λ (p : UsePath). IsPlainPath (see_path p)))

extern_visits_plain : (x : Extern) → IsPlainPart (ExternPart x) → All IsPlainVisit (extern_visits x)
extern_visits_plain x h =
    let used = λ (u : Use). path_visits u.attributes.items false u.from in
    let path_target = path_visits x.attributes.items false in
    all_both IsPlainVisit (flat_map used (inline_uses x.kind)) (flat_map path_target (extern_paths x.kind))
    (all_flat IsPlainVisit used (inline_uses x.kind) (λ k u at. use_visits_plain u (at_all IsPlainUseOf (inline_uses x.kind) (inline_uses_plain x.kind h.kind) k u at)))
    (all_flat IsPlainVisit path_target (extern_paths x.kind) (λ k p at. path_visits_plain x.attributes.items false p h.attributes (at_all (λ (p : UsePath). IsPlainPath (see_path p)) (extern_paths x.kind) (extern_paths_plain x.kind h.kind) k p at)))

one_side : {X : Type 0} (P : X → Type 0) (b : Bool) (xs : List X) → All P xs → All P (cond b xs [])
one_side P true xs h = h
one_side P false xs h = all_none P

at_side_plain : (side : WorldSide) (p : Part) → IsPlainPart p → All IsPlainVisit (at_side extern_visits side p)
at_side_plain side (DefinitionPart d) h = all_none IsPlainVisit
at_side_plain side (UsePart u) h = all_none IsPlainVisit
at_side_plain side (IncludePart i) h = all_none IsPlainVisit
at_side_plain side (FunctionPart f) h = all_none IsPlainVisit
at_side_plain side (ExternPart x) h = one_side IsPlainVisit (same_side side x.side) (extern_visits x) (extern_visits_plain x h)

walk_plain : (ps : List Part) → All IsPlainPart ps → All IsPlainVisit (walk part_visits extern_visits ps)
walk_plain ps h =
    let own = flat_map part_visits ps in
    let on = λ (side : WorldSide). flat_map (at_side extern_visits side) ps in
    let each : (side : WorldSide) → All IsPlainVisit (flat_map (at_side extern_visits side) ps) = λ side. all_flat IsPlainVisit (at_side extern_visits side) ps (λ k p at. at_side_plain side p (at_all IsPlainPart ps h k p at)) in
    all_both IsPlainVisit own (on Imported ++ on Exported) (all_flat IsPlainVisit part_visits ps (λ k p at. part_visits_plain p (at_all IsPlainPart ps h k p at)))
    (all_both IsPlainVisit (on Imported) (on Exported) (each Imported) (each Exported))

declaration_visits_plain : (a : AstItem) → IsPlainDeclaration (see_declaration a) → All IsPlainVisit (declaration_visits a)
declaration_visits_plain (ast.Interface i) h = walk_plain (about (TheInterface i)).parts (interface_parts_plain i.items.items h.items)
declaration_visits_plain (ast.World w) h = walk_plain (about (TheWorld w)).parts (world_parts_plain w.items.items h.items)
declaration_visits_plain (ast.Use u) h = path_visits_plain u.attributes.items false u.item h.attributes h.item

file_visits_plain : (f : PackageFile) → HasPlainNames f → All IsPlainVisit (flat_map declaration_visits f.decl_list.items.items)
file_visits_plain f h = all_flat IsPlainVisit declaration_visits f.decl_list.items.items (λ k a at. declaration_visits_plain a (all_seen IsPlainDeclaration see_declaration f.decl_list.items.items h.declarations k a at))

-- ---- the last header
abbrev IsPlainHeader : Header → Type 0
IsPlainHeader h = IsPlainPackageId (see_package_id h)

header_seen : (o : Option Header) → IfSome (option_map see_package_id o) IsPlainPackageId → IfSome o IsPlainHeader
header_seen None h = tt
header_seen (Some x) h = h

one_of : (a b : Option Header) → IfSome a IsPlainHeader → IfSome b IsPlainHeader → IfSome (option_or a b) IsPlainHeader
one_of None b h k = k
one_of (Some x) b h k = h

pub last_header_plain : (files : List PackageFile) → All HasPlainNames files → IfSome (last_header files) IsPlainHeader
last_header_plain [] h = tt
last_header_plain (f ∷ fs) h = one_of (last_header fs) f.package_id (last_header_plain fs (all_tail HasPlainNames f fs h)) (header_seen f.package_id (at_all HasPlainNames (f ∷ fs) h 0 f refl).header)

module _ (files : List PackageFile) (plain : All HasPlainNames files) where
  items_plain : All IsPlainScope (all_items files)
  items_plain = all_flat IsPlainScope file_items files (λ k f at. file_plain f (at_all HasPlainNames files plain k f at))

  item_plain : (i : Item) → Contains (all_items files) i → IsPlainScope i
  item_plain i among = (let k = at_contains (all_items files) i among in at_all IsPlainScope (all_items files) items_plain k.0 i k.1)

  -- an interface that is written in an item
  written_plain : (w i : Item) (k : ℕ) → IsPlainScope w → IsWritten w [] (side_items w) k i → IsPlainScope i
  written_plain w i k h it =
      let side = at_all IsPlainSide (side_items w) (sides_plain w h) it.place (SideInline it.x it.name it.items) it.at in
      subst IsPlainScope it.is (record { attributes = side.0; parts = interface_parts_plain it.items side.2 })

  inside_plain : (w i : Item) → Contains (all_items files) w → Contains (inline_items w) i → IsPlainScope i
  inside_plain w i among inside = (let k = at_contains (inline_items w) i inside in written_plain w i k.0 (item_plain w among) (inline_items_at w k.0 i k.1))

  -- each scope of the files
  pub scope_plain : (i : Item) → Contains (all_scopes files) i → IsPlainScope i
  scope_plain i among = elim (scopes_either files i among) [
    | inl own ↦ item_plain i own
    | inr inside ↦ inside_plain inside.0 i inside.1 inside.2
  ]

  pub visits_plain : All IsPlainVisit (foreign_visits files)
  visits_plain = all_flat IsPlainVisit (λ (f : PackageFile). flat_map declaration_visits f.decl_list.items.items) files (λ k f at. file_visits_plain f (at_all HasPlainNames files plain k f at))

  of_use : (t : ForeignUse) → IsUsedAt files t → ArePlain t.attributes
  of_use t it =
      let i = at_all IsPlainScope (all_items files) items_plain it.place it.item it.at in
      let j = at_contains (uses it.item) it.part it.among in
      let u = at_all IsPlainUseOf (uses it.item) (uses_plain it.item i) j.0 it.part j.1 in
      subst (λ (s : ForeignUse). ArePlain s.attributes) (sym it.is) u.attributes

  pub foreign_uses_plain : All (λ (t : ForeignUse). ArePlain t.attributes) (foreign_uses files)
  foreign_uses_plain = all_at (λ (t : ForeignUse). ArePlain t.attributes) (foreign_uses files) (λ k t at. of_use t (used_at files k t at))
