-- What alike files name of other packages, and the names of their scopes.
use Rattle.std.proofs.Common.{◌≡◌, Bool, true, false, not, ◌&&◌, List, [], ◌∷◌, ◌++◌, length, Option, Some, None, refl, ap, ap₂}
use Rattle.wit_walk.proofs.Common.{Address, AllZip, AstItem, Attribute, DefinitionPart, Extern, ExternKind, ExternPart, Foreign, ForeignName, ForeignNamed, ForeignUse, ForeignVisit, FunctionPart, Include, IncludePart, InlineAt, InterfaceNamed, Item, Local, PackageFile, Part, SideItem, Target, TheInterface, TheWorld, Use, UseName, UsePart, UsePath, WorldNamed, about, all_items, all_scopes, bytes_eq, declaration_visits, extern_paths, extern_visits, filter, first_foreign_uses, firsts, flat_map, foreign_at, foreign_items, foreign_uses, foreign_visits, inline_after, inline_item, inline_items, inline_uses, is_interface, is_world, is_world_at, item_at, item_named, item_side, items_on, option_map_or, part_visits, parts, path_visits, same_address, same_foreign_use, same_item, scope, scope_names, side_items, use_of_foreign, used_names, visited}
use Rattle.wit_syntax.proofs.Common.{all_uses, foreign_names, interface_part, leads, map, own_uses}
use Rattle.wit_tree.specs.declared.tree.AstItem.TheVariants as ast
use Rattle.wit_tree.specs.declared.tree.ExternKind.TheVariants as extern
use Rattle.wit_tree.specs.declared.tree.UsePath.TheVariants as path
use Rattle.wit_grammar.specs.Trees.{Use as SeenUse, UsedName, TopUse, Include as SeenInclude, Extern as SeenExtern}
use Rattle.wit_grammar.specs.Seen.{see_attribute, see_extern, see_include, see_use, see_used}
use Rattle.wit_alike.proofs.Lists.{Both, both_same, zip_append, zip_filter, zip_find, zip_flat, zip_map, zip_of}
use Rattle.wit_alike.proofs.Leaves.{SameId, SameAttributes, same_text}
use Rattle.wit_alike.proofs.Paths.{SameHeader, SamePath, SameTarget, SameAst, path_of, same_leads, same_package_of}
use Rattle.wit_alike.proofs.Items.{SameFile, SameItem, SamePart, SameName, same_all_items, same_interface_parts, same_item_at, same_item_named, same_is_world, same_parts, same_scope_names, same_walk}
use Rattle.wit_alike.proofs.Functions.{SameKind, SameSide, extern_kind, same_count, same_inline_item, same_item_side, same_side_items}

abbrev pub SameUse : Use → Use → Type 0
SameUse u t = see_use u ≡ see_use t

pub use_attributes : (u t : Use) → SameUse u t → SameAttributes u.attributes.items t.attributes.items
use_attributes u t h = zip_of see_attribute u.attributes.items t.attributes.items (ap (λ (x : SeenUse). x.attributes) h)

pub use_from : (u t : Use) → SameUse u t → SamePath u.from t.from
use_from u t h = path_of u.from t.from (ap (λ (x : SeenUse). x.from) h)

pub include_attributes : (i j : Include) → see_include i ≡ see_include j → SameAttributes i.attributes.items j.attributes.items
include_attributes i j h = zip_of see_attribute i.attributes.items j.attributes.items (ap (λ (x : SeenInclude). x.attributes) h)

pub include_from : (i j : Include) → see_include i ≡ see_include j → SamePath i.from j.from
include_from i j h = path_of i.from j.from (ap (λ (x : SeenInclude). x.from) h)

-- ---- uses that are written in imports and exports, and their paths
pub same_own_uses : (p q : Part) → SamePart p q → AllZip SameUse (own_uses p) (own_uses q)
same_own_uses (UsePart u) (UsePart t) h = (h, tt)
same_own_uses (UsePart u) q h = absurd h
same_own_uses p (UsePart t) h = absurd h
same_own_uses p q h = tt

pub same_inline_uses : (k l : ExternKind) → SameKind k l → AllZip SameUse (inline_uses k) (inline_uses l)
same_inline_uses (extern.Interface n is) (extern.Interface m js) h = zip_flat SamePart SameUse own_uses own_uses same_own_uses (map interface_part is.items) (map interface_part js.items) (same_interface_parts is.items js.items h.1)
same_inline_uses (extern.Interface n is) l h = absurd h
same_inline_uses k (extern.Interface m js) h = absurd h
same_inline_uses k l h = tt

pub same_extern_paths : (k l : ExternKind) → SameKind k l → AllZip SamePath (extern_paths k) (extern_paths l)
same_extern_paths (extern.Interface n is) (extern.Interface m js) h = tt
same_extern_paths (extern.Path a) (extern.Path b) h = (h, tt)
same_extern_paths (extern.Func n f) (extern.Func m g) h = tt
same_extern_paths (extern.NamedPath n a) (extern.NamedPath m b) h = (h.1, tt)
same_extern_paths k l h = absurd h

-- ---- visits
pub record SameVisit (v w : ForeignVisit) : Type 0 where
  pub attributes : SameAttributes v.attributes w.attributes
  pub of : SameHeader v.of w.of
  pub id : SameId v.id w.id
  pub wants_world : v.wants_world ≡ w.wants_world

same_path_visits : (world : Bool) (before others : List Attribute) (a b : UsePath) → SameAttributes before others → SamePath a b → AllZip SameVisit (path_visits before world a) (path_visits others world b)
same_path_visits world before others (path.Id a) (path.Id b) h same = tt
same_path_visits world before others (path.Package p a) (path.Package q b) h same = (record { attributes = h; of = same.0; id = same.1; wants_world = refl }, tt)
same_path_visits world before others a b h same = absurd same

same_part_visits : (p q : Part) → SamePart p q → AllZip SameVisit (part_visits p) (part_visits q)
same_part_visits (DefinitionPart d) (DefinitionPart e) h = tt
same_part_visits (UsePart u) (UsePart t) h = same_path_visits false u.attributes.items t.attributes.items u.from t.from (use_attributes u t h) (use_from u t h)
same_part_visits (IncludePart i) (IncludePart j) h = same_path_visits true i.attributes.items j.attributes.items i.from j.from (include_attributes i j h) (include_from i j h)
same_part_visits (FunctionPart f) (FunctionPart g) h = tt
same_part_visits (ExternPart x) (ExternPart y) h = tt
same_part_visits p q h = absurd h

same_extern_visits : (x y : Extern) → see_extern x ≡ see_extern y → AllZip SameVisit (extern_visits x) (extern_visits y)
same_extern_visits x y h =
    let kinds = extern_kind x y h in
    let marks = zip_of see_attribute x.attributes.items y.attributes.items (ap (λ (z : SeenExtern). z.prefix.attributes) h) in
    let written = zip_flat SameUse SameVisit (λ (u : Use). path_visits u.attributes.items false u.from) (λ (u : Use). path_visits u.attributes.items false u.from)
    (λ u t same. same_path_visits false u.attributes.items t.attributes.items u.from t.from (use_attributes u t same) (use_from u t same)) (inline_uses x.kind) (inline_uses y.kind) (same_inline_uses x.kind y.kind kinds) in
    zip_append SameVisit (flat_map (λ (u : Use). path_visits u.attributes.items false u.from) (inline_uses x.kind)) (flat_map (path_visits x.attributes.items false) (extern_paths x.kind))
    (flat_map (λ (u : Use). path_visits u.attributes.items false u.from) (inline_uses y.kind)) (flat_map (path_visits y.attributes.items false) (extern_paths y.kind)) written
    (zip_flat SamePath SameVisit (path_visits x.attributes.items false) (path_visits y.attributes.items false) (λ a b same. same_path_visits false x.attributes.items y.attributes.items a b marks same) (extern_paths x.kind) (extern_paths y.kind) (same_extern_paths x.kind y.kind kinds))

same_declaration_visits : (a b : AstItem) → SameAst a b → AllZip SameVisit (declaration_visits a) (declaration_visits b)
same_declaration_visits (ast.Interface i) (ast.Interface j) h =
    same_walk SameVisit part_visits part_visits extern_visits extern_visits same_part_visits same_extern_visits (about (TheInterface i)).parts (about (TheInterface j)).parts
    (same_parts (record { top = []; declared = TheInterface i }) (record { top = []; declared = TheInterface j }) (tt, h))
same_declaration_visits (ast.World w) (ast.World v) h =
    same_walk SameVisit part_visits part_visits extern_visits extern_visits same_part_visits same_extern_visits (about (TheWorld w)).parts (about (TheWorld v)).parts
    (same_parts (record { top = []; declared = TheWorld w }) (record { top = []; declared = TheWorld v }) (tt, h))
same_declaration_visits (ast.Use u) (ast.Use t) h =
    same_path_visits false u.attributes.items t.attributes.items u.item t.item (zip_of see_attribute u.attributes.items t.attributes.items (ap (λ (x : TopUse). x.attributes) h)) (path_of u.item t.item (ap (λ (x : TopUse). x.item) h))
same_declaration_visits a b h = absurd h

same_file_visits : (f g : PackageFile) → SameFile f g → AllZip SameVisit (flat_map declaration_visits f.decl_list.items.items) (flat_map declaration_visits g.decl_list.items.items)
same_file_visits f g h = zip_flat SameAst SameVisit declaration_visits declaration_visits same_declaration_visits f.decl_list.items.items g.decl_list.items.items h.1

pub same_visited : (v w : ForeignVisit) → SameVisit v w → visited v ≡ visited w
same_visited v w h = ap₂ ForeignNamed (same_package_of v.of w.of h.of) (same_text v.id w.id h.id)

-- the first of each
pub zip_firsts : {A : Type 0} (R : A → A → Type 0) (test : A → A → Bool) → ((x y z w : A) → R x z → R y w → test x y ≡ test z w) → (xs ys : List A) → AllZip R xs ys → AllZip R (firsts test xs) (firsts test ys)
zip_firsts R test one [] [] h = tt
zip_firsts R test one [] (y ∷ ys) h = absurd h
zip_firsts R test one (x ∷ xs) [] h = absurd h
zip_firsts R test one (x ∷ xs) (y ∷ ys) h = (h.0, zip_filter R (λ z. not (test x z)) (λ z. not (test y z)) (λ z w same. ap not (one x z y w h.0 same)) (firsts test xs) (firsts test ys) (zip_firsts R test one xs ys h.1))

module _ (files others : List PackageFile) (h : AllZip SameFile files others) where
  pub same_visits : AllZip SameVisit (foreign_visits files) (foreign_visits others)
  same_visits = zip_flat SameFile SameVisit (λ (f : PackageFile). flat_map declaration_visits f.decl_list.items.items) (λ (f : PackageFile). flat_map declaration_visits f.decl_list.items.items) same_file_visits files others h

  pub same_foreign_items : AllZip SameVisit (foreign_items files) (foreign_items others)
  same_foreign_items = zip_firsts SameVisit same_item (λ x y z w one two. ap₂ same_address (same_visited x z one) (same_visited y w two)) (foreign_visits files) (foreign_visits others) same_visits

  same_foreign_at : (s t : Address) → s ≡ t → Both SameVisit (foreign_at files s) (foreign_at others t)
  same_foreign_at s t e = zip_find SameVisit (λ (v : ForeignVisit). same_address (visited v) s) (λ (v : ForeignVisit). same_address (visited v) t) (λ v w same. ap₂ same_address (same_visited v w same) e) (foreign_items files) (foreign_items others) same_foreign_items

  pub same_world_at : (a b : Target) → SameTarget a b → is_world_at files a ≡ is_world_at others b
  same_world_at (Local a) (Local b) same = both_same SameItem is_world is_world same_is_world (item_named (all_items files) a.name.now) (item_named (all_items others) b.name.now) (same_item_named (all_items files) (all_items others) a.name.now b.name.now (same_all_items files others h) (same_text a b same))
  same_world_at (Foreign p a) (Foreign q b) same =
      both_same SameVisit (λ (v : ForeignVisit). v.wants_world) (λ (v : ForeignVisit). v.wants_world) (λ v w one. one.wants_world) (foreign_at files (ForeignNamed p a.name.now)) (foreign_at others (ForeignNamed q b.name.now))
      (same_foreign_at (ForeignNamed p a.name.now) (ForeignNamed q b.name.now) (ap₂ ForeignNamed same.0 (same_text a b same.1)))
  same_world_at a b same = absurd same

-- ---- names that are used from other packages
pub record SameForeignUse (t u : ForeignUse) : Type 0 where
  pub from : t.from ≡ u.from
  pub attributes : SameAttributes t.attributes u.attributes
  pub id : SameId t.id u.id

same_foreign_names : (u t : Use) → SameUse u t → (a b : Target) → SameTarget a b → AllZip SameForeignUse (foreign_names u a) (foreign_names t b)
same_foreign_names u t h (Local a) (Local b) same = tt
same_foreign_names u t h (Foreign p a) (Foreign q b) same =
    zip_map (λ (n m : UseName). see_used n ≡ see_used m) SameForeignUse (use_of_foreign (ForeignNamed p a.name.now) u.attributes.items) (use_of_foreign (ForeignNamed q b.name.now) t.attributes.items)
    (λ n m one. record { from = ap₂ ForeignNamed same.0 (same_text a b same.1); attributes = use_attributes u t h; id = ap (λ (x : UsedName). x.name) one }) u.names.items t.names.items
    (zip_of see_used u.names.items t.names.items (ap (λ (x : SeenUse). x.names) h))
same_foreign_names u t h a b same = absurd same

pub same_item_uses : (i j : Item) → SameItem i j → AllZip SameUse (all_uses i) (all_uses j)
same_item_uses i j h = same_walk SameUse own_uses own_uses (λ (x : Extern). inline_uses x.kind) (λ (x : Extern). inline_uses x.kind) same_own_uses (λ x y one. same_inline_uses x.kind y.kind (extern_kind x y one)) (parts i) (parts j) (same_parts i j h)

same_item_foreign : (i j : Item) → SameItem i j → AllZip SameForeignUse (flat_map (λ (u : Use). foreign_names u (leads i.top u.from)) (all_uses i)) (flat_map (λ (u : Use). foreign_names u (leads j.top u.from)) (all_uses j))
same_item_foreign i j h =
    zip_flat SameUse SameForeignUse (λ (u : Use). foreign_names u (leads i.top u.from)) (λ (u : Use). foreign_names u (leads j.top u.from))
    (λ u t one. same_foreign_names u t one (leads i.top u.from) (leads j.top t.from) (same_leads i.top j.top u.from t.from h.0 (use_from u t one))) (all_uses i) (all_uses j) (same_item_uses i j h)

-- ---- interfaces that are written in items
same_inline_after : (i j : Item) (before xs others ys : List SideItem) → SameItem i j → AllZip SameSide before others → AllZip SameSide xs ys → AllZip SameItem (inline_after i before xs) (inline_after j others ys)
same_inline_after i j before [] others [] h earlier same = tt
same_inline_after i j before [] others (y ∷ ys) h earlier same = absurd same
same_inline_after i j before (x ∷ xs) others [] h earlier same = absurd same
same_inline_after i j before (x ∷ xs) others (y ∷ ys) h earlier same =
    let n = length (filter is_interface (items_on (item_side x) before)) in
    let m = length (filter is_interface (items_on (item_side y) others)) in
    zip_append SameItem (inline_item i n x) (inline_after i (before ++ x ∷ []) xs) (inline_item j m y) (inline_after j (others ++ y ∷ []) ys)
    (same_inline_item i j n m x y h (same_count (item_side x) (item_side y) before others (same_item_side x y same.0) earlier) same.0)
    (same_inline_after i j (before ++ x ∷ []) xs (others ++ y ∷ []) ys h (zip_append SameSide before (x ∷ []) others (y ∷ []) earlier (same.0, tt)) same.1)

pub same_inline_items : (i j : Item) → SameItem i j → AllZip SameItem (inline_items i) (inline_items j)
same_inline_items i j h = same_inline_after i j [] (side_items i) [] (side_items j) h tt (same_side_items i j h)

same_with_inline : (i j : Item) → SameItem i j → AllZip SameItem (i ∷ inline_items i) (j ∷ inline_items j)
same_with_inline i j h = (h, same_inline_items i j h)

module _ (files others : List PackageFile) (h : AllZip SameFile files others) where
  pub same_foreign_uses : AllZip SameForeignUse (foreign_uses files) (foreign_uses others)
  same_foreign_uses = zip_flat SameItem SameForeignUse (λ (i : Item). flat_map (λ (u : Use). foreign_names u (leads i.top u.from)) (all_uses i)) (λ (i : Item). flat_map (λ (u : Use). foreign_names u (leads i.top u.from)) (all_uses i)) same_item_foreign (all_items files) (all_items others) (same_all_items files others h)

  pub same_first_uses : AllZip SameForeignUse (first_foreign_uses files) (first_foreign_uses others)
  same_first_uses = zip_firsts SameForeignUse same_foreign_use
      (λ x y z w one two. ap₂ (λ a b. a && b) (ap₂ same_address one.from two.from) (ap₂ bytes_eq (same_text x.id z.id one.id) (same_text y.id w.id two.id))) (foreign_uses files) (foreign_uses others) same_foreign_uses

  same_used_names : (s : Address) → AllZip SameName (used_names files s) (used_names others s)
  same_used_names s =
      let kept = zip_filter SameForeignUse (λ (t : ForeignUse). same_address t.from s) (λ (t : ForeignUse). same_address t.from s) (λ t u same. ap (λ (a : Address). same_address a s) same.from) (first_foreign_uses files) (first_foreign_uses others) same_first_uses in
      zip_map SameForeignUse SameName (λ (t : ForeignUse). ForeignName t.attributes t.id) (λ (t : ForeignUse). ForeignName t.attributes t.id) (λ t u same. (same.attributes, same.id))
      (filter (λ (t : ForeignUse). same_address t.from s) (first_foreign_uses files)) (filter (λ (t : ForeignUse). same_address t.from s) (first_foreign_uses others)) kept

  pub same_all_scopes : AllZip SameItem (all_scopes files) (all_scopes others)
  same_all_scopes = zip_flat SameItem SameItem (λ (i : Item). i ∷ inline_items i) (λ (i : Item). i ∷ inline_items i) same_with_inline (all_items files) (all_items others) (same_all_items files others h)

  named_there : (o p : Option Item) → Both SameItem o p → AllZip SameName (option_map_or scope_names o []) (option_map_or scope_names p [])
  named_there None None same = tt
  named_there None (Some j) same = absurd same
  named_there (Some i) None same = absurd same
  named_there (Some i) (Some j) same = same_scope_names i j same

  named_at : (s : Address) → AllZip SameName (option_map_or scope_names (item_at (all_scopes files) s) []) (option_map_or scope_names (item_at (all_scopes others) s) [])
  named_at s = named_there (item_at (all_scopes files) s) (item_at (all_scopes others) s) (same_item_at (all_scopes files) (all_scopes others) s s same_all_scopes refl)

  pub same_scope : (s : Address) → AllZip SameName (scope files s) (scope others s)
  same_scope (ForeignNamed p name) = same_used_names (ForeignNamed p name)
  same_scope (InterfaceNamed name) = named_at (InterfaceNamed name)
  same_scope (WorldNamed name) = named_at (WorldNamed name)
  same_scope (InlineAt world side place) = named_at (InlineAt world side place)
