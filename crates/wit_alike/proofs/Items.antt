-- Items of files, their parts and the names of their scopes, that are alike.
use Rattle.std.proofs.Common.{◌≡◌, ℕ, Bool, true, false, cond, List, [], ◌++◌, map, Some, refl, ap, ap₂, ◌∙◌}
use Rattle.wit_walk.proofs.Common.{Address, AllZip, AstItem, Attribute, Declared, Defined, DefinitionPart, Exported, Extern, ExternPart, ForeignName, FunctionPart, Imported, Include, IncludePart, InlineAt, InterfaceItem, InterfaceNamed, Item, PackageFile, Part, ScopeName, TheInline, TheInterface, TheWorld, TopName, Use, UseName, UsePart, Used, WorldItem, WorldNamed, WorldSide, about, about_name, address, all_items, at_side, bytes_eq, declared_items, file_items, flat_map, interface_part, is_world, item_at, item_name, item_named, local_id, local_name, meaning, option_map, part_names, parts, path_scope, same_address, same_side, scope_names, top_name, top_names, walk, world_part}
use Rattle.wit_type_tree.specs.declared.types.TypeDef.{TypeDef}
use Rattle.wit_tree.specs.declared.tree.InterfaceItem.TheVariants as interface_item
use Rattle.wit_tree.specs.declared.tree.WorldItem.TheVariants as world_item
use Rattle.wit_tree.specs.declared.tree.AstItem.TheVariants as ast
use Rattle.wit_grammar.specs.Trees.{Definition, UsedName, Use as SeenUse, Interface as SeenInterface, World as SeenWorld, Extern as SeenExtern}
use Rattle.wit_grammar.specs.Seen.{see_attribute, see_definition, see_extern, see_include, see_interface, see_item, see_named_func, see_package_id, see_use, see_used, see_world, see_world_item}
use Rattle.wit_alike.proofs.Lists.{Both, zip_append, zip_find, zip_flat, zip_map, zip_of}
use Rattle.wit_alike.proofs.Leaves.{SameId, SameAttributes, same_text}
use Rattle.wit_alike.proofs.Bodies.{SameMeaning, body_same, same_meaning}
use Rattle.wit_alike.proofs.Paths.{SameTop, SameAst, path_of, same_or_id, same_path_scope, same_top_name}

-- ---- items
abbrev pub SameDeclared : Declared → Declared → Type 0
SameDeclared (TheInterface i) (TheInterface j) = see_interface i ≡ see_interface j
SameDeclared (TheWorld w) (TheWorld v) = see_world w ≡ see_world v
SameDeclared (TheInline w p x n is) (TheInline v q y m js) = (w ≡ v) × (p ≡ q) × (see_extern x ≡ see_extern y) × SameId n m × AllZip (λ (a b : InterfaceItem). see_item a ≡ see_item b) is js
SameDeclared d e = ⊥

abbrev pub SameItem : Item → Item → Type 0
SameItem i j = AllZip SameTop i.top j.top × SameDeclared i.declared j.declared

abbrev pub SamePart : Part → Part → Type 0
SamePart (DefinitionPart d) (DefinitionPart e) = see_definition d ≡ see_definition e
SamePart (UsePart u) (UsePart t) = see_use u ≡ see_use t
SamePart (IncludePart i) (IncludePart j) = see_include i ≡ see_include j
SamePart (FunctionPart f) (FunctionPart g) = see_named_func f ≡ see_named_func g
SamePart (ExternPart x) (ExternPart y) = see_extern x ≡ see_extern y
SamePart p q = ⊥

same_interface_part : (a b : InterfaceItem) → see_item a ≡ see_item b → SamePart (interface_part a) (interface_part b)
same_interface_part (interface_item.TypeDef d) (interface_item.TypeDef e) h = cc
same_interface_part (interface_item.Use u) (interface_item.Use t) h = cc
same_interface_part (interface_item.Func f) (interface_item.Func g) h = cc
same_interface_part a b h = absurd (let f : ⊥ = cc in f)

same_world_part : (a b : WorldItem) → see_world_item a ≡ see_world_item b → SamePart (world_part a) (world_part b)
same_world_part (world_item.TypeDef d) (world_item.TypeDef e) h = cc
same_world_part (world_item.Use u) (world_item.Use t) h = cc
same_world_part (world_item.Include i) (world_item.Include j) h = cc
same_world_part (world_item.Extern x) (world_item.Extern y) h = cc
same_world_part a b h = absurd (let f : ⊥ = cc in f)

pub same_interface_parts : (is js : List InterfaceItem) → AllZip (λ (a b : InterfaceItem). see_item a ≡ see_item b) is js → AllZip SamePart (map interface_part is) (map interface_part js)
same_interface_parts is js h = zip_map (λ (a b : InterfaceItem). see_item a ≡ see_item b) SamePart interface_part interface_part same_interface_part is js h

same_world_parts : (is js : List WorldItem) → AllZip (λ (a b : WorldItem). see_world_item a ≡ see_world_item b) is js → AllZip SamePart (map world_part is) (map world_part js)
same_world_parts is js h = zip_map (λ (a b : WorldItem). see_world_item a ≡ see_world_item b) SamePart world_part world_part same_world_part is js h

-- what is stated of items
pub same_id : (d e : Declared) → SameDeclared d e → SameId (about d).id (about e).id
same_id (TheInterface i) (TheInterface j) h = ap (λ (x : SeenInterface). x.name) h
same_id (TheWorld w) (TheWorld v) h = ap (λ (x : SeenWorld). x.name) h
same_id (TheInline w p x n is) (TheInline v q y m js) h = h.3
same_id d e h = absurd h

pub same_about_attributes : (d e : Declared) → SameDeclared d e → SameAttributes (about d).attributes (about e).attributes
same_about_attributes (TheInterface i) (TheInterface j) h = zip_of see_attribute i.attributes.items j.attributes.items (ap (λ (x : SeenInterface). x.prefix.attributes) h)
same_about_attributes (TheWorld w) (TheWorld v) h = zip_of see_attribute w.attributes.items v.attributes.items (ap (λ (x : SeenWorld). x.prefix.attributes) h)
same_about_attributes (TheInline w p x n is) (TheInline v q y m js) h = zip_of see_attribute x.attributes.items y.attributes.items (ap (λ (z : SeenExtern). z.prefix.attributes) h.2)
same_about_attributes d e h = absurd h

same_about_address : (d e : Declared) → SameDeclared d e → (about d).address ≡ (about e).address
same_about_address (TheInterface i) (TheInterface j) h = ap (λ (x : SeenInterface). InterfaceNamed x.name.text) h
same_about_address (TheWorld w) (TheWorld v) h = ap (λ (x : SeenWorld). WorldNamed x.name.text) h
same_about_address (TheInline w p x n is) (TheInline v q y m js) h =
    ap (λ (world : List ℕ). InlineAt world x.side p) h.0 ∙ ap (λ (z : SeenExtern). InlineAt v z.side p) h.2 ∙ ap (λ (place : ℕ). InlineAt v y.side place) h.1
same_about_address d e h = absurd h

same_about_world : (d e : Declared) → SameDeclared d e → (about d).is_world ≡ (about e).is_world
same_about_world (TheInterface i) (TheInterface j) h = refl
same_about_world (TheWorld w) (TheWorld v) h = refl
same_about_world (TheInline w p x n is) (TheInline v q y m js) h = refl
same_about_world d e h = absurd h

same_about_parts : (d e : Declared) → SameDeclared d e → AllZip SamePart (about d).parts (about e).parts
same_about_parts (TheInterface i) (TheInterface j) h = same_interface_parts i.items.items j.items.items (zip_of see_item i.items.items j.items.items (ap (λ (x : SeenInterface). x.items) h))
same_about_parts (TheWorld w) (TheWorld v) h = same_world_parts w.items.items v.items.items (zip_of see_world_item w.items.items v.items.items (ap (λ (x : SeenWorld). x.items) h))
same_about_parts (TheInline w p x n is) (TheInline v q y m js) h = same_interface_parts is js h.4
same_about_parts d e h = absurd h

pub same_item_id : (i j : Item) → SameItem i j → SameId (about i.declared).id (about j.declared).id
same_item_id i j h = same_id i.declared j.declared h.1

pub same_item_name : (i j : Item) → SameItem i j → item_name i ≡ item_name j
same_item_name i j h = same_text (about i.declared).id (about j.declared).id (same_item_id i j h)

pub same_item_address : (i j : Item) → SameItem i j → address i ≡ address j
same_item_address i j h = same_about_address i.declared j.declared h.1

pub same_is_world : (i j : Item) → SameItem i j → is_world i ≡ is_world j
same_is_world i j h = same_about_world i.declared j.declared h.1

pub same_parts : (i j : Item) → SameItem i j → AllZip SamePart (parts i) (parts j)
same_parts i j h = same_about_parts i.declared j.declared h.1

-- ---- files
abbrev pub SameFile : PackageFile → PackageFile → Type 0
SameFile f g = (option_map see_package_id f.package_id ≡ option_map see_package_id g.package_id) × AllZip SameAst f.decl_list.items.items g.decl_list.items.items

pub same_top_names : (f g : PackageFile) → SameFile f g → AllZip SameTop (top_names f) (top_names g)
same_top_names f g h = zip_map SameAst SameTop top_name top_name same_top_name f.decl_list.items.items g.decl_list.items.items h.1

same_declared_items : (top other : List TopName) → AllZip SameTop top other → (a b : AstItem) → SameAst a b → AllZip SameItem (declared_items top a) (declared_items other b)
same_declared_items top other tops (ast.Interface i) (ast.Interface j) h = ((tops, h), tt)
same_declared_items top other tops (ast.World w) (ast.World v) h = ((tops, h), tt)
same_declared_items top other tops (ast.Use u) (ast.Use t) h = tt
same_declared_items top other tops a b h = absurd h

pub same_file_items : (f g : PackageFile) → SameFile f g → AllZip SameItem (file_items f) (file_items g)
same_file_items f g h = zip_flat SameAst SameItem (declared_items (top_names f)) (declared_items (top_names g)) (same_declared_items (top_names f) (top_names g) (same_top_names f g h)) f.decl_list.items.items g.decl_list.items.items h.1

pub same_all_items : (files others : List PackageFile) → AllZip SameFile files others → AllZip SameItem (all_items files) (all_items others)
same_all_items files others h = zip_flat SameFile SameItem file_items file_items same_file_items files others h

pub same_item_named : (is js : List Item) (name other : List ℕ) → AllZip SameItem is js → name ≡ other → Both SameItem (item_named is name) (item_named js other)
same_item_named is js name other h e = zip_find SameItem (λ (i : Item). bytes_eq (item_name i) name) (λ (j : Item). bytes_eq (item_name j) other) (λ i j same. ap₂ bytes_eq (same_item_name i j same) e) is js h

pub same_item_at : (is js : List Item) (s t : Address) → AllZip SameItem is js → s ≡ t → Both SameItem (item_at is s) (item_at js t)
same_item_at is js s t h e = zip_find SameItem (λ (i : Item). same_address (address i) s) (λ (j : Item). same_address (address j) t) (λ i j same. ap₂ same_address (same_item_address i j same) e) is js h

-- ---- what parts bring
module _ {A : Type 0} (R : A → A → Type 0) (own other : Part → List A) (of by : Extern → List A) (owns : (p q : Part) → SamePart p q → AllZip R (own p) (other q))
    (externs : (x y : Extern) → see_extern x ≡ see_extern y → AllZip R (of x) (by y)) where
  same_where : (here there : Bool) (xs ys : List A) → here ≡ there → AllZip R xs ys → AllZip R (cond here xs []) (cond there ys [])
  same_where true true xs ys e h = h
  same_where true false xs ys e h = absurd (let f : ⊥ = cc in f)
  same_where false true xs ys e h = absurd (let f : ⊥ = cc in f)
  same_where false false xs ys e h = tt

  same_at_side : (side : WorldSide) (p q : Part) → SamePart p q → AllZip R (at_side of side p) (at_side by side q)
  same_at_side side (DefinitionPart d) (DefinitionPart e) h = tt
  same_at_side side (UsePart u) (UsePart t) h = tt
  same_at_side side (IncludePart i) (IncludePart j) h = tt
  same_at_side side (FunctionPart f) (FunctionPart g) h = tt
  same_at_side side (ExternPart x) (ExternPart y) h = same_where (same_side side x.side) (same_side side y.side) (of x) (by y) (ap (λ (z : SeenExtern). same_side side z.side) h) (externs x y h)
  same_at_side side p q h = absurd h

  pub same_walk : (ps qs : List Part) → AllZip SamePart ps qs → AllZip R (walk own of ps) (walk other by qs)
  same_walk ps qs h =
      let sides = zip_append R (flat_map (at_side of Imported) ps) (flat_map (at_side of Exported) ps) (flat_map (at_side by Imported) qs) (flat_map (at_side by Exported) qs)
      (zip_flat SamePart R (at_side of Imported) (at_side by Imported) (same_at_side Imported) ps qs h) (zip_flat SamePart R (at_side of Exported) (at_side by Exported) (same_at_side Exported) ps qs h) in
      zip_append R (flat_map own ps) (flat_map (at_side of Imported) ps ++ flat_map (at_side of Exported) ps) (flat_map other qs) (flat_map (at_side by Imported) qs ++ flat_map (at_side by Exported) qs) (zip_flat SamePart R own other owns ps qs h) sides

-- ---- names of scopes
abbrev pub SameName : ScopeName → ScopeName → Type 0
SameName (Used s before n) (Used t bs m) = (s ≡ t) × SameAttributes before bs × (see_used n ≡ see_used m)
SameName (Defined d) (Defined e) = see_definition d ≡ see_definition e
SameName (ForeignName before a) (ForeignName bs b) = SameAttributes before bs × SameId a b
SameName x y = ⊥

pub same_local_id : (x y : ScopeName) → SameName x y → SameId (local_id x) (local_id y)
same_local_id (Used s before n) (Used t bs m) h = same_or_id n.as_ m.as_ n.name m.name (ap (λ (u : UsedName). u.local) h.2) (ap (λ (u : UsedName). u.name) h.2)
same_local_id (Defined d) (Defined e) h = ap (λ (x : Definition). x.name) h
same_local_id (ForeignName before a) (ForeignName bs b) h = h.1
same_local_id x y h = absurd h

pub same_local_name : (x y : ScopeName) → SameName x y → local_name x ≡ local_name y
same_local_name x y h = same_text (local_id x) (local_id y) (same_local_id x y h)

pub same_from : (x y : ScopeName) → SameName x y → (about_name x).from ≡ (about_name y).from
same_from (Used s before n) (Used t bs m) h = ap Some h.0
same_from (Defined d) (Defined e) h = refl
same_from (ForeignName before a) (ForeignName bs b) h = refl
same_from x y h = absurd h

pub same_name_body : (x y : ScopeName) → SameName x y → SameMeaning (about_name x).body (about_name y).body
same_name_body (Used s before n) (Used t bs m) h = (refl, (ap (λ (u : UsedName). u.name) h.2, tt))
same_name_body (Defined d) (Defined e) h = same_meaning d.body e.body (body_same d.body e.body (ap (λ (x : Definition). x.body) h))
same_name_body (ForeignName before a) (ForeignName bs b) h = (refl, tt)
same_name_body x y h = absurd h

same_used : (s t : Address) (before bs : List Attribute) → s ≡ t → SameAttributes before bs → (ns ms : List UseName) → AllZip (λ (n m : UseName). see_used n ≡ see_used m) ns ms → AllZip SameName (map (Used s before) ns) (map (Used t bs) ms)
same_used s t before bs e attributes ns ms h = zip_map (λ (n m : UseName). see_used n ≡ see_used m) SameName (Used s before) (Used t bs) (λ n m same. (e, attributes, same)) ns ms h

same_part_names : (top other : List TopName) → AllZip SameTop top other → (p q : Part) → SamePart p q → AllZip SameName (part_names top p) (part_names other q)
same_part_names top other tops (DefinitionPart d) (DefinitionPart e) h = (h, tt)
same_part_names top other tops (UsePart u) (UsePart t) h =
    same_used (path_scope top u.from) (path_scope other t.from) u.attributes.items t.attributes.items
    (same_path_scope top other u.from t.from tops (path_of u.from t.from (ap (λ (x : SeenUse). x.from) h))) (zip_of see_attribute u.attributes.items t.attributes.items (ap (λ (x : SeenUse). x.attributes) h))
    u.names.items t.names.items (zip_of see_used u.names.items t.names.items (ap (λ (x : SeenUse). x.names) h))
same_part_names top other tops (IncludePart i) (IncludePart j) h = tt
same_part_names top other tops (FunctionPart f) (FunctionPart g) h = tt
same_part_names top other tops (ExternPart x) (ExternPart y) h = tt
same_part_names top other tops p q h = absurd h

pub same_scope_names : (i j : Item) → SameItem i j → AllZip SameName (scope_names i) (scope_names j)
same_scope_names i j h = zip_flat SamePart SameName (part_names i.top) (part_names j.top) (same_part_names i.top j.top h.0) (parts i) (parts j) (same_parts i j h)

pub same_meant : (xs ys : List ScopeName) (name other : List ℕ) → AllZip SameName xs ys → name ≡ other → Both SameName (meaning xs name) (meaning ys other)
same_meant xs ys name other h e = zip_find SameName (λ (x : ScopeName). bytes_eq (local_name x) name) (λ (y : ScopeName). bytes_eq (local_name y) other) (λ x y same. ap₂ bytes_eq (same_local_name x y same) e) xs ys h
