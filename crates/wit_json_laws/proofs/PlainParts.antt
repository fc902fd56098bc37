-- The parts of items that plain trees declare: their functions, their names and what is on their sides.
use Rattle.std.proofs.Common.{ℕ, List, [], ◌++◌, map, Option, Some, None, refl, subst}
use Rattle.wit_arena.proofs.Common.{Address, All, Attribute, Defined, DefinitionPart, Extern, ExternKind, ExternPart, FuncForm, FunctionPart, Id, IfSome, IncludePart, InterfaceItem, NamedFunc, Part, ResourceFunc, ScopeName, SideFunction, SideInline, SideItem, SideLink, SourceFunction, TopName, TypeBody, UseName, UsePart, Used, about_name, accessor, codes, definition_functions, extern_functions, extern_items, extern_link, free_function, inline_uses, interface_part, local_name, part_functions, part_items, part_names, part_uses, path_scope, resource_function, side_function, world_part}
use Rattle.wit_syntax.proofs.Common.{Use, WorldItem, map_at, own_uses}
use Rattle.wit_type_tree.specs.declared.types.TypeBody.TheVariants as body
use Rattle.wit_type_tree.specs.declared.types.FuncForm.TheVariants as form
use Rattle.wit_type_tree.specs.declared.types.ResourceFunc.TheVariants as resource
use Rattle.wit_tree.specs.declared.tree.InterfaceItem.TheVariants as interface_item
use Rattle.wit_tree.specs.declared.tree.WorldItem.TheVariants as world_item
use Rattle.wit_tree.specs.declared.tree.ExternKind.TheVariants as extern
use Rattle.wit_grammar.specs.Seen.{see_body, see_definition, see_extern, see_include, see_item, see_kind, see_named_func, see_resource_func, see_use, see_used, see_world_item}
use Rattle.wit_json.specs.PlainPackages.{HasVersions}
use Rattle.wit_json_laws.specs.PlainTrees.{IsPlainBody, IsPlainDefinition, IsPlainExtern, IsPlainFunction, IsPlainInclude, IsPlainItem, IsPlainKind, IsPlainMember, IsPlainText, IsPlainUse, IsPlainUsed, IsPlainWorldItem}
use Rattle.wit_json_laws.proofs.Lists.{all_map, all_more, all_none, at_all}
use Rattle.wit_json_laws.proofs.PlainMetadata.{ArePlain, all_flat, all_seen, called_plain, plain_both, stability_plain}

abbrev pub IsPlainPart : Part → Type 0
IsPlainPart (DefinitionPart d) = IsPlainDefinition (see_definition d)
IsPlainPart (UsePart u) = IsPlainUse (see_use u)
IsPlainPart (IncludePart i) = IsPlainInclude (see_include i)
IsPlainPart (FunctionPart f) = IsPlainFunction (see_named_func f)
IsPlainPart (ExternPart x) = IsPlainExtern (see_extern x)

interface_part_plain : (x : InterfaceItem) → IsPlainItem (see_item x) → IsPlainPart (interface_part x)
interface_part_plain (interface_item.TypeDef d) h = h
interface_part_plain (interface_item.Use u) h = h
interface_part_plain (interface_item.Func f) h = h

pub interface_parts_plain : (items : List InterfaceItem) → All IsPlainItem (map see_item items) → All IsPlainPart (map interface_part items)
interface_parts_plain items h = all_map IsPlainPart interface_part items (λ k x at. interface_part_plain x (all_seen IsPlainItem see_item items h k x at))

world_part_plain : (x : WorldItem) → IsPlainWorldItem (see_world_item x) → IsPlainPart (world_part x)
world_part_plain (world_item.TypeDef d) h = h
world_part_plain (world_item.Use u) h = h
world_part_plain (world_item.Include i) h = h
world_part_plain (world_item.Extern x) h = h

pub world_parts_plain : (items : List WorldItem) → All IsPlainWorldItem (map see_world_item items) → All IsPlainPart (map world_part items)
world_parts_plain items h = all_map IsPlainPart world_part items (λ k x at. world_part_plain x (all_seen IsPlainWorldItem see_world_item items h k x at))

-- ---- functions
pub record IsPlainSource (fn : SourceFunction) : Type 0 where
  pub name : IsPlainText fn.name
  pub attributes : ArePlain fn.attributes

accessor_plain : (f : FuncForm) → IsPlainText (accessor f)
accessor_plain form.Plain = refl
accessor_plain form.Async = refl
accessor_plain form.Getter = refl
accessor_plain form.Setter = refl

dotted_plain : (prefix r f : List ℕ) (a : FuncForm) → IsPlainText prefix → IsPlainText r → IsPlainText f → IsPlainText (prefix ++ accessor a ++ (r ++ codes "." ++ f))
dotted_plain prefix r f a p q h =
    plain_both (prefix ++ accessor a) (r ++ codes "." ++ f) (plain_both prefix (accessor a) p (accessor_plain a)) (plain_both (r ++ codes ".") f (plain_both r (codes ".") q refl) h)

member_plain : (r : Id) (f : ResourceFunc) → IsPlainText r.name.now → IsPlainMember (see_resource_func f) → IsPlainSource (resource_function r f)
member_plain r (resource.Method f) w h = record { name = dotted_plain (codes "[method]") r.name.now f.name.name.now f.func.form refl w h.name; attributes = h.attributes }
member_plain r (resource.Static f) w h = record { name = dotted_plain (codes "[static]") r.name.now f.name.name.now f.func.form refl w h.name; attributes = h.attributes }
member_plain r (resource.Constructor docs attributes span params result) w h = record { name = plain_both (codes "[constructor]") r.name.now refl w; attributes = h }

definition_functions_plain : (r : Id) (b : TypeBody) → IsPlainText r.name.now → IsPlainBody (see_body b) → All IsPlainSource (definition_functions r b)
definition_functions_plain r (body.Resource funcs) w h = all_map IsPlainSource (resource_function r) funcs.items (λ k f at. member_plain r f w (all_seen IsPlainMember see_resource_func funcs.items h k f at))
definition_functions_plain r (body.Record span fields) w h = all_none IsPlainSource
definition_functions_plain r (body.Flags span flags) w h = all_none IsPlainSource
definition_functions_plain r (body.Variant span cases) w h = all_none IsPlainSource
definition_functions_plain r (body.Enum span cases) w h = all_none IsPlainSource
definition_functions_plain r (body.Plain t) w h = all_none IsPlainSource

free_plain : (f : NamedFunc) → IsPlainFunction (see_named_func f) → IsPlainSource (free_function f)
free_plain f h = record { name = plain_both (accessor f.func.form) f.name.name.now (accessor_plain f.func.form) h.name; attributes = h.attributes }

extern_functions_plain : (x : Extern) (k : ExternKind) → ArePlain x.attributes.items → IsPlainKind (see_kind k) → All IsPlainSource (extern_functions x k)
extern_functions_plain x (extern.Interface name items) a h = all_none IsPlainSource
extern_functions_plain x (extern.Path path) a h = all_none IsPlainSource
extern_functions_plain x (extern.Func name f) a h = all_more IsPlainSource (side_function x.side x.docs x.attributes.items name f) [] (record { name = plain_both (accessor f.form) name.name.now (accessor_plain f.form) h; attributes = a }) (all_none IsPlainSource)
extern_functions_plain x (extern.NamedPath name path) a h = all_none IsPlainSource

pub part_functions_plain : (p : Part) → IsPlainPart p → All IsPlainSource (part_functions p)
part_functions_plain (DefinitionPart d) h = definition_functions_plain d.name d.body h.name h.body
part_functions_plain (UsePart u) h = all_none IsPlainSource
part_functions_plain (IncludePart i) h = all_none IsPlainSource
part_functions_plain (FunctionPart f) h = all_more IsPlainSource (free_function f) [] (free_plain f h) (all_none IsPlainSource)
part_functions_plain (ExternPart x) h = extern_functions_plain x x.kind h.attributes h.kind

-- ---- names
-- its text is plain, and the versions that are stated of it are by SemVer
pub record IsPlainScopeName (x : ScopeName) : Type 0 where
  pub text : IsPlainText (local_name x)
  pub stability : HasVersions (about_name x).metadata.stability

used_name_plain : (s : Address) (attributes : List Attribute) (n : UseName) → ArePlain attributes → IsPlainUsed (see_used n) → IsPlainScopeName (Used s attributes n)
used_name_plain s attributes n a h = record { text = called_plain n.name n.as_ h.0 h.1; stability = stability_plain attributes a }

pub part_names_plain : (top : List TopName) (p : Part) → IsPlainPart p → All IsPlainScopeName (part_names top p)
part_names_plain top (DefinitionPart d) h = all_more IsPlainScopeName (Defined d) [] (record { text = h.name; stability = stability_plain d.attributes.items h.attributes }) (all_none IsPlainScopeName)
part_names_plain top (UsePart u) h =
    all_map IsPlainScopeName (Used (path_scope top u.from) u.attributes.items) u.names.items (λ k n at. used_name_plain (path_scope top u.from) u.attributes.items n h.attributes (all_seen IsPlainUsed see_used u.names.items h.names k n at))
part_names_plain top (IncludePart i) h = all_none IsPlainScopeName
part_names_plain top (FunctionPart f) h = all_none IsPlainScopeName
part_names_plain top (ExternPart x) h = all_none IsPlainScopeName

-- ---- uses
abbrev pub IsPlainUseOf : Use → Type 0
IsPlainUseOf u = IsPlainUse (see_use u)

item_uses_plain : (x : InterfaceItem) → IsPlainItem (see_item x) → All IsPlainUseOf (own_uses (interface_part x))
item_uses_plain (interface_item.TypeDef d) h = all_none IsPlainUseOf
item_uses_plain (interface_item.Use u) h = all_more IsPlainUseOf u [] h (all_none IsPlainUseOf)
item_uses_plain (interface_item.Func f) h = all_none IsPlainUseOf

pub inline_uses_plain : (k : ExternKind) → IsPlainKind (see_kind k) → All IsPlainUseOf (inline_uses k)
inline_uses_plain (extern.Interface name items) h =
    all_flat IsPlainUseOf own_uses (map interface_part items.items) (λ k p at. (
    let x = map_at interface_part items.items k p at in
    subst (λ (q : Part). All IsPlainUseOf (own_uses q)) x.2 (item_uses_plain x.0 (all_seen IsPlainItem see_item items.items h.1 k x.0 x.1))))
inline_uses_plain (extern.Path path) h = all_none IsPlainUseOf
inline_uses_plain (extern.Func name f) h = all_none IsPlainUseOf
inline_uses_plain (extern.NamedPath name path) h = all_none IsPlainUseOf

pub part_uses_plain : (p : Part) → IsPlainPart p → All IsPlainUseOf (part_uses p)
part_uses_plain (DefinitionPart d) h = all_none IsPlainUseOf
part_uses_plain (UsePart u) h = all_more IsPlainUseOf u [] h (all_none IsPlainUseOf)
part_uses_plain (IncludePart i) h = all_none IsPlainUseOf
part_uses_plain (FunctionPart f) h = all_none IsPlainUseOf
part_uses_plain (ExternPart x) h = inline_uses_plain x.kind h.kind

-- ---- what is on a side
abbrev IsPlainIdIf : Option Id → Type 0
IsPlainIdIf o = IfSome o (λ (id : Id). IsPlainText id.name.now)

abbrev pub IsPlainSide : SideItem → Type 0
IsPlainSide (SideFunction fn) = IsPlainSource fn
IsPlainSide (SideLink link) = ArePlain link.attributes × IsPlainIdIf link.name
IsPlainSide (SideInline x name items) = ArePlain x.attributes.items × IsPlainText name.name.now × All IsPlainItem (map see_item items)

extern_items_plain : (x : Extern) (k : ExternKind) → ArePlain x.attributes.items → IsPlainKind (see_kind k) → All IsPlainSide (extern_items x k)
extern_items_plain x (extern.Interface name items) a h = all_more IsPlainSide (SideInline x name items.items) [] (a, h.0, h.1) (all_none IsPlainSide)
extern_items_plain x (extern.Path path) a h = all_more IsPlainSide (SideLink (extern_link x None path)) [] (a, tt) (all_none IsPlainSide)
extern_items_plain x (extern.Func name f) a h = all_more IsPlainSide (SideFunction (side_function x.side x.docs x.attributes.items name f)) [] (record { name = plain_both (accessor f.form) name.name.now (accessor_plain f.form) h; attributes = a }) (all_none IsPlainSide)
extern_items_plain x (extern.NamedPath name path) a h = all_more IsPlainSide (SideLink (extern_link x (Some name) path)) [] (a, h.0) (all_none IsPlainSide)

pub part_items_plain : (p : Part) → IsPlainPart p → All IsPlainSide (part_items p)
part_items_plain (DefinitionPart d) h = all_map IsPlainSide SideFunction (definition_functions d.name d.body) (λ k fn at. at_all IsPlainSource (definition_functions d.name d.body) (definition_functions_plain d.name d.body h.name h.body) k fn at)
part_items_plain (UsePart u) h = all_none IsPlainSide
part_items_plain (IncludePart i) h = all_none IsPlainSide
part_items_plain (FunctionPart f) h = all_more IsPlainSide (SideFunction (free_function f)) [] (free_plain f h) (all_none IsPlainSide)
part_items_plain (ExternPart x) h = extern_items_plain x x.kind h.attributes h.kind
