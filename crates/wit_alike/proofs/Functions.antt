-- Functions that are alike, and what is on the sides of items that are.
use Rattle.std.proofs.Common.{◌≡◌, ℕ, List, ◌++◌, map, length, codes, Option, Some, None, refl, ap, ap₂, ◌∙◌, subst, sym}
use Rattle.wit_walk.proofs.Common.{AllZip, Attribute, Constructor, DefinitionPart, Extern, ExternKind, ExternPart, Freestanding, Func, FunctionPart, Id, IncludePart, InterfaceItem, Item, Link, Method, NamedFunc, OnSide, Param, Part, ResourceFunc, Role, SideFunction, SideInline, SideItem, SideLink, SourceFunction, SourceParam, Span, Static, TypeBody, UsePart, UsePath, Word, WorldSide, accessor, constructor_of, definition_functions, extern_functions, extern_items, extern_link, filter, flat_map, free_function, functions, functions_parts, inline_item, is_interface, item_function, item_link, item_side, items_on, on_side, option_map, option_map_or, part_functions, part_items, parts, resource_function, role_side, same_side, shape_of, side_function, side_items, written_param, «Type» as Written}
use Rattle.wit_type_tree.specs.declared.leaves.Docs.{Docs}
use Rattle.wit_type_tree.specs.declared.types.FuncForm.TheVariants as form
use Rattle.wit_type_tree.specs.declared.types.ResourceFunc.TheVariants as resource
use Rattle.wit_type_tree.specs.declared.types.TypeBody.TheVariants as body
use Rattle.wit_tree.specs.declared.tree.ExternKind.TheVariants as extern
use Rattle.wit_grammar.specs.Trees.{Name, Definition, Function, NamedFunction, Parameter, Prefix, Ty, Extern as SeenExtern}
use Rattle.wit_grammar.specs.Seen.{see_attribute, see_docs, see_extern, see_func, see_item, see_kind, see_name, see_named_func, see_param, see_path, see_prefix, see_resource_func, see_type}
use Rattle.wit_alike.proofs.Lists.{Both, both_map, both_of, zip_filter, zip_flat, zip_length, zip_map, zip_of}
use Rattle.wit_alike.proofs.Leaves.{SameId, SameAttributes, same_span}
use Rattle.wit_alike.proofs.Types.{SameShape, same_shape, type_of}
use Rattle.wit_alike.proofs.Bodies.{SameBody, body_same}
use Rattle.wit_alike.proofs.Paths.{SamePath, path_of}
use Rattle.wit_alike.proofs.Items.{SameItem, SamePart, same_item_name, same_parts}

abbrev pub SameParam : SourceParam → SourceParam → Type 0
SameParam p q = (p.name ≡ q.name) × (p.span ≡ q.span) × SameShape p.shape q.shape

abbrev pub SameRole : Role → Role → Type 0
SameRole (Freestanding a f) (Freestanding b g) = SameId a b × (f ≡ g)
SameRole (Method a f) (Method b g) = SameId a b × (f ≡ g)
SameRole (Static a f) (Static b g) = SameId a b × (f ≡ g)
SameRole (Constructor a) (Constructor b) = SameId a b
SameRole (OnSide s a f) (OnSide t b g) = (s ≡ t) × SameId a b × (f ≡ g)
SameRole r s = ⊥

pub record SameFunction (f g : SourceFunction) : Type 0 where
  pub name : f.name ≡ g.name
  pub role : SameRole f.role g.role
  pub span : f.span ≡ g.span
  pub given : AllZip SameParam f.given g.given
  pub func : see_func f.func ≡ see_func g.func
  pub result : Both SameShape f.result g.result
  pub docs : see_docs f.docs ≡ see_docs g.docs
  pub attributes : SameAttributes f.attributes g.attributes

pub same_written_param : (p q : Param) → see_param p ≡ see_param q → SameParam (written_param p) (written_param q)
same_written_param p q h = (ap (λ (x : Parameter). x.name.text) h, ap (λ (x : Parameter). x.name.span) h, same_shape p.ty q.ty (type_of p.ty q.ty (ap (λ (x : Parameter). x.ty) h)))

returned : (f g : Func) → see_func f ≡ see_func g → Both (λ (t u : Written). see_type t ≡ see_type u) f.result g.result
returned f g h = both_of see_type f.result g.result (ap (λ (x : Function). x.returned) h)

same_result : (f g : Func) → see_func f ≡ see_func g → Both SameShape (option_map shape_of f.result) (option_map shape_of g.result)
same_result f g h = both_map (λ (t u : Written). see_type t ≡ see_type u) SameShape shape_of shape_of (λ t u same. same_shape t u (type_of t u same)) f.result g.result (returned f g h)

-- a constructor makes its resource where it says nothing else
same_made : (r s : Id) → SameId r s → (o p : Option Written) → Both (λ (t u : Written). see_type t ≡ see_type u) o p → SameShape (option_map_or shape_of o (Word r)) (option_map_or shape_of p (Word s))
same_made r s k None None h = k
same_made r s k None (Some u) h = absurd h
same_made r s k (Some t) None h = absurd h
same_made r s k (Some t) (Some u) h = same_shape t u (type_of t u h)

-- ---- functions as they are written
same_free : (f g : NamedFunc) → see_named_func f ≡ see_named_func g → SameFunction (free_function f) (free_function g)
same_free f g h = record {
  name = ap (λ (x : NamedFunction). accessor x.func.form ++ x.name.text) h;
  role = (ap (λ (x : NamedFunction). x.name) h, ap (λ (x : NamedFunction). x.func.form) h);
  span = ap (λ (x : NamedFunction). x.name.span) h;
  given = tt;
  func = ap (λ (x : NamedFunction). x.func) h;
  result = same_result f.func g.func (ap (λ (x : NamedFunction). x.func) h);
  docs = ap (λ (x : NamedFunction). x.prefix.docs) h;
  attributes = zip_of see_attribute f.attributes.items g.attributes.items (ap (λ (x : NamedFunction). x.prefix.attributes) h);
}

same_side_function : (x y : Extern) (a b : Id) (f g : Func) → see_extern x ≡ see_extern y → SameId a b → see_func f ≡ see_func g
    → SameFunction (side_function x.side x.docs x.attributes.items a f) (side_function y.side y.docs y.attributes.items b g)
same_side_function x y a b f g h named same = record {
  name = ap₂ (λ (z : Function) (n : Name). accessor z.form ++ n.text) same named;
  role = (ap (λ (z : SeenExtern). z.side) h, named, ap (λ (z : Function). z.form) same);
  span = same_span a b named;
  given = tt;
  func = same;
  result = same_result f g same;
  docs = ap (λ (z : SeenExtern). z.prefix.docs) h;
  attributes = zip_of see_attribute x.attributes.items y.attributes.items (ap (λ (z : SeenExtern). z.prefix.attributes) h);
}

same_in_resource : (r s : Id) (f g : NamedFunc) → SameId r s → see_named_func f ≡ see_named_func g → (r.name.now ++ codes "." ++ f.name.name.now) ≡ (s.name.now ++ codes "." ++ g.name.name.now)
same_in_resource r s f g k h = ap₂ (λ (n : Name) (x : NamedFunction). n.text ++ codes "." ++ x.name.text) k h

same_method : (r s : Id) (f g : NamedFunc) → SameId r s → see_named_func f ≡ see_named_func g → SameFunction (resource_function r (resource.Method f)) (resource_function s (resource.Method g))
same_method r s f g k h = record {
  name = ap₂ (λ (x : NamedFunction) (t : List ℕ). codes "[method]" ++ accessor x.func.form ++ t) h (same_in_resource r s f g k h);
  role = (k, ap (λ (x : NamedFunction). x.func.form) h);
  span = ap (λ (x : NamedFunction). x.name.span) h;
  given = ((refl, ap (λ (x : NamedFunction). x.func.span) h, (ap (λ (x : NamedFunction). x.func.span) h, refl, (k, tt))), tt);
  func = ap (λ (x : NamedFunction). x.func) h;
  result = same_result f.func g.func (ap (λ (x : NamedFunction). x.func) h);
  docs = ap (λ (x : NamedFunction). x.prefix.docs) h;
  attributes = zip_of see_attribute f.attributes.items g.attributes.items (ap (λ (x : NamedFunction). x.prefix.attributes) h);
}

same_static : (r s : Id) (f g : NamedFunc) → SameId r s → see_named_func f ≡ see_named_func g → SameFunction (resource_function r (resource.Static f)) (resource_function s (resource.Static g))
same_static r s f g k h = record {
  name = ap₂ (λ (x : NamedFunction) (t : List ℕ). codes "[static]" ++ accessor x.func.form ++ t) h (same_in_resource r s f g k h);
  role = (k, ap (λ (x : NamedFunction). x.func.form) h);
  span = ap (λ (x : NamedFunction). x.name.span) h;
  given = tt;
  func = ap (λ (x : NamedFunction). x.func) h;
  result = same_result f.func g.func (ap (λ (x : NamedFunction). x.func) h);
  docs = ap (λ (x : NamedFunction). x.prefix.docs) h;
  attributes = zip_of see_attribute f.attributes.items g.attributes.items (ap (λ (x : NamedFunction). x.prefix.attributes) h);
}

same_maker : (r s : Id) (d e : Docs) (before others : List Attribute) (f g : Func) → SameId r s → see_docs d ≡ see_docs e → SameAttributes before others → see_func f ≡ see_func g → SameFunction (constructor_of r d before f) (constructor_of s e others g)
same_maker r s d e before others f g k docs attributes same = record {
  name = ap (λ (n : Name). codes "[constructor]" ++ n.text) k;
  role = k;
  span = ap (λ (x : Function). x.span) same;
  given = tt;
  func = same;
  result = same_made r s k f.result g.result (returned f g same);
  docs = docs;
  attributes = attributes;
}

abbrev as_function : Span → List Parameter → Option Ty → Function
as_function span params returned = record { span = span; form = form.Plain; params = params; returned = returned }

same_as_function : (s r : Span) (ps qs : List Parameter) (o p : Option Ty) → s ≡ r → ps ≡ qs → o ≡ p → as_function s ps o ≡ as_function r qs p
same_as_function s r ps qs o p e f g = ap (λ (x : Span). as_function x ps o) e ∙ ap (λ (x : List Parameter). as_function r x o) f ∙ ap (λ (x : Option Ty). as_function r qs x) g

same_resource_function : (r s : Id) → SameId r s → (f g : ResourceFunc) → see_resource_func f ≡ see_resource_func g → SameFunction (resource_function r f) (resource_function s g)
same_resource_function r s k (resource.Method f) (resource.Method g) h = same_method r s f g k (let same : see_named_func f ≡ see_named_func g = cc in same)
same_resource_function r s k (resource.Static f) (resource.Static g) h = same_static r s f g k (let same : see_named_func f ≡ see_named_func g = cc in same)
same_resource_function r s k (resource.Constructor d before at params t) (resource.Constructor e others there inputs u) h =
    let spans : at ≡ there = cc in
    let given : map see_param params.items ≡ map see_param inputs.items = cc in
    let gives : option_map see_type t ≡ option_map see_type u = cc in
    let prefixes : see_prefix d before.items ≡ see_prefix e others.items = cc in
    same_maker r s d e before.items others.items (record { span = at; form = form.Plain; params = params; result = t }) (record { span = there; form = form.Plain; params = inputs; result = u }) k
    (ap (λ (x : Prefix). x.docs) prefixes) (zip_of see_attribute before.items others.items (ap (λ (x : Prefix). x.attributes) prefixes)) (same_as_function at there (map see_param params.items) (map see_param inputs.items) (option_map see_type t) (option_map see_type u) spans given gives)
same_resource_function r s k f g h = absurd (let wrong : ⊥ = cc in wrong)

same_definition_functions : (r s : Id) → SameId r s → (b c : TypeBody) → SameBody b c → AllZip SameFunction (definition_functions r b) (definition_functions s c)
same_definition_functions r s k (body.Resource fs) (body.Resource gs) h = zip_map (λ (f g : ResourceFunc). see_resource_func f ≡ see_resource_func g) SameFunction (resource_function r) (resource_function s) (same_resource_function r s k) fs.items gs.items h
same_definition_functions r s k (body.Resource fs) c h = absurd h
same_definition_functions r s k b (body.Resource gs) h = absurd h
same_definition_functions r s k b c h = tt

-- ---- what a world imports or exports
abbrev pub SameKind : ExternKind → ExternKind → Type 0
SameKind (extern.Interface n is) (extern.Interface m js) = SameId n m × AllZip (λ (a b : InterfaceItem). see_item a ≡ see_item b) is.items js.items
SameKind (extern.Path a) (extern.Path b) = SamePath a b
SameKind (extern.Func n f) (extern.Func m g) = SameId n m × (see_func f ≡ see_func g)
SameKind (extern.NamedPath n a) (extern.NamedPath m b) = SameId n m × SamePath a b
SameKind k l = ⊥

kind_same : (k l : ExternKind) → see_kind k ≡ see_kind l → SameKind k l
kind_same (extern.Interface n is) (extern.Interface m js) h = (let items : map see_item is.items ≡ map see_item js.items = cc in (cc, zip_of see_item is.items js.items items))
kind_same (extern.Path a) (extern.Path b) h = (let paths : see_path a ≡ see_path b = cc in path_of a b paths)
kind_same (extern.Func n f) (extern.Func m g) h = (cc, cc)
kind_same (extern.NamedPath n a) (extern.NamedPath m b) h = (let paths : see_path a ≡ see_path b = cc in (cc, path_of a b paths))
kind_same k l h = absurd (let wrong : ⊥ = cc in wrong)

pub extern_kind : (x y : Extern) → see_extern x ≡ see_extern y → SameKind x.kind y.kind
extern_kind x y h = kind_same x.kind y.kind (ap (λ (z : SeenExtern). z.kind) h)

same_extern_functions : (x y : Extern) → see_extern x ≡ see_extern y → (k l : ExternKind) → SameKind k l → AllZip SameFunction (extern_functions x k) (extern_functions y l)
same_extern_functions x y h (extern.Interface n is) (extern.Interface m js) k = tt
same_extern_functions x y h (extern.Path a) (extern.Path b) k = tt
same_extern_functions x y h (extern.Func n f) (extern.Func m g) k = (same_side_function x y n m f g h k.0 k.1, tt)
same_extern_functions x y h (extern.NamedPath n a) (extern.NamedPath m b) k = tt
same_extern_functions x y h k l s = absurd s

same_part_functions : (p q : Part) → SamePart p q → AllZip SameFunction (part_functions p) (part_functions q)
same_part_functions (DefinitionPart d) (DefinitionPart e) h = same_definition_functions d.name e.name (ap (λ (x : Definition). x.name) h) d.body e.body (body_same d.body e.body (ap (λ (x : Definition). x.body) h))
same_part_functions (UsePart u) (UsePart t) h = tt
same_part_functions (IncludePart i) (IncludePart j) h = tt
same_part_functions (FunctionPart f) (FunctionPart g) h = (same_free f g h, tt)
same_part_functions (ExternPart x) (ExternPart y) h = same_extern_functions x y h x.kind y.kind (extern_kind x y h)
same_part_functions p q h = absurd h

pub same_functions : (i j : Item) → SameItem i j → AllZip SameFunction (functions i) (functions j)
same_functions i j h =
    subst (λ (l : List SourceFunction). AllZip SameFunction l (functions j)) (sym (functions_parts i)) (subst (AllZip SameFunction (flat_map part_functions (parts i))) (sym (functions_parts j)) (zip_flat SamePart SameFunction part_functions part_functions same_part_functions (parts i) (parts j) (same_parts i j h)))

-- ---- what is on the sides of items
pub record SameLink (l k : Link) : Type 0 where
  pub side : l.side ≡ k.side
  pub name : option_map see_name l.name ≡ option_map see_name k.name
  pub path : SamePath l.path k.path
  pub docs : see_docs l.docs ≡ see_docs k.docs
  pub attributes : SameAttributes l.attributes k.attributes

abbrev pub SameSide : SideItem → SideItem → Type 0
SameSide (SideFunction f) (SideFunction g) = SameFunction f g
SameSide (SideLink l) (SideLink k) = SameLink l k
SameSide (SideInline x n is) (SideInline y m js) = (see_extern x ≡ see_extern y) × SameId n m × AllZip (λ (a b : InterfaceItem). see_item a ≡ see_item b) is js
SameSide a b = ⊥

same_extern_link : (x y : Extern) (o p : Option Id) (a b : UsePath) → see_extern x ≡ see_extern y → option_map see_name o ≡ option_map see_name p → SamePath a b → SameLink (extern_link x o a) (extern_link y p b)
same_extern_link x y o p a b h names paths = record {
  side = ap (λ (z : SeenExtern). z.side) h;
  name = names;
  path = paths;
  docs = ap (λ (z : SeenExtern). z.prefix.docs) h;
  attributes = zip_of see_attribute x.attributes.items y.attributes.items (ap (λ (z : SeenExtern). z.prefix.attributes) h);
}

same_extern_items : (x y : Extern) → see_extern x ≡ see_extern y → (k l : ExternKind) → SameKind k l → AllZip SameSide (extern_items x k) (extern_items y l)
same_extern_items x y h (extern.Interface n is) (extern.Interface m js) k = ((h, k.0, k.1), tt)
same_extern_items x y h (extern.Path a) (extern.Path b) k = (same_extern_link x y None None a b h refl k, tt)
same_extern_items x y h (extern.Func n f) (extern.Func m g) k = (same_side_function x y n m f g h k.0 k.1, tt)
same_extern_items x y h (extern.NamedPath n a) (extern.NamedPath m b) k = (same_extern_link x y (Some n) (Some m) a b h (ap Some k.0) k.1, tt)
same_extern_items x y h k l s = absurd s

same_part_items : (p q : Part) → SamePart p q → AllZip SameSide (part_items p) (part_items q)
same_part_items (DefinitionPart d) (DefinitionPart e) h =
    zip_map SameFunction SameSide SideFunction SideFunction (λ f g same. same) (definition_functions d.name d.body) (definition_functions e.name e.body)
    (same_definition_functions d.name e.name (ap (λ (x : Definition). x.name) h) d.body e.body (body_same d.body e.body (ap (λ (x : Definition). x.body) h)))
same_part_items (UsePart u) (UsePart t) h = tt
same_part_items (IncludePart i) (IncludePart j) h = tt
same_part_items (FunctionPart f) (FunctionPart g) h = (same_free f g h, tt)
same_part_items (ExternPart x) (ExternPart y) h = same_extern_items x y h x.kind y.kind (extern_kind x y h)
same_part_items p q h = absurd h

pub same_side_items : (i j : Item) → SameItem i j → AllZip SameSide (side_items i) (side_items j)
same_side_items i j h = zip_flat SamePart SameSide part_items part_items same_part_items (parts i) (parts j) (same_parts i j h)

-- the side of each
pub same_role_side : (r s : Role) → SameRole r s → role_side r ≡ role_side s
same_role_side (Freestanding a f) (Freestanding b g) h = refl
same_role_side (Method a f) (Method b g) h = refl
same_role_side (Static a f) (Static b g) h = refl
same_role_side (Constructor a) (Constructor b) h = refl
same_role_side (OnSide s a f) (OnSide t b g) h = h.0
same_role_side r s h = absurd h

pub same_item_side : (a b : SideItem) → SameSide a b → item_side a ≡ item_side b
same_item_side (SideFunction f) (SideFunction g) h = same_role_side f.role g.role h.role
same_item_side (SideLink l) (SideLink k) h = h.side
same_item_side (SideInline x n is) (SideInline y m js) h = ap (λ (z : SeenExtern). z.side) h.0
same_item_side a b h = absurd h

pub same_on_side : (side : WorldSide) (fs gs : List SourceFunction) → AllZip SameFunction fs gs → AllZip SameFunction (on_side side fs) (on_side side gs)
same_on_side side fs gs h = zip_filter SameFunction (λ (f : SourceFunction). same_side side (role_side f.role)) (λ (f : SourceFunction). same_side side (role_side f.role)) (λ f g same. ap (same_side side) (same_role_side f.role g.role same.role)) fs gs h

pub same_items_on : (side other : WorldSide) (xs ys : List SideItem) → side ≡ other → AllZip SameSide xs ys → AllZip SameSide (items_on side xs) (items_on other ys)
same_items_on side other xs ys e h = zip_filter SameSide (λ (x : SideItem). same_side side (item_side x)) (λ (x : SideItem). same_side other (item_side x)) (λ x y same. ap₂ same_side e (same_item_side x y same)) xs ys h

pub same_is_interface : (a b : SideItem) → SameSide a b → is_interface a ≡ is_interface b
same_is_interface (SideFunction f) (SideFunction g) h = refl
same_is_interface (SideFunction f) b h = absurd h
same_is_interface a (SideFunction g) h = absurd h
same_is_interface a b h = refl

pub same_item_function : (a b : SideItem) → SameSide a b → AllZip SameFunction (item_function a) (item_function b)
same_item_function (SideFunction f) (SideFunction g) h = (h, tt)
same_item_function (SideFunction f) b h = absurd h
same_item_function a (SideFunction g) h = absurd h
same_item_function a b h = tt

pub same_item_link : (a b : SideItem) → SameSide a b → AllZip SameLink (item_link a) (item_link b)
same_item_link (SideLink l) (SideLink k) h = (h, tt)
same_item_link (SideLink l) b h = absurd h
same_item_link a (SideLink k) h = absurd h
same_item_link a b h = tt

pub same_inline_item : (i j : Item) (place other : ℕ) (a b : SideItem) → SameItem i j → place ≡ other → SameSide a b → AllZip SameItem (inline_item i place a) (inline_item j other b)
same_inline_item i j place other (SideFunction f) (SideFunction g) h e same = tt
same_inline_item i j place other (SideLink l) (SideLink k) h e same = tt
same_inline_item i j place other (SideInline x n is) (SideInline y m js) h e same = ((h.0, (same_item_name i j h, e, same.0, same.1, same.2)), tt)
same_inline_item i j place other a b h e same = absurd same

-- how many interfaces there are on a side
pub same_count : (side other : WorldSide) (xs ys : List SideItem) → side ≡ other → AllZip SameSide xs ys → length (filter is_interface (items_on side xs)) ≡ length (filter is_interface (items_on other ys))
same_count side other xs ys e h =
    let there = zip_filter SameSide is_interface is_interface same_is_interface (items_on side xs) (items_on other ys) (same_items_on side other xs ys e h) in
    zip_length SameSide (filter is_interface (items_on side xs)) (filter is_interface (items_on other ys)) there
