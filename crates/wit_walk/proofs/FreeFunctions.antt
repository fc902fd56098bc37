-- The functions of an interface that belong to no resource, and their names.
use Rattle.std.proofs.Common.{◌≡◌, ℕ, zero, suc, Bool, true, false, if◌then◌else◌, List, Some, Contains, map, refl, sym, ap, ◌∙◌, subst}
use Rattle.wit_syntax.proofs.Common.{Address, Attribute, Constructor, Declared, DefinitionPart, ExternPart, Freestanding, FunctionPart, Id, IncludePart, InterfaceItem, Item, Local, Foreign, Method, OnSide, Part, ResourceFunc, Role, SourceFunction, Static, Target, TheInline, TheInterface, TheWorld, TopName, TypeBody, UseName, UsePart, UsePath, Used, about, address, any_found, at_contains, bytes_eq, contains_at, definition_functions, flat_map, flat_map_at, flat_map_has, free_function, function_used, functions, functions_parts, interface_part, is_world, leads, list_any, map_at, missing_at, name_equal, name_itself, name_word, part_functions, part_names, parts, path_scope, resource_function, role_names, scope_names, slice_get, target_scope}
use Rattle.wit_syntax.specs.Address.{InterfaceNamed}
use Rattle.wit_type_tree.specs.declared.types.TypeBody.TheVariants as body
use Rattle.wit_type_tree.specs.declared.types.ResourceFunc.TheVariants as resource
use Rattle.wit_tree.specs.declared.tree.InterfaceItem.TheVariants as interface_item
use Rattle.wit_first.proofs.First.{any_some}
use Rattle.wit_walk.specs.Functions.{is_free}
use Rattle.wit_walk.specs.Members.{is_on_side}
use Rattle.wit_walk.specs.Names.{lost_use}

-- no function of an interface is what a world imports or exports
resource_free : (r : Id) (g : ResourceFunc) → is_on_side (resource_function r g).role ≡ false
resource_free r (resource.Method f) = refl
resource_free r (resource.Static f) = refl
resource_free r (resource.Constructor docs attributes span params result) = refl

definition_free : (r : Id) (b : TypeBody) (k : ℕ) (fn : SourceFunction) → slice_get (definition_functions r b) k ≡ Some fn → is_on_side fn.role ≡ false
definition_free r (body.Resource funcs) k fn at =
    let g = map_at (resource_function r) funcs.items k fn at in
    subst (λ (x : SourceFunction). is_on_side x.role ≡ false) g.2 (resource_free r g.0)
definition_free r (body.Record span fields) k fn at = absurd (let f : ⊥ = cc in f)
definition_free r (body.Flags span flags) k fn at = absurd (let f : ⊥ = cc in f)
definition_free r (body.Variant span cases) k fn at = absurd (let f : ⊥ = cc in f)
definition_free r (body.Enum span cases) k fn at = absurd (let f : ⊥ = cc in f)
definition_free r (body.Plain t) k fn at = absurd (let f : ⊥ = cc in f)

item_free : (i : InterfaceItem) (k : ℕ) (fn : SourceFunction) → slice_get (part_functions (interface_part i)) k ≡ Some fn → is_on_side fn.role ≡ false
item_free (interface_item.TypeDef d) k fn at = definition_free d.name d.body k fn at
item_free (interface_item.Use u) k fn at = absurd (let f : ⊥ = cc in f)
item_free (interface_item.Func g) zero fn at = let same : free_function g ≡ fn = cc in subst (λ (x : SourceFunction). is_on_side x.role ≡ false) same refl
item_free (interface_item.Func g) (suc k) fn at = absurd (let f : ⊥ = cc in f)

items_free : (items : List InterfaceItem) (k : ℕ) (fn : SourceFunction) → slice_get (flat_map part_functions (map interface_part items)) k ≡ Some fn → is_on_side fn.role ≡ false
items_free items k fn at =
    let it = flat_map_at part_functions (map interface_part items) k fn at in
    let p = map_at interface_part items it.0 it.1 it.2 in
    item_free p.0 it.3.0 fn (ap (λ x. slice_get (part_functions x) it.3.0) p.2 ∙ it.3.1)

declared_free : (d : Declared) → (about d).is_world ≡ false → (k : ℕ) (fn : SourceFunction) → slice_get (flat_map part_functions (about d).parts) k ≡ Some fn → is_on_side fn.role ≡ false
declared_free (TheInterface i) own k fn at = items_free i.items.items k fn at
declared_free (TheWorld w) own k fn at = absurd (let f : ⊥ = cc in f)
declared_free (TheInline world place x name items) own k fn at = items_free items k fn at

pub functions_free : (i : Item) → is_world i ≡ false → (k : ℕ) (fn : SourceFunction) → slice_get (functions i) k ≡ Some fn → is_on_side fn.role ≡ false
functions_free i own k fn at = declared_free i.declared own k fn (ap (λ (l : List SourceFunction). slice_get l k) (sym (functions_parts i)) ∙ at)

-- so a name is that of one where it is among those of functions that belong to no resource
abbrev pub free_names : Item → List (List ℕ)
free_names i = flat_map (λ (fn : SourceFunction). role_names fn.role) (functions i)

abbrev is_named : List ℕ → SourceFunction → Bool
is_named name fn = is_free name fn.role

role_listed : (name : List ℕ) (r : Role) → is_free name r ≡ true → slice_get (role_names r) 0 ≡ Some name
role_listed name (Freestanding id form) h = ap Some (name_equal id.name.now name h)
role_listed name (Method of form) h = absurd (let f : ⊥ = cc in f)
role_listed name (Static of form) h = absurd (let f : ⊥ = cc in f)
role_listed name (Constructor of) h = absurd (let f : ⊥ = cc in f)
role_listed name (OnSide side id form) h = absurd (let f : ⊥ = cc in f)

role_free : (name : List ℕ) (r : Role) → is_on_side r ≡ false → (j : ℕ) → slice_get (role_names r) j ≡ Some name → is_free name r ≡ true
role_free name (Freestanding id form) own zero at = (let same : id.name.now ≡ name = cc in ap (λ n. bytes_eq n name) same ∙ name_itself name)
role_free name (Freestanding id form) own (suc j) at = absurd (let f : ⊥ = cc in f)
role_free name (Method of form) own j at = absurd (let f : ⊥ = cc in f)
role_free name (Static of form) own j at = absurd (let f : ⊥ = cc in f)
role_free name (Constructor of) own j at = absurd (let f : ⊥ = cc in f)
role_free name (OnSide side id form) own j at = absurd (let f : ⊥ = cc in f)

free_listed : (i : Item) (name : List ℕ) → list_any (is_named name) (functions i) ≡ true → Contains (free_names i) name
free_listed i name h =
    let it = any_found (is_named name) (functions i) h in
    let k = flat_map_has (λ (fn : SourceFunction). role_names fn.role) (functions i) it.0 0 it.1 name it.2 (role_listed name it.1.role it.3) in
    contains_at (free_names i) k.0 name k.1

listed_free : (i : Item) → is_world i ≡ false → (name : List ℕ) → Contains (free_names i) name → list_any (is_named name) (functions i) ≡ true
listed_free i own name among =
    let k = at_contains (free_names i) name among in
    let it = flat_map_at (λ (fn : SourceFunction). role_names fn.role) (functions i) k.0 name k.1 in
    any_some (is_named name) (functions i) it.0 it.1 it.2 (role_free name it.1.role (functions_free i own it.0 it.1 it.2) it.3.0 it.3.1)

either_way : (a b : Bool) → (a ≡ true → b ≡ true) → (b ≡ true → a ≡ true) → a ≡ b
either_way true b there back = sym (there refl)
either_way false true there back = back refl
either_way false false there back = refl

pub lost_listed : (i : Item) → is_world i ≡ false → (id : Id) → (if list_any (bytes_eq id.name.now) (free_names i) then function_used id else missing_at 12 name_word id) ≡ lost_use i id
lost_listed i own id =
    let name = id.name.now in
    ap (λ (b : Bool). if b then function_used id else missing_at 12 name_word id) (either_way (list_any (bytes_eq name) (free_names i)) (list_any (is_named name) (functions i)) (λ h. (
    let it = any_found (bytes_eq name) (free_names i) h in
    listed_free i own name (contains_at (free_names i) it.0 name (it.2 ∙ ap Some (sym (name_equal name it.1 it.3)))))) (λ h. (
    let k = at_contains (free_names i) name (free_listed i name h) in
    any_some (bytes_eq name) (free_names i) k.0 name k.1 (name_itself name))))

-- names are used from interfaces
used_part : (top : List TopName) (p : Part) (j : ℕ) (from : Address) (attributes : List Attribute) (n : UseName) → slice_get (part_names top p) j ≡ Some (Used from attributes n) → (path : UsePath) × (path_scope top path ≡ from)
used_part top (UsePart u) j from attributes n at =
    let m = map_at (Used (path_scope top u.from) u.attributes.items) u.names.items j (Used from attributes n) at in
    let same = m.2 in
    (u.from, cc)
used_part top (DefinitionPart d) zero from attributes n at = absurd (let f : ⊥ = cc in f)
used_part top (DefinitionPart d) (suc j) from attributes n at = absurd (let f : ⊥ = cc in f)
used_part top (IncludePart x) j from attributes n at = absurd (let f : ⊥ = cc in f)
used_part top (FunctionPart g) j from attributes n at = absurd (let f : ⊥ = cc in f)
used_part top (ExternPart x) j from attributes n at = absurd (let f : ⊥ = cc in f)

led_interface : (d : Declared) (t : Target) → (about d).address ≡ target_scope InterfaceNamed t → (about d).is_world ≡ false
led_interface (TheInterface i) t same = refl
led_interface (TheInline world place x name items) t same = refl
led_interface (TheWorld w) (Local id) same = absurd (let f : ⊥ = cc in f)
led_interface (TheWorld w) (Foreign p id) same = absurd (let f : ⊥ = cc in f)

pub used_interface : (i : Item) (from : Address) (attributes : List Attribute) (n : UseName) → Contains (scope_names i) (Used from attributes n) → (target : Item) → address target ≡ from → is_world target ≡ false
used_interface i from attributes n has target same =
    let k = at_contains (scope_names i) (Used from attributes n) has in
    let it = flat_map_at (part_names i.top) (parts i) k.0 (Used from attributes n) k.1 in
    let path = used_part i.top it.1 it.3.0 from attributes n it.3.1 in
    led_interface target.declared (leads i.top path.0) (same ∙ sym path.1)
