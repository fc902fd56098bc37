-- The functions that are on a side.
use Rattle.std.proofs.Common.{◌≡◌, ℕ, zero, suc, Bool, true, false, List, [], ◌∷◌, ◌++◌, Some, inl, inr, refl, sym, ap, ◌∙◌, subst}
use Rattle.std.specs.Prelude.{slice_get, map}
use Rattle.std.specs.List.{filter, flat_map}
use Rattle.std.proofs.lemmas.Bool.{cases_Bool, cond-true, cond-false}
use Rattle.std.proofs.lemmas.Grind.{flat_map-append}
use Rattle.std.proofs.lemmas.List.{map-append}
use Rattle.wit_type_tree.specs.declared.leaves.Id.{Id}
use Rattle.wit_type_tree.specs.declared.types.TypeBody.{TypeBody}
use Rattle.wit_type_tree.specs.declared.types.TypeBody.TheVariants as body
use Rattle.wit_type_tree.specs.declared.types.ResourceFunc.{ResourceFunc}
use Rattle.wit_type_tree.specs.declared.types.ResourceFunc.TheVariants as resource
use Rattle.wit_tree.specs.declared.tree.Extern.{Extern}
use Rattle.wit_tree.specs.declared.tree.ExternKind.{ExternKind}
use Rattle.wit_tree.specs.declared.tree.ExternKind.TheVariants as extern
use Rattle.wit_tree.specs.declared.tree.InterfaceItem.{InterfaceItem}
use Rattle.wit_tree.specs.declared.tree.InterfaceItem.TheVariants as interface_item
use Rattle.wit_tree.specs.declared.tree.WorldSide.{WorldSide}
use Rattle.wit_tree.specs.declared.tree.WorldSide.TheVariants.{Imported}
use Rattle.wit_syntax.specs.Source.{Declared, TheInterface, TheWorld, TheInline, interface_part, Part, DefinitionPart, UsePart, IncludePart, FunctionPart, ExternPart, parts, Item, is_world, about}
use Rattle.wit_syntax.specs.Function.{SourceFunction, free_function, resource_function, definition_functions, extern_functions, part_functions}
use Rattle.wit_syntax.specs.ExternPart.{same_side}
use Rattle.wit_syntax.specs.SignatureRules.{Called}
use Rattle.wit_syntax.specs.Sides.{role_side, on_side, SideItem, SideFunction, extern_items, part_items, side_items, item_function, functions, item_link, links, items_on, item_called}
use Rattle.wit_syntax.proofs.Lists.{flat_map_at, map_at}
use Rattle.wit_syntax.proofs.Repeated.{function_called}

-- a test keeps all that pass it, and nothing of those that fail it
pub kept_all : {X : Type 0} (test : X → Bool) (xs : List X) → ((i : ℕ) (x : X) → slice_get xs i ≡ Some x → test x ≡ true) → filter test xs ≡ xs
kept_all test [] pass = refl
kept_all test (x ∷ xs) pass = cond-true (test x) (x ∷ filter test xs) (filter test xs) (pass 0 x refl) ∙ ap (λ l. x ∷ l) (kept_all test xs (λ i. pass (suc i)))

pub kept_none : {X : Type 0} (test : X → Bool) (xs : List X) → ((i : ℕ) (x : X) → slice_get xs i ≡ Some x → test x ≡ false) → filter test xs ≡ []
kept_none test [] fail = refl
kept_none test (x ∷ xs) fail = cond-false (test x) (x ∷ filter test xs) (filter test xs) (fail 0 x refl) ∙ kept_none test xs (λ i. fail (suc i))

-- functions as what is on a side, and back
pub resource_items : (fns : List SourceFunction) → flat_map item_function (map SideFunction fns) ≡ fns
resource_items [] = refl
resource_items (fn ∷ fns) = ap (λ l. fn ∷ l) (resource_items fns)

-- the functions of an item are those of its parts
pub functions_parts : (i : Item) → functions i ≡ flat_map part_functions (parts i)
functions_parts i = by_parts (parts i)
  where
    of_extern : (x : Extern) (kind : ExternKind) → flat_map item_function (extern_items x kind) ≡ extern_functions x kind
    of_extern x (extern.Interface name items) = refl
    of_extern x (extern.Path path) = refl
    of_extern x (extern.Func name f) = refl
    of_extern x (extern.NamedPath name path) = refl

    of_part : (p : Part) → flat_map item_function (part_items p) ≡ part_functions p
    of_part (DefinitionPart d) = resource_items (definition_functions d.name d.body)
    of_part (UsePart u) = refl
    of_part (IncludePart n) = refl
    of_part (FunctionPart f) = refl
    of_part (ExternPart x) = of_extern x x.kind

    by_parts : (ps : List Part) → flat_map item_function (flat_map part_items ps) ≡ flat_map part_functions ps
    by_parts [] = refl
    by_parts (p ∷ ps) = flat_map-append item_function (part_items p) (flat_map part_items ps) ∙ ap (λ l. l ++ flat_map item_function (flat_map part_items ps)) (of_part p) ∙ ap (λ l. part_functions p ++ l) (by_parts ps)

-- each is one of a part
pub part_of_function : (i : Item) (k : ℕ) (fn : SourceFunction) → slice_get (functions i) k ≡ Some fn → (m : ℕ) × (p : Part) × (slice_get (parts i) m ≡ Some p) × ((j : ℕ) × (slice_get (part_functions p) j ≡ Some fn))
part_of_function i k fn at = flat_map_at part_functions (parts i) k fn (ap (λ l. slice_get l k) (sym (functions_parts i)) ∙ at)

-- all functions of an interface are imported
resource_imported : (r : Id) (g : ResourceFunc) → role_side (resource_function r g).role ≡ Imported
resource_imported r (resource.Method f) = refl
resource_imported r (resource.Static f) = refl
resource_imported r (resource.Constructor docs attributes span params result) = refl

pub definition_imported : (r : Id) (b : TypeBody) (k : ℕ) (fn : SourceFunction) → slice_get (definition_functions r b) k ≡ Some fn → role_side fn.role ≡ Imported
definition_imported r (body.Resource funcs) k fn at =
    let g = map_at (resource_function r) funcs.items k fn at in
    subst (λ (x : SourceFunction). role_side x.role ≡ Imported) g.2 (resource_imported r g.0)
definition_imported r (body.Record span fields) k fn at = absurd (let f : ⊥ = cc in f)
definition_imported r (body.Flags span flags) k fn at = absurd (let f : ⊥ = cc in f)
definition_imported r (body.Variant span cases) k fn at = absurd (let f : ⊥ = cc in f)
definition_imported r (body.Enum span cases) k fn at = absurd (let f : ⊥ = cc in f)
definition_imported r (body.Plain t) k fn at = absurd (let f : ⊥ = cc in f)

item_imported : (i : InterfaceItem) (k : ℕ) (fn : SourceFunction) → slice_get (part_functions (interface_part i)) k ≡ Some fn → role_side fn.role ≡ Imported
item_imported (interface_item.TypeDef d) k fn at = definition_imported d.name d.body k fn at
item_imported (interface_item.Use u) k fn at = absurd (let f : ⊥ = cc in f)
item_imported (interface_item.Func g) zero fn at = let same : free_function g ≡ fn = cc in subst (λ (x : SourceFunction). role_side x.role ≡ Imported) same refl
item_imported (interface_item.Func g) (suc k) fn at = absurd (let f : ⊥ = cc in f)

pub interface_side : (items : List InterfaceItem) (k : ℕ) (fn : SourceFunction) → slice_get (flat_map part_functions (map interface_part items)) k ≡ Some fn → role_side fn.role ≡ Imported
interface_side items k fn at =
    let it = flat_map_at part_functions (map interface_part items) k fn at in
    let p = map_at interface_part items it.0 it.1 it.2 in
    item_imported p.0 it.3.0 fn (ap (λ x. slice_get (part_functions x) it.3.0) p.2 ∙ it.3.1)

pub interface_imported : (items : List InterfaceItem) → on_side Imported (flat_map part_functions (map interface_part items)) ≡ flat_map part_functions (map interface_part items)
interface_imported items = kept_all (λ fn. same_side Imported (role_side fn.role)) (flat_map part_functions (map interface_part items)) (λ k fn at. ap (same_side Imported) (interface_side items k fn at))

-- so they are where the item is an interface
declared_imported : (d : Declared) → (about d).is_world ≡ false → (k : ℕ) (fn : SourceFunction) → slice_get (flat_map part_functions (about d).parts) k ≡ Some fn → role_side fn.role ≡ Imported
declared_imported (TheInterface i) own k fn at = interface_side i.items.items k fn at
declared_imported (TheWorld w) own k fn at = absurd (let f : ⊥ = cc in f)
declared_imported (TheInline world place x name items) own k fn at = interface_side items k fn at

pub functions_imported : (i : Item) → is_world i ≡ false → (k : ℕ) (fn : SourceFunction) → slice_get (functions i) k ≡ Some fn → role_side fn.role ≡ Imported
functions_imported i own k fn at = declared_imported i.declared own k fn (ap (λ l. slice_get l k) (sym (functions_parts i)) ∙ at)

-- where all are functions, what is called on a side are these
pub called_functions : (side : WorldSide) (fns : List SourceFunction) → flat_map item_called (items_on side (map SideFunction fns)) ≡ map function_called (on_side side fns)
called_functions side [] = refl
called_functions side (fn ∷ fns) = elim (cases_Bool (same_side side (role_side fn.role))) [
  | inl hit ↦ ap (flat_map item_called) (cond-true (same_side side (role_side fn.role)) (SideFunction fn ∷ items_on side (map SideFunction fns)) (items_on side (map SideFunction fns)) hit) ∙ ap (λ (l : List Called). function_called fn ∷ l) (called_functions side fns) ∙ sym (ap (map function_called) (cond-true (same_side side (role_side fn.role)) (fn ∷ on_side side fns) (on_side side fns) hit))
  | inr miss ↦ ap (flat_map item_called) (cond-false (same_side side (role_side fn.role)) (SideFunction fn ∷ items_on side (map SideFunction fns)) (items_on side (map SideFunction fns)) miss) ∙ called_functions side fns ∙ sym (ap (map function_called) (cond-false (same_side side (role_side fn.role)) (fn ∷ on_side side fns) (on_side side fns) miss))
]

-- of an interface nothing is there but functions
interface_functions : (items : List InterfaceItem) → flat_map part_items (map interface_part items) ≡ map SideFunction (flat_map part_functions (map interface_part items))
interface_functions [] = refl
interface_functions (i ∷ items) =
    let own = part_functions (interface_part i) in
    let rest = flat_map part_functions (map interface_part items) in
    ap (λ (l : List SideItem). l ++ flat_map part_items (map interface_part items)) (one i) ∙ ap (λ (l : List SideItem). map SideFunction own ++ l) (interface_functions items) ∙ sym (map-append SideFunction own rest)
  where
    one : (i : InterfaceItem) → part_items (interface_part i) ≡ map SideFunction (part_functions (interface_part i))
    one (interface_item.TypeDef d) = refl
    one (interface_item.Use u) = refl
    one (interface_item.Func g) = refl

declared_functions : (d : Declared) → (about d).is_world ≡ false → flat_map part_items (about d).parts ≡ map SideFunction (flat_map part_functions (about d).parts)
declared_functions (TheInterface i) own = interface_functions i.items.items
declared_functions (TheWorld w) own = absurd (let f : ⊥ = cc in f)
declared_functions (TheInline world place x name items) own = interface_functions items

pub side_items_functions : (i : Item) → is_world i ≡ false → side_items i ≡ map SideFunction (functions i)
side_items_functions i own = declared_functions i.declared own ∙ ap (map SideFunction) (sym (functions_parts i))

-- and no path
no_link : (fns : List SourceFunction) → flat_map item_link (map SideFunction fns) ≡ []
no_link [] = refl
no_link (fn ∷ fns) = no_link fns

pub links_none : (i : Item) → is_world i ≡ false → links i ≡ []
links_none i own = ap (flat_map item_link) (side_items_functions i own) ∙ no_link (functions i)
