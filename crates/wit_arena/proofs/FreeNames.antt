-- The written names of functions that are no resource's, in the source and in the package.
use Rattle.std.proofs.Common.{◌≡◌, ℕ, zero, List, [], ◌∷◌, ◌++◌, length, Some, refl, sym, ap, ◌∙◌, subst, arith, Contains}
use Rattle.wit_arena.proofs.Names.{Address, Constructor, Def, DefinitionPart, ExternPart, Freestanding, FuncForm, Function, FunctionKey, FunctionPart, Id, Item, Key, Method, OnSide, Part, ResourceFunc, Role, SourceFunction, Static, TypeBody, WorldSide, accessor, at_contains, at_within, contains_at, definition_functions, extern_at, flat_map, flat_map_at, flat_map_has, free_function, freestanding_names, function_in, functions, keyed, length-map, map, map_at, part_functions, part_of_function, resource_function, role_kind, role_names, role_side, slice_get, slice_get_within}
use Rattle.wit_type_tree.specs.declared.types.FuncForm.TheVariants as form
use Rattle.wit_type_tree.specs.declared.types.TypeBody.TheVariants as body
use Rattle.wit_type_tree.specs.declared.types.ResourceFunc.TheVariants as resource
use Rattle.wit_arena.proofs.PlacingFunctions.{one_mapped}
use Rattle.wit_arena.proofs.Turns.{freestanding_kind, method_kind, static_kind}

-- of functions of the package, each under its side and name
abbrev pub free_of : List (FunctionKey × Function) → List (List ℕ)
free_of fs = flat_map (λ f. freestanding_names f.1.kind f.1.name) fs

-- that does not depend on the side
pub free_keyed : (side : WorldSide) (fs : List (List ℕ × Function)) → free_of (map (keyed side) fs) ≡ flat_map (λ f. freestanding_names f.1.kind f.1.name) fs
free_keyed side [] = refl
free_keyed side (f ∷ fs) = ap (λ (l : List (List ℕ)). freestanding_names f.1.kind f.1.name ++ l) (free_keyed side fs)

-- what a function goes by, where this is the written one
abbrev pub made_key : SourceFunction → Function → FunctionKey
made_key fn f = (role_side fn.role, f.name)

-- what an owner states are the functions that were made of these, each under its side and name
pub record AreStated (fns : List SourceFunction) (made : List Function) (stated : List (FunctionKey × Function)) : Type 0 where
  pub has : (k : ℕ) (fn : SourceFunction) (f : Function) → slice_get fns k ≡ Some fn → slice_get made k ≡ Some f → (place : ℕ) × (slice_get stated place ≡ Some (made_key fn f, f))
  pub from : (place : ℕ) (key : FunctionKey) (f : Function) → slice_get stated place ≡ Some (key, f) → (k : ℕ) × (slice_get made k ≡ Some f) × ((fn : SourceFunction) → slice_get fns k ≡ Some fn → made_key fn f ≡ key)

-- a function of no resource has its written name after the mark of an accessor
abbrev IsCalled : Role → List ℕ → Type 0
IsCalled (Freestanding id form) name = name ≡ accessor form ++ id.name.now
IsCalled (Method of form) name = Unit {0}
IsCalled (Static of form) name = Unit {0}
IsCalled (Constructor of) name = Unit {0}
IsCalled (OnSide side id form) name = name ≡ accessor form ++ id.name.now

free_kind : (form : FuncForm) (name : List ℕ) → freestanding_names (freestanding_kind form) (accessor form ++ name) ≡ name ∷ []
free_kind form.Plain name = refl
free_kind _ name = refl

no_method : (form : FuncForm) (r : ℕ) (name : List ℕ) → freestanding_names (method_kind form r) name ≡ []
no_method form.Plain r name = refl
no_method _ r name = refl

no_static : (form : FuncForm) (r : ℕ) (name : List ℕ) → freestanding_names (static_kind form r) name ≡ []
no_static form.Plain r name = refl
no_static _ r name = refl

-- the names of an item's functions that are no resource's
abbrev pub free_names : Item → List (List ℕ)
free_names i = flat_map (λ fn. role_names fn.role) (functions i)

free_role : (place : Id → ℕ) (role : Role) (name : List ℕ) → IsCalled role name → freestanding_names (role_kind place role) name ≡ role_names role
free_role place (Freestanding id form) name called = ap (freestanding_names (freestanding_kind form)) called ∙ free_kind form id.name.now
free_role place (Method of form) name called = no_method form (place of) name
free_role place (Static of form) name called = no_static form (place of) name
free_role place (Constructor of) name called = refl
free_role place (OnSide side id form) name called = ap (freestanding_names (freestanding_kind form)) called ∙ free_kind form id.name.now

-- so it is of the functions of an item
resource_called : (r : Id) (g : ResourceFunc) → IsCalled (resource_function r g).role (resource_function r g).name
resource_called r (resource.Method f) = tt
resource_called r _ = tt

definition_called : (r : Id) (b : TypeBody) (k : ℕ) (fn : SourceFunction) → slice_get (definition_functions r b) k ≡ Some fn → IsCalled fn.role fn.name
definition_called r (body.Resource funcs) k fn at =
    let g = map_at (resource_function r) funcs.items k fn at in
    subst (λ (x : SourceFunction). IsCalled x.role x.name) g.2 (resource_called r g.0)
definition_called r _ k fn at = absurd (let f : ⊥ = cc in f)

part_called : (p : Part) (k : ℕ) (fn : SourceFunction) → slice_get (part_functions p) k ≡ Some fn → IsCalled fn.role fn.name
part_called (DefinitionPart d) k fn at = definition_called d.name d.body k fn at
part_called (ExternPart x) k fn at = (let it = extern_at x x.kind k fn at in subst (λ (g : SourceFunction). IsCalled g.role g.name) it.2 refl)
part_called (FunctionPart g) zero fn at = let same : free_function g ≡ fn = cc in subst (λ (x : SourceFunction). IsCalled x.role x.name) same refl
part_called _ k fn at = absurd (let f : ⊥ = cc in f)

function_called : (i : Item) (k : ℕ) (fn : SourceFunction) → slice_get (functions i) k ≡ Some fn → IsCalled fn.role fn.name
function_called i k fn at =
    let it = part_of_function i k fn at in
    part_called it.1 it.3.0 fn it.3.1

names_again : (id : Key → ℕ) (s : Address) (i : Item) (k : ℕ) (fn : SourceFunction) (f : Function) → slice_get (functions i) k ≡ Some fn → f ≡ function_in id s fn → role_names fn.role ≡ freestanding_names f.kind f.name
names_again id s i k fn f at is = sym (ap (λ (g : Function). freestanding_names g.kind g.name) is ∙ free_role (λ of. id (Def s of.name.now)) fn.role fn.name (function_called i k fn at))

module _ (id : Key → ℕ) (s : Address) (i : Item) (made : List Function) (stated : List (FunctionKey × Function)) (are : made ≡ map (function_in id s) (functions i)) (says : AreStated (functions i) made stated) where
  as_many : length made ≡ length (functions i)
  as_many = ap length are ∙ length-map (functions i) (function_in id s)

  again : (k : ℕ) (fn : SourceFunction) (f : Function) → slice_get (functions i) k ≡ Some fn → slice_get made k ≡ Some f → role_names fn.role ≡ freestanding_names f.kind f.name
  again k fn f at there = names_again id s i k fn f at (one_mapped (function_in id s) (functions i) made are k fn f at there)

  -- the written names of an item's functions are those that its owner states
  pub free_stated : (name : List ℕ) → Contains (free_names i) name → Contains (free_of stated) name
  free_stated name among =
      let n = at_contains (free_names i) name among in
      let it = flat_map_at (λ (fn : SourceFunction). role_names fn.role) (functions i) n.0 name n.1 in
      let lt = slice_get_within (functions i) it.0 it.1 it.2 in
      let f = at_within made it.0 (omega (arith, lt, as_many)) in
      let same : role_names it.1.role ≡ freestanding_names f.0.kind f.0.name = again it.0 it.1 f.0 it.2 f.1 in
      let place = says.has it.0 it.1 f.0 it.2 f.1 in
      let it' = flat_map_has (λ (x : FunctionKey × Function). freestanding_names x.1.kind x.1.name) stated place.0 it.3.0 (made_key it.1 f.0, f.0) name place.1 (ap (λ (l : List (List ℕ)). slice_get l it.3.0) (sym same) ∙ it.3.1) in
      contains_at (free_of stated) it'.0 name it'.1

  pub stated_free : (name : List ℕ) → Contains (free_of stated) name → Contains (free_names i) name
  stated_free name among =
      let n = at_contains (free_of stated) name among in
      let it = flat_map_at (λ (x : FunctionKey × Function). freestanding_names x.1.kind x.1.name) stated n.0 name n.1 in
      let f = says.from it.0 it.1.0 it.1.1 it.2 in
      let lt = slice_get_within made f.0 it.1.1 f.1 in
      let fn = at_within (functions i) f.0 (omega (arith, lt, as_many)) in
      let same : role_names fn.0.role ≡ freestanding_names it.1.1.kind it.1.1.name = again f.0 fn.0 it.1.1 fn.1 f.1 in
      let it' = flat_map_has (λ (fn : SourceFunction). role_names fn.role) (functions i) f.0 it.3.0 fn.0 name fn.1 (ap (λ (l : List (List ℕ)). slice_get l it.3.0) same ∙ it.3.1) in
      contains_at (free_names i) it'.0 name it'.1
