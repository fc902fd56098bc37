-- What is known of the entries of a valid package.
use Rattle.std.proofs.Common.{◌≡◌, ◌<◌, ◌+◌, ℕ, List, [], length, map, Option, Some, refl, ap, ◌∙◌, subst}
use Rattle.wit_arena.proofs.Common.{Exported, Function, FunctionKey, HasMarkOf, Imported, Interface, IsBackward, UnresolvedPackage, World, WorldItem, WorldKey, at_back, at_prefix, flat_map, flat_map_has, functions_of, interface_functions, item_functions, keyed, mark_of, option_map, option_map_or, slice_get, slice_get-map, world_functions, ∥∥₁_elim, ∥∥₁_map}
use Rattle.std.proofs.Props.{props}
use Rattle.wit_types.specs.declared.types.TypeOwner.TheVariants as owner
use Rattle.wit_model.specs.declared.world.WorldItem.TheVariants as item
use Rattle.wit_model.specs.declared.world.WorldKey.TheVariants as key
use Rattle.wit_groups.specs.Ids.{AreNamesWithin, IsItemWithin}
use Rattle.wit_resolved.specs.Valid.{AreFunctionsValid, AreItemsValid, IsFunctionValid, IsItemValid, IsValid, named_function}

pub backward_of : (p : UnresolvedPackage) → ∥ IsValid p ∥₁ → IsBackward p.types
backward_of p valid = ∥∥₁_elim valid (hlevel props) (λ v. v.backward)

-- a name of a type
pub name_within : (p : UnresolvedPackage) (names : List (List ℕ × ℕ)) (k : ℕ) (name : List ℕ) (id : ℕ) → ∥ AreNamesWithin p names ∥₁ → slice_get names k ≡ Some (name, id) → id < length p.types
name_within p names k name id within at = ∥∥₁_elim within (hlevel props) (λ w. w k name id at)

-- a function of a world
pub function_valid : (p : UnresolvedPackage) (k : WorldKey) (i : WorldItem) (f : Function) → ∥ IsItemValid p k i ∥₁ → named_function k i ≡ Some f → ∥ IsFunctionValid p f ∥₁
function_valid p k i f valid is = ∥∥₁_map valid (λ v. v.function f is)

-- an entry of a map
pub function_at : (p : UnresolvedPackage) (fs : List (List ℕ × Function)) (k : ℕ) (name : List ℕ) (f : Function) → ∥ AreFunctionsValid p fs ∥₁ → slice_get fs k ≡ Some (name, f) → ∥ IsFunctionValid p f ∥₁
function_at p fs k name f valid at = ∥∥₁_map valid (λ v. v k name f at)

pub item_at : (p : UnresolvedPackage) (xs : List (WorldKey × WorldItem)) (k : ℕ) (key : WorldKey) (i : WorldItem) → ∥ AreItemsValid p xs ∥₁ → slice_get xs k ≡ Some (key, i) → ∥ IsItemValid p key i ∥₁
item_at p xs k key i valid at = ∥∥₁_map valid (λ v. v k (key, i) at)

-- what an interface has
pub functions_valid : (p : UnresolvedPackage) (place : ℕ) (i : Interface) → IsValid p → slice_get p.interfaces place ≡ Some i → AreFunctionsValid p i.functions
functions_valid p place i v at = λ k name f there.
    let whole : functions_of p (owner.Interface place) ≡ interface_functions i = ap (λ (o : Option Interface). option_map_or interface_functions o []) at in
    let key : slice_get (interface_functions i) k ≡ Some ((Imported, name), f) = slice_get-map (keyed Imported) i.functions k ∙ ap (option_map (keyed Imported)) there in
    record {
      within = (v.within.interfaces place i at).functions k name f there;
      marked = v.marks.each (owner.Interface place) k (Imported, name) f (ap (λ (l : List (FunctionKey × Function)). slice_get l k) whole ∙ key);
    }

-- what a world has: the functions under names have their marks
abbrev AreMarked : List (WorldKey × WorldItem) → Type 0
AreMarked xs = (j : ℕ) (name : List ℕ) (f : Function) → slice_get (flat_map item_functions xs) j ≡ Some (name, f) → HasMarkOf (mark_of f.kind) f.name

item_valid : (p : UnresolvedPackage) (k : WorldKey) (i : WorldItem) → IsItemWithin p i → ((name : List ℕ) (f : Function) → slice_get (item_functions (k, i)) 0 ≡ Some (name, f) → HasMarkOf (mark_of f.kind) f.name) → IsItemValid p k i
item_valid p (key.Name name) (item.Function g) within marked =
    let own : IsFunctionValid p g = record { within = within; marked = marked name g refl } in
    record { within = within; function = λ f is. (let same : g ≡ f = cc in subst (IsFunctionValid p) same own) }
item_valid p (key.Name name) (item.Interface id s x d span) within marked = record { within = within; function = λ f is. absurd (let wrong : ⊥ = cc in wrong) }
item_valid p (key.Name name) (item.Type_ id span) within marked = record { within = within; function = λ f is. absurd (let wrong : ⊥ = cc in wrong) }
item_valid p (key.Interface at) (item.Function g) within marked = record { within = within; function = λ f is. absurd (let wrong : ⊥ = cc in wrong) }
item_valid p (key.Interface at) (item.Interface id s x d span) within marked = record { within = within; function = λ f is. absurd (let wrong : ⊥ = cc in wrong) }
item_valid p (key.Interface at) (item.Type_ id span) within marked = record { within = within; function = λ f is. absurd (let wrong : ⊥ = cc in wrong) }

side_valid : (p : UnresolvedPackage) (xs : List (WorldKey × WorldItem)) → ((k : ℕ) (x : WorldKey × WorldItem) → slice_get xs k ≡ Some x → IsItemWithin p x.1) → AreMarked xs → AreItemsValid p xs
side_valid p xs within marked = λ k x at. item_valid p x.0 x.1 (within k x at) (λ name f here. (
    let there = flat_map_has item_functions xs k 0 x (name, f) at here in
    marked there.0 name f there.1))

world_keys : (p : UnresolvedPackage) (place : ℕ) (w : World) → slice_get p.worlds place ≡ Some w → functions_of p (owner.World place) ≡ world_functions w
world_keys p place w at = ap (λ (o : Option World). option_map_or world_functions o []) at

imports_marked : (p : UnresolvedPackage) (place : ℕ) (w : World) → IsValid p → slice_get p.worlds place ≡ Some w → AreMarked w.imports
imports_marked p place w v at = λ j name f here.
    let imports = map (keyed Imported) (flat_map item_functions w.imports) in
    let exports = map (keyed Exported) (flat_map item_functions w.exports) in
    let there : slice_get imports j ≡ Some ((Imported, name), f) = slice_get-map (keyed Imported) (flat_map item_functions w.imports) j ∙ ap (option_map (keyed Imported)) here in
    v.marks.each (owner.World place) j (Imported, name) f (ap (λ (l : List (FunctionKey × Function)). slice_get l j) (world_keys p place w at) ∙ at_prefix imports exports j ((Imported, name), f) there)

exports_marked : (p : UnresolvedPackage) (place : ℕ) (w : World) → IsValid p → slice_get p.worlds place ≡ Some w → AreMarked w.exports
exports_marked p place w v at = λ j name f here.
    let imports = map (keyed Imported) (flat_map item_functions w.imports) in
    let exports = map (keyed Exported) (flat_map item_functions w.exports) in
    let there : slice_get exports j ≡ Some ((Exported, name), f) = slice_get-map (keyed Exported) (flat_map item_functions w.exports) j ∙ ap (option_map (keyed Exported)) here in
    v.marks.each (owner.World place) (length imports + j) (Exported, name) f (ap (λ (l : List (FunctionKey × Function)). slice_get l (length imports + j)) (world_keys p place w at) ∙ at_back imports exports j ((Exported, name), f) there)

pub imports_valid : (p : UnresolvedPackage) (place : ℕ) (w : World) → IsValid p → slice_get p.worlds place ≡ Some w → AreItemsValid p w.imports
imports_valid p place w v at = side_valid p w.imports (λ k x there. ((v.within.worlds place w at).imports k x there).1) (imports_marked p place w v at)

pub exports_valid : (p : UnresolvedPackage) (place : ℕ) (w : World) → IsValid p → slice_get p.worlds place ≡ Some w → AreItemsValid p w.exports
exports_valid p place w v at = side_valid p w.exports (λ k x there. ((v.within.worlds place w at).exports k x there).1) (exports_marked p place w v at)
