-- Each id of a package is the place of an entry of its arena: of types, of interfaces or of worlds.
use Rattle.std.specs.Prelude.{◌≡◌, ◌<◌, ℕ, List, length, Some, None, slice_get}
use Rattle.wit_arena.specs.Common.{AstItem, Function, Interface, IsBelow, PackageName, Span, Stability, TypeDef, TypeOwner, UnresolvedPackage, World, WorldInclude, WorldItem, WorldKey, function_types, kind_of, «Type» as Ty}
use Rattle.wit_types.specs.declared.types.TypeOwner.TheVariants as owner
use Rattle.wit_functions.specs.FunctionKinds.{resource_of}
use Rattle.wit_model.specs.declared.ast_item.AstItem.TheVariants as entry
use Rattle.wit_model.specs.declared.world.WorldItem.TheVariants as item
use Rattle.wit_model.specs.declared.world.WorldKey.TheVariants as key

-- each of these names means the place of a type of the package
abbrev pub AreNamesWithin : UnresolvedPackage → List (List ℕ × ℕ) → Type 0
AreNamesWithin p names = (k : ℕ) (name : List ℕ) (id : ℕ) → slice_get names k ≡ Some (name, id) → id < length p.types

-- an owner is nobody, or has the place of an interface or of a world of the package
abbrev pub IsOwnerWithin : UnresolvedPackage → TypeOwner → Type 0
IsOwnerWithin p (owner.Interface id) = id < length p.interfaces
IsOwnerWithin p (owner.World id) = id < length p.worlds
IsOwnerWithin p owner.None = Unit {0}

-- the ids of a type are such places: those of its parts, of a handle that of its resource, and that of its owner
pub record IsTypeWithin (p : UnresolvedPackage) (e : TypeDef) : Type 0 where
  pub parts : (k : ℕ) (ty : Ty) → slice_get (kind_of e.kind).1 k ≡ Some ty → IsBelow (length p.types) ty
  pub owner : IsOwnerWithin p e.owner

-- those of a function: that of the resource that it belongs to, and those of the types of its parameters and of its result
pub record IsFunctionWithin (p : UnresolvedPackage) (f : Function) : Type 0 where
  pub resource : (id : ℕ) → resource_of f.kind ≡ Some id → id < length p.types
  pub types : (k : ℕ) (ty : Ty) → slice_get (function_types f) k ≡ Some ty → IsBelow (length p.types) ty

-- those of an interface: those of its types and of its functions; it has none of a package, nor of an interface that it is a copy of
pub record IsInterfaceWithin (p : UnresolvedPackage) (i : Interface) : Type 0 where
  pub types : AreNamesWithin p i.types
  pub functions : (k : ℕ) (name : List ℕ) (f : Function) → slice_get i.functions k ≡ Some (name, f) → IsFunctionWithin p f
  pub no_package : i.package ≡ None
  pub no_source : i.clone_of ≡ None

-- an import or an export is found by a name, or by the place of an interface of the package
abbrev pub IsKeyWithin : UnresolvedPackage → WorldKey → Type 0
IsKeyWithin p (key.Name name) = Unit {0}
IsKeyWithin p (key.Interface id) = id < length p.interfaces

-- it has the place of an interface or of a type of the package, or is a function whose ids are such places
abbrev pub IsItemWithin : UnresolvedPackage → WorldItem → Type 0
IsItemWithin p (item.Interface id stability external_id docs span) = id < length p.interfaces
IsItemWithin p (item.Function f) = IsFunctionWithin p f
IsItemWithin p (item.Type_ id span) = id < length p.types

-- the ids of a world are such places: those of its imports, of its exports and of the worlds that it includes; it has none of a package
pub record IsWorldWithin (p : UnresolvedPackage) (w : World) : Type 0 where
  pub imports : (k : ℕ) (x : WorldKey × WorldItem) → slice_get w.imports k ≡ Some x → IsKeyWithin p x.0 × IsItemWithin p x.1
  pub exports : (k : ℕ) (x : WorldKey × WorldItem) → slice_get w.exports k ≡ Some x → IsKeyWithin p x.0 × IsItemWithin p x.1
  pub includes : (k : ℕ) (i : WorldInclude) → slice_get w.includes k ≡ Some i → i.id < length p.worlds
  pub no_package : w.package ≡ None

-- an item of another package has the place of an interface or of a world of the package
abbrev pub IsForeignWithin : UnresolvedPackage → AstItem → Type 0
IsForeignWithin p (entry.Interface id) = id < length p.interfaces
IsForeignWithin p (entry.World id) = id < length p.worlds

-- The ids of a package are such places: those of its types, of its interfaces and of its worlds, of the items of other packages that it
-- names, and of the types that handles require to be resources.
pub record AreIdsWithin (p : UnresolvedPackage) : Type 0 where
  pub types : (k : ℕ) (e : TypeDef) → slice_get p.types k ≡ Some e → IsTypeWithin p e
  pub interfaces : (k : ℕ) (i : Interface) → slice_get p.interfaces k ≡ Some i → IsInterfaceWithin p i
  pub worlds : (k : ℕ) (w : World) → slice_get p.worlds k ≡ Some w → IsWorldWithin p w
  pub foreign : (k : ℕ) (d : PackageName × List (List ℕ × (AstItem × List Stability))) → slice_get p.foreign_deps k ≡ Some d → (j : ℕ) (x : List ℕ × (AstItem × List Stability)) → slice_get d.1 j ≡ Some x → IsForeignWithin p x.1.0
  pub required : (k : ℕ) (r : ℕ × Span) → slice_get p.required_resource_types k ≡ Some r → r.0 < length p.types
