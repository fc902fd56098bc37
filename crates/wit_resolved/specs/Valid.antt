-- What holds of each package that legal files make: its ids are places of entries, those of its types point backward, and the names of its
-- functions have the marks of their kinds.
use Rattle.std.specs.Prelude.{◌≡◌, ℕ, List, Option, Some, None, slice_get}
use Rattle.wit_types.specs.InnerTypes.{IsBackward}
use Rattle.wit_functions.specs.FunctionNames.{mark_of, HasMarkOf}
use Rattle.wit_functions.specs.declared.function.Function.{Function}
use Rattle.wit_model.specs.declared.world.WorldItem.{WorldItem}
use Rattle.wit_model.specs.declared.world.WorldItem.TheVariants as item
use Rattle.wit_model.specs.declared.world.WorldKey.{WorldKey}
use Rattle.wit_model.specs.declared.world.WorldKey.TheVariants as key
use Rattle.wit_model.specs.declared.unresolved.UnresolvedPackage.{UnresolvedPackage}
use Rattle.wit_tree.specs.declared.tree.PackageFile.{PackageFile}
use Rattle.wit_arena.specs.Faithful.{IsMadeOf}
use Rattle.wit_groups.specs.Ids.{AreIdsWithin, IsFunctionWithin, IsItemWithin}
use Rattle.wit_groups.specs.Marks.{HaveMarks}

pub record IsValid (p : UnresolvedPackage) : Type 0 where
  pub within : AreIdsWithin p
  pub backward : IsBackward p.types
  pub marks : HaveMarks p

-- legal files make the package
abbrev pub IsMade : UnresolvedPackage → Type 0
IsMade p = (files : List PackageFile) × IsMadeOf files p

-- legal files make each of these packages
abbrev pub AreMade : List UnresolvedPackage → Type 0
AreMade ps = (k : ℕ) (p : UnresolvedPackage) → slice_get ps k ≡ Some p → IsMade p

-- the ids of a function are places of types, and its name has the mark of its kind
pub record IsFunctionValid (p : UnresolvedPackage) (f : Function) : Type 0 where
  pub within : IsFunctionWithin p f
  pub marked : HasMarkOf (mark_of f.kind) f.name

-- each function in a map is valid
abbrev pub AreFunctionsValid : UnresolvedPackage → List (List ℕ × Function) → Type 0
AreFunctionsValid p fs = (k : ℕ) (name : List ℕ) (f : Function) → slice_get fs k ≡ Some (name, f) → IsFunctionValid p f

-- the function that an import or export is; it has a name
abbrev pub named_function : WorldKey → WorldItem → Option Function
named_function (key.Name name) (item.Function f) = Some f
named_function _ _ = None

-- the ids of an import or export are places of entries, and if it is a function, this is valid
pub record IsItemValid (p : UnresolvedPackage) (k : WorldKey) (i : WorldItem) : Type 0 where
  pub within : IsItemWithin p i
  pub function : (f : Function) → named_function k i ≡ Some f → IsFunctionValid p f

-- each import or export of a map is valid
abbrev pub AreItemsValid : UnresolvedPackage → List (WorldKey × WorldItem) → Type 0
AreItemsValid p xs = (k : ℕ) (x : WorldKey × WorldItem) → slice_get xs k ≡ Some x → IsItemValid p x.0 x.1
