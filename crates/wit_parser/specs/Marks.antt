-- The names of a package's functions have the marks of their kinds.
use Rattle.std.specs.Prelude.{◌≡◌, ℕ, Some, slice_get}
use Rattle.wit_arena.specs.Common.{Function, FunctionKey, TypeOwner, UnresolvedPackage, functions_of}
use Rattle.wit_functions.specs.FunctionNames.{mark_of, HasMarkOf}

-- each function of each owner, of an interface or on a side of a world, has the mark of its kind in its name
pub record HaveMarks (p : UnresolvedPackage) : Type 0 where
  pub each : (o : TypeOwner) (place : ℕ) (key : FunctionKey) (f : Function) → slice_get (functions_of p o) place ≡ Some (key, f) → HasMarkOf (mark_of f.kind) f.name
