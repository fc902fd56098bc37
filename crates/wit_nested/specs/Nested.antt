-- Packages that are nested in files: each is a file of its own, and makes a package of its own.
use Rattle.std.specs.Prelude.{◌≡◌, List, [], ◌∷◌, ◌++◌, Some, Contains}
use Rattle.std.specs.List.{AllZip}
use Rattle.wit_tree.specs.declared.tree.NestedPackage.{NestedPackage}
use Rattle.wit_tree.specs.declared.tree.PackageName.{PackageName as Header}
use Rattle.wit_tree.specs.declared.tree.PackageFile.{PackageFile}
use Rattle.wit_tree.specs.declared.tree.SourceFile.{SourceFile}
use Rattle.wit_model.specs.declared.unresolved.UnresolvedPackage.{UnresolvedPackage}
use Rattle.wit_syntax.specs.Fault.{Fault, fault}
use Rattle.wit_syntax.specs.Broken.{IsBroken, IsDocumentedTwice, IsOtherPackage}
use Rattle.wit_arena.specs.Faithful.{IsMadeOf}

-- a nested package as a file of its own: its name is the header
abbrev pub file_of : NestedPackage → PackageFile
file_of n = record { package_id = Some n.name; decl_list = n.decl_list }

-- no package is nested in a nested one, and this is the package that it makes as a file of its own
pub record IsMadeByNested (n : NestedPackage) (p : UnresolvedPackage) : Type 0 where
  pub flat : n.nested.items ≡ []
  pub made : IsMadeOf (file_of n ∷ []) p

-- a package is nested in a nested one
pub record IsInner (n : NestedPackage) (f : Fault) : Type 0 where
  pub inner : Header
  pub among : Contains n.nested.items inner
  pub is : f ≡ fault 3 inner.span

-- what is wrong with a nested package by itself: a package is nested in it, or it breaks a rule as a file of its own
pub data IsBrokenNested (n : NestedPackage) (f : Fault) : Type 0 where
  Inner : IsInner n f → IsBrokenNested n f
  Alone : IsBroken (file_of n ∷ []) f → IsBrokenNested n f

-- what is wrong with one of some nested packages
pub record IsBrokenAmong (ns : List NestedPackage) (f : Fault) : Type 0 where
  pub n : NestedPackage
  pub among : Contains ns n
  pub broken : IsBrokenNested n f

-- what is wrong with a source after files: a package that is nested in it is broken, or its file's header names another package than the last one
-- before it, or has docs, as one before it has
pub data IsUnfit (files : List PackageFile) (s : SourceFile) (f : Fault) : Type 0 where
  Nested : IsBrokenAmong s.nested.items f → IsUnfit files s f
  OtherPackage : IsOtherPackage files s.file f → IsUnfit files s f
  DocumentedTwice : IsDocumentedTwice files s.file f → IsUnfit files s f

-- the packages that nested ones make come after packages, one for each, in their order
pub record GrowByNested (ns : List NestedPackage) (old new : List UnresolvedPackage) : Type 0 where
  pub made : List UnresolvedPackage
  pub each : AllZip IsMadeByNested ns made
  pub extended : new ≡ old ++ made
