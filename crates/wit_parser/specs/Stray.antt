-- Which sources cannot be after files.
use Rattle.std.specs.Prelude.{◌≡◌, ◌⊎◌, List, Contains}
use Rattle.wit_tree.specs.declared.tree.NestedPackage.{NestedPackage}
use Rattle.wit_arena.specs.Common.{Fault, IsDocumentedTwice, IsOtherPackage, PackageFile, fault}
use Rattle.wit_tree.specs.declared.tree.SourceFile.{SourceFile}

-- a package is among those that are nested in a source
pub record IsNesting (nested : List NestedPackage) (f : Fault) : Type 0 where
  pub inner : NestedPackage
  pub among : Contains nested inner
  pub is : f ≡ fault 3 inner.name.span

-- a source cannot be after files: its file's header names another package than the last one before it, or has docs, as one before it has, or a
-- package is nested in it
abbrev pub IsStray : List PackageFile → SourceFile → Fault → Type 0
IsStray files s f = IsOtherPackage files s.file f ⊎ (IsDocumentedTwice files s.file f ⊎ IsNesting s.nested.items f)
