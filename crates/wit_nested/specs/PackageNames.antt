-- The names of the packages of a group, and when one of them is named again.
use denote.Ref.{Bor}
use Rattle.std.specs.Prelude.{◌≡◌, ℕ, Bool, List, [], ◌∷◌, ◌++◌, MatchBool, Some, Contains, slice_get, map, take}
use Rattle.wit_package_names.specs.declared.package_name.PackageName.{PackageName}
use Rattle.wit_tree.specs.declared.tree.PackageFile.{PackageFile}
use Rattle.wit_model.specs.declared.unresolved.UnresolvedPackage.{UnresolvedPackage}
use Rattle.wit_syntax.specs.Fault.{Fault, fault_in}
use Rattle.wit_syntax.specs.Words.{package_words}
use Rattle.wit_syntax.specs.Broken.{IsBroken}
use Rattle.wit_syntax.specs.Repeats.{AllDiffer}
use Rattle.wit_arena.specs.Faithful.{IsMadeOf}

-- the names of packages, with their versions
abbrev pub package_names : List UnresolvedPackage → List PackageName
package_names ps = map (λ p. p.name) ps

-- names that are borrowed
abbrev pub names_of : List (Bor PackageName) → List PackageName
names_of ns = map (λ n. n.now) ns

-- a name is new and comes after these, or it is one of them
abbrev pub IsInserted : (old new : List (Bor PackageName)) → PackageName → Bool → Type 0
IsInserted old new name is_new = MatchBool is_new ((names_of new ≡ names_of old ++ name ∷ []) × (Contains (names_of old) name → ⊥)) (Contains (names_of old) name)

-- no two of a main package and nested ones have one name, in one version or both in none
abbrev pub AreNamedApart : UnresolvedPackage → List UnresolvedPackage → Type 0
AreNamedApart main nested = AllDiffer (package_names (main ∷ nested))

-- a nested package has the name of the main one or of a nested one before it, and those before it are named apart
pub record IsNamedAgain (main : UnresolvedPackage) (nested : List UnresolvedPackage) (later : UnresolvedPackage) : Type 0 where
  pub place : ℕ
  pub present : slice_get nested place ≡ Some later
  pub again : Contains (package_names (main ∷ take place nested)) later.name
  pub apart : AreNamedApart main (take place nested)

-- the first nested package that does is refused at its name
pub record IsRepeatedPackage (main : UnresolvedPackage) (nested : List UnresolvedPackage) (f : Fault) : Type 0 where
  pub later : UnresolvedPackage
  pub again : IsNamedAgain main nested later
  pub is : f ≡ fault_in 53 later.name_span (package_words later.name)

-- what is wrong with files and the packages that were nested in them: the files break a rule; or they break none, and with the package that they
-- make one of the nested ones has a name again
pub data IsUnjoined (files : List PackageFile) (nested : List UnresolvedPackage) (f : Fault) : Type 0 where
  Broken : IsBroken files f → IsUnjoined files nested f
  Repeated : (main : UnresolvedPackage) → IsMadeOf files main → IsRepeatedPackage main nested f → IsUnjoined files nested f
