-- The first fault of a group, and what is wrong with one.
use Rattle.std.specs.Prelude.{◌≡◌, ◌↔◌, ℕ, if◌then◌else◌, List, [], ◌∷◌, Option, None, Result, Some, Contains, map, slice_get, take}
use Rattle.std.specs.List.{AllZip, list_any}
use Rattle.wit_type_tree.specs.declared.error.ParseError.{ParseError}
use Rattle.wit_tree.specs.declared.tree.NestedPackage.{NestedPackage}
use Rattle.wit_tree.specs.declared.tree.PackageName.{PackageName as Header}
use Rattle.wit_tree.specs.declared.tree.PackageFile.{PackageFile}
use Rattle.wit_tree.specs.declared.tree.SourceFile.{SourceFile}
use Rattle.wit_model.specs.declared.unresolved.UnresolvedPackage.{UnresolvedPackage}
use Rattle.wit_syntax.specs.Address.{package_of, same_package}
use Rattle.wit_syntax.specs.Broken.{IsBroken, IsSamePackage, last_header}
use Rattle.wit_syntax.specs.Fault.{Fault, fault_in}
use Rattle.wit_syntax.specs.Words.{package_words}
use Rattle.wit_first.specs.First.{first_after}
use Rattle.wit_nested.specs.Nested.{IsMadeByNested, IsUnfit}
use Rattle.wit_nested.specs.PackageNames.{AreNamedApart, IsRepeatedPackage}
use Rattle.wit_walk.specs.Walk.{earliest}
use Rattle.wit_nested.specs.PushFaults.{FindsWalked, IsWalk, files_of, nested_of, pushes_fault}

-- the name of a package is one that another package of its group has
abbrev pub named_twice : Header → Fault
named_twice own = fault_in 53 own.span (package_words (package_of own))

-- a package has the name of one of these, in one version or both in none: E53
abbrev pub repeat_fault : List Header → Header → Option Fault
repeat_fault before own = if list_any (λ (h : Header). same_package (package_of h) (package_of own)) before then Some (named_twice own) else None

-- of the names of nested packages, after that of the main one
abbrev pub names_fault : Option Header → List Header → Option Fault
names_fault None nested = None
names_fault (Some main) nested = first_after repeat_fault (main ∷ []) nested

-- the names of the packages that are nested in sources
abbrev pub nested_names : List SourceFile → List Header
nested_names sources = map (λ (n : NestedPackage). n.name) (nested_of sources)

-- of sources that are pushed: what `resolve` finds in their files, and then the names of all packages
abbrev pub joined_faults : (List PackageFile → Option Fault) → List SourceFile → List (Option Fault)
joined_faults walk sources = walk (files_of sources) ∷ names_fault (last_header (files_of sources)) (nested_names sources) ∷ []

-- of a group: pushing its sources, and then that
abbrev pub group_fault : (List PackageFile → Option Fault) → List SourceFile → Option Fault
group_fault walk sources = earliest (pushes_fault walk sources ∷ joined_faults walk sources)

-- that is what the group comes to
pub record GroupComesTo (sources : List SourceFile) (first : Option Fault) : Type 0 where
  pub walk : List PackageFile → Option Fault
  pub walks : IsWalk walk
  pub is : group_fault walk sources ≡ first

-- a fault is the first of the group; and the group has none
abbrev pub IsFirstOfGroup : List SourceFile → Fault → Type 0
IsFirstOfGroup sources f = GroupComesTo sources (Some f)

abbrev pub IsFaultlessGroup : List SourceFile → Type 0
IsFaultlessGroup sources = GroupComesTo sources None

-- a source is unfit after the files of those before it
pub record IsUnfitAmong (sources : List SourceFile) (f : Fault) : Type 0 where
  pub place : ℕ
  pub s : SourceFile
  pub present : slice_get sources place ≡ Some s
  pub unfit : IsUnfit (files_of (take place sources)) s f

-- a nested package has the name of the main one or of a nested one before it, in one version or both in none
pub record IsNamedTwice (main : Option Header) (nested : List Header) (f : Fault) : Type 0 where
  pub own : Header
  pub named : main ≡ Some own
  pub place : ℕ
  pub later : Header
  pub present : slice_get nested place ≡ Some later
  pub before : Header
  pub among : Contains (own ∷ take place nested) before
  pub same : IsSamePackage before later
  pub is : f ≡ named_twice later

-- what is wrong with a group: with a source of it, with the files of all, or with the names of its packages
pub data IsBrokenGroup (sources : List SourceFile) (f : Fault) : Type 0 where
  Unfit : IsUnfitAmong sources f → IsBrokenGroup sources f
  Broken : IsBroken (files_of sources) f → IsBrokenGroup sources f
  NamedTwice : IsNamedTwice (last_header (files_of sources)) (nested_names sources) f → IsBrokenGroup sources f

-- nothing is
abbrev pub IsLegalGroup : List SourceFile → Type 0
IsLegalGroup sources = (f : Fault) → IsBrokenGroup sources f → ⊥

-- a call finds what is wrong with files and packages, whichever sources they are of: these are pushed
abbrev pub FindsJoined : {T : Type 0} → List PackageFile → List UnresolvedPackage → Result T ParseError → Type 0
FindsJoined files nested r = (sources : List SourceFile) → files_of sources ≡ files → AllZip IsMadeByNested (nested_of sources) nested → FindsWalked (λ walk. earliest (joined_faults walk sources)) r

-- E53 is what `GroupResolver::resolve` refuses in a main package and nested ones, and there is none exactly where no two of them have one name
pub record AgreeOnNames (first : Option Fault) (main : UnresolvedPackage) (nested : List UnresolvedPackage) : Type 0 where
  pub repeated : (f : Fault) → (first ≡ Some f) ↔ IsRepeatedPackage main nested f
  pub apart : (first ≡ None) ↔ AreNamedApart main nested
