-- The first fault of sources that are pushed one after another.
use Rattle.std.specs.Prelude.{List, [], ◌∷◌, map, Option, None, Result, Some}
use Rattle.std.specs.List.{flat_map}
use Rattle.std.specs.Option.{option_or}
use Rattle.wit_type_tree.specs.declared.error.ParseError.{ParseError}
use Rattle.wit_tree.specs.declared.tree.NestedPackage.{NestedPackage}
use Rattle.wit_tree.specs.declared.tree.PackageName.{PackageName as Header}
use Rattle.wit_tree.specs.declared.tree.PackageFile.{PackageFile}
use Rattle.wit_tree.specs.declared.tree.SourceFile.{SourceFile}
use Rattle.wit_syntax.specs.Broken.{headers, last_header}
use Rattle.wit_syntax.specs.Fault.{Fault, fault}
use Rattle.wit_first.specs.First.{Finds, first_in, first_after}
use Rattle.wit_first.specs.HeaderFaults.{other_fault, second_docs_fault}
use Rattle.wit_nested.specs.Nested.{file_of}
use Rattle.wit_walk.specs.Walk.{ComesTo}

-- what `resolve` comes to in files, whichever they are: their first fault, or none
pub record IsWalk (walk : List PackageFile → Option Fault) : Type 0 where
  pub each : (files : List PackageFile) → ComesTo files (walk files)

-- a package is nested in a nested one: E3
abbrev pub inner_fault : List Header → Option Fault
inner_fault [] = None
inner_fault (inner ∷ rest) = Some (fault 3 inner.span)

-- of a nested package by itself: that, and then what `resolve` finds in it as a file of its own
abbrev pub nested_fault : (List PackageFile → Option Fault) → NestedPackage → Option Fault
nested_fault walk n = option_or (inner_fault n.nested.items) (walk (file_of n ∷ []))

-- of the header of a file after files: E1, and then E2
abbrev pub file_fault : List PackageFile → PackageFile → Option Fault
file_fault files file = option_or (other_fault (last_header files) file.package_id) (second_docs_fault (headers files) file.package_id)

-- of a source after files: the packages that are nested in it, in their order, and then its file
abbrev pub source_fault : (List PackageFile → Option Fault) → List PackageFile → SourceFile → Option Fault
source_fault walk files s = option_or (first_in (nested_fault walk) s.nested.items) (file_fault files s.file)

-- the files of sources, and the packages that are nested in them
abbrev pub files_of : List SourceFile → List PackageFile
files_of sources = map (λ (s : SourceFile). s.file) sources

abbrev pub nested_of : List SourceFile → List NestedPackage
nested_of sources = flat_map (λ (s : SourceFile). s.nested.items) sources

-- of sources, one after another
abbrev pub pushes_fault : (List PackageFile → Option Fault) → List SourceFile → Option Fault
pushes_fault walk sources = first_after (λ (before : List SourceFile) (s : SourceFile). source_fault walk (files_of before) s) [] sources

-- a call finds this fault, which is said by what `resolve` comes to in files
abbrev pub FindsWalked : {T : Type 0} → ((List PackageFile → Option Fault) → Option Fault) → Result T ParseError → Type 0
FindsWalked first r = (walk : List PackageFile → Option Fault) → IsWalk walk → Finds (first walk) r
