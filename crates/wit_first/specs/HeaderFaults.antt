-- The first fault of a source that is pushed after files: E1, E2 and E3.
use Rattle.std.specs.Prelude.{◌==◌, ◌||◌, ◌&&◌, if◌then◌else◌, Bool, false, not, List, [], ◌∷◌, length, Option, None, Some}
use Rattle.std.specs.Option.{option_or}
use Rattle.wit_tree.specs.declared.tree.NestedPackage.{NestedPackage}
use Rattle.wit_tree.specs.declared.tree.PackageName.{PackageName as Header}
use Rattle.wit_tree.specs.declared.tree.PackageFile.{PackageFile}
use Rattle.wit_tree.specs.declared.tree.SourceFile.{SourceFile}
use Rattle.wit_syntax.specs.Address.{package_of, same_package}
use Rattle.wit_syntax.specs.Broken.{headers, last_header}
use Rattle.wit_syntax.specs.Fault.{Fault, fault, fault_in}
use Rattle.wit_syntax.specs.Words.{mismatch}

-- a header names another package than the one before it
abbrev pub other_fault : Option Header → Option Header → Option Fault
other_fault None own = None
other_fault (Some before) None = None
other_fault (Some before) (Some own) = if same_package (package_of before) (package_of own) then None else Some (fault_in 1 own.span (mismatch (package_of own) (package_of before)))

-- whether a header has docs, and whether one of some has
abbrev pub is_documented : Header → Bool
is_documented h = not (length h.docs.docs.items == 0)

abbrev pub have_docs : List Header → Bool
have_docs [] = false
have_docs (h ∷ hs) = is_documented h || have_docs hs

-- a header has docs after others, one of which has
abbrev pub second_docs_fault : List Header → Option Header → Option Fault
second_docs_fault earlier None = None
second_docs_fault earlier (Some own) = if have_docs earlier && is_documented own then Some (fault 2 own.docs.span) else None

-- a package is nested in a source
abbrev pub nesting_fault : List NestedPackage → Option Fault
nesting_fault [] = None
nesting_fault (inner ∷ rest) = Some (fault 3 inner.name.span)

-- of a source: the header of its file first, then the docs of that, and then what is nested in it
abbrev pub push_fault : List PackageFile → SourceFile → Option Fault
push_fault files s = option_or (other_fault (last_header files) s.file.package_id) (option_or (second_docs_fault (headers files) s.file.package_id) (nesting_fault s.nested.items))
