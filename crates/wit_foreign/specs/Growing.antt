-- The items of the visits so far.
use Rattle.std.specs.Prelude.{◌≡◌, List, length, map}
use Rattle.wit_values.specs.declared.span.Span.{Span}
use Rattle.wit_tree.specs.declared.tree.PackageFile.{PackageFile}
use Rattle.wit_package_names.specs.declared.package_name.PackageName.{PackageName}
use Rattle.wit_syntax.specs.Foreign.{ForeignVisit, foreign_packages, foreign_visits}
use Rattle.wit_arena.specs.Whole.{dep}
use Rattle.wit_files.specs.declared.foreign.ForeignVisit.{ForeignVisit as Borrowed}
use Rattle.wit_files.specs.ForeignPaths.{foreign_view}
use Rattle.wit_foreign.specs.declared.package_table.Deps.{Deps}
use Rattle.wit_foreign.specs.Kept.{Items, interfaces_in, worlds_in, packages_of, table_in}

-- these are the items of visits
pub record AreDeps (vs : List ForeignVisit) (d : Deps) : Type 0 where
  pub packages : d.packages ≡ table_in vs
  pub spans : d.spans ≡ map (λ v. v.of.span) (packages_of vs)
  pub interfaces : length d.interfaces ≡ length (interfaces_in vs)
  pub worlds : length d.worlds ≡ length (worlds_in vs)

-- where these are the visits of files, this is what they name of other packages, and where a path first names each package
abbrev pub AreDepsOf : List Borrowed → List (PackageName × Items) → Type 0
AreDepsOf vs deps = (files : List PackageFile) → map foreign_view vs ≡ foreign_visits files → deps ≡ map (dep files) (foreign_packages files)

abbrev pub AreDepSpansOf : List Borrowed → List Span → Type 0
AreDepSpansOf vs spans = (files : List PackageFile) → map foreign_view vs ≡ foreign_visits files → spans ≡ map (λ v. v.of.span) (foreign_packages files)
