-- The text of a package's name, and that of an interface of the package.
use Rattle.std.specs.Prelude.{ℕ, List, [], ◌∷◌, ◌++◌, Option, Some, None}
use Rattle.wit_values.specs.ReleaseText.{release_text}
use Rattle.wit_values.specs.declared.release.Release.{Release}
use Rattle.wit_package_names.specs.declared.package_name.PackageName.{PackageName}

-- `@` and the version's text, where there is a version
abbrev pub at_version : Option Release → List ℕ
at_version None = []
at_version (Some version) = 64 ∷ release_text version

-- `namespace:name`, and the version
abbrev pub name_text : PackageName → List ℕ
name_text n = n.namespace ++ (58 ∷ (n.name ++ at_version n.version))

-- `namespace:name/interface`, and the version
abbrev pub interface_text : PackageName → List ℕ → List ℕ
interface_text n interface = n.namespace ++ (58 ∷ (n.name ++ (47 ∷ (interface ++ at_version n.version))))
