-- Scopes by address.
use Rattle.std.specs.Prelude.{ℕ, Bool, true, false, List, Option, Some, None, ◌&&◌, nat_eq}
use Rattle.std.specs.Option.{option_map}
use Rattle.std.specs.Str.{bytes_eq}
use Rattle.semver.specs.Identifiers.{pre_text, build_text}
use Rattle.semver.specs.declared.Version.{Version}
use Rattle.wit_values.specs.declared.release.Release.{Release}
use Rattle.wit_tree.specs.declared.tree.PackageName.{PackageName as Written}
use Rattle.wit_tree.specs.declared.tree.WorldSide.{WorldSide}
use Rattle.wit_package_names.specs.declared.package_name.PackageName.{PackageName}
use Rattle.wit_syntax.specs.ExternPart.{same_side}

-- a scope: the declared interface, or the declared world, of a name; the interface that is written in a world, at a place on a side of it; or
-- the item of a name in another package. A label would do for a place in legal files; others may have it twice on a side, and have a first fault too.
pub data Address : Type 0 where
  InterfaceNamed WorldNamed : (name : List ℕ) → Address
  InlineAt : (world : List ℕ) (side : WorldSide) (place : ℕ) → Address
  ForeignNamed : (of : PackageName) (name : List ℕ) → Address

-- a version that is written
abbrev pub release_of : Version → Release
release_of v = record { major = v.major; minor = v.minor; patch = v.patch; pre = pre_text v.pre; build = build_text v.build }

-- a package that is written
abbrev pub package_of : Written → PackageName
package_of p = record { namespace = p.namespace.name.now; name = p.name.name.now; version = option_map release_of p.version }

-- whether both versions are one, to their builds, or both are absent
abbrev pub same_version : Option Release → Option Release → Bool
same_version None None = true
same_version (Some a) (Some b) = nat_eq a.major b.major && (nat_eq a.minor b.minor && (nat_eq a.patch b.patch && (bytes_eq a.pre b.pre && bytes_eq a.build b.build)))
same_version _ _ = false

-- whether two packages are one
abbrev pub same_package : PackageName → PackageName → Bool
same_package a b = bytes_eq a.namespace b.namespace && (bytes_eq a.name b.name && same_version a.version b.version)

-- whether two addresses are one
abbrev pub same_address : Address → Address → Bool
same_address (InterfaceNamed a) (InterfaceNamed b) = bytes_eq a b
same_address (WorldNamed a) (WorldNamed b) = bytes_eq a b
same_address (InlineAt a s i) (InlineAt b t j) = bytes_eq a b && (same_side s t && nat_eq i j)
same_address (ForeignNamed p a) (ForeignNamed q b) = same_package p q && bytes_eq a b
same_address _ _ = false

-- whether a scope is of another package
abbrev pub is_foreign : Address → Bool
is_foreign (ForeignNamed p name) = true
is_foreign _ = false
