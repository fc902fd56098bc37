-- Packages in which each version and each name is the only one with its text, as those are that are read from text.
use Rattle.std.specs.Prelude.{ℕ, ◌<◌, ◌^◌, List, IfSome, All, Contains, ⊤}
use Rattle.semver.specs.Grammar.{IsValid}
use Rattle.wit_values.specs.declared.release.Release.{Release}
use Rattle.wit_values.specs.ReleaseText.{release_parts}
use Rattle.wit_types.specs.declared.stability.Stability.{Stability}
use Rattle.wit_types.specs.declared.stability.Stability.TheVariants.{Unknown, Unstable, Stable}
use Rattle.wit_package_names.specs.declared.package_name.PackageName.{PackageName}
use Rattle.wit_model.specs.declared.ast_item.AstItem.{AstItem}
use Rattle.wit_model.specs.declared.interface.Interface.{Interface}
use Rattle.wit_model.specs.declared.world.World.{World}
use Rattle.wit_model.specs.declared.world.WorldItem.{WorldItem}
use Rattle.wit_model.specs.declared.world.WorldItem.TheVariants as item
use Rattle.wit_model.specs.declared.world.WorldKey.{WorldKey}
use Rattle.wit_model.specs.declared.world.WorldKey.TheVariants as key
use Rattle.wit_model.specs.declared.unresolved.UnresolvedPackage.{UnresolvedPackage}

-- a version by SemVer 2.0.0
abbrev pub IsVersion : Release → Type 0
IsVersion r = IsValid (release_parts r)

-- its versions are such
abbrev pub HasVersions : Stability → Type 0
HasVersions Unknown = ⊤
HasVersions (Unstable feature deprecated) = IfSome deprecated IsVersion
HasVersions (Stable since deprecated) = IsVersion since × IfSome deprecated IsVersion

-- the namespace has no `:`, and the name no `@`
pub record IsPlainName (n : PackageName) : Type 0 where
  pub namespace : Contains n.namespace 58 → ⊥
  pub name : Contains n.name 64 → ⊥
  pub version : IfSome n.version IsVersion

-- a name has no `:`, and an id is one of 64 bits
abbrev pub IsPlainKey : WorldKey → Type 0
IsPlainKey (key.Name name) = Contains name 58 → ⊥
IsPlainKey (key.Interface id) = id < 2 ^ 64

abbrev pub IsPlainItem : WorldItem → Type 0
IsPlainItem (item.Interface id stability external_id docs span) = HasVersions stability
IsPlainItem (item.Function f) = HasVersions f.stability
IsPlainItem (item.Type_ id span) = ⊤

-- an import or export
abbrev pub IsPlainExtern : WorldKey × WorldItem → Type 0
IsPlainExtern e = IsPlainKey e.0 × IsPlainItem e.1

pub record IsPlainWorld (v : World) : Type 0 where
  pub stability : HasVersions v.stability
  pub imports : All IsPlainExtern v.imports
  pub exports : All IsPlainExtern v.exports
  pub includes : All (λ i. HasVersions i.stability) v.includes

pub record IsPlainInterface (i : Interface) : Type 0 where
  pub stability : HasVersions i.stability
  pub functions : All (λ f. HasVersions f.1.stability) i.functions

-- another package, with its items
pub record IsPlainDep (d : PackageName × List (List ℕ × (AstItem × List Stability))) : Type 0 where
  pub name : IsPlainName d.0
  pub items : All (λ e. All HasVersions e.1.1) d.1

-- all versions are by SemVer, and no name has a mark that ends it in a text
pub record IsPlainPackage (p : UnresolvedPackage) : Type 0 where
  pub name : IsPlainName p.name
  pub worlds : All IsPlainWorld p.worlds
  pub interfaces : All IsPlainInterface p.interfaces
  pub types : All (λ t. HasVersions t.stability) p.types
  pub deps : All IsPlainDep p.foreign_deps
