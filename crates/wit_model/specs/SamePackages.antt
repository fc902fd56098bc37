-- When two interfaces, worlds or packages are the same: each plain field is equal, and each map holds the same pairs in any order.
use Rattle.std.specs.Prelude.{◌≡◌, ℕ, Bool, false, ◌&&◌, List, [], ◌∷◌, Option, Some, None, nat_eq}
use Rattle.std.specs.Cmp.Lexicographic.{pointwise}
use Rattle.std.specs.Map.{lookup}
use Rattle.std.specs.Option.{option_eq}
use Rattle.wit_values.specs.declared.release.Release.{Release}
use Rattle.wit_model.specs.declared.interface.Interface.{Interface}
use Rattle.wit_package_names.specs.declared.package_name.PackageName.{PackageName}
use Rattle.wit_model.specs.declared.unresolved.UnresolvedPackage.{UnresolvedPackage}
use Rattle.wit_model.specs.declared.world.World.{World}
use Rattle.wit_model.specs.declared.world.WorldKey.{WorldKey}
use Rattle.wit_model.specs.declared.world.WorldKey.TheVariants as key

-- each key has the same value in both maps, or none in both
abbrev pub HoldSamePairs : {K V : Type 0} → (K → K → Bool) → List (K × V) → List (K × V) → Type 0
HoldSamePairs {K} same_key a b = (k : K) → lookup (same_key k) a ≡ lookup (same_key k) b

-- two texts are the same, byte by byte
abbrev pub is_same_name : List ℕ → List ℕ → Bool
is_same_name = pointwise nat_eq

-- two keys are the same name, or the same interface
abbrev pub is_same_key : WorldKey → WorldKey → Bool
is_same_key (key.Name a) (key.Name b) = is_same_name a b
is_same_key (key.Name a) (key.Interface j) = false
is_same_key (key.Interface i) (key.Name b) = false
is_same_key (key.Interface i) (key.Interface j) = nat_eq i j

pub record IsSameInterface (a b : Interface) : Type 0 where
  pub name : a.name ≡ b.name
  pub types : HoldSamePairs is_same_name a.types b.types
  pub functions : HoldSamePairs is_same_name a.functions b.functions
  pub docs : a.docs ≡ b.docs
  pub stability : a.stability ≡ b.stability
  pub «package» : a.package ≡ b.package
  pub span : a.span ≡ b.span
  pub clone_of : a.clone_of ≡ b.clone_of

pub record IsSameWorld (a b : World) : Type 0 where
  pub name : a.name ≡ b.name
  pub imports : HoldSamePairs is_same_key a.imports b.imports
  pub exports : HoldSamePairs is_same_key a.exports b.exports
  pub «package» : a.package ≡ b.package
  pub docs : a.docs ≡ b.docs
  pub stability : a.stability ≡ b.stability
  pub includes : a.includes ≡ b.includes
  pub span : a.span ≡ b.span

-- one by one, the values of two lists are the same
abbrev pub AreSame : {X : Type 0} → (X → X → Type 0) → List X → List X → Type 0
AreSame R [] [] = Unit {0}
AreSame R (x ∷ xs) (y ∷ ys) = R x y × AreSame R xs ys
AreSame R [] (y ∷ ys) = ⊥
AreSame R (x ∷ xs) [] = ⊥

-- two versions are the same, part by part
abbrev pub is_same_version : Release → Release → Bool
is_same_version a b = nat_eq a.major b.major && (nat_eq a.minor b.minor && (nat_eq a.patch b.patch && (is_same_name a.pre b.pre && is_same_name a.build b.build)))

-- two names of packages are the same, part by part
abbrev pub is_same_package_name : PackageName → PackageName → Bool
is_same_package_name a b = is_same_name a.namespace b.namespace && (is_same_name a.name b.name && option_eq is_same_version a.version b.version)

-- two values that are the same, or none on both sides
abbrev pub AreBothSame : {X : Type 0} → (X → X → Type 0) → Option X → Option X → Type 0
AreBothSame R None None = Unit {0}
AreBothSame R (Some x) (Some y) = R x y
AreBothSame R None (Some y) = ⊥
AreBothSame R (Some x) None = ⊥

-- each key has values that are the same in both maps, or none in both
abbrev pub HoldSameValues : {K V : Type 0} → (K → K → Bool) → (V → V → Type 0) → List (K × V) → List (K × V) → Type 0
HoldSameValues {K} same_key R a b = (k : K) → AreBothSame R (lookup (same_key k) a) (lookup (same_key k) b)

pub record IsSamePackage (a b : UnresolvedPackage) : Type 0 where
  pub name : a.name ≡ b.name
  pub worlds : AreSame IsSameWorld a.worlds b.worlds
  pub interfaces : AreSame IsSameInterface a.interfaces b.interfaces
  pub types : a.types ≡ b.types
  pub foreign_deps : HoldSameValues is_same_package_name (HoldSamePairs is_same_name) a.foreign_deps b.foreign_deps
  pub docs : a.docs ≡ b.docs
  pub name_span : a.name_span ≡ b.name_span
  pub unknown_type_spans : a.unknown_type_spans ≡ b.unknown_type_spans
  pub foreign_dep_spans : a.foreign_dep_spans ≡ b.foreign_dep_spans
  pub required_resource_types : a.required_resource_types ≡ b.required_resource_types
