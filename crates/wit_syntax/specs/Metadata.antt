-- Metadata: what the docs and the attributes before a thing say of it, and what breaks the rules of attributes.
use Rattle.std.specs.Prelude.{◌≡◌, ◌≢◌, ℕ, ◌⊎◌, true, List, [], ◌∷◌, take, Option, Some, None, map, slice_get}
use Rattle.std.specs.Option.{option_map}
use Rattle.wit_values.specs.declared.release.Release.{Release}
use Rattle.wit_type_tree.specs.declared.leaves.Docs.{Docs as Comments}
use Rattle.wit_type_tree.specs.declared.leaves.Attribute.{Attribute}
use Rattle.wit_type_tree.specs.declared.attribute_kind.AttributeKind.{AttributeKind}
use Rattle.wit_type_tree.specs.declared.attribute_kind.AttributeKind.TheVariants.{Since, Unstable, Deprecated, ExternalId}
use Rattle.wit_type_tree.specs.Attributes.{attribute_span, is_of, first_of, stated_text, stated_version}
use Rattle.wit_types.specs.declared.docs.Docs.{Docs}
use Rattle.wit_types.specs.declared.stability.Stability.{Stability}
use Rattle.wit_types.specs.declared.stability.Stability.TheVariants as stability
use Rattle.wit_syntax.specs.Address.{release_of}
use Rattle.wit_syntax.specs.Docs.{docs_text}
use Rattle.wit_syntax.specs.Fault.{Fault, fault}

-- what comments document
abbrev pub docs_of : Comments → Docs
docs_of d = record { contents = docs_text (map (λ c. c.now) d.docs.items) }

-- no docs were written
abbrev pub no_docs : Docs
no_docs = record { contents = None }

-- the version from which `@deprecated` says that a thing is deprecated, if it is there
abbrev pub deprecation : List Attribute → Option Release
deprecation xs = option_map release_of (stated_version Deprecated xs)

-- the stability by `@since`, or else by `@unstable`, each with `@deprecated` or without; where neither is there, nothing is known of it
abbrev pub stability_by : (since : Option Release) (feature : Option (List ℕ)) (deprecated : Option Release) → Stability
stability_by (Some since) feature deprecated = stability.Stable since deprecated
stability_by None (Some feature) deprecated = stability.Unstable feature deprecated
stability_by None None deprecated = stability.Unknown

-- the stability that attributes say
abbrev pub stability_of : List Attribute → Stability
stability_of xs = stability_by (option_map release_of (stated_version Since xs)) (stated_text Unstable xs) (deprecation xs)

-- what is stated of a thing
pub record Metadata : Type 0 where
  pub docs : Docs
  pub stability : Stability
  pub external_id : Option (List ℕ)

-- by docs and attributes: an external id is the name that the thing has elsewhere
abbrev pub metadata : Docs → List Attribute → Metadata
metadata docs xs = record { docs = docs; stability = stability_of xs; external_id = stated_text ExternalId xs }

-- these are the metadata
pub record AreMetadata (n : Metadata) (d : Docs) (s : Stability) (id : Option (List ℕ)) : Type 0 where
  pub docs : d ≡ n.docs
  pub stability : s ≡ n.stability
  pub external_id : id ≡ n.external_id

-- the first of these that is known
abbrev pub first_known : List Stability → Stability
first_known [] = stability.Unknown
first_known (stability.Unknown ∷ xs) = first_known xs
first_known (known ∷ xs) = known

-- an attribute comes after another one of its kind
abbrev pub IsTwice : ℕ → AttributeKind → List Attribute → Fault → Type 0
IsTwice number kind xs f = (place : ℕ) × (later : Attribute) × (slice_get xs place ≡ Some later) × (is_of kind later ≡ true) × (first_of kind (take place xs) ≢ None) × (f ≡ fault number (attribute_span later))

-- what is wrong with attributes that say a stability
pub data IsBrokenStability (xs : List Attribute) (f : Fault) : Type 0 where
  SinceTwice : IsTwice 30 Since xs f → IsBrokenStability xs f
  DeprecatedTwice : IsTwice 31 Deprecated xs f → IsBrokenStability xs f
  UnstableTwice : IsTwice 32 Unstable xs f → IsBrokenStability xs f
  -- `@since` and `@unstable` are together
  SinceAndUnstable : (since : Attribute) → first_of Since xs ≡ Some since → first_of Unstable xs ≢ None → f ≡ fault 33 (attribute_span since) → IsBrokenStability xs f
  -- `@deprecated` is without `@since` and without `@unstable`
  DeprecatedAlone : (deprecated : Attribute) → first_of Deprecated xs ≡ Some deprecated → first_of Since xs ≡ None → first_of Unstable xs ≡ None → f ≡ fault 34 (attribute_span deprecated) → IsBrokenStability xs f

-- what is wrong with attributes that say a stability and an external id
abbrev pub IsBrokenMetadata : List Attribute → Fault → Type 0
IsBrokenMetadata xs f = IsBrokenStability xs f ⊎ IsTwice 35 ExternalId xs f
