-- What the attributes of an item say, one by one.
use Rattle.std.specs.Prelude.{◌≡◌, ℕ, Bool, true, false, List, Option, Some, None, slice_get}
use Rattle.std.specs.List.{find}
use Rattle.std.specs.Option.{option_and_then}
use Rattle.semver.specs.declared.Version.{Version}
use Rattle.wit_values.specs.declared.span.Span.{Span}
use Rattle.wit_type_tree.specs.declared.leaves.Attribute.{Attribute}
use Rattle.wit_type_tree.specs.declared.leaves.Attribute.TheVariants as attribute
use Rattle.wit_type_tree.specs.declared.attribute_kind.AttributeKind.{AttributeKind}
use Rattle.wit_type_tree.specs.declared.attribute_kind.AttributeKind.TheVariants.{Since, Unstable, Deprecated, ExternalId}

-- the kind of an attribute
abbrev pub kind_of : Attribute → AttributeKind
kind_of (attribute.Since span version) = Since
kind_of (attribute.Unstable span feature) = Unstable
kind_of (attribute.Deprecated span version) = Deprecated
kind_of (attribute.ExternalId span id) = ExternalId

-- an attribute is of a kind
abbrev pub is_of : AttributeKind → Attribute → Bool
is_of Since (attribute.Since span version) = true
is_of Unstable (attribute.Unstable span feature) = true
is_of Deprecated (attribute.Deprecated span version) = true
is_of ExternalId (attribute.ExternalId span id) = true
is_of _ _ = false

-- where an attribute is
abbrev pub attribute_span : Attribute → Span
attribute_span (attribute.Since span version) = span
attribute_span (attribute.Unstable span feature) = span
attribute_span (attribute.Deprecated span version) = span
attribute_span (attribute.ExternalId span id) = span

-- the version that an attribute says
abbrev pub attribute_version : Attribute → Option Version
attribute_version (attribute.Since span version) = Some version
attribute_version (attribute.Deprecated span version) = Some version
attribute_version _ = None

-- the text that an attribute says: a feature's name, or an id
abbrev pub attribute_text : Attribute → Option (List ℕ)
attribute_text (attribute.Unstable span feature) = Some feature.name.now
attribute_text (attribute.ExternalId span id) = Some id.now
attribute_text _ = None

-- the first attribute of a kind
abbrev pub first_of : AttributeKind → List Attribute → Option Attribute
first_of kind xs = find (is_of kind) xs

-- the version that the first attribute of a kind says
abbrev pub stated_version : AttributeKind → List Attribute → Option Version
stated_version kind xs = option_and_then attribute_version (first_of kind xs)

-- the text that the first attribute of a kind says
abbrev pub stated_text : AttributeKind → List Attribute → Option (List ℕ)
stated_text kind xs = option_and_then attribute_text (first_of kind xs)

-- an attribute of a kind is at a place
pub record OccursAt (kind : AttributeKind) (xs : List Attribute) (place : ℕ) (a : Attribute) : Type 0 where
  pub at : slice_get xs place ≡ Some a
  pub of : is_of kind a ≡ true
