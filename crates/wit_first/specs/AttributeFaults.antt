-- The first fault of attributes: E30 to E35.
use Rattle.std.specs.Prelude.{ℕ, Bool, not, if◌then◌else◌, List, [], Option, Some, None}
use Rattle.std.specs.Option.{option_map, option_or}
use Rattle.wit_type_tree.specs.declared.leaves.Attribute.{Attribute}
use Rattle.wit_type_tree.specs.declared.attribute_kind.AttributeKind.{AttributeKind}
use Rattle.wit_type_tree.specs.declared.attribute_kind.AttributeKind.TheVariants.{Since, Unstable, Deprecated, ExternalId}
use Rattle.wit_type_tree.specs.Attributes.{attribute_span, first_of, is_of, kind_of}
use Rattle.wit_syntax.specs.Fault.{Fault, fault}
use Rattle.wit_first.specs.First.{first_after}

-- the number of the rule that a second attribute of a kind breaks
abbrev pub number_of : AttributeKind → ℕ
number_of Since = 30
number_of Deprecated = 31
number_of Unstable = 32
number_of ExternalId = 35

-- an attribute comes after another one of its kind
abbrev pub repeat_fault : List Attribute → Attribute → Option Fault
repeat_fault before a = option_map (λ (earlier : Attribute). fault (number_of (kind_of a)) (attribute_span a)) (first_of (kind_of a) before)

-- the same, where it is one of those that count
abbrev pub counted_fault : (Attribute → Bool) → List Attribute → Attribute → Option Fault
counted_fault counts before a = if counts a then repeat_fault before a else None

-- of a `@since`, an `@unstable` and a `@deprecated`: the first two together, or the third without either
abbrev pub kinds_fault : (since unstable deprecated : Option Attribute) → Option Fault
kinds_fault (Some since) (Some unstable) deprecated = Some (fault 33 (attribute_span since))
kinds_fault None None (Some deprecated) = Some (fault 34 (attribute_span deprecated))
kinds_fault since unstable deprecated = None

-- the first second one of its kind among those that say how stable a thing is
abbrev pub each_once_fault : List Attribute → Option Fault
each_once_fault xs = first_after (counted_fault (λ a. not (is_of ExternalId a))) [] xs

-- the first fault of the attributes that say how stable a thing is: a second one of its kind, and then how they go together
abbrev pub stability_fault : List Attribute → Option Fault
stability_fault xs = option_or (each_once_fault xs) (kinds_fault (first_of Since xs) (first_of Unstable xs) (first_of Deprecated xs))

-- of external ids: the first second one
abbrev pub external_fault : List Attribute → Option Fault
external_fault xs = first_after (counted_fault (is_of ExternalId)) [] xs

-- of attributes that may say both: stability first
abbrev pub metadata_fault : List Attribute → Option Fault
metadata_fault xs = option_or (stability_fault xs) (external_fault xs)
