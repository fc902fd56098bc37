-- First faults, and the rules that files may break.
use Rattle.std.specs.Prelude.{◌≡◌, List, Option, Some, None}
use Rattle.wit_values.specs.declared.span.Span.{Span}
use Rattle.wit_type_tree.specs.declared.leaves.Attribute.{Attribute}
use Rattle.wit_type_tree.specs.declared.types.TypeBody.{TypeBody}
use Rattle.wit_type_tree.specs.declared.types.«Type».{«Type» as Written}
use Rattle.wit_syntax.specs.Fault.{Fault}
use Rattle.wit_syntax.specs.Bodies.{IsBrokenList, IsInvalidKey}
use Rattle.wit_syntax.specs.Metadata.{IsBrokenStability, IsBrokenMetadata}
use Rattle.wit_first.specs.AttributeFaults.{stability_fault, metadata_fault}
use Rattle.wit_first.specs.ListFaults.{list_fault}
use Rattle.wit_first.specs.KeyFaults.{key_fault}

-- the first fault breaks one of the rules, and where there is none, none of them is broken
pub record Agrees (first : Option Fault) (Broken : Fault → Type 0) : Type 0 where
  pub broken : (f : Fault) → first ≡ Some f → Broken f
  pub unbroken : first ≡ None → (f : Fault) → Broken f → ⊥

-- the same, where a relation says which fault is the first
pub record AgreesBy (IsFirst : Option Fault → Type 0) (Broken : Fault → Type 0) : Type 0 where
  pub broken : (f : Fault) → IsFirst (Some f) → Broken f
  pub unbroken : IsFirst None → (f : Fault) → Broken f → ⊥

abbrev pub StabilityAgrees : Type 0
StabilityAgrees = (xs : List Attribute) → Agrees (stability_fault xs) (IsBrokenStability xs)

abbrev pub MetadataAgree : Type 0
MetadataAgree = (xs : List Attribute) → Agrees (metadata_fault xs) (IsBrokenMetadata xs)

abbrev pub ListsAgree : Type 0
ListsAgree = (b : TypeBody) → Agrees (list_fault b) (IsBrokenList b)

abbrev pub KeysAgree : Type 0
KeysAgree = (key : Written) (span : Span) → Agrees (key_fault key span) (IsInvalidKey key span)
