-- Where no attribute is, none breaks a rule.
use Rattle.std.proofs.Common.{◌≡◌, ℕ, [], Some, inl, inr}
use Rattle.std.specs.Prelude.{slice_get}
use Rattle.std.proofs.lemmas.Option.{none-some}
use Rattle.wit_type_tree.specs.declared.leaves.Attribute.{Attribute}
use Rattle.wit_syntax.specs.Fault.{Fault}
use Rattle.wit_syntax.specs.Metadata.{IsBrokenStability, IsBrokenMetadata, SinceTwice, DeprecatedTwice, UnstableTwice, SinceAndUnstable, DeprecatedAlone}

none_at : (place : ℕ) (a : Attribute) → slice_get [] place ≡ Some a → ⊥
none_at place a at = let f : ⊥ = cc in f

pub unbroken : (f : Fault) → IsBrokenStability [] f → ⊥
unbroken f (SinceTwice h) = none_at h.0 h.1 h.2
unbroken f (DeprecatedTwice h) = none_at h.0 h.1 h.2
unbroken f (UnstableTwice h) = none_at h.0 h.1 h.2
unbroken f (SinceAndUnstable since first unstable is) = none-some since first
unbroken f (DeprecatedAlone deprecated first no_since no_unstable is) = none-some deprecated first

pub unbroken_metadata : (f : Fault) → IsBrokenMetadata [] f → ⊥
unbroken_metadata f (inl stability) = unbroken f stability
unbroken_metadata f (inr twice) = none_at twice.0 twice.1 twice.2
