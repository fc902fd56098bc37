-- What a check of bytes answers.
use Rattle.std.specs.Prelude.{◌≡◌, ℕ, List, IsUtf8}
use Rattle.wit_bundle.specs.Bundle.{sources_of}
use Rattle.wit_groups.specs.declared.group.UnresolvedPackageGroup.{UnresolvedPackageGroup}
use Rattle.wit_outcome.specs.declared.outcome.Outcome.TheVariants as outcome
use Rattle.wit_outcome.specs.declared.plain.Plain.{Plain}
use Rattle.wit_outcome.specs.Plain.{no_refusal}
use Rattle.wit_outcome.specs.Outcome.{IsOutcome}

-- by the status: no refusal, as the sources of the text make a group; their refusal; and none if the bytes are no text, or if an allocation failed
pub data IsChecked (bytes : List ℕ) (status : ℕ) (p : Plain) : Type 0 where
  Legal : status ≡ 0 → IsUtf8 bytes → (g : UnresolvedPackageGroup) → IsOutcome (sources_of bytes) (outcome.Group g) → p ≡ no_refusal → IsChecked bytes status p
  Refusal : status ≡ 1 → IsUtf8 bytes → IsOutcome (sources_of bytes) (outcome.Refusal p) → IsChecked bytes status p
  NoText : status ≡ 2 → ¬ (IsUtf8 bytes) → p ≡ no_refusal → IsChecked bytes status p
  NoMemory : status ≡ 3 → IsUtf8 bytes → p ≡ no_refusal → IsChecked bytes status p
