-- What a call answers in JSON.
use Rattle.std.specs.Prelude.{◌≡◌, ℕ, List, [], IsUtf8}
use Rattle.wit_bundle.specs.Apart.{AreParts}
use Rattle.wit_bundle.specs.Bundle.{sources_of}
use Rattle.wit_groups.specs.declared.group.UnresolvedPackageGroup.{UnresolvedPackageGroup}
use Rattle.wit_json.specs.ValueTokens.{json_text}
use Rattle.wit_outcome.specs.declared.outcome.Outcome.{Outcome}
use Rattle.wit_outcome.specs.declared.outcome.Outcome.TheVariants as outcome
use Rattle.wit_outcome.specs.declared.plain.Plain.{Plain}
use Rattle.wit_outcome.specs.Outcome.{IsOutcome, outcome_json}

-- 0 for a group, 1 for a refusal
abbrev pub outcome_status : Outcome → ℕ
outcome_status (outcome.Group g) = 0
outcome_status (outcome.Refusal p) = 1

-- by the status: the JSON of the group that sources of these paths and texts make; that of their refusal; nothing, as an allocation failed
pub data IsAnswer (parts : List (List ℕ × List ℕ)) (status : ℕ) (json : List ℕ) : Type 0 where
  Group : status ≡ 0 → (g : UnresolvedPackageGroup) → IsOutcome parts (outcome.Group g) → json ≡ json_text (outcome_json (outcome.Group g)) → IsAnswer parts status json
  Refusal : status ≡ 1 → (p : Plain) → IsOutcome parts (outcome.Refusal p) → json ≡ json_text (outcome_json (outcome.Refusal p)) → IsAnswer parts status json
  NoMemory : status ≡ 3 → json ≡ [] → IsAnswer parts status json

-- the answer to bytes: that of the sources of the text; nothing, with the status 2, if they are no text
pub data IsTextAnswer (bytes : List ℕ) (status : ℕ) (json : List ℕ) : Type 0 where
  Text : IsUtf8 bytes → IsAnswer (sources_of bytes) status json → IsTextAnswer bytes status json
  NoText : ¬ (IsUtf8 bytes) → status ≡ 2 → json ≡ [] → IsTextAnswer bytes status json

-- the answer to paths and texts, one after the other, with the length of each: that of these sources; nothing, with the status 2, if the bytes are none
-- such, or as an allocation failed
pub data IsPartsAnswer (bytes lens : List ℕ) (status : ℕ) (json : List ℕ) : Type 0 where
  Parts : (parts : List (List ℕ × List ℕ)) → AreParts bytes lens parts → IsAnswer parts status json → IsPartsAnswer bytes lens status json
  NoParts : ((parts : List (List ℕ × List ℕ)) → AreParts bytes lens parts → ⊥) → status ≡ 2 → json ≡ [] → IsPartsAnswer bytes lens status json
  NoMemoryForParts : status ≡ 3 → json ≡ [] → IsPartsAnswer bytes lens status json

-- the answer to each bytes and lengths that are so
abbrev pub AnswersEach : (List ℕ → List ℕ → Type 0) → ℕ → List ℕ → Type 0
AnswersEach Are status json = (bytes lens : List ℕ) → Are bytes lens → IsPartsAnswer bytes lens status json
