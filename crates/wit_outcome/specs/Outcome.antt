-- What sources come to: the group that they make, or their refusal; and the JSON of either.
use Rattle.std.specs.Prelude.{◌≡◌, ℕ, ◌<◌, ◌≤◌, true, false, List, [], Bool, Option, Some, None, Result, MatchResult}
use Rattle.json.specs.Json.{Json}
use Rattle.wit_type_tree.specs.declared.error.ParseError.{ParseError}
use Rattle.wit_lex.specs.declared.source.Source.{Source}
use Rattle.wit_lex.specs.declared.source_map.SourceMap.{SourceMap}
use Rattle.wit_lex.specs.Sources.{IsTooLarge}
use Rattle.wit_bundle.specs.Laid.{AreLaid, room}
use Rattle.wit_groups.specs.declared.group.UnresolvedPackageGroup.{UnresolvedPackageGroup}
use Rattle.wit_groups.specs.Groups.{IsGroup, IsRefused}
use Rattle.wit_groups.specs.SourceFaults.{StatesFirst}
use Rattle.wit_json.specs.Group.{group_json}
use Rattle.wit_json.specs.Refusal.{Range, refusal_json}
use Rattle.wit_outcome.specs.declared.outcome.Outcome.{Outcome}
use Rattle.wit_outcome.specs.declared.outcome.Outcome.TheVariants as outcome
use Rattle.wit_outcome.specs.declared.plain.Plain.{Plain}
use Rattle.wit_outcome.specs.Plain.{IsPlain}

-- the sources of these paths and texts make this group
pub record IsMade (parts : List (List ℕ × List ℕ)) (g : UnresolvedPackageGroup) : Type 0 where
  pub fits : room parts ≤ 4294967295
  pub are : AreLaid parts g.source_map.sources.items
  pub group : IsGroup g.source_map.sources.items g.main g.nested

-- they are refused for their first fault, and this is their refusal
pub record IsDeclined (parts : List (List ℕ × List ℕ)) (p : Plain) : Type 0 where
  pub sources : List Source
  pub fits : room parts ≤ 4294967295
  pub are : AreLaid parts sources
  pub e : ParseError
  pub refused : IsRefused sources e
  pub first : StatesFirst sources e
  pub plain : IsPlain sources e p

-- they are too large, and this is the refusal that says so
pub record IsTooMuch (parts : List (List ℕ × List ℕ)) (p : Plain) : Type 0 where
  pub large : 4294967295 < room parts
  pub e : ParseError
  pub rule : e.rule ≡ 52
  pub gives : IsTooLarge (room parts) e
  pub plain : IsPlain [] e p

-- a map has the sources of these paths and texts, or is refused since they are too large
abbrev pub AreMapped : List (List ℕ × List ℕ) → Result SourceMap ParseError → Type 0
AreMapped parts r = MatchResult r (λ map. (room parts ≤ 4294967295) × AreLaid parts map.sources.items) (IsTooLarge (room parts))

-- what sources of these paths and texts come to
pub data IsOutcome (parts : List (List ℕ × List ℕ)) : Outcome → Type 0 where
  Made : (g : UnresolvedPackageGroup) → IsMade parts g → IsOutcome parts (outcome.Group g)
  Declined : (p : Plain) → IsDeclined parts p → IsOutcome parts (outcome.Refusal p)
  TooMuch : (p : Plain) → IsTooMuch parts p → IsOutcome parts (outcome.Refusal p)

-- what these sources come to
abbrev pub IsOutcomeOf : List Source → Outcome → Type 0
IsOutcomeOf sources (outcome.Group g) = (g.source_map.sources.items ≡ sources) × IsGroup sources g.main g.nested
IsOutcomeOf sources (outcome.Refusal p) = (e : ParseError) × IsRefused sources e × StatesFirst sources e × IsPlain sources e p

-- the range of a refusal, if it is in a source
abbrev pub place_of : Bool → List ℕ → ℕ → ℕ → Option Range
place_of false path start end = None
place_of true path start end = Some (path, start, end)

abbrev pub plain_place : Plain → Option Range
plain_place p = place_of p.placed p.path p.start p.end

-- the JSON of a group, or of a refusal
abbrev pub outcome_json : Outcome → Json
outcome_json (outcome.Group g) = group_json g.source_map.sources.items g.main g.nested
outcome_json (outcome.Refusal p) = refusal_json p.rule (plain_place p) p.message
