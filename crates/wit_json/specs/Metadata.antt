-- Metadata of an item: docs, stability, external id and span.
use Rattle.std.specs.Prelude.{ℕ, List, [], ◌∷◌, ◌++◌, Option, Some, None, codes}
use Rattle.json.specs.Json.{Json, string}
use Rattle.wit_values.specs.declared.release.Release.{Release}
use Rattle.wit_values.specs.declared.span.Span.{Span}
use Rattle.wit_values.specs.ReleaseText.{release_text}
use Rattle.wit_types.specs.declared.stability.Stability.{Stability}
use Rattle.wit_types.specs.declared.stability.Stability.TheVariants.{Unknown, Unstable, Stable}
use Rattle.wit_json.specs.declared.member_words.Word.{Word}
use Rattle.wit_json.specs.declared.member_words.Word.TheVariants as w
use Rattle.wit_json.specs.Values.{at, fields, list, number_json, tagged}

-- the first byte, and the first after the last
abbrev pub span_json : Span → Json
span_json s = list (number_json s.start ∷ number_json s.end ∷ [])

abbrev pub docs_members : Option (List ℕ) → List (List ℕ × Json)
docs_members None = []
docs_members (Some text) = at w.Docs (tagged w.Contents (string text)) ∷ []

abbrev pub external_members : Option (List ℕ) → List (List ℕ × Json)
external_members None = []
external_members (Some text) = at w.ExternalId (string text) ∷ []

-- a version under a key
abbrev pub version_members : Word → Release → List (List ℕ × Json)
version_members key r = at key (string (release_text r)) ∷ []

abbrev pub deprecated_members : Option Release → List (List ℕ × Json)
deprecated_members None = []
deprecated_members (Some r) = version_members w.Deprecated r

-- the members of an unstable item, and of a stable one
abbrev pub unstable_members : List ℕ → Option Release → List (List ℕ × Json)
unstable_members feature deprecated = at w.Feature (string feature) ∷ deprecated_members deprecated

abbrev pub stable_members : Release → Option Release → List (List ℕ × Json)
stable_members since deprecated = version_members w.Since since ++ deprecated_members deprecated

abbrev pub unstable_json : List ℕ → Option Release → Json
unstable_json feature deprecated = fields (unstable_members feature deprecated)

abbrev pub stable_json : Release → Option Release → Json
stable_json since deprecated = fields (stable_members since deprecated)

abbrev pub stability_json : Stability → Json
stability_json Unknown = string (codes "unknown")
stability_json (Unstable feature deprecated) = tagged w.Unstable (unstable_json feature deprecated)
stability_json (Stable since deprecated) = tagged w.Stable (stable_json since deprecated)

-- one that an attribute gives
abbrev pub known_members : Stability → List (List ℕ × Json)
known_members s = at w.Stability (stability_json s) ∷ []

-- none if no attribute gives it
abbrev pub stability_members : Stability → List (List ℕ × Json)
stability_members Unknown = []
stability_members (Unstable feature deprecated) = known_members (Unstable feature deprecated)
stability_members (Stable since deprecated) = known_members (Stable since deprecated)

-- docs, stability and external id, each if there is one
abbrev pub metadata_members : Option (List ℕ) → Stability → Option (List ℕ) → List (List ℕ × Json)
metadata_members docs stability external = docs_members docs ++ (stability_members stability ++ external_members external)
