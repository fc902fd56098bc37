-- JSON values of lists and of named members.
use Rattle.std.specs.Prelude.{ℕ, List, [], ◌∷◌, Option, Some, None}
use Rattle.std.specs.Fmt.{decimal}
use Rattle.json.specs.Json.{Json, null, number, string, array, object, Members, no_members, member}
use Rattle.json.specs.Value.{items_of}
use Rattle.wit_json.specs.declared.member_words.Word.{Word}
use Rattle.wit_json.specs.MemberWords.{word}

abbrev pub members_of : List (List ℕ × Json) → Members
members_of [] = no_members
members_of (m ∷ ms) = member m.0 m.1 (members_of ms)

-- an array of these values
abbrev pub list : List Json → Json
list js = array (items_of js)

-- an object with these members, in order
abbrev pub fields : List (List ℕ × Json) → Json
fields ms = object (members_of ms)

-- a member with this key
abbrev pub at : Word → Json → List ℕ × Json
at w j = (word w, j)

-- an object with this member alone
abbrev pub tagged : Word → Json → Json
tagged w j = fields (at w j ∷ [])

-- a number without sign, in decimal digits
abbrev pub number_json : ℕ → Json
number_json n = number (decimal n)

-- a text, or null
abbrev pub optional_text : Option (List ℕ) → Json
optional_text None = null
optional_text (Some text) = string text

-- a number, or null
abbrev pub optional_number : Option ℕ → Json
optional_number None = null
optional_number (Some n) = number_json n
