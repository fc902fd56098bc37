-- How long the numbers in a JSON value are.
use Rattle.std.specs.Prelude.{ℕ, ◌≤◌, List, [], ◌∷◌, length, ⊤}
use Rattle.json.specs.Token.{Token}
use Rattle.json.specs.Json.{Json}
use Rattle.json.specs.Tree.{json_tokens}

-- if it is a number, it has at most 20 digits, which are enough for 64 bits
abbrev pub IsShort : Token → Type 0
IsShort (Token.number digits) = length digits ≤ 20
IsShort t = ⊤

abbrev pub AreShort : List Token → Type 0
AreShort [] = ⊤
AreShort (t ∷ ts) = IsShort t × AreShort ts

-- so has each number among the tokens
pub record HaveShortNumbers (ts : List Token) : Type 0 where
  pub short : AreShort ts

-- each number in the value has at most 20 digits
abbrev pub HasShortNumbers : Json → Type 0
HasShortNumbers j = AreShort (json_tokens j)
