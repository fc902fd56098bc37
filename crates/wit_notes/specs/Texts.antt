-- What functions give of the text of one comment.
use Rattle.std.specs.Prelude.{ℕ, ◌==◌, not, Bool, List, Option, drop, length, replicate}
use Rattle.std.specs.Char.{is_ascii_whitespace}
use Rattle.std.specs.List.{prefix_len, take_while}
use Rattle.std.specs.Str.{trim_end}
use Rattle.wit_names.specs.Prefix.{rest_after}
use Rattle.wit_syntax.specs.Docs.{unmarked}

-- the text after the slashes that it begins with
abbrev pub after_slashes : List ℕ → List ℕ
after_slashes text = drop (prefix_len (λ b. b == 47) text) text

-- what a comment says: neither its marks nor the white space at its end
abbrev pub said : List ℕ → List ℕ
said comment = trim_end (unmarked comment)

-- how many bytes of ASCII white space a text begins with
abbrev pub indent : List ℕ → ℕ
indent text = length (take_while is_ascii_whitespace text)

-- the text is not empty
abbrev pub is_written : List ℕ → Bool
is_written text = not (length text == 0)

-- the text after its first n bytes, where these are spaces
abbrev pub after_spaces : ℕ → List ℕ → Option (List ℕ)
after_spaces n text = rest_after (replicate n 32) text
