-- What is between functions that split a text.
use Rattle.std.specs.Prelude.{ℕ, List, [], ◌++◌, Option, Some, None}
use Rattle.wit_bundle.specs.Bundle.{lines_of, mark, parts_of}

-- of a text, what comes before its sources, and these
abbrev pub parts : List ℕ → List ℕ × List (List ℕ × List ℕ)
parts text = parts_of (lines_of text)

-- the sources from a line on that starts one, of which this comes after the mark
abbrev pub sources_after : Option (List ℕ) → List (List ℕ × List ℕ)
sources_after None = []
sources_after (Some rest_after) = (parts (mark ++ rest_after)).1
