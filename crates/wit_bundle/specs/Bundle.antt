-- The sources of a text: each begins with a line `=== PATH`, and goes up to the next such line.
use Rattle.std.specs.Prelude.{ℕ, ◌==◌, List, [], ◌∷◌, ◌++◌, Bool, codes, drop, length, nat_eq, if◌then◌else◌}
use Rattle.std.specs.List.{starts_with}

-- a byte before the first of some lines
abbrev pub put_first : ℕ → List (List ℕ) → List (List ℕ)
put_first b [] = (b ∷ []) ∷ []
put_first b (line ∷ lines) = (b ∷ line) ∷ lines

-- the lines of a text, each with the LF at its end where it has one
abbrev pub lines_of : List ℕ → List (List ℕ)
lines_of [] = []
lines_of (b ∷ text) = if b == 10 then ((b ∷ []) ∷ lines_of text) else (put_first b (lines_of text))

-- a text without this byte at its end
abbrev pub without_end : ℕ → List ℕ → List ℕ
without_end c [] = []
without_end c (b ∷ []) = if b == c then [] else (b ∷ [])
without_end c (b ∷ d ∷ rest) = b ∷ without_end c (d ∷ rest)

-- what a line begins with that starts a source
abbrev pub mark : List ℕ
mark = codes "=== "

abbrev pub is_marked : List ℕ → Bool
is_marked line = starts_with nat_eq line mark

-- the path that such a line names: the rest of it, without an LF at its end, and without a CR before that
abbrev pub path_of : List ℕ → List ℕ
path_of line = without_end 13 (without_end 10 (drop (length mark) line))

-- a line more before a text and the sources after it, each a path and a text: the line starts a source, which has the text, or comes before the text
abbrev pub with_line : List ℕ → List ℕ × List (List ℕ × List ℕ) → List ℕ × List (List ℕ × List ℕ)
with_line line parts = if is_marked line then ([], (path_of line, parts.0) ∷ parts.1) else (line ++ parts.0, parts.1)

-- of some lines, the text of those before the first that starts a source, and the sources
abbrev pub parts_of : List (List ℕ) → List ℕ × List (List ℕ × List ℕ)
parts_of [] = ([], [])
parts_of (line ∷ lines) = with_line line (parts_of lines)

-- a text that comes after no such line is a source of its own, if it is not empty
abbrev pub unnamed : List ℕ → List (List ℕ × List ℕ)
unnamed [] = []
unnamed (b ∷ text) = (codes "stdin.wit", b ∷ text) ∷ []

-- the sources of a text
abbrev pub sources_of : List ℕ → List (List ℕ × List ℕ)
sources_of text = let parts = parts_of (lines_of text) in unnamed parts.0 ++ parts.1
