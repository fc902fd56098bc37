-- What comments say, written line by line where no CR is in it.
use Rattle.std.specs.Prelude.{◌≡◌, ◌≤◌, ◌==◌, ℕ, ⊤, Bool, true, false, List, [], ◌∷◌, ◌++◌, if◌then◌else◌, map}
use Rattle.std.specs.List.{flat_map}
use Rattle.wit_syntax.specs.Docs.{ended_lines, without_spaces}
use denote.Ref.{Bor}
use Rattle.wit_notes.specs.Texts.{indent, is_written, said}

-- no byte is a CR
abbrev pub HasNoReturn : List ℕ → Type 0
HasNoReturn [] = ⊤
HasNoReturn (b ∷ text) = ((b == 13) ≡ false) × HasNoReturn text

-- the last byte is an LF
abbrev pub ends_in_line : List ℕ → Bool
ends_in_line [] = false
ends_in_line (b ∷ []) = b == 10
ends_in_line (b ∷ c ∷ text) = ends_in_line (c ∷ text)

-- the lines of a text, each with an LF, are added, unless a CR is in what there is then
abbrev pub IsPushed : List ℕ → List ℕ → List ℕ → Type 0
IsPushed old new text = HasNoReturn new → HasNoReturn old × (new ≡ old ++ ended_lines text)

-- the indent of the first of those texts that are not empty; 0 where all are
abbrev pub first_indent : List (List ℕ) → ℕ
first_indent [] = 0
first_indent (text ∷ texts) = if is_written text then indent text else first_indent texts

-- a text is empty, or begins with at least n bytes of ASCII white space
abbrev pub IsIndented : ℕ → List ℕ → Type 0
IsIndented n text = is_written text ≡ true → n ≤ indent text

-- the lines of texts without n spaces in front, each with an LF
abbrev pub all_lines : ℕ → List (List ℕ) → List ℕ
all_lines n texts = flat_map (λ text. ended_lines (without_spaces n text)) texts

-- what comments say
abbrev pub all_said : List (Bor (List ℕ)) → List (List ℕ)
all_said comments = map (λ c. said c.now) comments

-- a text is what comments say, line by line without n spaces in front, unless a CR is in it
abbrev pub IsPlainOf : ℕ → List (Bor (List ℕ)) → List ℕ → Type 0
IsPlainOf n comments text = HasNoReturn text → text ≡ all_lines n (all_said comments)
