-- Where a version ends, as a function of the text.
use Rattle.std.specs.Prelude.{ℕ, ◌+◌, ◌==◌, ◌&&◌, List, [], ◌∷◌, drop, Result, Ok, Err, if◌then◌else◌, nat_lt}
use Rattle.std.specs.Char.{is_ascii_digit}
use Rattle.wit_lex.specs.Starts.{is_in_word}
use Rattle.wit_lex.specs.Lexis.{run_end}

-- the end of a number that begins the text; else the place where none begins
abbrev pub number_from : ℕ → List ℕ → Result ℕ ℕ
number_from at [] = Err at
number_from at (c ∷ rest) = if is_ascii_digit c then Ok (run_end is_ascii_digit at (c ∷ rest)) else Err at

-- the end of a `.` and a number; else the place where the one or the other is missing
abbrev pub dot_number_from : ℕ → List ℕ → Result ℕ ℕ
dot_number_from at [] = Err at
dot_number_from at (c ∷ rest) = if c == 46 then number_from (at + 1) rest else Err at

abbrev pub dot_number : List ℕ → ℕ → Result ℕ ℕ
dot_number source at = dot_number_from at (drop at source)

-- the end of the longest run of letters, digits, `-`, and those `.` that one of them follows
unfoldable pub dotted_end : ℕ → List ℕ → ℕ
dotted_end at [] = at
dotted_end at (c ∷ []) = if is_in_word c then at + 1 else at
dotted_end at (c ∷ d ∷ rest) = if is_in_word c then dotted_end (at + 1) (d ∷ rest) else if c == 46 && is_in_word d then dotted_end (at + 2) rest else at

-- the end of a mark and the run that follows it, or the place itself where there is no such mark, or no run
abbrev pub marked_from : ℕ → ℕ → List ℕ → ℕ
marked_from mark at [] = at
marked_from mark at (c ∷ rest) = if c == mark && nat_lt (at + 1) (dotted_end (at + 1) rest) then dotted_end (at + 1) rest else at

abbrev pub marked : ℕ → List ℕ → ℕ → ℕ
marked mark source at = marked_from mark at (drop at source)

-- perhaps `-` and a run, and perhaps `+` and a run
abbrev pub with_marks : List ℕ → Result ℕ ℕ → Result ℕ ℕ
with_marks source (Ok at) = Ok (marked 43 source (marked 45 source at))
with_marks source (Err at) = Err at

abbrev pub patch_number : List ℕ → Result ℕ ℕ → Result ℕ ℕ
patch_number source (Ok minor) = dot_number source minor
patch_number source (Err at) = Err at

-- the end of a version whose first number ends at a place; else the place where a `.` or a number is missing
unfoldable pub version_to : List ℕ → ℕ → Result ℕ ℕ
version_to source at = with_marks source (patch_number source (dot_number source at))
