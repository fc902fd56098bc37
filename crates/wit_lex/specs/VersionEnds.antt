-- Where a version ends, and what `semver` reads in a text.
use Rattle.std.specs.Prelude.{◌≡◌, ℕ, ◌+◌, ◌<◌, ◌≤◌, ◌⊎◌, true, false, List, Option, Some, None, Ok, Err, length, slice_index}
use Rattle.std.specs.Char.{is_ascii_digit}
use Rattle.semver.specs.declared.Version.{Version}
use Rattle.semver.specs.declared.error.Error.{Error}
use Rattle.semver.specs.Identifiers.{parts_of}
use Rattle.semver.specs.Parse.{version_parts}
use Rattle.wit_lex.specs.Starts.{IsRun, is_in_word}

-- the version that the text is, or none exactly where `semver` refuses the text
abbrev pub IsParsed : List ℕ → Option Version → Type 0
IsParsed text (Some version) = version_parts text ≡ Ok (parts_of version)
IsParsed text None = (e : Error) × (version_parts text ≡ Err e)

-- `.` and a number, which goes on as long as digits do
pub record IsDotNumber (source : List ℕ) (from end : ℕ) : Type 0 where
  pub dot : slice_index source from ≡ 46
  pub some : from + 1 < end
  pub run : IsRun is_ascii_digit source (from + 1) end

-- there is no `.` at the place, or no digit after it, at the other place
abbrev pub IsNoDotNumber : List ℕ → ℕ → ℕ → Type 0
IsNoDotNumber source from at =
    ((at ≡ from) × (from < length source → slice_index source from ≡ 46 → ⊥))
    ⊎ ((at ≡ from + 1) × (slice_index source from ≡ 46) × (at < length source → is_ascii_digit (slice_index source at) ≡ false))

-- the second and the third number of a version whose first one ends at the place
pub record IsNumbers (source : List ℕ) (from end : ℕ) : Type 0 where
  pub middle : ℕ
  pub minor : IsDotNumber source from middle
  pub patch : IsDotNumber source middle end

-- the second number is missing, or the third one
pub data IsNoNumbers (source : List ℕ) (from at : ℕ) : Type 0 where
  NoMinor : IsNoDotNumber source from at → IsNoNumbers source from at
  NoPatch : (middle : ℕ) → IsDotNumber source from middle → IsNoDotNumber source middle at → IsNoNumbers source from at

-- from one place to another are letters, digits, `-`, and `.` with one of them directly after
pub data IsDotted (source : List ℕ) (from : ℕ) : ℕ → Type 0 where
  Start : IsDotted source from from
  Byte : (at : ℕ) → IsDotted source from at → is_in_word (slice_index source at) ≡ true → IsDotted source from (at + 1)
  Dot : (at : ℕ) → IsDotted source from at → slice_index source at ≡ 46 → is_in_word (slice_index source (at + 1)) ≡ true → IsDotted source from (at + 2)

-- these go on to the other place, and no further
pub record IsLongest (source : List ℕ) (from end : ℕ) : Type 0 where
  pub dotted : IsDotted source from end
  pub stop : end < length source → is_in_word (slice_index source end) ≡ false
  pub dot : end + 1 < length source → slice_index source end ≡ 46 → is_in_word (slice_index source (end + 1)) ≡ false

-- a mark and what goes on after it, or nothing where there is no such mark, or nothing after it
pub record IsMarked (mark : ℕ) (source : List ℕ) (from end : ℕ) : Type 0 where
  pub order : from ≤ end
  pub some : from < end → (slice_index source from ≡ mark) × (from + 1 < end) × IsLongest source (from + 1) end
  pub none : end ≡ from → from < length source → slice_index source from ≡ mark → IsLongest source (from + 1) (from + 1)

-- two more numbers, perhaps `-` and what goes on after it, and perhaps `+` and what goes on after that
pub record IsVersionEnd (source : List ℕ) (from end : ℕ) : Type 0 where
  pub numbers : ℕ
  pub pre : ℕ
  pub more : IsNumbers source from numbers
  pub before : IsMarked 45 source numbers pre
  pub rest_after : IsMarked 43 source pre end
