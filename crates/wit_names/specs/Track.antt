-- The compatibility track of a version and the rest of its text, by the version's numbers and texts.
use Rattle.std.specs.Prelude.{ℕ, ◌==◌, Bool, List, [], ◌∷◌, ◌++◌, Option, Some, None, String, string_bytes, if◌then◌else◌, length}
use Rattle.std.specs.Fmt.{decimal}
use Rattle.std.specs.declared.alloc.Global.{Global}
use Rattle.semver.specs.Identifiers.{marked}

-- major, minor and patch, the pre-release and the build, as `semver` says them
abbrev pub Parts : Type 0
Parts = ℕ × ℕ × ℕ × List ℕ × List ℕ

-- there is no pre-release
abbrev pub is_release : Parts → Bool
is_release p = length p.3 == 0

-- the three numbers, and what follows them
abbrev pub core_before : Parts → List ℕ → List ℕ
core_before p rest = decimal p.0 ++ (46 ∷ (decimal p.1 ++ (46 ∷ (decimal p.2 ++ rest))))

-- the track of a release: its numbers up to the first that is not 0
abbrev pub release_track : Parts → List ℕ
release_track p = if p.0 == 0
    then (if p.1 == 0
    then decimal p.0 ++ (46 ∷ (decimal p.1 ++ (46 ∷ decimal p.2)))
    else decimal p.0 ++ (46 ∷ decimal p.1))
    else decimal p.0

-- the track: a pre-release is a track of its own, whatever its build
abbrev pub track_text : Parts → List ℕ
track_text p = if is_release p then release_track p else core_before p (45 ∷ p.3)

-- the numbers after the track of a release
abbrev pub release_rest : Parts → List ℕ
release_rest p = if p.0 == 0
    then (if p.1 == 0 then [] else 46 ∷ decimal p.2)
    else 46 ∷ (decimal p.1 ++ (46 ∷ decimal p.2))

-- the rest of the text: the numbers after the track, then `+` and the build, if there is one
abbrev pub suffix_text : Parts → List ℕ
suffix_text p = (if is_release p then release_rest p else []) ++ marked 43 p.4

-- a text, or none where it is empty
abbrev pub unless_empty : List ℕ → Option (List ℕ)
unless_empty [] = None
unless_empty (b ∷ rest) = Some (b ∷ rest)

-- the rest of the text, or none where nothing is left
abbrev pub suffix_of : Parts → Option (List ℕ)
suffix_of p = unless_empty (suffix_text p)

-- the numbers of a release, 0 where they come after the track
abbrev pub release_numbers : Parts → ℕ × ℕ × ℕ
release_numbers p = if p.0 == 0
    then (if p.1 == 0 then (p.0, p.1, p.2) else (p.0, p.1, 0))
    else (p.0, 0, 0)

-- the track version: no build, and in a release no number after the track
abbrev pub track_parts : Parts → Parts
track_parts p = if is_release p
    then ((release_numbers p).0, (release_numbers p).1, (release_numbers p).2, [], [])
    else (p.0, p.1, p.2, p.3, [])

-- the bytes of a text that may be left out
abbrev pub text_bytes : Option (String Global) → List ℕ
text_bytes None = []
text_bytes (Some s) = string_bytes s
