-- The parts of a version, and its text.
use Rattle.std.specs.Prelude.{ℕ, List}
use Rattle.semver.specs.Identifiers.{parts_text}
use Rattle.wit_values.specs.declared.release.Release.{Release}

-- the three numbers, the pre-release and the build
abbrev pub release_parts : Release → ℕ × ℕ × ℕ × List ℕ × List ℕ
release_parts r = (r.major, r.minor, r.patch, r.pre, r.build)

-- the text, as `semver` writes it
abbrev pub release_text : Release → List ℕ
release_text r = parts_text (release_parts r)
