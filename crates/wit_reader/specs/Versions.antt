-- Versions that are read: from one place to another, or broken off at a place.
use Rattle.std.specs.Prelude.{ℕ, List, slice_range}
use Rattle.semver.specs.Parse.{version_parts}
use Rattle.wit_values.specs.declared.span.Span.{Span}
use Rattle.wit_lex.specs.declared.fault.ReadFault.TheVariants as fault
use Rattle.wit_lex.specs.Lexis.{first_token}
use Rattle.wit_grammar.specs.Trees.{Release}
use Rattle.wit_grammar.specs.Leaves.{Spot, Read, stop, release_at, ◌>>=◌}

-- the version from a place to another, and a token after it
abbrev pub version_between : Spot → (start end : ℕ) → Read (Span × Release)
version_between s start end = release_at s start end (version_parts (slice_range s.source start end))

-- a version that goes on no further at a place: the token there is refused
abbrev pub broken_off : List ℕ → ℕ → Read (Span × Release)
broken_off source at = first_token source at >>= λ t. stop fault.Token t
