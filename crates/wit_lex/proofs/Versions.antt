-- What is missing of a version.
use Rattle.std.proofs.Common.{ℕ, List}
use Rattle.std.specs.Prelude.{IfErr, Result, Ok, Err}
use Rattle.wit_lex.specs.VersionEnds.{IsDotNumber, IsNoDotNumber, IsNoNumbers, NoPatch}

-- the third number is missing where it is not found after the second
pub no_patch : (source : List ℕ) (from middle : ℕ) (r : Result ℕ ℕ) → IsDotNumber source from middle → IfErr r (IsNoDotNumber source middle) → IfErr r (IsNoNumbers source from)
no_patch source from middle (Ok end) minor h = tt
no_patch source from middle (Err at) minor h = NoPatch middle minor h
