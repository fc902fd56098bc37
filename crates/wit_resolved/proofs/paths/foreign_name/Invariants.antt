use Rattle.std.proofs.Common.{◌≡◌, drop}
use Rattle.wit_resolved.specs.Lookups.{first_of, foreign_in}
use Rattle.wit_resolved.proofs.paths.foreign_name.Given as goal

abbrev pub invariant-loop-at : goal.invariant-loop-at
invariant-loop-at l = first_of (foreign_in l.place) (drop l.at l.deps) ≡ first_of (foreign_in l.place) l.deps
