use Rattle.std.proofs.Common.{◌≡◌, drop}
use Rattle.wit_resolved.specs.Lookups.{first_of, name_at}
use Rattle.wit_resolved.proofs.paths.name_among.Given as goal

abbrev pub invariant-loop-at : goal.invariant-loop-at
invariant-loop-at l = first_of (name_at l.place) (drop l.at l.items) ≡ first_of (name_at l.place) l.items
