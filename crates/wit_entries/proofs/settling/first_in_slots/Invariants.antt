use Rattle.wit_entries.proofs.Settled.{IsNoneKnown}
use Rattle.wit_entries.proofs.settling.first_in_slots.Given as goal

abbrev pub invariant-loop-place : goal.invariant-loop-place
invariant-loop-place l = IsNoneKnown l.types l.kind l.place
