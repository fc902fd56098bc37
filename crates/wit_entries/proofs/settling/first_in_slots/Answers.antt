use Rattle.std.proofs.Common.{sym}
use Rattle.wit_entries.proofs.Settled.{known_here, none_more}
use Rattle.wit_entries.proofs.settling.first_in_slots.Goals as goal

pub returns-in-Some : goal.returns-in-Some
returns-in-Some c = sym (known_here c.args.types.now c.args.kind.now c.loop-place.place c.slot.result c.in-Some.found.now c.slot.ensures c.loop-place.invariant (sym c.in-Some.ensures))

pub loop-place-preserved : goal.loop-place-preserved
loop-place-preserved c = none_more c.args.types.now c.args.kind.now c.loop-place.place c.slot.result c.slot.ensures c.loop-place.invariant (sym c.in_default.ensures)
