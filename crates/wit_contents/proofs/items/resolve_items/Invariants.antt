use Rattle.std.proofs.Common.{take}
use Rattle.wit_contents.proofs.ResolvedItems.{HasOnlyInterfaces, HasWorlds, interfaces_in, worlds_in}
use Rattle.wit_contents.proofs.items.resolve_items.Given as goal

abbrev pub invariant-loop-place : goal.invariant-loop-place
invariant-loop-place l = record {
  resolved : HasOnlyInterfaces l.fn.making.resolved.interfaces.files l.places l.fn.making (interfaces_in l.fn.making.resolved.interfaces.files (take l.place-index l.places)) l.making;
}

abbrev pub invariant-loop-next : goal.invariant-loop-next
invariant-loop-next l = record {
  resolved : HasWorlds l.fn.making.resolved.interfaces.files l.places l.fn.making (worlds_in l.fn.making.resolved.interfaces.files (take l.next-index l.places)) l.making;
}
