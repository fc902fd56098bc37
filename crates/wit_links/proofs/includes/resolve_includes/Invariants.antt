use Rattle.std.proofs.Common.{◌≡◌, None, take}
use Rattle.wit_items.proofs.Common.{first_in, others_of, top_at, worlds_at}
use Rattle.wit_links.proofs.Leading.{part_fault, included, AreIncluded}
use Rattle.wit_links.proofs.includes.resolve_includes.Given as goal

abbrev pub invariant-loop-part : goal.invariant-loop-part
invariant-loop-part l = record {
  are : AreIncluded (worlds_at (others_of l.resolved.interfaces.files) l.resolved.worlds) (top_at l.resolved.interfaces.files l.place) (included (take l.part-index l.world.items.items)) l.includes.items;
  first : first_in (part_fault l.resolved (top_at l.resolved.interfaces.files l.place)) (take l.part-index l.world.items.items) ≡ None;
}
