use Rattle.std.proofs.Common.{◌≡◌, map, take}
use Rattle.wit_syntax.proofs.Common.{flat_map}
use Rattle.wit_files.specs.Visits.{visit_view, item_visits}
use Rattle.wit_files.proofs.visit.visits.Given as goal

abbrev pub invariant-loop-item : goal.invariant-loop-item
invariant-loop-item l = map visit_view l.visits.items ≡ flat_map item_visits (take l.item-index l.item-items)
