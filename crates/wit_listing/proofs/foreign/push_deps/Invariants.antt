use Rattle.std.proofs.Common.{take}
use Rattle.std.specs.List.{flat_map}
use Rattle.wit_listing.specs.ListingTexts.{Adds}
use Rattle.wit_listing.specs.ForeignLines.{dep_lines}
use Rattle.wit_listing.proofs.foreign.push_deps.Given as goal

abbrev pub invariant-loop-place : goal.invariant-loop-place
invariant-loop-place l = Adds l.fn.text l.text (flat_map dep_lines (take l.place l.deps))
