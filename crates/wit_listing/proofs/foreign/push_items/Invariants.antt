use Rattle.std.proofs.Common.{take}
use Rattle.std.specs.List.{flat_map}
use Rattle.wit_listing.specs.ListingTexts.{Adds}
use Rattle.wit_listing.specs.ForeignLines.{item_line}
use Rattle.wit_listing.proofs.foreign.push_items.Given as goal

abbrev pub invariant-loop-place : goal.invariant-loop-place
invariant-loop-place l = Adds l.fn.text l.text (flat_map (item_line l.package_name) (take l.place l.items))
