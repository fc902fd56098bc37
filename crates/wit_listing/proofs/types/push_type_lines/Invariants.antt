use Rattle.std.proofs.Common.{take}
use Rattle.wit_listing.specs.Lists.{numbered}
use Rattle.wit_listing.specs.ListingTexts.{Adds}
use Rattle.wit_listing.specs.Types.{type_line}
use Rattle.wit_listing.proofs.types.push_type_lines.Given as goal

abbrev pub invariant-loop-place : goal.invariant-loop-place
invariant-loop-place l = Adds l.fn.text l.text (numbered type_line 0 (take l.place l.types))
