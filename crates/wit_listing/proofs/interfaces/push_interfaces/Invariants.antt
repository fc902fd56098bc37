use Rattle.std.proofs.Common.{take}
use Rattle.wit_listing.specs.Lists.{numbered}
use Rattle.wit_listing.specs.ListingTexts.{Adds}
use Rattle.wit_listing.specs.Interfaces.{interface_lines}
use Rattle.wit_listing.proofs.interfaces.push_interfaces.Given as goal

abbrev pub invariant-loop-place : goal.invariant-loop-place
invariant-loop-place l = Adds l.fn.text l.text (numbered interface_lines 0 (take l.place l.interfaces))
