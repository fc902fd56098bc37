use Rattle.std.proofs.Common.{take}
use Rattle.wit_listing.specs.Lists.{numbered}
use Rattle.wit_listing.specs.ListingTexts.{Adds}
use Rattle.wit_listing.specs.Worlds.{world_lines}
use Rattle.wit_listing.proofs.worlds.push_worlds.Given as goal

abbrev pub invariant-loop-place : goal.invariant-loop-place
invariant-loop-place l = Adds l.fn.text l.text (numbered (world_lines l.interfaces) 0 (take l.place l.worlds))
