use Rattle.std.proofs.Common.{take}
use Rattle.wit_listing.specs.Lists.{numbered}
use Rattle.wit_listing.specs.ListingTexts.{Adds}
use Rattle.wit_listing.specs.Worlds.{rename_text}
use Rattle.wit_listing.proofs.worlds.push_renames.Given as goal

abbrev pub invariant-loop-place : goal.invariant-loop-place
invariant-loop-place l = Adds l.fn.text l.text (numbered rename_text 0 (take l.place l.renames))
