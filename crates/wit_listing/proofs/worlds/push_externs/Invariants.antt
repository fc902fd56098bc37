use Rattle.std.proofs.Common.{take}
use Rattle.std.specs.List.{flat_map}
use Rattle.wit_listing.specs.ListingTexts.{Adds}
use Rattle.wit_listing.specs.Worlds.{extern_line}
use Rattle.wit_listing.proofs.worlds.push_externs.Given as goal

abbrev pub invariant-loop-place : goal.invariant-loop-place
invariant-loop-place l = Adds l.fn.text l.text (flat_map (extern_line l.side l.interfaces) (take l.place l.externs))
