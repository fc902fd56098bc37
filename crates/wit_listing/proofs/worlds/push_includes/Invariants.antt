use Rattle.std.proofs.Common.{take}
use Rattle.std.specs.List.{flat_map}
use Rattle.wit_listing.specs.ListingTexts.{Adds}
use Rattle.wit_listing.specs.Worlds.{include_line}
use Rattle.wit_listing.proofs.worlds.push_includes.Given as goal

abbrev pub invariant-loop-include : goal.invariant-loop-include
invariant-loop-include l = Adds l.fn.text l.text (flat_map include_line (take l.include-index l.includes))
