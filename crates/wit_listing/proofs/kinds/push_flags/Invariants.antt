use Rattle.std.proofs.Common.{take}
use Rattle.std.specs.List.{flat_map}
use Rattle.wit_listing.specs.ListingTexts.{Adds}
use Rattle.wit_listing.specs.Kinds.{flag_text}
use Rattle.wit_listing.proofs.kinds.push_flags.Given as goal

abbrev pub invariant-loop-flag : goal.invariant-loop-flag
invariant-loop-flag l = Adds l.fn.text l.text (flat_map flag_text (take l.flag-index l.flags))
