use Rattle.std.proofs.Common.{take}
use Rattle.std.specs.List.{flat_map}
use Rattle.wit_listing.specs.ListingTexts.{Adds}
use Rattle.wit_listing.specs.Kinds.{item_text}
use Rattle.wit_listing.proofs.kinds.push_items.Given as goal

abbrev pub invariant-loop-ty : goal.invariant-loop-ty
invariant-loop-ty l = Adds l.fn.text l.text (flat_map item_text (take l.ty-index l.types))
