use Rattle.std.proofs.Common.{take}
use Rattle.wit_listing.specs.Lists.{numbered}
use Rattle.wit_listing.specs.ListingTexts.{Adds}
use Rattle.wit_listing.specs.Functions.{parameter_text}
use Rattle.wit_listing.proofs.functions.push_parameters.Given as goal

abbrev pub invariant-loop-place : goal.invariant-loop-place
invariant-loop-place l = Adds l.fn.text l.text (numbered parameter_text 0 (take l.place l.params))
