use Rattle.std.proofs.Common.{take}
use Rattle.std.specs.List.{flat_map}
use Rattle.wit_listing.specs.ListingTexts.{Adds}
use Rattle.wit_listing.specs.Package.{package_text}
use Rattle.wit_listing.proofs.group.push_packages.Given as goal

abbrev pub invariant-loop-resolved : goal.invariant-loop-resolved
invariant-loop-resolved l = Adds l.fn.text l.text (flat_map package_text (take l.resolved-index l.packages))
