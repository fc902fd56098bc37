use Rattle.std.proofs.Common.{take}
use Rattle.std.specs.List.{flat_map}
use Rattle.wit_listing.specs.ListingTexts.{Adds}
use Rattle.wit_listing.specs.Kinds.{enum_case_text}
use Rattle.wit_listing.proofs.kinds.push_enum_cases.Given as goal

abbrev pub invariant-loop-case : goal.invariant-loop-case
invariant-loop-case l = Adds l.fn.text l.text (flat_map enum_case_text (take l.case-index l.cases))
