-- What a run writes, and the group that it gives.
use Rattle.std.specs.Prelude.{◌≡◌, ℕ, List, Option, Some, None, Result}
use Rattle.wit_type_tree.specs.declared.error.ParseError.{ParseError}
use Rattle.wit_lex.specs.declared.source.Source.{Source}
use Rattle.wit_bundle.specs.Bundle.{sources_of}
use Rattle.wit_bundle.specs.Laid.{AreLaid}
use Rattle.wit_groups.specs.declared.group.UnresolvedPackageGroup.{UnresolvedPackageGroup}
use Rattle.wit_groups.specs.Groups.{IsGroup}
use Rattle.wit_listing.specs.declared.fault.RunFault.{RunFault}
use Rattle.wit_listing.specs.Output.{IsWrittenAs}
use Rattle.wit_listing.specs.Listing.{listing_text}
use Rattle.wit_listing.specs.ErrorLine.{IsErrorLine}

-- the listing of a group was written, and the answer is the group
abbrev pub IsListed : UnresolvedPackageGroup → Option (List ℕ) → Option (List ℕ) → Result (Option UnresolvedPackageGroup) RunFault → Type 0
IsListed group old new result = IsWrittenAs (Some group) (λ text. text ≡ listing_text group.main group.nested) old new result

-- the line of a refusal of the sources was written, and the answer is no group
abbrev pub IsRefusalWritten : List Source → ParseError → Option (List ℕ) → Option (List ℕ) → Result (Option UnresolvedPackageGroup) RunFault → Type 0
IsRefusalWritten sources e old new result = IsWrittenAs None (IsErrorLine sources e) old new result

-- the group is that of these sources
pub record IsGroupOf (sources : List Source) (group : UnresolvedPackageGroup) : Type 0 where
  pub are : group.source_map.sources.items ≡ sources
  pub made : IsGroup sources group.main group.nested

-- the group is that of the sources of the text
pub record IsTextGroup (text : List ℕ) (group : UnresolvedPackageGroup) : Type 0 where
  pub are : AreLaid (sources_of text) group.source_map.sources.items
  pub made : IsGroup group.source_map.sources.items group.main group.nested
