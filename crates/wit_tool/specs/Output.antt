-- The output of a text: a status and bytes, which follow from the text alone.
use Rattle.std.specs.Prelude.{◌≡◌, ◌⊎◌, ◌<◌, ◌≤◌, ℕ, List, [], ◌∷◌, Option, Some, None, Result, Ok, Err, codes}
use Rattle.std.specs.List.{AllZip}
use Rattle.std.specs.Io.KnownBytes.{Appends, Keeps}
use Rattle.wit_tree.specs.declared.tree.NestedPackage.{NestedPackage}
use Rattle.wit_tree.specs.declared.tree.SourceFile.{SourceFile}
use Rattle.wit_lex.specs.declared.source.Source.{Source}
use Rattle.wit_bundle.specs.Bundle.{sources_of}
use Rattle.wit_bundle.specs.Laid.{AreLaid, room}
use Rattle.wit_model.specs.declared.unresolved.UnresolvedPackage.{UnresolvedPackage}
use Rattle.wit_syntax.specs.Fault.{Fault}
use Rattle.wit_arena.specs.Made.{Makes}
use Rattle.wit_groups.specs.Nested.{file_of}
use Rattle.wit_groups.specs.PushFaults.{files_of, nested_of}
use Rattle.wit_groups.specs.declared.group.UnresolvedPackageGroup.{UnresolvedPackageGroup}
use Rattle.wit_groups.specs.SourceFaults.{AreFaultless, IsFirstOfSources, Read, trees_of}
use Rattle.wit_listing.specs.declared.fault.RunFault.{RunFault}
use Rattle.wit_listing.specs.declared.fault.RunFault.TheVariants.{Output, Memory}
use Rattle.wit_listing.specs.ErrorLine.{line_text}
use Rattle.wit_listing.specs.Listing.{listing_text}
use Rattle.wit_listing.specs.Output.{IsCutShort}
use Rattle.wit_tool.specs.FaultLine.{IsFaultLine}

-- the packages that trees make: one of all files, and one of each package that is nested in them
pub record MakePackages (trees : List SourceFile) (main : UnresolvedPackage) (nested : List UnresolvedPackage) : Type 0 where
  pub whole : Makes (files_of trees) main
  pub each : AllZip (λ (n : NestedPackage) (p : UnresolvedPackage). Makes (file_of n ∷ []) p) (nested_of trees) nested

-- The output of sources, by what is read of them: 0 and the listing of the packages that their trees make, where they have no fault; else 1 and the
-- line of the first.
pub data IsSourcesOutput (sources : List Source) (status : ℕ) (output : List ℕ) : Type 0 where
  Listing : (reads : List Read) → AreFaultless sources reads → (main : UnresolvedPackage) (nested : List UnresolvedPackage) → MakePackages (trees_of reads) main nested →
      status ≡ 0 → output ≡ listing_text main nested → IsSourcesOutput sources status output
  Line : (reads : List Read) (f : Fault) → IsFirstOfSources sources reads f → status ≡ 1 → IsFaultLine sources f output → IsSourcesOutput sources status output

-- the line for sources that are too large together
abbrev pub size_line : List ℕ
size_line = line_text 52 None (codes "sources too large")

-- the output of a text: that of its sources, unless they are too large
pub data IsOutput (text : List ℕ) (status : ℕ) (output : List ℕ) : Type 0 where
  TooLarge : 4294967295 < room (sources_of text) → status ≡ 1 → output ≡ size_line → IsOutput text status output
  OfSources : room (sources_of text) ≤ 4294967295 → (sources : List Source) → AreLaid (sources_of text) sources → IsSourcesOutput sources status output → IsOutput text status output

-- the line for an allocation that failed while sources were read or resolved
abbrev pub memory_line : List ℕ
memory_line = line_text 45 None (codes "out of memory")

-- this is printed: the output, or that an allocation failed
abbrev pub OrMemory : (ℕ → List ℕ → Type 0) → ℕ → List ℕ → Type 0
OrMemory IsOut status output = IsOut status output ⊎ ((status ≡ 1) × (output ≡ memory_line))

abbrev pub IsPrinted : List ℕ → ℕ → List ℕ → Type 0
IsPrinted text = OrMemory (IsOutput text)

-- the status of an answer: 0 with a group, 1 without one
abbrev pub listed_status : Option UnresolvedPackageGroup → ℕ
listed_status (Some group) = 0
listed_status None = 1

-- What a call writes: all that is printed, with the status of its answer; after a failed write a beginning of it and not the whole; nothing where an
-- allocation failed outside of reading and resolving.
abbrev pub Writes : (ℕ → List ℕ → Type 0) → (old new : Option (List ℕ)) → Result (Option UnresolvedPackageGroup) RunFault → Type 0
Writes IsOut old new (Ok answer) = (output : List ℕ) × IsOut (listed_status answer) output × Appends old new output
Writes IsOut old new (Err Output) = (status : ℕ) × (output : List ℕ) × IsOut status output × IsCutShort old new output
Writes IsOut old new (Err Memory) = Keeps old new
