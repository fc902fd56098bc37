-- What holds of the first fault of sources.
use Rattle.std.specs.Prelude.{◌≡◌, ◌⊎◌, ℕ, List, Option}
use Rattle.std.specs.List.{AllZip}
use Rattle.wit_lex.specs.declared.source.Source.{Source}
use Rattle.wit_bundle.specs.Laid.{AreLaid}
use Rattle.wit_bundle.specs.SourcePaths.{IsByPath}
use Rattle.wit_model.specs.declared.unresolved.UnresolvedPackage.{UnresolvedPackage}
use Rattle.wit_syntax.specs.Fault.{Fault}
use Rattle.wit_arena.specs.Faithful.{IsMadeOf}
use Rattle.wit_groups.specs.Nested.{IsMadeByNested}
use Rattle.wit_groups.specs.Groups.{IsGroup}
use Rattle.wit_groups.specs.PushFaults.{files_of, nested_of}
use Rattle.wit_groups.specs.SourceFaults.{Read, IsRead, AreAlike, HaveFirst, TextHasFirst, trees_of, IsFirstOfSources, AreFaultless, AreBroken}

-- paths give sources one order, and what is read of each is one, but for addresses
abbrev pub OnePathOrder : Type 0
OnePathOrder = (sources ordered other : List Source) → IsByPath sources ordered → IsByPath sources other → ordered ≡ other

abbrev pub OneReading : Type 0
OneReading = (s : Source) (one other : Read) → IsRead s one → IsRead s other → AreAlike one other

-- so sources have one first fault, whatever is read of them
abbrev pub OneFirstOfSources : Type 0
OneFirstOfSources = (sources : List Source) (first other : Option Fault) → HaveFirst sources first → HaveFirst sources other → first ≡ other

-- and so have sources of the same paths and texts
abbrev pub OneFirstOfLaid : Type 0
OneFirstOfLaid = (parts : List (List ℕ × List ℕ)) (sources others : List Source) (first other : Option Fault) → AreLaid parts sources → AreLaid parts others →
    HaveFirst sources first → HaveFirst others other → first ≡ other

abbrev pub FirstOfSourcesIsBroken : Type 0
FirstOfSourcesIsBroken = (sources : List Source) (reads : List Read) (f : Fault) → IsFirstOfSources sources reads f → AreBroken sources f

-- whatever is read of sources, in the order of their paths
abbrev pub FaultlessOrFirst : Type 0
FaultlessOrFirst = (sources ordered : List Source) (reads : List Read) → IsByPath sources ordered → AllZip IsRead ordered reads → AreFaultless sources reads ⊎ ((f : Fault) × IsFirstOfSources sources reads f)

abbrev pub GroupIsFaultless : Type 0
GroupIsFaultless = (sources : List Source) (main : UnresolvedPackage) (nested : List UnresolvedPackage) → IsGroup sources main nested → (reads : List Read) × AreFaultless sources reads

-- the packages that their trees make are a group
abbrev pub FaultlessIsGroup : Type 0
FaultlessIsGroup = (sources : List Source) (reads : List Read) (main : UnresolvedPackage) (nested : List UnresolvedPackage) → AreFaultless sources reads → IsMadeOf (files_of (trees_of reads)) main →
    AllZip IsMadeByNested (nested_of (trees_of reads)) nested → IsGroup sources main nested

abbrev pub OneFirstOfText : Type 0
OneFirstOfText = (path text : List ℕ) (first other : Option Fault) → TextHasFirst path text first → TextHasFirst path text other → first ≡ other
