-- What holds of the first fault of a group.
use Rattle.std.specs.Prelude.{◌≡◌, ◌⊎◌, List, Option}
use Rattle.std.specs.List.{AllZip}
use Rattle.wit_tree.specs.declared.tree.SourceFile.{SourceFile}
use Rattle.wit_model.specs.declared.unresolved.UnresolvedPackage.{UnresolvedPackage}
use Rattle.wit_syntax.specs.Broken.{last_header}
use Rattle.wit_syntax.specs.Fault.{Fault}
use Rattle.wit_arena.specs.Faithful.{IsMadeOf}
use Rattle.wit_groups.specs.Nested.{IsMadeByNested}
use Rattle.wit_groups.specs.PushFaults.{files_of, nested_of}
use Rattle.wit_groups.specs.GroupFaults.{AgreeOnNames, GroupComesTo, IsFirstOfGroup, IsFaultlessGroup, IsBrokenGroup, IsLegalGroup, names_fault, nested_names}

abbrev pub OneFirstOfGroup : Type 0
OneFirstOfGroup = (sources : List SourceFile) (first other : Option Fault) → GroupComesTo sources first → GroupComesTo sources other → first ≡ other

abbrev pub FirstOfGroupIsBroken : Type 0
FirstOfGroupIsBroken = (sources : List SourceFile) (f : Fault) → IsFirstOfGroup sources f → IsBrokenGroup sources f

abbrev pub FaultlessGroupIsLegal : Type 0
FaultlessGroupIsLegal = (sources : List SourceFile) → IsFaultlessGroup sources → IsLegalGroup sources

abbrev pub LegalGroupIsFaultless : Type 0
LegalGroupIsFaultless = (sources : List SourceFile) → IsLegalGroup sources → IsFaultlessGroup sources

abbrev pub LegalGroupOrFirst : Type 0
LegalGroupOrFirst = (sources : List SourceFile) → IsLegalGroup sources ⊎ ((f : Fault) × IsFirstOfGroup sources f)

-- so it is in all that sources make
abbrev pub NamesAgree : Type 0
NamesAgree = (sources : List SourceFile) (main : UnresolvedPackage) (nested : List UnresolvedPackage) → IsMadeOf (files_of sources) main → AllZip IsMadeByNested (nested_of sources) nested
    → AgreeOnNames (names_fault (last_header (files_of sources)) (nested_names sources)) main nested
