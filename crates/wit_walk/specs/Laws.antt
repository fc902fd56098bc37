-- What holds of the first fault of files.
use Rattle.std.specs.Prelude.{◌≡◌, ◌⊎◌, List, Option}
use Rattle.wit_tree.specs.declared.tree.PackageFile.{PackageFile}
use Rattle.wit_syntax.specs.Broken.{IsBroken, IsLegal}
use Rattle.wit_syntax.specs.Fault.{Fault}
use Rattle.wit_walk.specs.Walk.{ComesTo, IsFirst, IsFaultless}

abbrev pub OneFirst : Type 0
OneFirst = (files : List PackageFile) (first other : Option Fault) → ComesTo files first → ComesTo files other → first ≡ other

abbrev pub FirstIsBroken : Type 0
FirstIsBroken = (files : List PackageFile) (f : Fault) → IsFirst files f → IsBroken files f

abbrev pub FaultlessIsLegal : Type 0
FaultlessIsLegal = (files : List PackageFile) → IsFaultless files → IsLegal files

abbrev pub LegalIsFaultless : Type 0
LegalIsFaultless = (files : List PackageFile) → IsLegal files → IsFaultless files

abbrev pub LegalOrFirst : Type 0
LegalOrFirst = (files : List PackageFile) → IsLegal files ⊎ ((f : Fault) × IsFirst files f)
