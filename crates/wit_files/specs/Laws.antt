-- The first fault of names, and the rules about them that files may break.
use Rattle.std.specs.Prelude.{List}
use Rattle.wit_tree.specs.declared.tree.PackageFile.{PackageFile}
use Rattle.wit_syntax.specs.Broken.{IsBrokenNames}
use Rattle.wit_first.specs.Laws.{AgreesBy}
use Rattle.wit_first.specs.OrderFaults.{IsNamesFault}

abbrev pub NamesAgree : Type 0
NamesAgree = (files : List PackageFile) → AgreesBy (IsNamesFault files) (IsBrokenNames files)
