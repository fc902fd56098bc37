-- The package that legal files make is one.
use Rattle.std.specs.Prelude.{◌≡◌, List}
use Rattle.wit_arena.specs.Common.{IsLegal, Makes, PackageFile, UnresolvedPackage}

-- legal files make one package, which others make too, if they make any
abbrev pub MakeOne : (files others : List PackageFile) → Type 0
MakeOne files others = (p q : UnresolvedPackage) → IsLegal files → Makes files p → Makes others q → p ≡ q
