-- Why files and the packages that were nested in them make no group.
use Rattle.std.proofs.Common.{List}
use Rattle.wit_items.proofs.Common.{IsBroken, IsMadeOf, PackageFile, ParseError, Refused, UnresolvedPackage, refused_weaker}
use Rattle.wit_nested.specs.PackageNames.{IsRepeatedPackage, IsUnjoined}
use Rattle.wit_nested.specs.PackageNames.IsUnjoined.{Broken, Repeated}

-- the files break a rule
pub broken_files : (files : List PackageFile) (nested : List UnresolvedPackage) (e : ParseError) → Refused (IsBroken files) e → Refused (IsUnjoined files nested) e
broken_files files nested e h = refused_weaker (IsBroken files) (IsUnjoined files nested) e (λ f broken. Broken broken) h

-- or a name is there again
pub repeated_package : (files : List PackageFile) (main : UnresolvedPackage) (nested : List UnresolvedPackage) (e : ParseError) → IsMadeOf files main → Refused (IsRepeatedPackage main nested) e → Refused (IsUnjoined files nested) e
repeated_package files main nested e made h = refused_weaker (IsRepeatedPackage main nested) (IsUnjoined files nested) e (λ f again. Repeated main made again) h
