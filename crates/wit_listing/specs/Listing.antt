-- The listing of a package, and after it of those that are nested in it, one after another.
use Rattle.std.specs.Prelude.{ℕ, List, ◌++◌}
use Rattle.std.specs.List.{flat_map}
use Rattle.wit_model.specs.declared.unresolved.UnresolvedPackage.{UnresolvedPackage}
use Rattle.wit_listing.specs.Package.{package_text}

-- the listing
abbrev pub listing_text : UnresolvedPackage → List UnresolvedPackage → List ℕ
listing_text main nested = package_text main ++ flat_map package_text nested
