-- When two groups are the same: their packages and their sources are.
use Rattle.std.specs.Prelude.{◌≡◌}
use Rattle.wit_lex.specs.Sources.{as_stated}
use Rattle.wit_model.specs.SamePackages.{AreSame, IsSamePackage}
use Rattle.wit_groups.specs.declared.group.UnresolvedPackageGroup.{UnresolvedPackageGroup}

pub record IsSameGroup (a b : UnresolvedPackageGroup) : Type 0 where
  pub main : IsSamePackage a.main b.main
  pub nested : AreSame IsSamePackage a.nested b.nested
  pub sources : as_stated a.source_map.sources.items ≡ as_stated b.source_map.sources.items
