-- How versions are ordered: by their numbers, then by pre-release and by build metadata.
use Rattle.std.specs.Ordering.{nat_cmp, ordering_then}
use Rattle.std.specs.declared.cmp.Ordering.{Ordering}
use Rattle.semver.specs.Order.{build_cmp, pre_cmp}
use Rattle.wit_values.specs.declared.release.Release.{Release}

abbrev pub release_cmp : Release → Release → Ordering
release_cmp a b = ordering_then (nat_cmp a.major b.major) (ordering_then (nat_cmp a.minor b.minor) (ordering_then (nat_cmp a.patch b.patch) (ordering_then (pre_cmp a.pre b.pre) (build_cmp a.build b.build))))
