-- How the names of packages are ordered.
use Rattle.std.specs.Option.{option_cmp}
use Rattle.std.specs.Ordering.{ordering_then}
use Rattle.std.specs.declared.cmp.Ordering.{Ordering}
use Rattle.wit_values.specs.ReleaseOrder.{release_cmp}
use Rattle.wit_types.specs.TypeOrders.{text_cmp}
use Rattle.wit_package_names.specs.declared.package_name.PackageName.{PackageName}

-- names of packages by namespace, then by name, then by version; no version before all versions
abbrev pub package_name_cmp : PackageName → PackageName → Ordering
package_name_cmp a b = ordering_then (text_cmp a.namespace b.namespace) (ordering_then (text_cmp a.name b.name) (option_cmp release_cmp a.version b.version))
