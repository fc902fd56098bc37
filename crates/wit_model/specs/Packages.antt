-- A package, made of its parts.
use Rattle.wit_values.specs.declared.span.Span.{Span}
use Rattle.wit_types.specs.declared.docs.Docs.{Docs}
use Rattle.wit_package_names.specs.declared.package_name.PackageName.{PackageName}
use Rattle.wit_model.specs.declared.foreign.ForeignItems.{ForeignItems}
use Rattle.wit_model.specs.declared.unresolved.Arenas.{Arenas}
use Rattle.wit_model.specs.declared.unresolved.UnresolvedPackage.{UnresolvedPackage}

-- the package of this name, with these arenas and docs, whose last header is here, and with what it names of other packages
abbrev pub package_of_parts : PackageName → Arenas → Docs → Span → ForeignItems → UnresolvedPackage
package_of_parts name arenas docs name_span foreign = record { name = name; name_span = name_span; docs = docs; types = arenas.types; interfaces = arenas.interfaces; worlds = arenas.worlds; foreign_deps = foreign.deps; foreign_dep_spans = foreign.dep_spans; unknown_type_spans = foreign.unknown_type_spans; required_resource_types = foreign.required_resource_types }
