-- Versions that were found after a name.
use Rattle.std.specs.Prelude.{Option, Some, None}
use Rattle.semver.specs.declared.Version.{Version}
use Rattle.semver.specs.Identifiers.{parts_of}
use Rattle.wit_values.specs.declared.span.Span.{Span}
use Rattle.wit_grammar.specs.Trees.{Release}

-- what a version says that was found at a span
abbrev pub see_found : Span × Version → Span × Release
see_found found = (found.0, parts_of found.1)

-- the version alone, where one was found
abbrev pub found_version : Option (Span × Version) → Option Version
found_version None = None
found_version (Some (place, version)) = Some version
