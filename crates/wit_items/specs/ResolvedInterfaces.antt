-- The interfaces that are resolved, as scopes that names are used from.
use Rattle.std.specs.Prelude.{ℕ, if◌then◌else◌, is_none, List, None, Option, Some}
use Rattle.wit_arena.specs.Common.{Fault, Foreign, Local, Names, ResolvedScope, Target, env_of, item_word, missing_at, resolved_scopes}
use Rattle.wit_items.specs.declared.interfaces.Interfaces.{Interfaces}
use Rattle.wit_scopes.specs.declared.scope_name.Source.{Source}
use Rattle.wit_scopes.specs.declared.scope_name.Source.TheVariants as source
use Rattle.wit_items.specs.ItemPaths.{prefix_of}

-- the scopes of the interfaces that were resolved: those of other packages come first
abbrev pub resolved_scopes_of : Interfaces → List ResolvedScope
resolved_scopes_of is = resolved_scopes (prefix_of is.files) is.arena

-- the place of the interface that is borrowed, if it is resolved
abbrev pub source_place : Names → Source → Option ℕ
source_place by_name (source.Declared id) = env_of by_name id.name.now
source_place by_name (source.Foreign place of name) = Some place

-- a declared one is not
abbrev pub unresolved_fault : Names → Target → Option Fault
unresolved_fault by_name (Local id) = if is_none (env_of by_name id.name.now) then Some (missing_at 7 item_word id) else None
unresolved_fault by_name (Foreign p id) = None
