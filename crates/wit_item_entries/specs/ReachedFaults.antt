-- The first fault of the names that a scope uses (E7, E12 to E14), of its definitions (E12 to E16, E19 to E27, E30 to E35) and of its functions, by the interfaces and the arena that are there.
use Rattle.std.specs.Prelude.{ℕ, if◌then◌else◌, List, [], Option, None, Some, is_some, is_none, slice_get, ◌≡◌, ◌++◌, Result, map, take}
use Rattle.wit_arena.specs.Common.{Address, AreDistinct, Defines, Fault, Id, Interface, Item, Names, ParseError, ResolvedScope, ScopeName, SourceFunction, TypeDef, TypeOwner, about, cyclic_at, defined, env_of, flat_map, free_functions, function_used, in_order, in_turn, list_any, local_id, local_name, missing_at, missing_type_at, name_twice, name_word, names_on, option_and_then, option_map_or, option_or, rows_of, type_word, used}
use Rattle.std.specs.Str.{bytes_eq}
use Rattle.wit_first.specs.First.{first_after, repeat_of, Finds, first_in}
use Rattle.wit_scopes.specs.BorrowedNames.{use_view, Borrowed, name_view, own_use}
use Rattle.wit_scopes.specs.declared.scope_name.UsedName.{UsedName}
use Rattle.wit_items.specs.ItemPaths.{source_target}
use Rattle.wit_items.specs.ResolvedInterfaces.{source_place, unresolved_fault, resolved_scopes_of}
use Rattle.wit_items.specs.declared.interfaces.Interfaces.{Interfaces}
use Rattle.wit_first.specs.AttributeFaults.{stability_fault}
use Rattle.wit_first.specs.NameFaults.{local_names_fault}
use Rattle.wit_walk.specs.Definitions.{definition_fault}
use Rattle.wit_walk.specs.Orders.{InOrder, Outcome, IsOutcome, order_fault, order_of}
use Rattle.wit_entries.specs.declared.scope.Scope.{Scope}
use Rattle.wit_externs.specs.Clash.{EndsIn, alone_faults, defined_fault}
use Rattle.wit_walk.specs.Functions.{word_fault}
use Rattle.wit_signatures.specs.FunctionsOfScope.{name_of_id}

-- a name that means no type of an interface is that of one of its functions, or of nothing
abbrev pub lost_name : List (List ℕ) → Id → Fault
lost_name fns id = if list_any (bytes_eq id.name.now) fns then function_used id else missing_at 12 name_word id

-- of a used name by itself: its interface, and then what it means there
abbrev pub used_fault : Interfaces → UsedName → Option Fault
used_fault is u = option_or (unresolved_fault is.by_name (source_target u.from)) (option_map_or (λ (i : Interface). if is_none (env_of i.types u.name.now.name.name.now) then Some (lost_name (free_functions i) u.name.now.name) else None) (option_and_then (slice_get is.arena) (source_place is.by_name u.from)) None)

-- a name of a scope is spelled alike
abbrev pub spelled_fault : Names → UsedName → Option Fault
spelled_fault names u = if is_some (env_of names (local_name (use_view u))) then Some (name_twice (local_id (use_view u))) else None

-- of a used name, and then an earlier one is spelled alike
abbrev pub local_fault : Interfaces → List UsedName → UsedName → Option Fault
local_fault is before u = option_or (used_fault is u) (repeat_of (λ (v : UsedName). local_name (use_view v)) (λ (v : UsedName). name_twice (local_id (use_view v))) before u)

-- a test of names in handles is right of each arena that is there once so many of these names were added to others, and some types after them
abbrev pub EndsAlong : List ResolvedScope → TypeOwner → List TypeDef → Names → List ScopeName → (Id → Option Fault) → Type 0
EndsAlong cs o old names xs handle = (count : ℕ) (mid more : List TypeDef) (now : Names) → ((s : Address) → Defines old mid cs o s names now (take count xs)) → EndsIn (env_of now) (mid ++ more) handle

-- so of the names of a scope in turn, where they differ and this is the outcome of ordering them
abbrev pub EndsInTurn : List ResolvedScope → TypeOwner → List TypeDef → List ScopeName → Outcome → (Id → Option Fault) → Type 0
EndsInTurn cs o old xs outcome handle = (order : List ℕ) → outcome ≡ InOrder order → AreDistinct xs → EndsAlong cs o old [] (in_turn xs order) handle

-- by each such test a call finds their first fault
abbrev pub FindsDefinitions : {T : Type 0} → Scope → List TypeDef → List ScopeName → Result T ParseError → Type 0
FindsDefinitions a old ds r = (cs : List ResolvedScope) (handle : Id → Option Fault) → EndsAlong cs a.owner old a.names ds handle → Finds (first_in (definition_fault handle) ds) r

-- of the names of a scope, where this is the outcome of ordering them: two are spelled alike, or there is no order, or a definition
abbrev pub ordered_fault : List ScopeName → Outcome → (Id → Option Fault) → Option Fault
ordered_fault xs outcome handle = option_or (local_names_fault (map local_id (used xs ++ defined xs))) (option_or (order_fault missing_type_at (cyclic_at 16 type_word) outcome) (first_in (definition_fault handle) (defined (in_order xs (order_of outcome)))))

abbrev pub FindsOrdered : {T : Type 0} → Scope → List TypeDef → List ScopeName → Result T ParseError → Type 0
FindsOrdered a old xs r = (outcome : Outcome) → IsOutcome (rows_of xs) outcome → (cs : List ResolvedScope) (handle : Id → Option Fault) → ((order : List ℕ) → outcome ≡ InOrder order → AreDistinct xs → EndsAlong cs a.owner old a.names (defined (in_order xs order)) handle) → Finds (ordered_fault xs outcome handle) r

-- of borrowed names: first the used ones
abbrev pub names_fault : Interfaces → List Borrowed → Outcome → (Id → Option Fault) → Option Fault
names_fault is names outcome handle = option_or (first_after (local_fault is) [] (flat_map own_use names)) (ordered_fault (map name_view names) outcome handle)

-- what a call finds of them, after another fault
abbrev pub FindsNames : {T : Type 0} → Option Fault → Interfaces → TypeOwner → List TypeDef → List Borrowed → Result T ParseError → Type 0
FindsNames before is o old names r = (outcome : Outcome) → IsOutcome (rows_of (map name_view names)) outcome → (handle : Id → Option Fault) → EndsInTurn (resolved_scopes_of is) o old (map name_view names) outcome handle → Finds (option_or before (names_fault is names outcome handle)) r

-- of the attributes of an item that say how stable it is
abbrev pub item_stability : Item → Option Fault
item_stability i = stability_fault (about i.declared).attributes

-- the first fault of the names of a scope in turn, and then of its functions, where nothing else is on its sides
abbrev pub functions_fault : List ScopeName → List Id → List SourceFunction → (Id → Option Fault) → Option Fault
functions_fault xs ids fns handle = option_or (defined_fault [] (map name_of_id ids)) (alone_faults (word_fault xs) handle xs (λ side. names_on side (map name_of_id ids)) fns)
