-- What an interface adds to the arenas, and its first fault, by the interfaces that are resolved and by where its names end.
use Rattle.std.specs.Prelude.{◌≡◌, ℕ, List, map, Option, Result, false, length}
use Rattle.wit_contents.specs.Names.{AddsBody, AddsInterface, Appends, EndsInTurn, Fault, Function, Growing, HasTurn, Id, Interface, Interfaces, IsExtended, Item, ItemScope, PackageFile, ParseError, ResolvedNames, ResolvedScope, ScopeName, TypeDef, TypeOwner, functions, in_turn, is_world, item_stability, local_id, lone_setters, names_fault, option_or, prefix_of, resolved_scopes_of, rows_of, scope_item, scope_names}
use Rattle.wit_contents.specs.Making.{PutsInterface}
use Rattle.wit_contents.specs.declared.making.Making.{Making}
use Rattle.wit_arena.specs.SourceFunctions.{placed_functions}
use Rattle.wit_types.specs.declared.types.TypeOwner.TheVariants as owner
use Rattle.wit_first.specs.First.{Finds}
use Rattle.wit_walk.specs.Orders.{Outcome, IsOutcome, order_of}
use Rattle.wit_scopes.specs.BorrowedNames.{name_view, AreNamesPlaced}
use Rattle.wit_item_entries.specs.ReachedFaults.{functions_fault}

-- after the names of an item, which stay, its functions were added, which are at these names
pub record AddsTable (n n' : ResolvedNames) (now new : List TypeDef) (i : Item) (table : List (List ℕ × Function)) : Type 0 where
  pub types : n'.types ≡ n.types
  pub functions : (old : List TypeDef) (cs : List ResolvedScope) (o : TypeOwner) → HasTurn n now i old cs o → (fs : List Function) × AddsBody old new cs o i n.types n.turn.items fs n'.required.items × (table ≡ placed_functions fs)

-- an interface, at a place
pub record AddsAt (is : Interfaces) (place : ℕ) (a b : Growing) (i : Item) (added : Interface) : Type 0 where
  pub appends : Appends a.required.items b.required.items (λ rs. AddsInterface (resolved_scopes_of is) place a.types b.types added rs i)
  pub extended : IsExtended a.types b.types

-- a declared interface was added after those before it, and none that is written in a world
pub record AddsDeclared (a b : Making) (i : Item) : Type 0 where
  pub added : Interface
  pub puts : PutsInterface a.resolved b.resolved added
  pub adds : AddsAt a.resolved.interfaces (length a.resolved.interfaces.arena) a.growing b.growing i added
  pub inside : b.growing.inside ≡ a.growing.inside

-- the names of an item that is borrowed
abbrev pub names_of : ItemScope → List ScopeName
names_of i = map name_view i.names.now

-- of what comes after its names, which are these in turn: its functions, and then a setter without its getter
abbrev pub rest_fault : ItemScope → List Id → (Id → Option Fault) → Option Fault
rest_fault i ids handle = option_or (functions_fault (names_of i) ids (functions (scope_item i)) handle) (lone_setters (functions (scope_item i)))

-- of it: of what comes up to them, and then of that
abbrev pub interface_fault : Interfaces → ItemScope → Outcome → (Id → Option Fault) → Option Fault
interface_fault is i outcome handle = option_or (option_or (item_stability (scope_item i)) (names_fault is i.names.now outcome handle)) (rest_fault i (map local_id (in_turn (names_of i) (order_of outcome))) handle)

-- a call finds it, by each test of names in handles that is right of the arena
abbrev pub FindsInterface : {T : Type 0} → Interfaces → ℕ → List TypeDef → ItemScope → Result T ParseError → Type 0
FindsInterface is place old i r = (outcome : Outcome) → IsOutcome (rows_of (names_of i)) outcome → (handle : Id → Option Fault) → EndsInTurn (resolved_scopes_of is) (owner.Interface place) old (names_of i) outcome handle → Finds (interface_fault is i outcome handle) r

-- an interface as it is lent, with its names
pub record IsLent (s : ItemScope) (files : List PackageFile) (w : Item) : Type 0 where
  pub sort : is_world w ≡ false
  pub item : scope_item s ≡ w
  pub named : names_of s ≡ scope_names w
  pub placed : AreNamesPlaced (prefix_of files) s.names.now

-- a test of items says of an interface at a place what is found of it by such a test of names in handles, where these are resolved
pub record IsRightOf (wrong : Item → Option Fault) (is : Interfaces) (old : List TypeDef) (place : ℕ) (w : Item) : Type 0 where
  pub outcome : Outcome
  pub handle : Id → Option Fault
  pub right : IsOutcome (rows_of (scope_names w)) outcome
  pub ends : EndsInTurn (resolved_scopes_of is) (owner.Interface place) old (scope_names w) outcome handle
  pub says : (s : ItemScope) → IsLent s is.files w → wrong w ≡ interface_fault is s outcome handle

-- a call finds what each such test says
abbrev pub FindsOne : {T : Type 0} → Making → Item → Result T ParseError → Type 0
FindsOne m w r = (wrong : Item → Option Fault) → IsRightOf wrong m.resolved.interfaces m.growing.types (length m.resolved.interfaces.arena) w → Finds (wrong w) r
