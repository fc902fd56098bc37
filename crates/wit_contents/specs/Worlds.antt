-- What a world adds to the arenas, the walk of what it imports and exports, and its first fault.
use Rattle.std.specs.Prelude.{◌≡◌, List, ◌∷◌, [], ◌++◌, length, map, Option, Result}
use Rattle.wit_contents.specs.Names.{AddsScope, AddsWorld, Appends, BorrowedItem, Declared, EndsInTurn, Fault, Growing, Id, Item, ParseError, Resolved, ResolvedNames, TypeDef, World, WorldInclude, about, declared_metadata, defined_fault, in_turn, includes, item_stability, item_view, local_id, name_of_id, names_fault, option_or, others_of, prefix_of, resolved_scopes_of, rows_of, scope_names, side_items, SideItem}
use Rattle.wit_arena.specs.Made.{world}
use Rattle.wit_types.specs.declared.types.TypeOwner.TheVariants as owner
use Rattle.wit_arena.specs.Resolving.{AreIncludes}
use Rattle.wit_item_entries.specs.AddedNames.{AddsTurn}
use Rattle.wit_first.specs.First.{Finds, first_after}
use Rattle.wit_walk.specs.Orders.{IsOutcome, Outcome, order_of}
use Rattle.wit_walk.specs.Setters.{setters_fault}
use Rattle.wit_links.specs.Links.{addresses_of, includes_fault}
use Rattle.wit_contents.specs.Making.{PutsWorld}
use Rattle.wit_contents.specs.declared.making.Making.{Making}
use Rattle.wit_world_sides.specs.declared.sides.WorldSides.{WorldSides}
use Rattle.wit_contents.specs.declared.walk.Walked.{Walked}
use Rattle.wit_contents.specs.declared.walk.WorldScope.{WorldScope}
use Rattle.wit_contents.specs.Walk.{IsStart, IsWalk, ItemWalk, stage, AreRightMembers}

-- an item was added to the arenas, as a world
abbrev pub AddsTo : Resolved → BorrowedItem → Growing → Growing → World → Type 0
AddsTo r i a b added = Appends a.required.items b.required.items (λ rs. AddsWorld (prefix_of r.interfaces.files) (others_of r.interfaces.files) r.interfaces.arena a.types b.types r.worlds (r.worlds ++ added ∷ []) a.inside b.inside rs (item_view i))

-- and put after those before it
pub record AddsDeclaredWorld (a b : Making) (i : BorrowedItem) : Type 0 where
  pub added : World
  pub puts : PutsWorld a.resolved b.resolved added
  pub adds : AddsTo a.resolved i a.growing b.growing added

-- the names of a world that comes next were added
abbrev pub AddsNamesOf : Resolved → BorrowedItem → List TypeDef → List TypeDef → ResolvedNames → Type 0
AddsNamesOf r i old new n = AddsTurn old new (resolved_scopes_of r.interfaces) (owner.World (length r.worlds)) (scope_names (item_view i)) n.types n.turn.items n.required.items

-- a world is the one that is declared, with this on its sides and these includes
abbrev pub HasContent : Declared → WorldSides → List WorldInclude → World → Type 0
HasContent d sides includes w = w ≡ world (about d).id.name.now sides.imports sides.exports includes (declared_metadata d) (about d).id.span

-- where its names were added, a world was added that has this on its sides
abbrev pub AddsAfterNames : Resolved → BorrowedItem → ResolvedNames → Growing → Growing → WorldSides → Type 0
AddsAfterNames r i names mid b sides = (a : Growing) → AddsNamesOf r i a.types mid.types names → mid.required.items ≡ a.required.items ++ names.required.items → mid.inside ≡ a.inside → (found : List WorldInclude) → AreIncludes (addresses_of r) (item_view i) found
    → (added : World) → HasContent (item_view i).declared sides found added → AddsTo r i a b added

-- a test is right of the members of a world after its names
abbrev pub AreRightSides : (List SideItem → SideItem → Option Fault) → ItemWalk → Growing → Type 0
AreRightSides member w old = (start : Walked) → IsStart w start → AreRightMembers member w [] (side_items (item_view w.item)) (stage old start)

-- a call finds what each such test says of what comes after the names: E17 of these, the members, and E18
abbrev pub FindsSides : {T : Type 0} → ItemWalk → Growing → Result T ParseError → Type 0
FindsSides w old r = (member : List SideItem → SideItem → Option Fault) → AreRightSides member w old → Finds (option_or (defined_fault [] (map name_of_id w.scope.names.turn.items)) (option_or (first_after member [] (side_items (item_view w.item))) (setters_fault (item_view w.item)))) r

-- so of a world with these names, where each such test is right in all walks that have them
abbrev pub FindsAfterNames : {T : Type 0} → Resolved → BorrowedItem → ResolvedNames → Growing → Result T ParseError → Type 0
FindsAfterNames r i names old result = (member : List SideItem → SideItem → Option Fault) → ((s : WorldScope) → s.names.types ≡ names.types → IsWalk (record { item = i; scope = s; interfaces = r.interfaces }) → AreRightSides member (record { item = i; scope = s; interfaces = r.interfaces }) old) → Finds (option_or (defined_fault [] (map name_of_id names.turn.items)) (option_or (first_after member [] (side_items (item_view i))) (setters_fault (item_view i)))) result

-- A test of items says of a world that comes next what is found of it, by a test of names in handles that is right of the arena: its own
-- attributes, its names, its includes, E17 of the names, its members, and E18.
pub record IsRightOfWorld (wrong : Item → Option Fault) (r : Resolved) (old : Growing) (i : BorrowedItem) : Type 0 where
  pub outcome : Outcome
  pub handle : Id → Option Fault
  pub member : List SideItem → SideItem → Option Fault
  pub right : IsOutcome (rows_of (scope_names (item_view i))) outcome
  pub ends : EndsInTurn (resolved_scopes_of r.interfaces) (owner.World (length r.worlds)) old.types (scope_names (item_view i)) outcome handle
  pub says : wrong (item_view i) ≡ option_or (option_or (item_stability (item_view i)) (option_or (names_fault r.interfaces i.names.items outcome handle) (option_or (includes_fault r (item_view i)) (defined_fault [] (map name_of_id (map local_id (in_turn (scope_names (item_view i)) (order_of outcome)))))))) (option_or (first_after member [] (side_items (item_view i))) (setters_fault (item_view i)))
  pub members : (s : WorldScope) (g : Growing) → IsWalk (record { item = i; scope = s; interfaces = r.interfaces }) → g.inside ≡ old.inside → AddsScope old.types g.types (resolved_scopes_of r.interfaces) (owner.World (length r.worlds)) (scope_names (item_view i)) s.names.types
      → AreRightSides member (record { item = i; scope = s; interfaces = r.interfaces }) g

-- a call finds what it says
abbrev pub FindsWorld : {T : Type 0} → Resolved → Growing → BorrowedItem → Result T ParseError → Type 0
FindsWorld r old i result = (wrong : Item → Option Fault) → IsRightOfWorld wrong r old i → Finds (wrong (item_view i)) result
