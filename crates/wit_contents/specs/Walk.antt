-- What the imports and exports of a world add, one after another after its names, and their first fault.
use Rattle.std.specs.Prelude.{◌≡◌, ◌+◌, ◌++◌, ◌∷◌, [], ℕ, Bool, Contains, List, Option, length, map, nat_eq, slice_get, Some, true, None, Result}
use Rattle.wit_contents.specs.Names.{Address, AddsSides, Appends, BorrowedItem, EndsIn, Fault, Function, Growing, Id, Interface, Interfaces, IsExtended, Item, Link, ParseError, ScopeName, SideFunction, SideInline, SideItem, SideLink, TypeDef, UsePath, WorldSide, address, entries_of, env_of, flat_map, functions as the_functions, includes, inline_after, interfaces_at, item_function, item_view, items_on, linked_fault, local_id, name_of_id, names_on, none_of, option_map_or, option_or, part_items, path_place, prefix_of, resolved_scopes_of, scope_names, side_items, signed_by, type_imports, world_part}
use Rattle.wit_syntax.specs.Sides.{members_after}
use Rattle.wit_arena.specs.Made.{entries_on, function_in, member_entries, scope_place}
use Rattle.wit_arena.specs.Occurrences.{Key}
use Rattle.wit_arena.specs.Resolving.{GivesPlaces}
use Rattle.wit_arena.specs.SourceFunctions.{inline_entry}
use Rattle.wit_tree.specs.declared.tree.WorldItem.{WorldItem}
use Rattle.wit_walk.specs.Sorts.{item_sorted}
use Rattle.wit_sides.specs.SideNames.{defined_on}
use Rattle.wit_rules.specs.Signatures.{function_view, AreResults}
use Rattle.wit_externs.specs.Clash.{linked_on, bare_place, item_names}
use Rattle.wit_world_sides.specs.Members.{AreKeyed, Entry, PutsOn, sorted_on, put_fault, put_link_fault}
use Rattle.wit_links.specs.Links.{IsSeen, inline_side, seen_on}
use Rattle.wit_items.specs.BorrowedItems.{Inside, inside_of}
use Rattle.wit_items.specs.declared.items.InlineInterface.{InlineInterface}
use Rattle.wit_item_entries.specs.AddedNames.{IsTurn}
use Rattle.wit_contents.specs.Making.{IsItemIn}
use Rattle.wit_contents.specs.Interfaces.{AddsAt, IsRightOf}
use Rattle.wit_contents.specs.declared.walk.Walked.{Walked}
use Rattle.wit_contents.specs.declared.walk.WorldScope.{WorldScope}
use Rattle.wit_first.specs.AttributeFaults.{metadata_fault}
use Rattle.wit_first.specs.First.{Finds, first_after}
use Rattle.wit_walk.specs.Functions.{function_fault, word_fault}

-- whether a part of a world puts nothing on its sides, after the names of its types
abbrev pub puts_nothing : WorldItem → Bool
puts_nothing x = nat_eq (length (part_items (world_part x))) 0

-- an item, what its functions are read in, and the interfaces that are resolved
pub record ItemWalk : Type 0 where
  pub item : BorrowedItem
  pub scope : WorldScope
  pub interfaces : Interfaces

abbrev pub walk_of : BorrowedItem → WorldScope → ItemWalk
walk_of i s = record { item = i; scope = s; interfaces = s.resolved.now.interfaces }

-- the place of the interface that a path of it leads to
abbrev pub lead : ItemWalk → UsePath → Option ℕ
lead w = path_place w.interfaces.files w.interfaces.by_name (item_view w.item).top

-- the first place of an inline interface after so many
abbrev pub next_place : Interfaces → List Interface → ℕ
next_place is inside = length is.arena + length inside

-- this walk is that of one, with its names in turn, its functions, and its definitions that are written as results
pub record IsWalk (w : ItemWalk) : Type 0 where
  pub world : IsItemIn w.interfaces true w.item
  pub functions : map function_view w.scope.functions.items ≡ the_functions (item_view w.item)
  pub results : AreResults w.scope.results (scope_names (item_view w.item))
  pub turn : IsTurn (scope_names (item_view w.item)) w.scope.names.turn.items
  pub closed : w.scope.closed ≡ none_of (includes (item_view w.item))

-- what grows, and what is on the sides so far
pub record Stage : Type 0 where
  pub growing : Growing
  pub walked : Walked

abbrev pub stage : Growing → Walked → Stage
stage growing walked = record { growing = growing; walked = walked }

-- these come next of what is on the sides
pub record IsNext (w : ItemWalk) (xs : List SideItem) (m : Walked) : Type 0 where
  pub walk : IsWalk w
  pub prefix : List SideItem
  pub rest : List SideItem
  pub sides : side_items (item_view w.item) ≡ prefix ++ (xs ++ rest)
  pub seen : IsSeen prefix m.seen
  pub keyed : AreKeyed m.members

-- an inline interface of an item is the next of its side
abbrev pub IsInsideNext : BorrowedItem → Inside → Walked → Type 0
IsInsideNext i x m = slice_get (inside_of x.inline.written.now.side i) (seen_on x.inline.written.now.side m.seen) ≡ Some x

-- it is put on its side, with its place
abbrev pub PutsInline : Walked → Walked → InlineInterface → ℕ → Type 0
PutsInline old new x id = PutsOn old.members new.members (inline_side x) (inline_entry x.written.now x.name id)

-- of its attributes, and then of where it is put
abbrev pub inline_fault : Walked → InlineInterface → Option Fault
inline_fault m x = option_or (metadata_fault x.written.now.attributes.items) (put_fault m.members (inline_side x))

-- the interfaces that are resolved have their places, and these inline ones come from the next place on
pub record HavePlaces (w : ItemWalk) (inside : List Interface) (us : List Item) (ss : List Address) : Type 0 where
  pub interfaces : GivesPlaces (scope_place ss) (interfaces_at (prefix_of w.interfaces.files) w.interfaces.arena)
  pub inline : (k : ℕ) (s : Address) → slice_get (map address us) k ≡ Some s → scope_place ss s ≡ next_place w.interfaces inside + k

-- what these are on sides after a prefix, over the places of what occurs, where the interfaces have these addresses
abbrev pub next_entries : (Key → ℕ) → List Address → Item → List SideItem → List SideItem → List (WorldSide × Entry)
next_entries id ss i prefix xs = flat_map (λ m. member_entries (function_in id (address i)) ss i.top m.0 m.1) (members_after i prefix xs)

-- after a prefix, these were resolved, and put on their sides
pub record AddsMembers (w : ItemWalk) (prefix xs : List SideItem) (a b : Stage) : Type 0 where
  pub functions : List Function
  pub adds : Appends a.growing.required.items b.growing.required.items (λ rs. (s : Address) → AddsSides (resolved_scopes_of w.interfaces) (length w.interfaces.arena) s w.scope.names.types a.growing.types b.growing.types a.growing.inside b.growing.inside functions rs xs (inline_after (item_view w.item) prefix xs))
  pub extended : IsExtended a.growing.types b.growing.types
  pub seen : (ys : List SideItem) → IsSeen ys a.walked.seen → IsSeen (ys ++ xs) b.walked.seen
  pub in_use : (s : WorldSide) → defined_on s b.walked.members.in_use ≡ defined_on s a.walked.members.in_use ++ flat_map item_names (items_on s xs)
  pub linked : (s : WorldSide) → linked_on s b.walked.members.links ≡ linked_on s a.walked.members.links ++ flat_map (bare_place (lead w)) (items_on s xs)
  pub sorted : (s : WorldSide) → sorted_on s b.walked.members.sides ≡ sorted_on s a.walked.members.sides ++ flat_map item_sorted (items_on s xs)
  pub keyed : AreKeyed b.walked.members
  pub are_present : (id : Key → ℕ) → functions ≡ map (function_in id (address (item_view w.item))) (flat_map item_function xs) → (ss : List Address) → HavePlaces w a.growing.inside (inline_after (item_view w.item) prefix xs) ss → (s : WorldSide) → entries_of s b.walked.members.sides ≡ entries_of s a.walked.members.sides ++ entries_on s (next_entries id ss (item_view w.item) prefix xs)
  pub leads : (link : Link) → Contains xs (SideLink link) → (id : ℕ) × (lead w link.path ≡ Some id)

-- the next of what is on the sides are added
abbrev pub AddsItems : BorrowedItem → WorldScope → List SideItem → Growing → Walked → Growing → Walked → Type 0
AddsItems i w xs old a new b = (n : IsNext (walk_of i w) xs a) → AddsMembers (walk_of i w) n.prefix xs (stage old a) (stage new b)

-- at first the names of the scope are imported, and nothing is exported
pub record IsStart (w : ItemWalk) (m : Walked) : Type 0 where
  pub seen : IsSeen [] m.seen
  pub keyed : AreKeyed m.members
  pub in_use : (s : WorldSide) → defined_on s m.members.in_use ≡ names_on s (map name_of_id w.scope.names.turn.items)
  pub linked : (s : WorldSide) → linked_on s m.members.links ≡ []
  pub imports : (xs : List ScopeName) → w.scope.names.turn.items ≡ map local_id xs → m.members.sides.imports ≡ type_imports xs w.scope.names.types
  pub exports : m.members.sides.exports ≡ []

-- all of what is on its sides was added, after its names
abbrev pub AddsSidesOf : BorrowedItem → WorldScope → Growing → Growing → Walked → Type 0
AddsSidesOf i s a b m = (start : Walked) × IsStart (walk_of i s) start × AddsMembers (walk_of i s) [] (side_items (item_view i)) (stage a start) (stage b m)

-- an inline interface was added after those before it, which come after all declared ones
abbrev pub AddsInside : Interfaces → Growing → Growing → Item → Type 0
AddsInside is a b i = (added : Interface) × (b.inside ≡ a.inside ++ added ∷ []) × AddsAt is (next_place is a.inside) a b i added

-- This is the fault of the next one at a stage, and then of its name: of a function by a test of names in handles that is right of the arena
-- from there on, of an inline interface by a test of items.
abbrev pub IsRightMember : Option Fault → ItemWalk → List SideItem → SideItem → Stage → Type 0
IsRightMember first w before (SideFunction fn) a = (handle : Id → Option Fault) × ((more : List TypeDef) → EndsIn (env_of w.scope.names.types) (a.growing.types ++ more) handle) × (first ≡ option_or (function_fault (signed_by (word_fault (scope_names (item_view w.item))) handle (flat_map item_function before ++ fn ∷ [])) (scope_names (item_view w.item)) fn) (put_fault a.walked.members (SideFunction fn)))
IsRightMember first w before (SideLink link) a = first ≡ option_or (metadata_fault link.attributes) (option_or (linked_fault w.interfaces.files w.interfaces.by_name (item_view w.item).top link.path) (option_map_or (put_link_fault a.walked.members link) (lead w link.path) None))
IsRightMember first w before (SideInline x name items) a = (inner : Item → Option Fault) × ((u : Item) → inline_after (item_view w.item) before (SideInline x name items ∷ []) ≡ u ∷ []
    → IsRightOf inner w.interfaces a.growing.types (next_place w.interfaces a.growing.inside) u × (first ≡ option_or (inner u) (option_or (metadata_fault x.attributes.items) (put_fault a.walked.members (SideInline x name items)))))

-- so of each of them, once those before it are on their sides
abbrev pub AreRightMembers : (List SideItem → SideItem → Option Fault) → ItemWalk → List SideItem → List SideItem → Stage → Type 0
AreRightMembers wrong w prefix xs a = (done rest : List SideItem) (x : SideItem) (now : Stage) → xs ≡ done ++ (x ∷ rest) → AddsMembers w prefix done a now → IsRightMember (wrong (prefix ++ done) x) w (prefix ++ done) x now

-- a call finds what each such test says of the next ones
abbrev pub FindsMembers : {T : Type 0} → ItemWalk → List SideItem → Stage → Result T ParseError → Type 0
FindsMembers w xs a r = (n : IsNext w xs a.walked) (wrong : List SideItem → SideItem → Option Fault) → AreRightMembers wrong w n.prefix xs a → Finds (first_after wrong n.prefix xs) r
