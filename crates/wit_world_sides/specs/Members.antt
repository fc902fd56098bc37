-- What a world has on its sides, with the names and the interfaces there, while one after another is put there, and its first fault: E43, E44 and E17.
use Rattle.std.specs.Prelude.{◌≡◌, Bool, List, if◌then◌else◌, ℕ, true, false, [], ◌∷◌, Some, slice_get, ◌++◌, Option, codes, map, ◌&&◌, nat_eq, None, is_none}
use Rattle.wit_arena.specs.Common.{AllDiffer, Exported, Fault, Function, Id, Imported, Include, Link, SideItem, SideLink, WorldItem, WorldKey, WorldSide, extern_link, flat_map, function_of, insert_entry, item_side, items_on, link_item, linked_twice, list_any, option_or, path_id, put_on, same_side, settled, option_to_list}
use Rattle.wit_model.specs.contracts.world.WorldKeyPartialEq.TheImpl.{eq-value as key_test}
use Rattle.wit_world_sides.specs.declared.sides.WorldSides.{WorldSides}
use Rattle.wit_walk.specs.Members.{is_extern}
use Rattle.wit_walk.specs.Sorts.{Sorted, item_sorted, crossed_among}
use Rattle.wit_refusals.specs.NameScopes.{Name}
use Rattle.wit_sides.specs.SideNames.{defined_on}
use Rattle.wit_signatures.specs.FunctionsOfScope.{name_key, name_of_id}
use Rattle.wit_externs.specs.Clash.{item_names, linked_on, again_fault}
use Rattle.wit_world_sides.specs.declared.members.Members.{Members}
use Rattle.wit_world_sides.specs.declared.members.PathExtern.{PathExtern}
use Rattle.wit_first.specs.First.{first_in, repeat_of}
use Rattle.wit_sides.specs.declared.sides.Sides.{Sides}
use Rattle.wit_model.specs.declared.world.WorldKey.TheVariants as key
use Rattle.wit_model.specs.declared.world.WorldItem.TheVariants as item
use Rattle.wit_model.specs.ItemsOfWorlds.{name_of}

-- whether there is no include
abbrev pub none_of : List Include → Bool
none_of [] = true
none_of (i ∷ is) = false

-- what is on a side
abbrev pub entries_of : WorldSide → WorldSides → List (WorldKey × WorldItem)
entries_of Imported s = s.imports
entries_of Exported s = s.exports

-- what was on the sides of a world, of one that includes nothing with each setter after its getter
abbrev pub AreSettled : Bool → WorldSides → WorldSides → Type 0
AreSettled closed old new = (s : WorldSide) (is : List Include) → closed ≡ none_of is → entries_of s new ≡ settled is (entries_of s old)

-- what is on a side, once an entry is put on one
abbrev pub inserted_on : WorldSide → WorldSide → WorldKey × WorldItem → List (WorldKey × WorldItem) → List (WorldKey × WorldItem)
inserted_on side own x xs = if same_side side own then insert_entry key_test.it xs x.0 x.1 else xs

-- what is at a key of a side
abbrev pub Entry : Type 0
Entry = WorldKey × WorldItem

-- the word for an item
abbrev pub item_word : WorldItem → List ℕ
item_word (item.Interface id stability external_id docs span) = codes "interface"
item_word (item.Function f) = codes "func"
item_word (item.Type_ id span) = codes "type"

-- the name at a key, with the word for what is there
abbrev pub entry_sorted : Entry → List Sorted
entry_sorted e = map (λ name. (name, item_word e.1)) (option_to_list (name_of e.0))

abbrev pub sorted_on : WorldSide → WorldSides → List Sorted
sorted_on side sides = flat_map entry_sorted (entries_of side sides)

-- the place that a key is, if it is no name
abbrev pub key_places : WorldKey → List ℕ
key_places (key.Name n) = []
key_places (key.Interface i) = i ∷ []

-- the keys on each side are the names and the interfaces that are there, in order, of which no two are one; and functions are at
-- their names
pub record AreKeyed (m : Members) : Type 0 where
  pub names : (s : WorldSide) → flat_map (λ k. option_to_list (name_of k)) (map (λ e. e.0) (entries_of s m.sides)) ≡ map (λ n. n.0) (defined_on s m.in_use)
  pub places : (s : WorldSide) → flat_map key_places (map (λ e. e.0) (entries_of s m.sides)) ≡ linked_on s m.links
  pub differ : (s : WorldSide) → AllDiffer (map name_key (defined_on s m.in_use))
  pub apart : (s : WorldSide) → AllDiffer (linked_on s m.links)
  pub called : (s : WorldSide) (k : ℕ) (e : WorldKey × WorldItem) (f : Function) → slice_get (entries_of s m.sides) k ≡ Some e → function_of e.1 ≡ Some f → e.0 ≡ key.Name f.name

-- one more was put on its side, as this entry: its name is there, or else the place that is its key
pub record Puts (m m' : Members) (x : SideItem) (e : Entry) : Type 0 where
  pub in_use : (s : WorldSide) → defined_on s m'.in_use ≡ defined_on s m.in_use ++ flat_map item_names (items_on s (x ∷ []))
  pub linked : (s : WorldSide) → linked_on s m'.links ≡ linked_on s m.links ++ (if same_side s (item_side x) then key_places e.0 else [])
  pub put : (s : WorldSide) → entries_of s m'.sides ≡ entries_of s m.sides ++ put_on s (item_side x) e []
  pub sorted : entry_sorted e ≡ item_sorted x
  pub keyed : AreKeyed m'

-- so it was, where these keys are those there
abbrev pub PutsOn : Members → Members → SideItem → Entry → Type 0
PutsOn m m' x e = AreKeyed m → Puts m m' x e

-- it is an interface on this side, under this name
abbrev pub IsNamedOn : WorldSide → Id → SideItem → Type 0
IsNamedOn side name x = (item_side x ≡ side) × (item_names x ≡ name_of_id name ∷ []) × (item_sorted x ≡ (name.name.now, codes "interface") ∷ [])

-- the interface that is imported or exported by its path
abbrev pub path_link : PathExtern → Link
path_link p = extern_link p.written.now p.name p.path.now

-- an interface was put on its side by its path
abbrev pub PutsLink : Members → Members → PathExtern → ℕ → Type 0
PutsLink m m' p id = PutsOn m m' (SideLink (path_link p)) (link_item (path_link p) id)

-- of a name that is defined on a side after those there
abbrev pub side_fault : Sides → WorldSides → WorldSide → Bool → Name → Option Fault
side_fault names sides side extern n = option_or (if extern then repeat_of (λ (m : Name). m.0) (λ (m : Name). crossed_among side (sorted_on side sides) m.0 m.1) (defined_on side names) n else None) (again_fault (defined_on side names) n)

-- of the name of what is put on its side after those there, where it has one
abbrev pub clash_fault : Sides → WorldSides → SideItem → Option Fault
clash_fault names sides x = first_in (side_fault names sides (item_side x) (is_extern x)) (item_names x)

abbrev pub put_fault : Members → SideItem → Option Fault
put_fault m x = clash_fault m.in_use m.sides x

-- of an interface at a place that is put on its side
abbrev pub put_link_fault : Members → Link → ℕ → Option Fault
put_link_fault m link id = option_or (if is_none link.name && list_any (nat_eq id) (linked_on link.side m.links) then Some (linked_twice link.side (path_id link.path).span) else None) (put_fault m (SideLink link))
