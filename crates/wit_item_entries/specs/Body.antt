-- What the names and the functions of an item add: the same of an interface and of a world.
use Rattle.std.specs.Prelude.{◌≡◌, List, Vec, map, ◌++◌}
use Rattle.wit_arena.specs.Common.{AddsFunctions, AddsScope, AreEnded, Function, Global, Id, Item, Names, Required, ResolvedScope, TypeDef, TypeOwner, address, all_handles, env_of, functions, in_turn, local_id, scope_names, side_items, AllDiffer, WorldSide, flat_map, items_on, names_on}
use Rattle.wit_arena.specs.Names.{all_types}
use Rattle.wit_signatures.specs.FunctionsOfScope.{name_of_function, name_of_made, name_key, name_of_id}
use Rattle.wit_externs.specs.Clash.{item_names}
use Rattle.wit_item_entries.specs.AddedNames.{AddsTurn}
use Rattle.wit_item_entries.specs.declared.names.ResolvedNames.{ResolvedNames}

-- the names of an item were added, which are these in turn, and after them its functions
pub record AddsBody (old new : List TypeDef) (cs : List ResolvedScope) (o : TypeOwner) (item : Item) (types : Names) (ids : List Id) (fs : List Function) (rs : List Required) : Type 0 where
  pub middle : List TypeDef
  pub adds : AddsScope old middle cs o (scope_names item) types
  pub turn : ids ≡ map local_id (in_turn (scope_names item) adds.order)
  pub makes : AddsFunctions middle new (address item) types (functions item) fs
  pub ended : AreEnded (env_of types) new (all_handles (all_types (in_turn (scope_names item) adds.order) (functions item))) rs
  pub named : map name_of_made fs ≡ map name_of_function (functions item)
  pub differ : (side : WorldSide) → AllDiffer (map name_key (names_on side (map name_of_id ids) ++ flat_map item_names (items_on side (side_items item))))

-- the names of an item were added, which are these, and then these types
abbrev pub HasTurn : ResolvedNames → List TypeDef → Item → List TypeDef → List ResolvedScope → TypeOwner → Type 0
HasTurn n now i old cs o = AddsTurn old now cs o (scope_names i) n.types n.turn.items n.required.items

-- after the names of an item, these in turn, its functions were added
abbrev pub AddsMade : Names → List Id → List TypeDef → List TypeDef → Item → List Function → Vec Required Global → Vec Required Global → Type 0
AddsMade types ids now new i fs before after = (old : List TypeDef) (cs : List ResolvedScope) (o : TypeOwner) → AddsTurn old now cs o (scope_names i) types ids before.items → AddsBody old new cs o i types ids fs after.items
