use Rattle.std.proofs.Common.{◌≡◌, ◌++◌, List, Option, None, map, take}
use Rattle.wit_items.proofs.Common.{Address, Defines, Fault, HasNames, Id, ResolvedScope, ScopeName, all_handles, definition_fault, definition_view, env_of, first_in, flat_map, local_names, name_types, names_in}
use Rattle.wit_entries.specs.EntryFaults.{IsExtended, Requires}
use Rattle.wit_externs.specs.Clash.{IsSafe}
use Rattle.wit_item_entries.proofs.names.define_all.Given as goal

abbrev pub invariant-loop-definition : goal.invariant-loop-definition
invariant-loop-definition l = record {
  defines : (cs : List ResolvedScope) (s : Address) → Defines l.fn.types l.types cs l.fn.scope.owner s l.fn.scope.names l.scope.names (take l.definition-index (map definition_view l.definitions));
  owner : l.scope.owner ≡ l.fn.scope.owner;
  listed : names_in l.scope.names ≡ names_in l.fn.scope.names ++ local_names (take l.definition-index (map definition_view l.definitions));
  handled : Requires (env_of l.scope.names) l.types (all_handles (flat_map name_types (take l.definition-index (map definition_view l.definitions)))) l.fn.scope.required.items l.scope.required.items;
  first : (handle : Id → Option Fault) → IsSafe (env_of l.scope.names) l.types handle → first_in (definition_fault handle) (take l.definition-index (map definition_view l.definitions)) ≡ None;
  kept : (xs : List ScopeName) → HasNames (env_of l.fn.scope.names) xs → HasNames (env_of l.scope.names) xs;
  has : HasNames (env_of l.scope.names) (take l.definition-index (map definition_view l.definitions));
  extended : IsExtended l.fn.types l.types;
}
