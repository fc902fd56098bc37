use Rattle.std.proofs.Common.{◌≡◌, [], None, map, take}
use Rattle.wit_items.proofs.Common.{Address, Defines, first_after, local_names, resolved_scopes_of, use_view}
use Rattle.wit_entries.specs.EntryFaults.{IsExtended}
use Rattle.wit_item_entries.specs.ReachedFaults.{local_fault}
use Rattle.wit_item_entries.proofs.uses.resolve_uses.Given as goal

abbrev pub invariant-loop-name : goal.invariant-loop-name
invariant-loop-name l = record {
  defines : (s : Address) → Defines l.fn.types l.types (resolved_scopes_of l.interfaces) l.fn.scope.owner s l.fn.scope.names l.scope.names (take l.name-index (map use_view l.uses));
  owner : l.scope.owner ≡ l.fn.scope.owner;
  required : l.scope.required ≡ l.fn.scope.required;
  listed : map (λ p. p.0) l.scope.names ≡ local_names (take l.name-index (map use_view l.uses));
  first : first_after (local_fault l.interfaces) [] (take l.name-index l.uses) ≡ None;
  extended : IsExtended l.fn.types l.types;
}
