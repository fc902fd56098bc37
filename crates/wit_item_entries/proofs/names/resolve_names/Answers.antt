use Rattle.std.proofs.Common.{◌≡◌, [], None, map, subst, sym, ap, ◌∙◌}
use Rattle.wit_items.proofs.Common.{Address, Defines, TypeOwner, err_from_is_err_and, first_after, flat_map, local_names, name_view, none_both, own_use, prefix_of, reports_back, reports_prefix, reports_same, resolved_scopes_of, use_view, used, uses_viewed}
use Rattle.wit_entries.proofs.Requiring.{extended_then}
use Rattle.wit_scopes.proofs.Placed.{uses_placed}
use Rattle.wit_item_entries.specs.ReachedFaults.{local_fault}
use Rattle.wit_item_entries.proofs.ReachedFaults.{after_uses, turn_named}
use Rattle.wit_item_entries.specs.AddedNames.{AddsTurn}
use Rattle.wit_item_entries.proofs.names.resolve_names.Goals as goal

pub resolve_uses-requires-clause-placed : goal.resolve_uses-requires-clause-placed
resolve_uses-requires-clause-placed c = rw (c.deref.ensures.value, c.in_ok-uses.ensures) (uses_placed (prefix_of c.args.interfaces.now.files) c.args.names.now c.requires.placed)

pub returns-in_err-resolve_uses-clause-first : goal.returns-in_err-resolve_uses-clause-first
returns-in_err-resolve_uses-clause-first c =
    let p = err_from_is_err_and c.from_residual-in_err-resolve_uses.result c.from_residual-in_err-resolve_uses.ensures.1 in
    rw (p.1, p.2) (λ outcome right handle along. reports_prefix _ (reports_same (ap (first_after (local_fault c.args.interfaces.now) []) (c.deref.ensures.value ∙ c.in_ok-uses.ensures)) c.in_err-resolve_uses.ensures.first))

pub resolve_types-requires-clause-uses : goal.resolve_types-requires-clause-uses
resolve_types-requires-clause-uses c = ap (map use_view) (c.deref-2.ensures.value ∙ c.in_ok-uses.ensures) ∙ uses_viewed c.args.names.now

pub resolve_types-requires-clause-listed : goal.resolve_types-requires-clause-listed
resolve_types-requires-clause-listed c =
    let names : map use_view c.deref.result.now ≡ used (map name_view c.args.names.now) = ap (map use_view) (c.deref.ensures.value ∙ c.in_ok-uses.ensures) ∙ uses_viewed c.args.names.now in
    c.in_ok-resolve_uses.ensures.listed ∙ ap local_names names

pub returns-clause-adds : goal.returns-clause-adds
returns-clause-adds c =
    let cs = resolved_scopes_of c.args.interfaces.now in
    let o = c.args.owner in
    let xs = map name_view c.args.names.now in
    let names : map use_view c.deref.result.now ≡ used xs = ap (map use_view) (c.deref.ensures.value ∙ c.in_ok-uses.ensures) ∙ uses_viewed c.args.names.now in
    let scope = c.resolve_uses.new.scope in
    let uses : (s : Address) → Defines c.args.types.now c.resolve_uses.new.types cs o s [] scope.names (used xs) = rw (names, c.in_ok-with_capacity.ensures) at c.in_ok-resolve_uses.ensures.defines in
    let none : scope.required.items ≡ [] = ap (λ rs. rs.items) c.in_ok-resolve_uses.ensures.required ∙ c.new.ensures.items in
    let rest : ((s : Address) → Defines c.args.types.now c.resolve_uses.new.types cs o s [] scope.names (used xs)) → scope.required.items ≡ [] → AddsTurn c.args.types.now c.resolve_types.new.types cs o xs c.resolve_types.new.scope.names c.in_ok-turn.turn.items c.resolve_types.new.scope.required.items = rw c.in_ok-resolve_uses.ensures.owner at (c.in_ok-turn.ensures.defines c.args.types.now cs) in
    rest uses none

pub returns-clause-extended : goal.returns-clause-extended
returns-clause-extended c = extended_then c.args.types.now c.resolve_uses.new.types c.resolve_types.new.types c.in_ok-resolve_uses.ensures.extended c.in_ok-turn.ensures.extended

pub invariant_of-result : goal.invariant_of-result
invariant_of-result c =
    let cs = resolved_scopes_of c.args.interfaces.now in
    let xs = map name_view c.args.names.now in
    let names : map use_view c.deref.result.now ≡ used xs = ap (map use_view) (c.deref.ensures.value ∙ c.in_ok-uses.ensures) ∙ uses_viewed c.args.names.now in
    let scope = c.resolve_uses.new.scope in
    let uses : (s : Address) → Defines c.args.types.now c.resolve_uses.new.types cs c.args.owner s [] scope.names (used xs) = rw (names, c.in_ok-with_capacity.ensures) at c.in_ok-resolve_uses.ensures.defines in
    let owned = subst (λ (o : TypeOwner). (s : Address) → Defines c.args.types.now c.resolve_uses.new.types cs o s [] scope.names (used xs)) (sym c.in_ok-resolve_uses.ensures.owner) uses in
    let turn = c.in_ok-turn.ensures.defines c.args.types.now cs owned (ap (λ rs. rs.items) c.in_ok-resolve_uses.ensures.required ∙ c.new.ensures.items) in
    record { listed = turn_named _ _ _ _ xs _ _ _ turn }

pub returns-in_err-turn-clause-first : goal.returns-in_err-turn-clause-first
returns-in_err-turn-clause-first c =
    let p = err_from_is_err_and c.from_residual-in_err-turn.result c.from_residual-in_err-turn.ensures.1 in
    let is = c.args.interfaces.now in
    let cs = resolved_scopes_of is in
    let o = c.args.owner in
    let old = c.args.types.now in
    let xs = map name_view c.args.names.now in
    let names : map use_view c.deref.result.now ≡ used xs = ap (map use_view) (c.deref.ensures.value ∙ c.in_ok-uses.ensures) ∙ uses_viewed c.args.names.now in
    let first = c.resolve_uses.new.types in
    let scope = c.resolve_uses.new.scope in
    let uses : (s : Address) → Defines old first cs o s [] scope.names (used xs) = rw (names, c.in_ok-with_capacity.ensures) at c.in_ok-resolve_uses.ensures.defines in
    let none : first_after (local_fault is) [] (flat_map own_use c.args.names.now) ≡ None = ap (first_after (local_fault is) []) (sym (c.deref.ensures.value ∙ c.in_ok-uses.ensures)) ∙ c.in_ok-resolve_uses.ensures.first in
    rw (p.1, p.2) (λ outcome right handle along. reports_back none (c.in_err-turn.ensures.first outcome right cs handle (after_uses cs o scope old first xs outcome handle c.in_ok-resolve_uses.ensures.owner uses along)))

pub returns-clause-first : goal.returns-clause-first
returns-clause-first c = λ outcome right handle along.
    let is = c.args.interfaces.now in
    let cs = resolved_scopes_of is in
    let xs = map name_view c.args.names.now in
    let names : map use_view c.deref.result.now ≡ used xs = ap (map use_view) (c.deref.ensures.value ∙ c.in_ok-uses.ensures) ∙ uses_viewed c.args.names.now in
    let scope = c.resolve_uses.new.scope in
    let uses : (s : Address) → Defines c.args.types.now c.resolve_uses.new.types cs c.args.owner s [] scope.names (used xs) = rw (names, c.in_ok-with_capacity.ensures) at c.in_ok-resolve_uses.ensures.defines in
    let none : first_after (local_fault is) [] (flat_map own_use c.args.names.now) ≡ None = ap (first_after (local_fault is) []) (sym (c.deref.ensures.value ∙ c.in_ok-uses.ensures)) ∙ c.in_ok-resolve_uses.ensures.first in
    none_both none (c.in_ok-turn.ensures.first outcome right cs handle (after_uses cs c.args.owner scope c.args.types.now c.resolve_uses.new.types xs outcome handle c.in_ok-resolve_uses.ensures.owner uses along))
