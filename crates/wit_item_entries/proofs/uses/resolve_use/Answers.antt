use Rattle.std.proofs.Common.{◌≡◌, true, None, Some, inl, inr, refl, sym, ap, ◌∙◌, rules, ℕ, Option}
use Rattle.wit_items.proofs.Common.{Fault, Id, codes, defined_twice, env_of, err_from_is_err_and, free_functions, if◌then◌else◌, is_none, name_twice, option_and_then, option_map_or, reports_back, reports_prefix, reports_same, resolved_scope_at, slice_get, source_view, source_within, source_place}
use Rattle.std.specs.Prelude.{is_some}
use Rattle.wit_item_entries.specs.ReachedFaults.{lost_name, used_fault, spelled_fault}
use Rattle.wit_item_entries.proofs.ReachedFaults.{found_of, used_from}
use Rattle.wit_arena.proofs.Common.{used_adds, Interface}
use Rattle.wit_item_entries.proofs.uses.resolve_use.Goals as goal

pub returns-in_err-id-clause-first : goal.returns-in_err-id-clause-first
returns-in_err-id-clause-first c =
    let p = err_from_is_err_and c.from_residual.result c.from_residual.ensures.1 in
    let is = c.args.interfaces.now in
    let u = c.args.used.now in
    rw (p.1, p.2) (reports_prefix (spelled_fault c.args.scope.now.names u) (reports_prefix (option_map_or (λ (i : Interface). if is_none (env_of i.types u.name.now.name.name.now) then Some (lost_name (free_functions i) u.name.now.name) else None) (option_and_then (slice_get is.arena) (source_place is.by_name u.from)) None) c.in_err-id.ensures.first))

pub returns-in-None-clause-first : goal.returns-in-None-clause-first
returns-in-None-clause-first c =
    let is = c.args.interfaces.now in
    let u = c.args.used.now in
    let i = c.get-interface.result.now in
    let id = u.name.now.name in
    let free : env_of i.types id.name.now ≡ None = search rules in
    let at : option_and_then (slice_get is.arena) (source_place is.by_name u.from) ≡ Some i = ap (option_and_then (slice_get is.arena)) c.in_ok-id.ensures.id ∙ c.get-interface.ensures in
    let lost : used_fault is u ≡ Some (lost_name (free_functions i) id) = used_from is u i c.in_ok-id.ensures.first at ∙ ap (λ (o : Option ℕ). if is_none o then Some (lost_name (free_functions i) id) else None) free in
    reports_prefix (spelled_fault c.args.scope.now.names u) (reports_same (sym lost) c.refuse_used.ensures)

pub returns-then-is_some-clause-first : goal.returns-then-is_some-clause-first
returns-then-is_some-clause-first c =
    let is = c.args.interfaces.now in
    let names = c.args.scope.now.names in
    let u = c.args.used.now in
    let i = c.get-interface.result.now in
    let id = u.name.now.name in
    let local = c.local_of-local.result in
    let found : env_of i.types id.name.now ≡ Some c.in-Some.original.now = search rules in
    let at : option_and_then (slice_get is.arena) (source_place is.by_name u.from) ≡ Some i = ap (option_and_then (slice_get is.arena)) c.in_ok-id.ensures.id ∙ c.get-interface.ensures in
    let right : used_fault is u ≡ None = used_from is u i c.in_ok-id.ensures.first at ∙ ap (λ (o : Option ℕ). if is_none o then Some (lost_name (free_functions i) id) else None) found in
    let here : is_some (env_of names local.name.now) ≡ true = search rules in
    let spelled : Id → Option Fault = λ id. if is_some (env_of names id.name.now) then Some (name_twice id) else None in
    let twice : spelled local ≡ Some (name_twice local) = rw here refl in
    elim (c.refuse_in.ensures (defined_twice (codes "name") local.name.now) c.defined_twice.ensures) [
      | inl memory ↦ inl memory
      | inr says ↦ reports_back right (inr (ap spelled (sym c.local_of-local.ensures) ∙ twice ∙ ap Some (sym says)))
    ]

pub get-interface-requires : goal.get-interface-requires
get-interface-requires c = source_within c.args.interfaces.now c.args.used.now.from c.in_ok-id.id c.requires.placed c.in_ok-id.ensures.id

pub returns-clause-used : goal.returns-clause-used
returns-clause-used c =
    let is = c.args.interfaces.now in
    let u = c.args.used.now in
    let i = c.get-interface.result.now in
    used_adds (record {
      target = resolved_scope_at (source_view u.from) i;
      found = found_of is u.from i c.requires.placed (ap (option_and_then (slice_get is.arena)) c.in_ok-id.ensures.id ∙ c.get-interface.ensures);
      id = c.in-Some.original.now;
      present = search rules;
      free = search rules;
      added = search rules;
    })
