use Rattle.std.proofs.Common.{◌≡◌, ◌+◌, ◌++◌, ◌∷◌, [], take, Some, refl, ap, sym, ◌∙◌, subst, arith, List, ℕ}
use Rattle.wit_items.proofs.Common.{Defines, TypeOwner, Used, after-next, defines_more, err_from_is_err_and, first_after, length-map, local_names, map, read_map, reports-after, reports_same, resolved_scopes_of, slice_get, slice_get_read, source_view, take-map, take_all, take_next, use_view, local_name, map-append}
use Rattle.wit_entries.proofs.Requiring.{extended_then}
use Rattle.wit_item_entries.specs.ReachedFaults.{local_fault}
use Rattle.wit_item_entries.proofs.ReachedFaults.{local_next}
use Rattle.wit_item_entries.proofs.uses.resolve_uses.Goals as goal

pub resolve_use-requires : goal.resolve_use-requires
resolve_use-requires c =
    let uses = c.args.uses.now in
    let i = c.loop-name.name-index in
    let u = c.name-item.result in
    record { placed = c.requires.placed i u (slice_get_read uses _ i u refl c.loop-name-test.true c.name-item.is) }

pub returns-in_err-resolve_use-clause-first : goal.returns-in_err-resolve_use-clause-first
returns-in_err-resolve_use-clause-first c =
    let p = err_from_is_err_and c.from_residual.result c.from_residual.ensures.1 in
    let is = c.args.interfaces.now in
    let uses = c.args.uses.now in
    let i = c.loop-name.name-index in
    let u = c.name-item.result in
    let at : slice_get uses i ≡ Some u = slice_get_read uses _ i u refl c.loop-name-test.true c.name-item.is in
    let own = local_next is c.loop-name.scope.names (take i uses) u (c.loop-name.invariant.listed ∙ ap local_names (take-map use_view i uses)) in
    rw (p.1, p.2) (reports-after (local_fault is) uses i u _ at c.loop-name.invariant.first (reports_same (sym own) c.in_err-resolve_use.ensures.first))

pub loop-name-preserved : goal.loop-name-preserved
loop-name-preserved c =
    let us = map use_view c.args.uses.now in
    let i = c.loop-name.name-index in
    let from = source_view c.name-item.result.from in
    let attributes = c.name-item.result.attributes.now in
    let n = c.name-item.result.name.now in
    let cs = resolved_scopes_of c.args.interfaces.now in
    let o = c.args.scope.now.owner in
    let at : slice_get us i ≡ Some (Used from attributes n) = read_map use_view c.args.uses.now i c.name-item.result c.loop-name-test.true c.name-item.is in
    let more : take (i + 1) us ≡ take i us ++ Used from attributes n ∷ [] = take_next us i (Used from attributes n) at in
    let old = c.loop-name.scope.names in
    let new = c.resolve_use.new.scope.names in
    let e = c.in_ok-resolve_use.ensures in
    record {
      defines = λ s. rw more (defines_more c.args.types.now c.loop-name.types c.resolve_use.new.types cs o s c.args.scope.now.names old new (take i us) (Used from attributes n ∷ []) (c.loop-name.invariant.defines s) (subst (λ (m : TypeOwner). Defines c.loop-name.types c.resolve_use.new.types cs m s old new (Used from attributes n ∷ [])) c.loop-name.invariant.owner (e.used.0 s)));
      owner = e.owner ∙ c.loop-name.invariant.owner;
      required = e.required ∙ c.loop-name.invariant.required;
      listed = rw more (e.used.1 ∙ ap (λ (l : List (List ℕ)). l ++ local_name (Used from attributes n) ∷ []) c.loop-name.invariant.listed ∙ sym (map-append local_name (take i us) (Used from attributes n ∷ [])));
      first = after-next (local_fault c.args.interfaces.now) c.args.uses.now i c.name-item.result c.loop-name-test.true c.name-item.is c.loop-name.invariant.first (local_next c.args.interfaces.now old (take i c.args.uses.now) c.name-item.result (c.loop-name.invariant.listed ∙ ap local_names (take-map use_view i c.args.uses.now)) ∙ e.first);
      extended = extended_then c.args.types.now c.loop-name.types c.resolve_use.new.types c.loop-name.invariant.extended e.extended;
    }

pub returns-clause-listed : goal.returns-clause-listed
returns-clause-listed c =
    let us = map use_view c.args.uses.now in
    c.loop-name.invariant.listed ∙ ap local_names (take_all c.loop-name.name-index us (omega (arith, length-map c.args.uses.now use_view)))

pub returns-clause-first : goal.returns-clause-first
returns-clause-first c = ap (first_after (local_fault c.args.interfaces.now) []) (sym (take_all c.loop-name.name-index c.args.uses.now (omega arith))) ∙ c.loop-name.invariant.first
