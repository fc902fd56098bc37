use Rattle.std.proofs.Common.{◌≡◌, ◌++◌, List, map, ap, sym, ◌∙◌, subst, [], None}
use Rattle.wit_items.proofs.Common.{Address, AreDistinct, Defines, Id, Required, ResolvedScope, ScopeName, all_handles, defined, defines_more, definition_view, distinct_names, env_of, err_from_is_err_and, flat_map, in_order, listed_has, local_id, local_name, local_names, local_names_differ, local_names_fault, map-append, name_types, name_view, names_in, reports_back, reports_prefix, reports_same, used, «Type» as Written}
use Rattle.wit_scopes.specs.DefinitionOrder.{AreOrdered}
use Rattle.wit_item_entries.proofs.ReachedFaults.{definitions_found, done, failed, outcome_reported, types-in_turn}
use Rattle.wit_scopes.proofs.Placed.{in_their_turn, own_borrowed, differ_names, turn_differs}
use Rattle.wit_item_entries.proofs.names.resolve_types.Goals as goal
use Rattle.wit_entries.specs.EntryFaults.{Requires}

-- the names of a scope, those that it uses and then those of its definitions
all_ids : {us vs ds es : List ScopeName} {ids : List Id} → us ≡ vs → ds ≡ es → ids ≡ map local_id (us ++ ds) → ids ≡ map local_id (vs ++ es)
all_ids {us} {vs} {ds} {es} uses made are = are ∙ ap (λ (l : List ScopeName). map local_id (l ++ ds)) uses ∙ ap (λ (l : List ScopeName). map local_id (vs ++ l)) made

-- so they differ where none is twice
all_differ : (xs : List ScopeName) {us ds : List ScopeName} {ids : List Id} → us ≡ used xs → ds ≡ defined xs → ids ≡ map local_id (us ++ ds) → local_names_fault ids ≡ None → AreDistinct xs
all_differ xs {us} {ds} {ids} uses made are none = distinct_names xs (differ_names xs ids (all_ids uses made are) (local_names_differ ids none))

pub ordered_turn-requires-clause-distinct : goal.ordered_turn-requires-clause-distinct
ordered_turn-requires-clause-distinct c = all_differ (map name_view c.args.names.now) c.requires.uses c.in_ok-written.ensures.definitions (c.deref.ensures.value ∙ c.in_ok-written.ensures.ids) c.in_ok-check_unique_names.ensures

pub define_all-requires : goal.define_all-requires
define_all-requires c =
    let xs = map name_view c.args.names.now in
    let ds = map definition_view c.deref-2.result.now in
    let o : AreOrdered xs ds = subst (λ l. AreOrdered xs (map definition_view l)) (sym c.deref-2.ensures.value) c.in_ok-turn.ensures.ordered in
    let distinct : AreDistinct xs = all_differ (map name_view c.args.names.now) c.requires.uses c.in_ok-written.ensures.definitions (c.deref.ensures.value ∙ c.in_ok-written.ensures.ids) c.in_ok-check_unique_names.ensures in
    record {
      turn = in_their_turn xs ds (env_of c.args.scope.now.names) (own_borrowed c.args.names.now) o (listed_has c.args.scope.now.names (used xs) c.requires.listed);
      differ = turn_differs xs ds (names_in c.args.scope.now.names) o c.requires.listed distinct;
    }

pub returns-clause-defines : goal.returns-clause-defines
returns-clause-defines c = λ first cs uses none.
    let xs = map name_view c.args.names.now in
    let o = c.in_ok-turn.ensures.ordered in
    let a = c.args.scope.now in
    let b = c.define_all.new.scope in
    let new = c.define_all.new.types in
    let ds = defined (in_order xs o.order) in
    let defines : (cs : List ResolvedScope) (s : Address) → Defines c.args.types.now new cs a.owner s a.names b.names ds = rw (c.deref-2.ensures.value, o.are) at c.in_ok-define_all.ensures.defines in
    let listed : names_in b.names ≡ names_in a.names ++ local_names ds = rw (c.deref-2.ensures.value, o.are) at c.in_ok-define_all.ensures.listed in
    let handled : Requires (env_of b.names) new (all_handles (flat_map name_types ds)) a.required.items b.required.items = rw (c.deref-2.ensures.value, o.are) at c.in_ok-define_all.ensures.handled in
    record {
      adds = record {
        order = o.order;
        least = o.least;
        distinct = all_differ (map name_view c.args.names.now) c.requires.uses c.in_ok-written.ensures.definitions (c.deref.ensures.value ∙ c.in_ok-written.ensures.ids) c.in_ok-check_unique_names.ensures;
        defines = λ s. defines_more first c.args.types.now new cs a.owner s [] a.names b.names (used xs) ds (uses s) (defines cs s);
      };
      turn = all_ids c.requires.uses o.are c.in_ok-turn.ensures.ids;
      listed = listed ∙ ap (λ l. l ++ local_names ds) c.requires.listed ∙ sym (map-append local_name (used xs) ds);
      handled = subst (λ (before : List Required). Requires (env_of b.names) new (all_handles (flat_map name_types (used xs ++ ds))) before b.required.items) none (subst (λ (ts : List Written). Requires (env_of b.names) new (all_handles ts) a.required.items b.required.items) (sym (types-in_turn xs o.order)) handled);
    }

pub returns-in_err-check_unique_names-clause-first : goal.returns-in_err-check_unique_names-clause-first
returns-in_err-check_unique_names-clause-first c =
    let p = err_from_is_err_and c.from_residual-in_err-check_unique_names.result c.from_residual-in_err-check_unique_names.ensures.1 in
    let xs = map name_view c.args.names.now in
    let are : c.deref.result.now ≡ map local_id (used xs ++ defined xs) = all_ids c.requires.uses c.in_ok-written.ensures.definitions (c.deref.ensures.value ∙ c.in_ok-written.ensures.ids) in
    rw (p.1, p.2) (λ outcome is cs handle along. reports_prefix _ (reports_same (ap local_names_fault are) c.in_err-check_unique_names.ensures))

pub returns-in_err-turn-clause-first : goal.returns-in_err-turn-clause-first
returns-in_err-turn-clause-first c =
    let p = err_from_is_err_and c.from_residual-in_err-turn.result c.from_residual-in_err-turn.ensures.1 in
    let xs = map name_view c.args.names.now in
    let are : c.deref.result.now ≡ map local_id (used xs ++ defined xs) = all_ids c.requires.uses c.in_ok-written.ensures.definitions (c.deref.ensures.value ∙ c.in_ok-written.ensures.ids) in
    rw (p.1, p.2) (λ outcome is cs handle along. reports_back (ap local_names_fault (sym are) ∙ c.in_ok-check_unique_names.ensures) (reports_prefix _ (outcome_reported xs outcome _ is c.in_err-turn.ensures.first)))

pub returns-in_err-define_all-clause-first : goal.returns-in_err-define_all-clause-first
returns-in_err-define_all-clause-first c =
    let p = err_from_is_err_and c.from_residual-in_err-define_all.result c.from_residual-in_err-define_all.ensures.1 in
    let xs = map name_view c.args.names.now in
    let ds = map definition_view c.deref-2.result.now in
    let o : AreOrdered xs ds = subst (λ l. AreOrdered xs (map definition_view l)) (sym c.deref-2.ensures.value) c.in_ok-turn.ensures.ordered in
    let ids : List Id = c.deref.result.now in
    let are : ids ≡ map local_id (used xs ++ defined xs) = all_ids c.requires.uses c.in_ok-written.ensures.definitions (c.deref.ensures.value ∙ c.in_ok-written.ensures.ids) in
    let distinct : AreDistinct xs = all_differ (map name_view c.args.names.now) c.requires.uses c.in_ok-written.ensures.definitions (c.deref.ensures.value ∙ c.in_ok-written.ensures.ids) c.in_ok-check_unique_names.ensures in
    rw (p.1, p.2) (λ outcome is cs handle along. definitions_found xs ds o.order (ap local_names_fault (sym are) ∙ c.in_ok-check_unique_names.ensures) o.least o.are outcome is (failed _) c.args.scope.now c.args.types.now cs handle distinct along c.in_err-define_all.ensures.first)

pub returns-clause-first : goal.returns-clause-first
returns-clause-first c = λ outcome is cs handle along.
    let xs = map name_view c.args.names.now in
    let ds = map definition_view c.deref-2.result.now in
    let o : AreOrdered xs ds = subst (λ l. AreOrdered xs (map definition_view l)) (sym c.deref-2.ensures.value) c.in_ok-turn.ensures.ordered in
    let ids : List Id = c.deref.result.now in
    let are : ids ≡ map local_id (used xs ++ defined xs) = all_ids c.requires.uses c.in_ok-written.ensures.definitions (c.deref.ensures.value ∙ c.in_ok-written.ensures.ids) in
    let distinct : AreDistinct xs = all_differ (map name_view c.args.names.now) c.requires.uses c.in_ok-written.ensures.definitions (c.deref.ensures.value ∙ c.in_ok-written.ensures.ids) c.in_ok-check_unique_names.ensures in
    definitions_found xs ds o.order (ap local_names_fault (sym are) ∙ c.in_ok-check_unique_names.ensures) o.least o.are outcome is (done ids) c.args.scope.now c.args.types.now cs handle distinct along c.in_ok-define_all.ensures.first
