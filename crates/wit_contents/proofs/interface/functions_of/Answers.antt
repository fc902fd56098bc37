use Rattle.std.proofs.Common.{◌≡◌, List, ◌++◌, Option, map, refl, sym, ap, ◌∙◌, subst}
use Rattle.wit_contents.proofs.Names.{Fault, Imported, IsTurn, ScopeName, SideFunction, SourceFunction, env_of, err_from_is_err_and, functions, none_both, option_or, scope_item, side_items_functions, flat_map, items_on, names_on}
use Rattle.wit_rules.specs.Signatures.{function_view}
use Rattle.wit_signatures.specs.FunctionsOfScope.{name_of_id, name_of_function}
use Rattle.wit_externs.specs.Clash.{lone_setters, item_names}
use Rattle.wit_externs.proofs.AloneFaults.{safe_of}
use Rattle.wit_item_entries.proofs.NameOrder.{all_imported, names_imported}
use Rattle.wit_item_entries.proofs.ScopeFunctions.{turn_added, made_differ}
use Rattle.wit_contents.proofs.FileFaults.{or_found}
use Rattle.wit_contents.proofs.interface.functions_of.Goals as goal

pub resolve_item_functions-requires-clause-sort : goal.resolve_item_functions-requires-clause-sort
resolve_item_functions-requires-clause-sort c = c.requires.sort

pub resolve_item_functions-requires-clause-named : goal.resolve_item_functions-requires-clause-named
resolve_item_functions-requires-clause-named c = c.requires.named

pub resolve_item_functions-requires-clause-turn : goal.resolve_item_functions-requires-clause-turn
resolve_item_functions-requires-clause-turn c = rw c.deref.ensures.value (subst (λ (xs : List ScopeName). IsTurn xs c.args.names.now.turn.items) (sym c.requires.named) (turn_added _ _ _ _ _ _ _ _ c.requires.added.3))

pub resolve_item_functions-requires-clause-listed : goal.resolve_item_functions-requires-clause-listed
resolve_item_functions-requires-clause-listed c = rw c.deref.ensures.value c.args.names.now.listed

pub check_pairs-requires : goal.check_pairs-requires
check_pairs-requires c = λ some.
    let item = scope_item c.args.item.now in
    let ids = c.args.names.now.turn.items in
    let e = rw c.deref.ensures.value at c.in_ok-own.ensures in
    let fns : map function_view c.deref-2.result.now ≡ functions item = ap (map function_view) c.deref-2.ensures.value ∙ e.written in
    let in_use : c.in_ok-own.own.in_use.imports ≡ map name_of_id ids ++ map name_of_function (functions item) = e.in_use (rw c.deref-2.ensures.value at some) Imported ∙ ap (λ (fns : List SourceFunction). (names_on Imported (map name_of_id ids) ++ flat_map item_names (items_on Imported (map SideFunction fns)))) e.written ∙ names_imported item c.requires.sort ids in
    rw (c.deref-3.ensures.value, fns) in_use

pub function_table-requires : goal.function_table-requires
function_table-requires c =
    let item = scope_item c.args.item.now in
    let e = rw c.deref.ensures.value at c.in_ok-own.ensures in
    made_differ _ _ _ _ item _ _ _ _ (all_imported item c.requires.sort) (side_items_functions item c.requires.sort) (e.adds _ _ _ c.requires.added.3)

pub returns-clause-adds : goal.returns-clause-adds
returns-clause-adds c =
    let e = rw c.deref.ensures.value at c.in_ok-own.ensures in
    record { types = refl; functions = λ old cs o added. (c.in_ok-own.own.functions.items, e.adds old cs o added, c.in_ok-functions.ensures) }

pub returns-in_err-own-clause-first : goal.returns-in_err-own-clause-first
returns-in_err-own-clause-first c =
    let p = err_from_is_err_and c.from_residual.result c.from_residual.ensures.1 in
    let fns = functions (scope_item c.args.item.now) in
    let e = rw c.deref.ensures.value at c.in_err-own.ensures in
    rw (p.1, p.2) (or_found e.first (λ wrong handle ends. ap (λ (o : Option Fault). option_or o (lone_setters fns)) (wrong handle ends)))

pub returns-in_err-check_pairs-clause-first : goal.returns-in_err-check_pairs-clause-first
returns-in_err-check_pairs-clause-first c =
    let p = err_from_is_err_and c.from_residual-in_err-check_pairs.result c.from_residual-in_err-check_pairs.ensures.1 in
    let fns = functions (scope_item c.args.item.now) in
    let e = rw c.deref.ensures.value at c.in_ok-own.ensures in
    let written : map function_view c.deref-2.result.now ≡ fns = ap (map function_view) c.deref-2.ensures.value ∙ e.written in
    rw (p.1, p.2) (or_found c.in_err-check_pairs.ensures.first (λ wrong handle ends. ap (λ (o : Option Fault). option_or o (lone_setters fns)) (e.first handle (safe_of (env_of c.args.names.now.types) c.resolve_item_functions.new.types handle ends)) ∙ ap lone_setters (sym written) ∙ wrong))

pub returns-clause-first : goal.returns-clause-first
returns-clause-first c = λ handle safe.
    let e = rw c.deref.ensures.value at c.in_ok-own.ensures in
    let written : map function_view c.deref-2.result.now ≡ functions (scope_item c.args.item.now) = ap (map function_view) c.deref-2.ensures.value ∙ e.written in
    none_both (e.first handle safe) (ap lone_setters (sym written) ∙ c.in_ok-check_pairs.ensures.first)
