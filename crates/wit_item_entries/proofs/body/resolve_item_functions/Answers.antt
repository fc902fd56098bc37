use Rattle.std.proofs.Common.{◌≡◌, ◌++◌, Bool, List, [], Option, None, map, false, inl, inr, refl, sym, ap, ◌∙◌, subst, arith}
use mathlib.Core.Path.{fun_ext}
use Rattle.wit_items.proofs.Common.{AllDiffer, Fault, Id, Imported, Name, Names, ScopeName, SideFunction, SourceFunction, WorldSide, append-nil, differ_none, env_of, err_from_is_err_and, functions, is_ascii_uppercase, items_on, list_any, name_view, names_in, names_on, no_clashes, none_both, option_or, scope_item, scope_names, side_items, side_items_functions, word_fault, flat_map, SideItem}
use Rattle.wit_sides.specs.SideNames.{defined_on}
use Rattle.wit_rules.specs.Signatures.{function_view, HaveOwners}
use Rattle.wit_entries.proofs.Resolves.{extended_same}
use Rattle.wit_signatures.specs.FunctionsOfScope.{name_key, name_of_function, name_of_id}
use Rattle.wit_externs.specs.Clash.{alone_faults, defined_fault, item_names}
use Rattle.wit_item_entries.specs.AddedNames.{IsTurn}
use Rattle.wit_item_entries.specs.ReachedFaults.{functions_fault}
use Rattle.wit_item_entries.proofs.ReachedFaults.{all_names, used_before, words_same}
use Rattle.wit_item_entries.proofs.NameOrder.{no_functions, turn_keys}
use Rattle.wit_item_entries.proofs.ScopeFunctions.{owners, turn_has, body_added, none_added}
use Rattle.wit_item_entries.proofs.body.resolve_item_functions.Goals as goal
use Rattle.wit_externs.proofs.AloneFaults.{again, words_in}

-- whether a name has a letter in upper case
abbrev has_upper : List Id → Bool
has_upper ids = list_any (λ (id : Id). list_any is_ascii_uppercase id.name.now) ids

-- the faults of functions by a table of names are those by what its scope means
by_scope : (xs : List ScopeName) (ids : List Id) (types : Names) (handle : Id → Option Fault) (a b : WorldSide → List Name) (fns : List SourceFunction) → IsTurn xs ids → names_in types ≡ map (λ (id : Id). id.name.now) ids → ((s : WorldSide) → a s ≡ b s) → alone_faults (words_in (env_of types)) handle xs a fns ≡ alone_faults (word_fault xs) handle xs b fns
by_scope xs ids types handle a b fns turn listed same =
    ap (λ (names : WorldSide → List Name). alone_faults (words_in (env_of types)) handle xs names fns) (fun_ext same)
    ∙ ap (λ (word : List SourceFunction → Id → Option Fault). alone_faults word handle xs b fns) (words_same xs ids types turn listed)

-- its functions, as they are written
pub returns-then-not-have_upper_case-clause-written : goal.returns-then-not-have_upper_case-clause-written
returns-then-not-have_upper_case-clause-written c = c.in_ok-written.ensures c.requires.sort

pub returns-then-not-have_upper_case-clause-adds : goal.returns-then-not-have_upper_case-clause-adds
returns-then-not-have_upper_case-clause-adds c = λ old cs o n.
    let item = scope_item c.args.item.now in
    let none : functions item ≡ [] = sym (c.in_ok-written.ensures c.requires.sort) ∙ no_functions c.in_ok-written.written.items (omega (arith, c.if-len-eq0.true)) in
    let lower : has_upper c.args.turn.now ≡ false = sym c.have_upper_case.ensures ∙ c.if-not-have_upper_case.true in
    rw c.new.ensures.items (none_added old c.args.types.now cs o item c.args.names.now c.args.turn.now c.args.required.now.items c.requires.sort none lower n)

pub returns-then-not-have_upper_case-clause-extended : goal.returns-then-not-have_upper_case-clause-extended
returns-then-not-have_upper_case-clause-extended c = extended_same c.args.types.now

pub returns-then-not-have_upper_case-clause-first : goal.returns-then-not-have_upper_case-clause-first
returns-then-not-have_upper_case-clause-first c = λ handle safe.
    let xs = map name_view c.args.item.now.names.now in
    let ids = c.args.turn.now in
    let lower : has_upper ids ≡ false = sym c.have_upper_case.ensures ∙ c.if-not-have_upper_case.true in
    let apart : AllDiffer (map name_key (map name_of_id ids)) = subst (λ (l : List Name). AllDiffer (map name_key l)) (append-nil (map name_of_id ids)) (turn_keys xs ids c.requires.turn lower) in
    let none : functions (scope_item c.args.item.now) ≡ [] = sym (c.in_ok-written.ensures c.requires.sort) ∙ no_functions c.in_ok-written.written.items (omega (arith, c.if-len-eq0.true)) in
    none_both (no_clashes name_key again (map name_of_id ids) apart) (ap (alone_faults (word_fault xs) handle xs (λ side. names_on side (map name_of_id ids))) none)

pub returns-in_err-define_names-clause-first : goal.returns-in_err-define_names-clause-first
returns-in_err-define_names-clause-first c =
    let p = err_from_is_err_and c.from_residual-in_err-define_names.result c.from_residual-in_err-define_names.ensures.1 in
    let xs = map name_view c.args.item.now.names.now in
    let ids = c.args.turn.now in
    let fns = functions (scope_item c.args.item.now) in
    let same = ap (λ (l : List Name). defined_fault l (map name_of_id ids)) (c.new-in_use.ensures Imported) in
    rw (p.1, p.2) (elim c.in_err-define_names.ensures.first [
      | inl memory ↦ inl memory
      | inr wrong ↦ inr (λ handle ends. ap (λ (o : Option Fault). option_or o (alone_faults (word_fault xs) handle xs (λ side. names_on side (map name_of_id ids)) fns)) (sym same ∙ wrong))
    ])

pub resolve_functions-requires : goal.resolve_functions-requires
resolve_functions-requires c =
    let item = scope_item c.args.item.now in
    let ids = c.args.turn.now in
    let types = c.args.names.now in
    let fns : map function_view c.deref.result.now ≡ functions item = ap (map function_view) c.deref.ensures.value ∙ c.in_ok-written.ensures c.requires.sort in
    let turn : IsTurn (scope_names item) ids = subst (λ (xs : List ScopeName). IsTurn xs ids) c.requires.named c.requires.turn in
    record { owners = subst (HaveOwners (env_of types)) (sym fns) (owners item (env_of types) (turn_has (scope_names item) ids types turn c.requires.listed)) }

pub returns-in_err-functions-clause-first : goal.returns-in_err-functions-clause-first
returns-in_err-functions-clause-first c =
    let p = err_from_is_err_and c.from_residual-in_err-functions.result c.from_residual-in_err-functions.ensures.1 in
    let xs = map name_view c.args.item.now.names.now in
    let ids = c.args.turn.now in
    let types = c.args.names.now in
    let fns : map function_view c.deref.result.now ≡ functions (scope_item c.args.item.now) = ap (map function_view) c.deref.ensures.value ∙ c.in_ok-written.ensures c.requires.sort in
    let in_use = c.define_names.new.in_use in
    let none : defined_fault [] (map name_of_id ids) ≡ None = sym (ap (λ (l : List Name). defined_fault l (map name_of_id ids)) (c.new-in_use.ensures Imported)) ∙ c.in_ok-define_names.ensures.first in
    let before = λ (s : WorldSide). used_before s c.new-in_use.result in_use ids ids c.new-in_use.ensures c.in_ok-define_names.ensures.defined refl in
    let found = c.in_err-functions.ensures.first xs (record { names = all_names xs ids types c.requires.turn c.requires.listed; results = c.in_ok-results.ensures }) in
    rw (p.1, p.2) (elim found [
      | inl memory ↦ inl memory
      | inr wrong ↦ inr (λ handle ends. ap (λ (l : List SourceFunction). functions_fault xs ids l handle) (sym fns) ∙ ap (λ (o : Option Fault). option_or o (alone_faults (word_fault xs) handle xs (λ side. names_on side (map name_of_id ids)) (map function_view c.deref.result.now))) none ∙ sym (by_scope xs ids types handle (λ s. defined_on s in_use) (λ s. names_on s (map name_of_id ids)) (map function_view c.deref.result.now) c.requires.turn c.requires.listed before) ∙ wrong handle ends)
    ])

pub returns-clause-written : goal.returns-clause-written
returns-clause-written c = c.in_ok-written.ensures c.requires.sort

pub returns-clause-adds : goal.returns-clause-adds
returns-clause-adds c = λ old cs o n.
    let item = scope_item c.args.item.now in
    let ids = c.args.turn.now in
    let fns : map function_view c.deref.result.now ≡ functions item = ap (map function_view) c.deref.ensures.value ∙ c.in_ok-written.ensures c.requires.sort in
    let e = c.in_ok-functions.ensures in
    let alone : side_items item ≡ map SideFunction (map function_view c.deref.result.now) = side_items_functions item c.requires.sort ∙ ap (map SideFunction) (sym fns) in
    let before = λ (s : WorldSide). used_before s c.new-in_use.result c.define_names.new.in_use ids ids c.new-in_use.ensures c.in_ok-define_names.ensures.defined refl in
    let differ = λ (side : WorldSide).
    let items = map SideFunction (map function_view c.deref.result.now) in
    let none : AllDiffer (map name_key (defined_on side c.new-in_use.result)) = subst (λ (l : List Name). AllDiffer (map name_key l)) (sym (c.new-in_use.ensures side)) differ_none in
    let all : defined_on side c.resolve_functions.new.in_use ≡ (names_on side (map name_of_id ids) ++ flat_map item_names (items_on side items)) = e.defined side ∙ ap (λ (l : List Name). l ++ flat_map item_names (items_on side items)) (before side) in
    subst (λ (l : List Name). AllDiffer (map name_key l)) all (e.differ side (c.in_ok-define_names.ensures.differ side none)) in
    body_added old c.args.types.now c.resolve_functions.new.types cs o item c.args.names.now ids c.args.required.now.items c.resolve_functions.new.required.items c.in_ok-functions.functions.items n (rw fns at e.adds) e.extended (rw fns at e.handled) (e.named ∙ ap (map name_of_function) fns) (subst (λ (items : List SideItem). (side : WorldSide) → AllDiffer (map name_key (names_on side (map name_of_id ids) ++ flat_map item_names (items_on side items)))) (sym alone) differ)

pub returns-clause-in_use : goal.returns-clause-in_use
returns-clause-in_use c = λ some side.
    let items = map SideFunction (map function_view c.deref.result.now) in
    let before = used_before side c.new-in_use.result c.define_names.new.in_use c.args.turn.now c.args.turn.now c.new-in_use.ensures c.in_ok-define_names.ensures.defined refl in
    let all : defined_on side c.resolve_functions.new.in_use ≡ (names_on side (map name_of_id c.args.turn.now) ++ flat_map item_names (items_on side items)) = c.in_ok-functions.ensures.defined side ∙ ap (λ (l : List Name). l ++ flat_map item_names (items_on side items)) before in
    rw c.deref.ensures.value at all

pub returns-clause-first : goal.returns-clause-first
returns-clause-first c = λ handle safe.
    let xs = map name_view c.args.item.now.names.now in
    let ids = c.args.turn.now in
    let types = c.args.names.now in
    let fns : map function_view c.deref.result.now ≡ functions (scope_item c.args.item.now) = ap (map function_view) c.deref.ensures.value ∙ c.in_ok-written.ensures c.requires.sort in
    let in_use = c.define_names.new.in_use in
    let none : defined_fault [] (map name_of_id ids) ≡ None = sym (ap (λ (l : List Name). defined_fault l (map name_of_id ids)) (c.new-in_use.ensures Imported)) ∙ c.in_ok-define_names.ensures.first in
    let before = λ (s : WorldSide). used_before s c.new-in_use.result in_use ids ids c.new-in_use.ensures c.in_ok-define_names.ensures.defined refl in
    let found = c.in_ok-functions.ensures.first xs (record { names = all_names xs ids types c.requires.turn c.requires.listed; results = c.in_ok-results.ensures }) in
    ap (λ (l : List SourceFunction). functions_fault xs ids l handle) (sym fns) ∙ none_both none (sym (by_scope xs ids types handle (λ s. defined_on s in_use) (λ s. names_on s (map name_of_id ids)) (map function_view c.deref.result.now) c.requires.turn c.requires.listed before) ∙ found handle safe)

pub returns-in_err-written-clause-extended : goal.returns-in_err-written-clause-extended
returns-in_err-written-clause-extended c = extended_same c.args.types.now

pub returns-in_err-results-clause-extended : goal.returns-in_err-results-clause-extended
returns-in_err-results-clause-extended c = extended_same c.args.types.now

pub returns-in_err-define_names-clause-extended : goal.returns-in_err-define_names-clause-extended
returns-in_err-define_names-clause-extended c = extended_same c.args.types.now
