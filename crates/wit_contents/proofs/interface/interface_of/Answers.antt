use Rattle.std.proofs.Common.{ℕ, List, sym, ap, ◌∙◌, subst}
use Rattle.wit_contents.proofs.Names.{Id, Names, err_from_is_err_and, finds_memory, Interface, reports_prefix, resolved_scopes_of, scope_item}
use Rattle.wit_arena.proofs.Common.{Function, about, declared_metadata, interface}
use Rattle.wit_arena.proofs.MadeInterfaces.{interface_added, interface_from}
use Rattle.wit_types.specs.declared.types.TypeOwner.TheVariants.{Interface as OfInterface}
use Rattle.wit_entries.proofs.Requiring.{extended_then}
use Rattle.wit_item_entries.specs.Body.{AddsBody}
use Rattle.wit_item_entries.proofs.ReachedFaults.{done, failed}
use Rattle.wit_contents.proofs.FileFaults.{if_ok_both}
use Rattle.wit_contents.proofs.MemberFaults.{rest_found}
use Rattle.wit_contents.proofs.interface.interface_of.Goals as goal

pub resolve_head-requires-clause-named : goal.resolve_head-requires-clause-named
resolve_head-requires-clause-named c = c.requires.named

pub resolve_head-requires-clause-placed : goal.resolve_head-requires-clause-placed
resolve_head-requires-clause-placed c = c.requires.placed

pub functions_of-requires-clause-sort : goal.functions_of-requires-clause-sort
functions_of-requires-clause-sort c = c.requires.sort

pub functions_of-requires-clause-named : goal.functions_of-requires-clause-named
functions_of-requires-clause-named c = c.requires.named

pub functions_of-requires-clause-added : goal.functions_of-requires-clause-added
functions_of-requires-clause-added c = (c.args.growing.now.types, resolved_scopes_of c.args.resolved.now.interfaces, OfInterface c.args.place, c.in_ok-head.ensures.adds)

pub returns-clause-adds : goal.returns-clause-adds
returns-clause-adds c =
    let old = c.args.growing.now.types in
    let is = c.args.resolved.now.interfaces in
    let cs = resolved_scopes_of is in
    let o = OfInterface c.args.place in
    let item = scope_item c.args.item.now in
    let ids = c.in_ok-head.head.names.turn.items in
    let e = c.in_ok-functions.ensures in
    let stated = c.in_ok-head.ensures.as_stated in
    let made = e.adds.functions old cs o c.in_ok-head.ensures.adds in
    let new = c.functions_of.new.types in
    let all = c.functions_of.new.names.required.items in
    if_ok_both c.interface_with.result c.interface_with.ensures.is c.interface_with.ensures.required (λ i is_it list.
    let b : AddsBody old new cs o item i.types ids made.0 all = subst (λ (t : Names). AddsBody old new cs o item t ids made.0 all) (sym (ap (λ (i : Interface). i.types) is_it ∙ e.adds.types)) made.1 in
    record {
      appends = record {
        own = all;
        list = list;
        holds = interface_added cs c.args.place old b.middle new i all item b.adds made.0 b.makes (
            interface_from (about item.declared).called (about item.declared).id.span (declared_metadata item.declared) i (ap (λ (i : Interface). i.name) is_it ∙ c.in_ok-name.ensures) (ap (λ (i : Interface). i.span) is_it ∙ ap (λ (id : Id). id.span) c.declared_name-id.ensures) (ap (λ (i : Interface). i.docs) is_it ∙ stated.docs) (ap (λ (i : Interface). i.stability) is_it ∙ stated.stability) (ap (λ (i : Interface). i.«package») is_it) (ap (λ (i : Interface). i.clone_of) is_it)
            ∙ ap (λ (l : List (List ℕ × Function)). interface (about item.declared).called i.types l (declared_metadata item.declared) (about item.declared).id.span) (ap (λ (i : Interface). i.functions) is_it ∙ made.2)) b.ended;
      };
      extended = extended_then old c.resolve_head.new.types new c.in_ok-head.ensures.extended e.extended;
    })

pub returns-in_err-head-clause-first : goal.returns-in_err-head-clause-first
returns-in_err-head-clause-first c =
    let p = err_from_is_err_and c.from_residual-in_err-head.result c.from_residual-in_err-head.ensures.1 in
    rw (p.1, p.2) (λ outcome right handle ends. reports_prefix _ (c.in_err-head.ensures.first outcome right handle ends))

pub returns-in_err-functions-clause-first : goal.returns-in_err-functions-clause-first
returns-in_err-functions-clause-first c =
    let p = err_from_is_err_and c.from_residual-in_err-functions.result c.from_residual-in_err-functions.ensures.1 in
    let e = c.in_ok-head.ensures in
    rw (p.1, p.2) (λ outcome right handle ends. rest_found (failed _) c.args.resolved.now.interfaces (OfInterface c.args.place) c.args.growing.now.types c.resolve_head.new.types c.functions_of.new.types c.args.item.now c.in_ok-head.head.names c.requires.named e.adds c.in_err-functions.ensures.extended outcome right handle ends (e.first outcome right handle ends) c.in_err-functions.ensures.first)

pub returns-clause-first : goal.returns-clause-first
returns-clause-first c = λ outcome right handle ends.
    let e = c.in_ok-head.ensures in
    finds_memory _ c.interface_with.result (rest_found (done c.in_ok-functions.functions) c.args.resolved.now.interfaces (OfInterface c.args.place) c.args.growing.now.types c.resolve_head.new.types c.functions_of.new.types c.args.item.now c.in_ok-head.head.names c.requires.named e.adds c.in_ok-functions.ensures.extended outcome right handle ends (e.first outcome right handle ends) c.in_ok-functions.ensures.first) c.interface_with.ensures.refused
