use Rattle.std.proofs.Common.{◌≡◌, [], ◌∷◌, ◌++◌, ◌+◌, Some, take, sym, ap, ◌∙◌, refl}
use Rattle.wit_arena.proofs.Common.{Case as WrittenCase, case_types, env_of, err_from_is_err_and, filter_map, filter_map_more, is_some, member, option_to_list, slice_get, slice_get-get_or, take_all, take_more}
use Rattle.wit_types.specs.declared.types.Case.{Case}
use Rattle.wit_first.proofs.First.{reports-in, reports_same}
use Rattle.wit_first.proofs.Pushed.{pushed_next}
use Rattle.wit_entries.specs.EntryFaults.{lost_in, written_fault}
use Rattle.wit_entries.proofs.Faults.{types_extended}
use Rattle.wit_entries.proofs.Requiring.{extended_then}
use Rattle.wit_entries.proofs.Resolves.{memory_stopped, types_more, types_none}
use Rattle.wit_definitions.specs.Bodies.{case_member}
use Rattle.wit_definitions.proofs.Payloads.{cases_first}
use Rattle.wit_definitions.proofs.bodies.resolve_cases.Goals as goal
use Rattle.wit_first.specs.First.{first_in}

pub loop-written-init : goal.loop-written-init
loop-written-init c = rw c.in_ok-resolved.ensures.items (record { members = refl; types = types_none c.args.scope.now c.args.given.now c.args.types.now c.args.required.now.items })

pub loop-written-preserved : goal.loop-written-preserved
loop-written-preserved c =
    let cs = c.args.cases.now in
    let i = c.loop-written.written-index in
    let case = c.written-item.result in
    let own = c.in_ok-case.case in
    let out = c.loop-written.resolved.items in
    let kept = λ (x : Case). x.ty in
    let in_use : take (i + 1) cs ≡ take i cs ++ case ∷ [] = take_more cs i case c.loop-written-test.true ∙ ap (λ x. take i cs ++ x ∷ []) (sym c.written-item.is) in
    let written : case_types (take (i + 1) cs) ≡ case_types (take i cs) ++ option_to_list case.ty = ap case_types in_use ∙ filter_map_more (λ (x : WrittenCase). x.ty) (take i cs) case in
    let types : filter_map (λ (x : Case). x.ty) c.push.new.self.items ≡ filter_map (λ (x : Case). x.ty) out ++ option_to_list own.ty = ap (filter_map (λ (x : Case). x.ty)) c.in_ok-push.ensures.items ∙ filter_map_more (λ (x : Case). x.ty) out own in
    record {
      members = pushed_next case_member (λ (x : WrittenCase). (member x.docs x.name, is_some x.ty)) out _ cs i case _ c.loop-written-test.true c.written-item.is c.loop-written.invariant.members c.in_ok-push.ensures.items c.in_ok-case.ensures.member;
      types = rw (written, types) (types_more c.args.scope.now c.args.given.now (case_types (take i cs)) (option_to_list case.ty) (filter_map kept out) (option_to_list own.ty) c.loop-written.invariant.types c.in_ok-case.ensures.resolves);
    }

pub returns-clause-members : goal.returns-clause-members
returns-clause-members c =
    let all = take_all c.loop-written.written-index c.args.cases.now c.loop-written-test.false in
    rw (← all, c.from.ensures) c.loop-written.invariant.members

pub returns-clause-resolves : goal.returns-clause-resolves
returns-clause-resolves c =
    let all = take_all c.loop-written.written-index c.args.cases.now c.loop-written-test.false in
    rw (← all, c.from.ensures) c.loop-written.invariant.types

pub returns-in_err-case-clause-resolves : goal.returns-in_err-case-clause-resolves
returns-in_err-case-clause-resolves c =
    let p = err_from_is_err_and c.from_residual-in_err-case.result c.from_residual-in_err-case.ensures.1 in
    let lost = lost_in c.args.scope.now.functions in
    let env = env_of c.args.scope.now.names.now in
    let new = c.resolve_case.new.types in
    let cs = c.args.cases.now in
    let i = c.loop-written.written-index in
    let case = c.written-item.result in
    let more = c.in_err-case.ensures.resolves.extended in
    let at : slice_get cs i ≡ Some case = slice_get-get_or cs i case c.loop-written-test.true ∙ ap Some (sym c.written-item.is) in
    let none = types_extended lost env _ new (case_types (take i cs)) more c.loop-written.invariant.types.first in
    rw (p.1, p.2) (record {
      extended = extended_then _ _ _ c.loop-written.invariant.types.extended more;
      first = reports_same (sym (cases_first lost env new cs)) (reports-in (λ (x : WrittenCase). first_in (written_fault lost env new) (option_to_list x.ty)) cs i case _ at (sym (cases_first lost env new (take i cs)) ∙ none) c.in_err-case.ensures.resolves.first);
    })

pub returns-in_err-push-clause-resolves : goal.returns-in_err-push-clause-resolves
returns-in_err-push-clause-resolves c =
    let p = err_from_is_err_and c.from_residual-in_err-push.result c.from_residual-in_err-push.ensures.1 in
    rw p.1 (memory_stopped c.loop-written.invariant.types.extended c.in_ok-case.ensures.resolves.extended p.2)
