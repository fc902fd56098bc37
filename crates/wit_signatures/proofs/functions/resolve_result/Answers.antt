use Rattle.std.proofs.Common.{Option, sym, ap, ◌∙◌, subst}
use Rattle.wit_arena.proofs.Common.{all_handles, env_of, err_from_is_err_and, option_to_list, result_ok, «Type» as Written}
use Rattle.wit_walk.proofs.Common.{none_both, reports_back, reports_prefix, reports_same, result_fault, return_fault}
use Rattle.wit_entries.specs.EntryFaults.{Requires}
use Rattle.wit_entries.proofs.Requiring.{requires_none}
use Rattle.wit_entries.proofs.Resolves.{extended_same}
use Rattle.wit_rules.specs.Signatures.{function_view}
use Rattle.wit_signatures.specs.FunctionsOfScope.{fault_at}
use Rattle.wit_signatures.proofs.FunctionParts.{result_view}
use Rattle.wit_signatures.proofs.functions.resolve_result.Goals as goal

pub returns-in_err-ty-in-Some-clause-finds : goal.returns-in_err-ty-in-Some-clause-finds
returns-in_err-ty-in-Some-clause-finds c =
    let p = err_from_is_err_and c.from_residual.result c.from_residual.ensures.1 in
    let fn = function_view c.args.function in
    let wrong = fault_at c.args.scope c.resolve_in_signature.new.types c.args.place in
    rw (p.1, p.2) (record {
      extended = c.in_err-ty-in-Some.ensures.extended;
      first = λ xs scope. reports_same (ap (return_fault wrong xs fn) c.in-Some.ensures) (reports_prefix (result_fault fn.func.form fn.role c.in-Some.written.now (result_ok xs c.in-Some.written.now)) c.in_err-ty-in-Some.ensures.first);
    })

pub returns-in_err-check_result-in-Some-clause-finds : goal.returns-in_err-check_result-in-Some-clause-finds
returns-in_err-check_result-in-Some-clause-finds c =
    let p = err_from_is_err_and c.from_residual-in_err-check_result-in-Some.result c.from_residual-in_err-check_result-in-Some.ensures.1 in
    let fn = function_view c.args.function in
    let wrong = fault_at c.args.scope c.resolve_in_signature.new.types c.args.place in
    rw (p.1, p.2) (record {
      extended = c.in_ok-ty-in-Some.ensures.extended;
      first = λ xs scope. reports_same (ap (return_fault wrong xs fn) c.in-Some.ensures) (reports_back c.in_ok-ty-in-Some.ensures.first (c.in_err-check_result-in-Some.ensures xs scope.results));
    })

pub returns-in_ok-check_result-in-Some-clause-adds : goal.returns-in_ok-check_result-in-Some-clause-adds
returns-in_ok-check_result-in-Some-clause-adds c =
    let env = env_of c.args.scope.names.now in
    let new = c.resolve_in_signature.new.types in (
      result_view c.args.types.now new env c.args.function c.in-Some.written.now c.in_ok-ty-in-Some.ty (sym c.in-Some.ensures) c.in_ok-ty-in-Some.ensures.made,
      subst (λ (o : Option Written). Requires env new (all_handles (option_to_list o)) c.args.required.now.items c.resolve_in_signature.new.required.items) c.in-Some.ensures c.in_ok-ty-in-Some.ensures.handled,
    )

pub returns-in_ok-check_result-in-Some-clause-finds : goal.returns-in_ok-check_result-in-Some-clause-finds
returns-in_ok-check_result-in-Some-clause-finds c =
    let fn = function_view c.args.function in
    let wrong = fault_at c.args.scope c.resolve_in_signature.new.types c.args.place in
    record {
      extended = c.in_ok-ty-in-Some.ensures.extended;
      first = λ xs scope. ap (return_fault wrong xs fn) (sym c.in-Some.ensures) ∙ none_both c.in_ok-ty-in-Some.ensures.first (c.in_ok-check_result-in-Some.ensures xs scope.results);
    }

pub returns-in_err-made-in-None-clause-finds : goal.returns-in_err-made-in-None-clause-finds
returns-in_err-made-in-None-clause-finds c =
    let p = err_from_is_err_and c.from_residual-in_err-made-in-None.result c.from_residual-in_err-made-in-None.ensures.1 in
    let fn = function_view c.args.function in
    let wrong = fault_at c.args.scope c.args.types.now c.args.place in
    rw (p.1, p.2) (record { extended = extended_same c.args.types.now; first = λ xs scope. reports_same (ap (return_fault wrong xs fn) c.in-None.ensures) c.in_err-made-in-None.ensures.first })

pub returns-in_ok-made-in-None-clause-adds : goal.returns-in_ok-made-in-None-clause-adds
returns-in_ok-made-in-None-clause-adds c =
    let env = env_of c.args.scope.names.now in
    let es = c.args.types.now in
    let rs = c.args.required.now.items in
    (c.in_ok-made-in-None.ensures.result es, subst (λ (o : Option Written). Requires env es (all_handles (option_to_list o)) rs rs) c.in-None.ensures (requires_none env es rs))

pub returns-in_ok-made-in-None-clause-finds : goal.returns-in_ok-made-in-None-clause-finds
returns-in_ok-made-in-None-clause-finds c =
    let fn = function_view c.args.function in
    let wrong = fault_at c.args.scope c.args.types.now c.args.place in
    record { extended = extended_same c.args.types.now; first = λ xs scope. ap (return_fault wrong xs fn) (sym c.in-None.ensures) ∙ c.in_ok-made-in-None.ensures.first }
