use Rattle.std.proofs.Common.{◌≡◌, ◌+◌, ℕ, List, [], ◌∷◌, ◌++◌, Option, Some, None, length, map, take, inl, inr, refl, sym, ap, ◌∙◌, subst, arith, rules, length-append}
use Rattle.wit_arena.proofs.Common.{Fault, Param, SourceParam, all_handles, append-nil, cases_lt, env_of, err_from_is_err_and, map-append, option_or, slice_get, slice_get-get_or, take_all, take_more, written_param, «Type» as Written}
use Rattle.wit_walk.proofs.Common.{Param as WrittenParam, Reports, after-at, after-next, first_after, none_both, param_fault, reports-after, reports_back, reports_same}
use Rattle.wit_entries.specs.EntryFaults.{Requires}
use Rattle.wit_entries.proofs.Requiring.{extended_then, requires_none, requires_types}
use Rattle.wit_entries.proofs.Resolves.{memory_stopped}
use Rattle.wit_rules.specs.Signatures.{function_view, functions_view, AreParamsOver}
use Rattle.wit_signatures.specs.FunctionsOfScope.{fault_at}
use Rattle.wit_signatures.proofs.FunctionFaults.{apart_found, param_next, param_repeated, params_extended, repeat_lent}
use Rattle.wit_signatures.proofs.FunctionParts.{given_few, params_count, params_more}
use Rattle.wit_signatures.proofs.functions.all_params.Goals as goal

pub loop-written-init : goal.loop-written-init
loop-written-init c =
    let fn = function_view c.args.function in
    let env = env_of c.args.scope.names.now in
    let given = c.in_ok-params.ensures.params in
    record {
      params = subst (λ (ws : List SourceParam). AreParamsOver c.args.types.now c.given_params.new.types env ws c.in_ok-params.params.items) (sym (append-nil fn.given)) given;
      count = (let n = params_count c.args.types.now c.given_params.new.types env fn.given c.in_ok-params.params.items given in omega arith);
      distinct = λ k is le. omega arith;
      none = refl;
      handled = requires_none env c.given_params.new.types c.args.required.now.items;
      extended = c.in_ok-params.ensures.extended;
    }

pub returns-then-eq : goal.returns-then-eq
returns-then-eq c =
    let fn = function_view c.args.function in
    let ws = c.params-all.result.now in
    let i = c.loop-written.written-index in
    let item = c.written-item.result in
    let same : c.in_ok-repeated.repeated ≡ Some c.len.result = search rules in
    let long : c.len.result ≡ length fn.given + i = omega (arith, c.len.ensures, c.loop-written.params.ok.0, c.loop-written.invariant.count) in
    let at : slice_get ws i ≡ Some item = slice_get-get_or ws i item c.loop-written-test.true ∙ ap Some (sym c.written-item.is) in
    let first = repeat_lent fn ws c.in_ok-repeated.repeated c.params-all.ensures c.in_ok-repeated.ensures in
    let repeat = param_repeated fn.given ws c.in_ok-repeated.repeated i item first (same ∙ ap (λ (n : ℕ). Some n) long) at in
    let wrong = fault_at c.args.scope c.loop-written.types c.args.place in
    record {
      extended = c.loop-written.invariant.extended;
      first = subst (λ (l : List WrittenParam). Reports (first_after (param_fault wrong fn) [] l) c.refuse_param.result) c.params-all.ensures (elim c.refuse_param.ensures [
        | inl want ↦ inl want
        | inr is ↦ inr (after-at (param_fault wrong fn) ws i item _ at c.loop-written.invariant.none (ap (λ (o : Option Fault). option_or o (wrong item.ty)) repeat ∙ ap Some (sym is)))
      ]);
    }

pub returns-in_err-ty : goal.returns-in_err-ty
returns-in_err-ty c =
    let p = err_from_is_err_and c.from_residual-in_err-ty.result c.from_residual-in_err-ty.ensures.1 in
    let fn = function_view c.args.function in
    let ws = c.params-all.result.now in
    let i = c.loop-written.written-index in
    let item = c.written-item.result in
    let new = c.resolve_in_signature.new.types in
    let wrong = fault_at c.args.scope new c.args.place in
    let more = c.in_err-ty.ensures.extended in
    let at : slice_get ws i ≡ Some item = slice_get-get_or ws i item c.loop-written-test.true ∙ ap Some (sym c.written-item.is) in
    let differ = apart_found c.in_ok-repeated.repeated c.len.result (sym c.eq.ensures ∙ c.if-eq.false) in
    let long : c.len.result ≡ length fn.given + i = omega (arith, c.len.ensures, c.loop-written.params.ok.0, c.loop-written.invariant.count) in
    let first = repeat_lent fn ws c.in_ok-repeated.repeated c.params-all.ensures c.in_ok-repeated.ensures in
    let repeat = param_next fn.given ws c.in_ok-repeated.repeated i c.len.result item (given_few c.args.function) first c.loop-written.invariant.distinct long differ at in
    let none = params_extended (env_of c.args.scope.names.now) c.loop-written.types new (take (c.args.place + 1) (functions_view c.args.scope)) fn (take i ws) more c.loop-written.invariant.none in
    rw (p.1, p.2) (record {
      extended = extended_then _ _ _ c.loop-written.invariant.extended more;
      first = reports_same (ap (first_after (param_fault wrong fn) []) c.params-all.ensures) (reports-after (param_fault wrong fn) ws i item _ at none (reports_back repeat c.in_err-ty.ensures.first));
    })

pub loop-written-preserved : goal.loop-written-preserved
loop-written-preserved c =
    let fn = function_view c.args.function in
    let ws = c.params-all.result.now in
    let i = c.loop-written.written-index in
    let item = c.written-item.result in
    let made = c.in_ok-param.field-0 in
    let out = c.loop-written.params.items in
    let env = env_of c.args.scope.names.now in
    let mid = c.loop-written.types in
    let new = c.resolve_in_signature.new.types in
    let more = c.in_ok-ty.ensures.extended in
    let type_of = λ (w : WrittenParam). w.ty in
    let at : slice_get ws i ≡ Some item = slice_get-get_or ws i item c.loop-written-test.true ∙ ap Some (sym c.written-item.is) in
    let in_use : take (i + 1) ws ≡ take i ws ++ item ∷ [] = take_more ws i item c.loop-written-test.true ∙ ap (λ (x : WrittenParam). take i ws ++ x ∷ []) (sym c.written-item.is) in
    let types : map type_of (take (i + 1) ws) ≡ map type_of (take i ws) ++ item.ty ∷ [] = ap (map type_of) in_use ∙ map-append type_of (take i ws) (item ∷ []) in
    let differ = apart_found c.in_ok-repeated.repeated c.len.result (sym c.eq.ensures ∙ c.if-eq.false) in
    let long : c.len.result ≡ length fn.given + i = omega (arith, c.len.ensures, c.loop-written.params.ok.0, c.loop-written.invariant.count) in
    let first = repeat_lent fn ws c.in_ok-repeated.repeated c.params-all.ensures c.in_ok-repeated.ensures in
    let repeat = param_next fn.given ws c.in_ok-repeated.repeated i c.len.result item (given_few c.args.function) first c.loop-written.invariant.distinct long differ at in
    let none = params_extended env mid new (take (c.args.place + 1) (functions_view c.args.scope)) fn (take i ws) more c.loop-written.invariant.none in
    record {
      params = params_more c.args.types.now mid new env fn.given (take i ws) (take (i + 1) ws) item out c.push.new.self.items made c.in_ok-ty.ty in_use c.in_ok-push.ensures.items c.in_ok-param.ensures c.in_ok-ty.ensures.made c.loop-written.invariant.params;
      count = (let a = ap (λ (l : List Param). length l) c.in_ok-push.ensures.items in let b = length-append out (made ∷ []) in let d = c.loop-written.invariant.count in omega arith);
      distinct = λ k is le. elim (cases_lt (length fn.given + i) k) [
        | inl lt ↦ omega arith
        | inr here ↦ (let at = c.loop-written.invariant.distinct k is le in let same : k ≡ c.len.result = omega arith in absurd (differ (is ∙ ap (λ (n : ℕ). Some n) same)))
      ];
      none = after-next (param_fault (fault_at c.args.scope new c.args.place) fn) ws i item c.loop-written-test.true c.written-item.is none (none_both repeat c.in_ok-ty.ensures.first);
      handled = subst (λ (ts : List Written). Requires env new (all_handles ts) c.args.required.now.items c.resolve_in_signature.new.required.items) (sym types) (requires_types env mid new (map type_of (take i ws)) (item.ty ∷ []) _ _ _ more c.loop-written.invariant.handled c.in_ok-ty.ensures.handled);
      extended = extended_then _ _ _ c.loop-written.invariant.extended more;
    }

pub returns : goal.returns
returns c =
    let fn = function_view c.args.function in
    let env = env_of c.args.scope.names.now in
    let es = c.loop-written.types in
    let same = take_all c.loop-written.written-index c.params-all.result.now c.loop-written-test.false ∙ c.params-all.ensures in
    rw c.from.ensures (record {
      made = subst (λ (l : List WrittenParam). AreParamsOver c.args.types.now es env (fn.given ++ map written_param l) c.loop-written.params.items) same c.loop-written.invariant.params;
      handled = subst (λ (l : List WrittenParam). Requires env es (all_handles (map (λ (w : WrittenParam). w.ty) l)) c.args.required.now.items c.loop-written.required.items) same c.loop-written.invariant.handled;
      extended = c.loop-written.invariant.extended;
      first = subst (λ (l : List WrittenParam). first_after (param_fault (fault_at c.args.scope es c.args.place) fn) [] l ≡ None) same c.loop-written.invariant.none;
    })

pub returns-in_err-param : goal.returns-in_err-param
returns-in_err-param c =
    let p = err_from_is_err_and c.from_residual-in_err-param.result c.from_residual-in_err-param.ensures.1 in
    rw p.1 (memory_stopped c.loop-written.invariant.extended c.in_ok-ty.ensures.extended p.2)

pub returns-in_err-push : goal.returns-in_err-push
returns-in_err-push c =
    let p = err_from_is_err_and c.from_residual-in_err-push.result c.from_residual-in_err-push.ensures.1 in
    rw p.1 (memory_stopped c.loop-written.invariant.extended c.in_ok-ty.ensures.extended p.2)
