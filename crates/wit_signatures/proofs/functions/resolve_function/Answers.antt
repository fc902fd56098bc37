use Rattle.std.proofs.Common.{◌+◌, map, take, sym, ap, ◌∙◌, subst, IsTrue, get_or}
use Rattle.wit_arena.proofs.Common.{SourceFunction, all_handles, env_of, err_from_is_err_and, is_mangled, option_to_list, written_types}
use Rattle.wit_walk.proofs.Common.{function_fault, metadata_fault, reports_prefix, reports_same}
use Rattle.wit_rules.specs.Signatures.{function_view, functions_view}
use Rattle.wit_entries.specs.EntryFaults.{Requires}
use Rattle.wit_entries.proofs.Noted.{noted_as}
use Rattle.wit_entries.proofs.Requiring.{extended_then, requires_types}
use Rattle.wit_entries.proofs.Resolves.{extended_same}
use Rattle.wit_signatures.specs.FunctionsOfScope.{fault_at}
use Rattle.wit_signatures.proofs.FunctionFaults.{given_first, none_first, params_extended, params_first, returns_first}
use Rattle.wit_signatures.proofs.Mangling.{mangled_view}
use Rattle.wit_signatures.proofs.WholeFunctions.{borrowed_here, borrowed_at, borrowed_adds}
use Rattle.wit_signatures.proofs.functions.resolve_function.Goals as goal

pub all_params-requires : goal.all_params-requires
all_params-requires c = c.requires.owners.each c.args.place _ (borrowed_here c.args.scope.functions.now c.args.place c.index-scope-place.result c.requires.place)

pub resolve_result-requires : goal.resolve_result-requires
resolve_result-requires c = c.requires.owners.each c.args.place _ (borrowed_here c.args.scope.functions.now c.args.place c.index-scope-place.result c.requires.place)

pub kind_of-requires : goal.kind_of-requires
kind_of-requires c = c.requires.owners.each c.args.place _ (borrowed_here c.args.scope.functions.now c.args.place c.index-scope-place.result c.requires.place)

pub returns-in_err-metadata-clause-finds : goal.returns-in_err-metadata-clause-finds
returns-in_err-metadata-clause-finds c =
    let p = err_from_is_err_and c.from_residual.result c.from_residual.ensures.1 in
    let hs = c.args.scope.functions.now in
    let d = c.index-scope-place.result in
    let wrong = fault_at c.args.scope c.args.types.now c.args.place in
    rw (p.1, p.2) (record {
      extended = extended_same c.args.types.now;
      first = λ xs scope fn at. reports_same (ap (function_fault wrong xs) (borrowed_at hs c.args.place d fn c.requires.place at)) (reports_prefix _ (reports_same (ap metadata_fault c.attributes.ensures) c.in_err-metadata.ensures.first));
    })

pub returns-in_err-check_given-clause-finds : goal.returns-in_err-check_given-clause-finds
returns-in_err-check_given-clause-finds c =
    let p = err_from_is_err_and c.from_residual-in_err-check_given.result c.from_residual-in_err-check_given.ensures.1 in
    let hs = c.args.scope.functions.now in
    let d = c.index-scope-place.result in
    let here = function_view (get_or hs c.args.place d) in
    let wrong = fault_at c.args.scope c.args.types.now c.args.place in
    let meta = ap metadata_fault (sym c.attributes.ensures) ∙ c.in_ok-metadata.ensures.first in
    rw (p.1, p.2) (record {
      extended = extended_same c.args.types.now;
      first = λ xs scope fn at. reports_same (ap (function_fault wrong xs) (borrowed_at hs c.args.place d fn c.requires.place at)) (given_first wrong xs here meta c.in_err-check_given.ensures);
    })

pub returns-in_err-params-clause-finds : goal.returns-in_err-params-clause-finds
returns-in_err-params-clause-finds c =
    let p = err_from_is_err_and c.from_residual-in_err-params.result c.from_residual-in_err-params.ensures.1 in
    let hs = c.args.scope.functions.now in
    let d = c.index-scope-place.result in
    let here = function_view (get_or hs c.args.place d) in
    let wrong = fault_at c.args.scope c.all_params.new.types c.args.place in
    let meta = ap metadata_fault (sym c.attributes.ensures) ∙ c.in_ok-metadata.ensures.first in
    rw (p.1, p.2) (record {
      extended = c.in_err-params.ensures.extended;
      first = λ xs scope fn at. reports_same (ap (function_fault wrong xs) (borrowed_at hs c.args.place d fn c.requires.place at)) (params_first wrong xs here meta c.in_ok-check_given.ensures c.in_err-params.ensures.first);
    })

pub returns-in_err-result-clause-finds : goal.returns-in_err-result-clause-finds
returns-in_err-result-clause-finds c =
    let p = err_from_is_err_and c.from_residual-in_err-result.result c.from_residual-in_err-result.ensures.1 in
    let hs = c.args.scope.functions.now in
    let d = c.index-scope-place.result in
    let here = function_view (get_or hs c.args.place d) in
    let new = c.resolve_result.new.types in
    let wrong = fault_at c.args.scope new c.args.place in
    let meta = ap metadata_fault (sym c.attributes.ensures) ∙ c.in_ok-metadata.ensures.first in
    let more = c.in_err-result.ensures.finds.extended in
    let params = params_extended (env_of c.args.scope.names.now) c.all_params.new.types new (take (c.args.place + 1) (functions_view c.args.scope)) here here.func.params.items more c.in_ok-params.ensures.first in
    rw (p.1, p.2) (record {
      extended = extended_then _ _ _ c.in_ok-params.ensures.extended more;
      first = λ xs scope fn at. reports_same (ap (function_fault wrong xs) (borrowed_at hs c.args.place d fn c.requires.place at)) (returns_first wrong xs here meta c.in_ok-check_given.ensures params (c.in_err-result.ensures.finds.first xs scope));
    })

pub returns-clause-adds : goal.returns-clause-adds
returns-clause-adds c =
    let hs = c.args.scope.functions.now in
    let d = c.index-scope-place.result in
    let env = env_of c.args.scope.names.now in
    let here = function_view (get_or hs c.args.place d) in
    let mid = c.all_params.new.types in
    let new = c.resolve_result.new.types in
    let result = c.in_ok-result.ensures.adds in
    let owner = c.requires.owners.each c.args.place _ (borrowed_here hs c.args.place d c.requires.place) in
    let noted = noted_as here c.in_ok-metadata.metadata c.docs.result.now c.attributes.result.now c.in_ok-metadata.ensures.as_stated c.docs.ensures c.attributes.ensures in
    let handled = requires_types env mid new (map (λ p. p.ty) here.func.params.items) (option_to_list here.func.result) c.args.required.now.items c.all_params.new.required.items c.resolve_result.new.required.items c.in_ok-result.ensures.finds.extended c.in_ok-params.ensures.handled result.1 in
    record {
      adds = λ fn at s. borrowed_adds c.args.types.now mid new s c.args.scope.names.now here fn _ (borrowed_at hs c.args.place d fn c.requires.place at) c.in_ok-params.ensures.made result.0 c.in_ok-name.ensures owner c.kind_of.ensures c.span.ensures noted;
      named = λ fn at. (
          let same = borrowed_at hs c.args.place d fn c.requires.place at in
          (c.in_ok-name.ensures ∙ ap (λ (g : SourceFunction). g.name) same, c.span.ensures ∙ ap (λ (g : SourceFunction). g.span) same));
      mangled = subst (λ n. IsTrue (is_mangled n)) (sym c.in_ok-name.ensures) (mangled_view (get_or hs c.args.place d));
      handled = λ fn at. subst (λ (g : SourceFunction). Requires env new (all_handles (written_types g)) c.args.required.now.items c.resolve_result.new.required.items) (borrowed_at hs c.args.place d fn c.requires.place at) handled;
    }

pub returns-clause-finds : goal.returns-clause-finds
returns-clause-finds c =
    let hs = c.args.scope.functions.now in
    let d = c.index-scope-place.result in
    let here = function_view (get_or hs c.args.place d) in
    let new = c.resolve_result.new.types in
    let wrong = fault_at c.args.scope new c.args.place in
    let meta = ap metadata_fault (sym c.attributes.ensures) ∙ c.in_ok-metadata.ensures.first in
    let more = c.in_ok-result.ensures.finds.extended in
    let params = params_extended (env_of c.args.scope.names.now) c.all_params.new.types new (take (c.args.place + 1) (functions_view c.args.scope)) here here.func.params.items more c.in_ok-params.ensures.first in
    record {
      extended = extended_then _ _ _ c.in_ok-params.ensures.extended more;
      first = λ xs scope fn at. ap (function_fault wrong xs) (sym (borrowed_at hs c.args.place d fn c.requires.place at)) ∙ none_first wrong xs here meta c.in_ok-check_given.ensures params (c.in_ok-result.ensures.finds.first xs scope);
    }
