use Rattle.std.proofs.Common.{List, ◌++◌, map, ap, sym, ◌∙◌, arith}
use Rattle.wit_syntax.proofs.Common.{Param}
use Rattle.wit_arena.proofs.Common.{take_all, written_param}
use Rattle.wit_rules.specs.Signatures.{function_view}
use Rattle.wit_rules.proofs.FunctionRules.{names-append}
use Rattle.wit_rules.proofs.function_rules.param_names.Goals as goal

pub returns : goal.returns
returns c =
    let fn = function_view c.args.function in
    let params = c.params-params.result.now in
    c.loop-param.invariant
    ∙ ap (λ (ps : List Param). map (λ p. p.name) fn.given ++ map (λ p. p.name.name.now) ps) (take_all c.loop-param.param-index params (omega arith))
    ∙ sym (names-append fn.given (map written_param fn.func.params.items) params (ap (map written_param) c.params-params.ensures))
