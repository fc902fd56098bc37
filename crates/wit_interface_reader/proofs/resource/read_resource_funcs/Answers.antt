use Rattle.std.proofs.Common.{rules}
use Rattle.std.proofs.lemmas.Result.{err_from_is_err_and}
use Rattle.wit_grammar.specs.Seen.{see_resource_func}
use Rattle.wit_grammar.specs.ItemRules.{resource_function, braced_functions}
use Rattle.wit_interface_reader.proofs.Braces.{braces_opened, braces_more, braces_closed, braces_stop, braces_unclosed}
use Rattle.wit_interface_reader.proofs.resource.read_resource_funcs.Goals as goal

pub funcs-init : goal.funcs-init
funcs-init c = rw c.new-funcs.ensures.items (braces_opened see_resource_func resource_function c.in_ok-expect.ensures.reads)

pub funcs-preserved : goal.funcs-preserved
funcs-preserved c =
    braces_more resource_function c.push.new.items.items _ c.funcs.invariant (search rules) c.in_ok-func.ensures.reads c.in_ok-push.ensures

pub returns-clause-reads : goal.returns-clause-reads
unfolding braced_functions
returns-clause-reads c = rw c.shrunk.ensures (braces_closed resource_function c.funcs.invariant (search rules) c.in_ok-bump.ensures.reads)

pub returns-in_err-func-clause-stops : goal.returns-in_err-func-clause-stops
unfolding braced_functions
returns-in_err-func-clause-stops c =
    let p = err_from_is_err_and c.from_residual-in_err-func.result c.from_residual-in_err-func.ensures.1 in
    rw (p.1, p.2) (braces_stop resource_function _ c.funcs.invariant (search rules) c.in_err-func.ensures.stops)

pub returns-in_err-bump-clause-stops : goal.returns-in_err-bump-clause-stops
unfolding braced_functions
returns-in_err-bump-clause-stops c =
    let p = err_from_is_err_and c.from_residual-in_err-bump.result c.from_residual-in_err-bump.ensures.1 in
    rw (p.1, p.2) (braces_unclosed resource_function _ c.funcs.invariant (search rules) c.in_err-bump.ensures.stops)
