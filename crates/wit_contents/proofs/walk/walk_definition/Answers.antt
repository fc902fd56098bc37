use Rattle.std.proofs.Common.{refl, ◌∙◌}
use Rattle.wit_contents.proofs.Names.{err_from_is_err_and, stage, walk_of}
use Rattle.wit_contents.proofs.MemberFaults.{all_done, all_functions, function_sides, nothing_done, part_done, part_first, part_next}
use Rattle.wit_contents.proofs.walk.walk_definition.Goals as goal

pub loop-function-init : goal.loop-function-init
loop-function-init c = nothing_done (walk_of c.args.item.now c.args.walk.now) _ (stage c.args.growing.now c.args.walked.now)

pub walk_function-requires : goal.walk_function-requires
walk_function-requires c = part_next (function_sides c.args.definition.now.name) c.resource_functions-function-items.result.now c.loop-function.invariant (c.resource_functions-function-items.ensures ∙ all_functions _ _) c.loop-function-test.true c.function-item.is refl c.requires

pub loop-function-preserved : goal.loop-function-preserved
loop-function-preserved c = part_done (function_sides c.args.definition.now.name) c.resource_functions-function-items.result.now c.loop-function.invariant (c.resource_functions-function-items.ensures ∙ all_functions _ _) c.loop-function-test.true c.function-item.is refl _ c.in_ok-walk_function.ensures.adds c.in_ok-walk_function.ensures.first

-- all functions were done
pub returns-clause-adds : goal.returns-clause-adds
returns-clause-adds c = (all_done (function_sides c.args.definition.now.name) c.resource_functions-function-items.result.now c.loop-function.invariant (c.resource_functions-function-items.ensures ∙ all_functions _ _) c.loop-function-test.false).adds

pub returns-clause-first : goal.returns-clause-first
returns-clause-first c = (all_done (function_sides c.args.definition.now.name) c.resource_functions-function-items.result.now c.loop-function.invariant (c.resource_functions-function-items.ensures ∙ all_functions _ _) c.loop-function-test.false).none

pub returns-in_err-walk_function-clause-first : goal.returns-in_err-walk_function-clause-first
returns-in_err-walk_function-clause-first c =
    let p = err_from_is_err_and c.from_residual.result c.from_residual.ensures.1 in
    rw (p.1, p.2) (part_first (function_sides c.args.definition.now.name) c.resource_functions-function-items.result.now c.loop-function.invariant (c.resource_functions-function-items.ensures ∙ all_functions _ _) c.loop-function-test.true c.function-item.is refl _ c.in_err-walk_function.ensures.first)
