use Rattle.std.proofs.Common.{refl, sym, ◌∙◌}
use Rattle.wit_arena.proofs.Common.{Getter}
use Rattle.wit_type_tree.specs.declared.types.FuncForm.TheVariants.{Setter}
use Rattle.wit_rules.specs.Signatures.{function_view}
use Rattle.wit_rules.proofs.FunctionRules.{given_found}
use Rattle.wit_rules.proofs.function_rules.check_given.Goals as goal

pub returns-in-Getter : goal.returns-in-Getter
returns-in-Getter c =
    let fn = function_view c.args.function in
    given_found fn Getter c.params.result.now fn.func.span c.check_getter.result (sym c.in-Getter.is ∙ c.form.ensures) c.params.ensures refl (c.check_getter.ensures fn.func.span)

pub returns-in-Setter : goal.returns-in-Setter
returns-in-Setter c =
    let fn = function_view c.args.function in
    given_found fn Setter c.params-in-Setter.result.now c.word.result c.check_setter.result (sym c.in-Setter.is ∙ c.form.ensures) c.params-in-Setter.ensures c.word.ensures c.check_setter.ensures
