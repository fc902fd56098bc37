use Rattle.std.proofs.Common.{◌≡◌, None, Some, inl, inr, sym, ap, ◌∙◌}
use Rattle.wit_arena.proofs.Common.{option_copied, slice_get}
use Rattle.wit_rules.proofs.FunctionRules.{got_at, no_param, second_param}
use Rattle.wit_rules.proofs.function_rules.check_setter.Goals as goal

pub returns-in-Some : goal.returns-in-Some
returns-in-Some c =
    let params = c.args.params.now in
    let at : slice_get params 1 ≡ Some c.in-Some.second.now = sym (got_at params 1 c.get.result c.get.ensures.lookup) ∙ ap option_copied c.in-Some.is in
    elim c.refuse.ensures [
      | inl memory ↦ inl memory
      | inr says ↦ inr (second_param params c.args.word c.in-Some.second.now at ∙ ap Some (sym says))
    ]

pub returns-in-None : goal.returns-in-None
returns-in-None c =
    let params = c.args.params.now in
    let none : slice_get params 1 ≡ None = sym (got_at params 1 c.get.result c.get.ensures.lookup) ∙ ap option_copied c.in-None.is in
    elim c.refuse-in-None.ensures [
      | inl memory ↦ inl memory
      | inr says ↦ inr (no_param params c.args.word c.if-params-eq1.false none ∙ ap Some (sym says))
    ]
