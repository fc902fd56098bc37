use Rattle.std.proofs.Common.{sym, ◌∙◌}
use Rattle.wit_rules.proofs.ListRules.{flags_found}
use Rattle.wit_rules.proofs.rules.check_flags.Goals as goal

pub returns : goal.returns
returns c = flags_found c.args.span c.args.flags.now c.deref.result.now c.check_unique_names.result (sym c.is_empty.ensures ∙ c.if-is_empty.false) c.in_ok-check_count.ensures (c.deref.ensures.value ∙ c.in_ok-names.ensures) c.check_unique_names.ensures
