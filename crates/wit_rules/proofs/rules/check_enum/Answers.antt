use Rattle.std.proofs.Common.{sym, ◌∙◌}
use Rattle.wit_arena.proofs.Common.{EnumCase, codes}
use Rattle.wit_rules.proofs.ListRules.{members_found}
use Rattle.wit_rules.proofs.rules.check_enum.Goals as goal

pub returns : goal.returns
returns c = members_found 24 (codes "case") (λ (x : EnumCase). x.name) c.args.span c.args.cases.now c.deref.result.now c.check_unique_names.result (sym c.is_empty.ensures ∙ c.if-is_empty.false) (c.deref.ensures.value ∙ c.in_ok-names.ensures) c.check_unique_names.ensures
