use Rattle.std.proofs.Common.{sym, ap, ◌∙◌}
use Rattle.wit_syntax.proofs.Common.{leads, option_copied}
use Rattle.wit_top_names.proofs.FirstNames.{leads_some, leads_none}
use Rattle.wit_top_names.proofs.top_name.leads.Goals as goal

pub returns-in-Some : goal.returns-in-Some
returns-in-Some c = λ names named. leads_some names c.args.top.now c.in-Id.id c.in-Some.target.now named.finds (sym c.get_by.ensures ∙ ap option_copied c.in-Some.is) ∙ ap (leads names) (sym c.in-Id.is)

pub returns-in-None : goal.returns-in-None
returns-in-None c = λ names named. leads_none names c.args.top.now c.in-Id.id named.finds (sym c.get_by.ensures ∙ ap option_copied c.in-None.is) ∙ ap (leads names) (sym c.in-Id.is)
