use Rattle.std.proofs.Common.{◌≡◌, Some, None, sym, ap, ◌∙◌}
use Rattle.wit_arena.proofs.Common.{option_copied, slice_get}
use Rattle.wit_rules.proofs.FunctionRules.{got_at}
use Rattle.wit_entries.proofs.EndsOfEntries.{past_other}
use Rattle.wit_entries.proofs.ends.end_at.Goals as goal

pub returns-in-Some : goal.returns-in-Some
returns-in-Some c = λ es as_stated. (
    let ends = c.args.ends.now in
    let at : slice_get ends c.index.result ≡ Some c.in-Some.end.now = sym (got_at ends c.index.result c.get.result c.get.ensures.lookup) ∙ ap option_copied c.in-Some.is in
    as_stated.each c.args.id c.in-Some.end.now (ap (slice_get ends) (sym c.index.ensures) ∙ at))

pub returns-in-None : goal.returns-in-None
returns-in-None c = λ es as_stated. (
    let ends = c.args.ends.now in
    let none : slice_get ends c.index.result ≡ None = sym (got_at ends c.index.result c.get.result c.get.ensures.lookup) ∙ ap option_copied c.in-None.is in
    past_other ends es c.args.id as_stated (ap (slice_get ends) (sym c.index.ensures) ∙ none))
