use Rattle.std.proofs.Common.{sym, ◌∙◌}
use Rattle.wit_refusals.proofs.Cases.{texts-lower}
use Rattle.wit_refusals.proofs.repeats.first_folded_repeat.Goals as goal

pub returns-else-have_upper_case : goal.returns-else-have_upper_case
returns-else-have_upper_case c = let same = texts-lower c.args.texts.now (sym c.have_upper_case.ensures ∙ c.if-have_upper_case.false) in record {
  some = rw (← same) c.first_repeat-else-have_upper_case.ensures.some;
  first = rw (← same) c.first_repeat-else-have_upper_case.ensures.first;
  none = rw (← same) c.first_repeat-else-have_upper_case.ensures.none;
}
