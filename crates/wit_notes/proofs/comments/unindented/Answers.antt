use Rattle.std.proofs.Common.{◌∙◌, sym, ap}
use Rattle.wit_syntax.proofs.Common.{option_copied}
use Rattle.wit_notes.proofs.PlainComments.{spaces-indent}
use Rattle.wit_notes.proofs.comments.unindented.Goals as goal

pub returns-in-Some-clause-some : goal.returns-in-Some-clause-some
returns-in-Some-clause-some c = λ _. spaces-indent c.args.count c.args.text.now c.in-Some.rest.now (sym c.after_spaces.ensures ∙ ap option_copied c.in-Some.is)
