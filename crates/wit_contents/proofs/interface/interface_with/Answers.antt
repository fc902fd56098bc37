use Rattle.std.proofs.Common.{◌++◌, List, ap, ◌∙◌}
use Rattle.wit_contents.proofs.Names.{Required}
use Rattle.wit_contents.proofs.interface.interface_with.Goals as goal

pub returns-clause-required : goal.returns-clause-required
returns-clause-required c = c.in_ok-add_required.ensures ∙ ap (λ (l : List Required). c.args.required.now.items ++ l) c.deref.ensures.value
