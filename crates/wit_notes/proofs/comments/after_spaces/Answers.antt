use Rattle.std.proofs.Common.{◌≡◌, ◌∙◌, sym, None, lit<}
use Rattle.std.proofs.lemmas.Str.Pattern.{strip_prefix_char}
use Rattle.wit_notes.proofs.Texts.{spaces-none}
use Rattle.wit_notes.proofs.comments.after_spaces.Goals as goal
use Rattle.wit_notes.specs.Texts.{after_spaces}

pub returns-in-None : goal.returns-in-None
returns-in-None c =
    let rest = c.loop-left.rest.now in
    let other = rw c.in-None.is at (strip_prefix_char 32 rest c.strip_prefix.result c.strip_prefix.ensures.cases (lit< tt)) in
    let none : after_spaces c.args.count c.args.text.now ≡ None = c.loop-left.invariant.1 ∙ spaces-none c.loop-left.left rest c.loop-left-test.true other in
    sym none
