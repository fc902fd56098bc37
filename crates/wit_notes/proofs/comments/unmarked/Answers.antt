use Rattle.std.proofs.Common.{◌≡◌, ◌∙◌, ap, sym, Some}
use Rattle.wit_syntax.proofs.Common.{codes, option_copied, rest_after}
use Rattle.wit_notes.proofs.Texts.{unmarked-slashes}
use Rattle.wit_notes.proofs.comments.unmarked.Goals as goal

pub returns-in-Some : goal.returns-in-Some
returns-in-Some c =
    let found : rest_after (codes "///") c.args.comment.now ≡ Some c.in-Some.rest.now = sym c.rest_after.ensures ∙ ap option_copied c.in-Some.is in
    c.after_slashes.ensures ∙ unmarked-slashes c.args.comment.now c.in-Some.rest.now found
