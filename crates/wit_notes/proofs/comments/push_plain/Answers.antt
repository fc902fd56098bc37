use Rattle.std.proofs.Common.{rules, ◌≡◌, ◌∙◌, sym, false}
use Rattle.wit_notes.specs.PlainComments.{ends_in_line}
use Rattle.wit_notes.proofs.PlainComments.{pushed-lines, pushed-plain}
use Rattle.wit_notes.proofs.comments.push_plain.Goals as goal

pub returns-then-ends_in_line : goal.returns-then-ends_in_line
returns-then-ends_in_line c = search (rules, pushed-lines)

pub returns : goal.returns
returns c =
    let inside : ends_in_line c.args.added.now ≡ false = sym c.ends_in_line.ensures ∙ c.if-ends_in_line.false in
    search (rules, pushed-plain, inside)
