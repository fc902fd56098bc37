use Rattle.std.proofs.Common.{sym, ◌∙◌, arith}
use Rattle.wit_lex.specs.Blanks.{Here, PastBlank, PastComment}
use Rattle.wit_lex.proofs.blank.skip_blanks.Goals as goal

pub loop-at-init : goal.loop-at-init
loop-at-init c = (omega arith, c.requires, Here)

pub loop-at-preserved-then-is_blank : goal.loop-at-preserved-then-is_blank
loop-at-preserved-then-is_blank c =
    let i = c.loop-at.invariant in
    let low = i.0 in
    let room = c.loop-at-test.true in
    (omega arith, omega arith, PastBlank c.loop-at.at i.2 room (sym c.is_blank.ensures ∙ c.if-is_blank.true))

pub loop-at-preserved : goal.loop-at-preserved
loop-at-preserved c =
    let i = c.loop-at.invariant in
    let low = i.0 in
    let order = c.in-Comment.ensures.order in
    (omega arith, c.in-Comment.ensures.within, PastComment c.loop-at.at c.in-Comment.end i.2 c.in-Comment.ensures.comment)
