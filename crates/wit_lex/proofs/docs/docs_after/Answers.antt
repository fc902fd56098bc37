use Rattle.std.proofs.Common.{sym, ◌∙◌, arith, refl, rules}
use Rattle.wit_lex.proofs.Comments.{Start, Blank, Other, docs_more, stretch_skipped}
use Rattle.wit_lex.proofs.DocsLexing.{docs_lexed}
use Rattle.wit_lex.proofs.Lexing.{next_unlexed}
use Rattle.wit_lex.proofs.docs.docs_after.Goals as goal

pub loop-at-init : goal.loop-at-init
loop-at-init c = (omega arith, rw c.as_bytes-bytes.ensures.value c.requires.within, rw (c.none-docs.ensures.comments, c.none-docs.ensures.span) Start)

pub loop-at-preserved-then-is_blank : goal.loop-at-preserved-then-is_blank
loop-at-preserved-then-is_blank c =
    let i = c.loop-at.invariant in
    let low = i.0 in
    let room = c.loop-at-test.true in (
      omega arith,
      omega arith,
      Blank c.loop-at.docs.docs.items c.loop-at.docs.span c.loop-at.at i.2 (rw c.as_bytes-bytes.ensures.value at room) (rw c.as_bytes-bytes.ensures.value at (sym c.is_blank.ensures ∙ c.if-is_blank.true)),
    )

pub loop-at-preserved-in-Space : goal.loop-at-preserved-in-Space
loop-at-preserved-in-Space c =
    let i = c.loop-at.invariant in
    let low = i.0 in
    let room = c.loop-at-test.true in (
      omega arith,
      omega arith,
      Blank c.loop-at.docs.docs.items c.loop-at.docs.span c.loop-at.at i.2 (rw c.as_bytes-bytes.ensures.value at room) (rw c.as_bytes-bytes.ensures.value at c.in-Space.ensures),
    )

pub loop-at-preserved-in_ok-add_comment-in-Comment : goal.loop-at-preserved-in_ok-add_comment-in-Comment
loop-at-preserved-in_ok-add_comment-in-Comment c =
    let i = c.loop-at.invariant in
    let low = i.0 in
    let order = c.in-Comment.ensures.order in (
      omega arith,
      c.in-Comment.ensures.within,
      docs_more c.args.source.now c.args.offset c.args.from c.loop-at.docs.docs.items _ c.loop-at.docs.span _ c.span_at.result c.cut.result c.loop-at.at c.in-Comment.end
          i.2
          (rw c.as_bytes-bytes.ensures.value at c.in-Comment.ensures.comment)
          (rw c.as_bytes-bytes.ensures.value at c.if-is_docs.ensures)
          c.cut.ensures
          c.span_at.ensures.start
          c.span_at.ensures.end
          c.in_ok-add_comment-in-Comment.ensures.comments
          c.in_ok-add_comment-in-Comment.ensures.span,
    )

pub loop-at-preserved : goal.loop-at-preserved
loop-at-preserved c =
    let i = c.loop-at.invariant in
    let low = i.0 in
    let order = c.in-Comment.ensures.order in (
      omega arith,
      c.in-Comment.ensures.within,
      Other c.loop-at.docs.docs.items c.loop-at.docs.span c.loop-at.at c.in-Comment.end i.2
          (rw c.as_bytes-bytes.ensures.value at c.in-Comment.ensures.comment)
          (rw c.as_bytes-bytes.ensures.value at c.if-is_docs.ensures),
    )

pub returns-in-Endless-clause-unended : goal.returns-in-Endless-clause-unended
returns-in-Endless-clause-unended c = (stretch_skipped _ _ _ _ _ _ c.loop-at.invariant.2, rw c.as_bytes-bytes.ensures.value at c.in-Endless.ensures, refl)

pub returns-in-Endless-clause-unlexed : goal.returns-in-Endless-clause-unlexed
returns-in-Endless-clause-unlexed c = next_unlexed c.args.source.now c.args.from _ (stretch_skipped _ _ _ _ _ _ c.loop-at.invariant.2, rw c.as_bytes-bytes.ensures.value at c.in-Endless.ensures, refl)

pub returns-then-first-ne47-clause-lexed : goal.returns-then-first-ne47-clause-lexed
returns-then-first-ne47-clause-lexed c = docs_lexed c.args.source.now c.args.offset c.args.from c.loop-at.docs c.loop-at.at c.loop-at.invariant.2 (search rules)

pub returns-in-Nothing-clause-lexed : goal.returns-in-Nothing-clause-lexed
returns-in-Nothing-clause-lexed c = docs_lexed c.args.source.now c.args.offset c.args.from c.loop-at.docs c.loop-at.at c.loop-at.invariant.2 (search rules)

pub returns-clause-lexed : goal.returns-clause-lexed
returns-clause-lexed c = docs_lexed c.args.source.now c.args.offset c.args.from c.loop-at.docs c.loop-at.at c.loop-at.invariant.2 (search rules)
