use Rattle.std.proofs.Common.{◌≡◌, ◌+◌, ◌-◌, sym, ◌∙◌, arith}
use Rattle.wit_lex.specs.VersionEnds.{Start, Byte, Dot}
use Rattle.wit_lex.proofs.version_end.run_end.Goals as goal

pub loop-at-init : goal.loop-at-init
loop-at-init c = (omega arith, c.requires, λ lt. absurd (omega arith), Start)

pub loop-at-preserved-then-is_word_byte : goal.loop-at-preserved-then-is_word_byte
loop-at-preserved-then-is_word_byte c =
    let i = c.loop-at.invariant in
    let low = i.0 in
    let room = c.loop-at-test.true in
    let same : c.loop-at.at + 1 - 1 ≡ c.loop-at.at = omega arith in (
      omega arith,
      omega arith,
      λ lt. rw same (c.is_word_byte.ensures.ascii c.if-is_word_byte.true),
      Byte c.loop-at.at i.3 (sym c.is_word_byte.ensures.word ∙ c.if-is_word_byte.true),
    )

pub loop-at-preserved : goal.loop-at-preserved
loop-at-preserved c =
    let i = c.loop-at.invariant in
    let low = i.0 in
    let room = c.if-len-at-lt2.false in
    let same : c.loop-at.at + 2 - 1 ≡ c.loop-at.at + 1 = omega arith in (
      omega arith,
      omega arith,
      λ lt. rw same (c.is_word_byte-else-len-at-lt2.ensures.ascii c.if-not-is_word_byte.false),
      Dot c.loop-at.at i.3 c.if-bytes-at-ne46.false (sym c.is_word_byte-else-len-at-lt2.ensures.word ∙ c.if-not-is_word_byte.false),
    )
