use Rattle.std.proofs.Common.{◌-◌, ◌+◌, ◌≡◌, subst, arith}
use Rattle.std.specs.Str.{IsCharBoundary}
use Rattle.std.proofs.lemmas.Str.{IsCharBoundary-after_ascii}
use Rattle.wit_lex.proofs.scan.cut.Goals as goal

pub range-requires-clause-end_boundary : goal.range-requires-clause-end_boundary
range-requires-clause-end_boundary c =
    let end = c.args.end in
    let same : end - 1 + 1 ≡ end = omega arith in (
      c.requires.within,
      λ lt high.
          (subst (IsCharBoundary c.args.text.now) same (IsCharBoundary-after_ascii c.args.text.now (end - 1) c.utf8.text (omega arith) (c.requires.last lt high))).1
          lt
          high,
    )
