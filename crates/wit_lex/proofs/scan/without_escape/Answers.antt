use Rattle.std.proofs.Common.{◌≡◌, get_or, arith, ap, ◌∙◌, sym}
use Rattle.std.proofs.lemmas.Str.{IsCharBoundary-after_ascii}
use Rattle.wit_lex.proofs.scan.without_escape.Goals as goal

pub range_from-requires : goal.range_from-requires
range_from-requires c h =
    let quote : get_or c.args.text.now 0 0 ≡ 37 = ap (λ s. get_or s 0 0) (sym c.as_bytes-bytes.ensures.value) ∙ c.if-bytes-eq37.true in
    IsCharBoundary-after_ascii c.args.text.now 0 c.utf8.text (omega arith) (omega arith)
