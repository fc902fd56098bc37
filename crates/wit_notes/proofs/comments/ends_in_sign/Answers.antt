use Rattle.std.proofs.Common.{◌≡◌, ◌-◌, ◌<◌, true, ◌∙◌, sym, arith, length, slice_index}
use Rattle.wit_syntax.proofs.Common.{is_ascii_graphic}
use Rattle.wit_notes.proofs.Trimmed.{sign-trimmed}
use Rattle.wit_notes.proofs.comments.ends_in_sign.Goals as goal

pub returns : goal.returns
returns c = λ sign.
    let same = c.as_bytes-bytes.ensures.value in
    let some : 0 < length c.args.text.now = rw same at (let full = c.if-len-eq0.false in let low : 0 < length c.as_bytes-bytes.result.now = omega arith in low) in
    let last : is_ascii_graphic (slice_index c.args.text.now (length c.args.text.now - 1)) ≡ true = rw same at (sym c.is_ascii_graphic.ensures.value ∙ sign) in
    sign-trimmed c.args.text.now c.utf8.text some last
