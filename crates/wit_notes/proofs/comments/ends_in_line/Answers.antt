use Rattle.std.proofs.Common.{◌≡◌, ◌<◌, ◌-◌, ◌==◌, length, slice_index, arith}
use Rattle.wit_notes.specs.PlainComments.{ends_in_line}
use Rattle.wit_notes.proofs.PlainComments.{last-line}
use Rattle.wit_notes.proofs.comments.ends_in_line.Goals as goal

pub returns : goal.returns
returns c =
    let same = c.as_bytes-bytes.ensures.value in
    let some : 0 < length c.args.text.now = rw same at (let full = c.if-len-eq0.false in let low : 0 < length c.as_bytes-bytes.result.now = omega arith in low) in
    let last : (slice_index c.args.text.now (length c.args.text.now - 1) == 10) ≡ ends_in_line c.args.text.now = last-line c.args.text.now some in
    rw same last
