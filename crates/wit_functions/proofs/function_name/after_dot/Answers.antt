use Rattle.std.proofs.Common.{◌==◌, arith}
use Rattle.wit_functions.proofs.Marks.{position_or_len-found}
use Rattle.wit_functions.proofs.function_name.after_dot.Goals as goal

pub unreachable-requires : goal.unreachable-requires
unreachable-requires c =
    let ends = c.in-None.ensures.byte (omega arith) (λ w o h. h) in
    let before = position_or_len-found (λ b. b == 46) c.args.name.now c.requires in
    absurd (omega (arith, ends, before))
