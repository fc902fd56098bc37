use Rattle.std.proofs.Common.{arith}
use Rattle.wit_json.proofs.Short.{decimal_short, short_written}
use Rattle.wit_json.proofs.output.Output.number.Goals as goal

pub invariant_of-self : goal.invariant_of-self
invariant_of-self c = short_written _ _ _ _ c.u64.ensures (decimal_short c.args.n (omega (arith, c.ranges.n))) c.self.invariant
