use Rattle.std.proofs.Common.{refl, arith}
use Rattle.wit_syntax.proofs.Common.{nil_from_length}
use Rattle.wit_notes.proofs.attributes.stated_stability.Goals as goal

pub returns-then-attributes-eq0 : goal.returns-then-attributes-eq0
returns-then-attributes-eq0 c = rw (nil_from_length c.args.attributes.now (omega (arith, c.if-attributes-eq0.true))) refl
