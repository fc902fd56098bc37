use Rattle.std.proofs.Common.{ap, arith}
use Rattle.wit_externs.specs.Clash.{lone_setters}
use Rattle.wit_item_entries.proofs.NameOrder.{no_functions}
use Rattle.wit_contents.proofs.interface.check_pairs.Goals as goal

pub check_setters-requires : goal.check_setters-requires
check_setters-requires c = c.requires (omega (arith, c.if-functions-eq0.false))

pub returns-then-functions-eq0 : goal.returns-then-functions-eq0
returns-then-functions-eq0 c = record { first = ap lone_setters (no_functions c.args.functions.now (omega (arith, c.if-functions-eq0.true))) }
