use Rattle.std.proofs.Common.{sym, ◌∙◌}
use Rattle.wit_maps.proofs.Agreeing.{entries_eq-then, entries_eq-else}
use Rattle.wit_maps.proofs.table.TablePartialEq.eq.Goals as goal

pub returns-then-agree : goal.returns-then-agree
returns-then-agree g c = entries_eq-then g.K.PartialEq.eq g.V.PartialEq.eq c.args.self.now c.args.other.now c.agree-then-agree.result (sym c.if-agree.true ∙ c.agree.ensures) c.agree-then-agree.ensures

pub returns-else-agree : goal.returns-else-agree
returns-else-agree g c = c.if-agree.false ∙ entries_eq-else g.K.PartialEq.eq g.V.PartialEq.eq c.args.self.now c.args.other.now (sym c.if-agree.false ∙ c.agree.ensures)
