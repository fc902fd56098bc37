use Rattle.std.proofs.Common.{◌∙◌}
use Rattle.wit_maps.proofs.Agreeing.{option_eq-found}
use Rattle.wit_maps.proofs.table.agree_at.Goals as goal

pub returns : goal.returns
returns g c = c.eq.ensures ∙ option_eq-found g.V.PartialEq.eq (g.K.PartialEq.eq c.args.key.now) c.args.one.now c.args.other.now c.get.result c.get-2.result c.get.ensures c.get-2.ensures
