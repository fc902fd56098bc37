use Rattle.std.proofs.lemmas.Bool.Decides.{Decides-at}
use Rattle.wit_functions.proofs.Same.{Decides-param}
use Rattle.wit_functions.proofs.laws.equality.is_same_param.Goals as goal

pub returns : goal.returns
returns c = Decides-at _ _ c.eq.ensures (Decides-param c.args.a.now c.args.b.now)
