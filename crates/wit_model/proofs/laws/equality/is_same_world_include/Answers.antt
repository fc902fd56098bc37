use Rattle.std.proofs.lemmas.Bool.Decides.{Decides-at}
use Rattle.wit_model.proofs.Same.{Decides-include}
use Rattle.wit_model.proofs.laws.equality.is_same_world_include.Goals as goal

pub returns : goal.returns
returns c = Decides-at _ _ c.eq.ensures (Decides-include c.args.a.now c.args.b.now)
