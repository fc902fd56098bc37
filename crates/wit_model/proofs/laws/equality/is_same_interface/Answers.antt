use Rattle.std.proofs.lemmas.Bool.Decides.{Decides-at}
use Rattle.wit_model.proofs.SameMaps.{Decides-interface}
use Rattle.wit_model.proofs.laws.equality.is_same_interface.Goals as goal

pub returns : goal.returns
returns c = Decides-at _ _ c.eq.ensures (Decides-interface c.args.a.now c.args.b.now)
