use Rattle.std.proofs.lemmas.Bool.Decides.{Decides-at}
use Rattle.wit_model.proofs.SameMaps.{Decides-package}
use Rattle.wit_model.proofs.laws.equality.is_same_package.Goals as goal

pub returns : goal.returns
returns c = Decides-at _ _ c.eq.ensures (Decides-package c.args.a.now c.args.b.now)
