use Rattle.std.proofs.lemmas.Bool.Decides.{Decides-at}
use Rattle.wit_intern.proofs.SameKeys.{Decides-key}
use Rattle.wit_intern.proofs.laws.is_same_key.Goals as goal

pub returns : goal.returns
returns c = Decides-at _ _ c.eq.ensures (Decides-key c.args.a.now c.args.b.now)
