use Rattle.std.proofs.lemmas.Bool.Decides.{Decides-at}
use Rattle.wit_types.proofs.Same.{Decides-enum}
use Rattle.wit_types.proofs.laws.equality.is_same_enum.Goals as goal

pub returns : goal.returns
returns c = Decides-at _ _ c.eq.ensures (Decides-enum c.args.a.now c.args.b.now)
