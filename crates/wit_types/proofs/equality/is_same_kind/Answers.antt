use Rattle.std.proofs.lemmas.Bool.Decides.{Decides-at}
use Rattle.wit_types.proofs.Same.{Decides-kind}
use Rattle.wit_types.proofs.equality.is_same_kind.Goals as goal

pub returns : goal.returns
returns c = Decides-at _ _ c.eq.ensures (Decides-kind c.args.a.now c.args.b.now)
