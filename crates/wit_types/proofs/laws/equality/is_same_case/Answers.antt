use Rattle.std.proofs.lemmas.Bool.Decides.{Decides-at}
use Rattle.wit_types.proofs.Same.{Decides-case}
use Rattle.wit_types.proofs.laws.equality.is_same_case.Goals as goal

pub returns : goal.returns
returns c = Decides-at _ _ c.eq.ensures (Decides-case c.args.a.now c.args.b.now)
