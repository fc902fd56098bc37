use Rattle.std.proofs.lemmas.Bool.Decides.{Decides-at}
use Rattle.wit_types.proofs.Same.{Decides-type_def}
use Rattle.wit_types.proofs.laws.equality.is_same_type_def.Goals as goal

pub returns : goal.returns
returns c = Decides-at _ _ c.eq.ensures (Decides-type_def c.args.a.now c.args.b.now)
