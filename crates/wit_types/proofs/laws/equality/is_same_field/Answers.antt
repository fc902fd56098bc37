use Rattle.std.proofs.lemmas.Bool.Decides.{Decides-at}
use Rattle.wit_types.proofs.Same.{Decides-field}
use Rattle.wit_types.proofs.laws.equality.is_same_field.Goals as goal

pub returns : goal.returns
returns c = Decides-at _ _ c.eq.ensures (Decides-field c.args.a.now c.args.b.now)
