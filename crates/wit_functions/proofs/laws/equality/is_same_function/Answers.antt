use Rattle.std.proofs.lemmas.Bool.Decides.{Decides-at}
use Rattle.wit_functions.proofs.Same.{Decides-function}
use Rattle.wit_functions.proofs.laws.equality.is_same_function.Goals as goal

pub returns : goal.returns
returns c = Decides-at _ _ c.eq.ensures (Decides-function c.args.a.now c.args.b.now)
