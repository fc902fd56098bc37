use Rattle.std.proofs.lemmas.Bool.Decides.{Decides-at}
use Rattle.wit_model.proofs.Same.{Decides-world_item}
use Rattle.wit_model.proofs.laws.equality.is_same_world_item.Goals as goal

pub returns : goal.returns
returns c = Decides-at _ _ c.eq.ensures (Decides-world_item c.args.a.now c.args.b.now)
