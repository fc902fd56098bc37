use Rattle.std.proofs.lemmas.Bool.Decides.{Decides-at}
use Rattle.wit_lex.proofs.Maps.{Decides-map}
use Rattle.wit_lex.proofs.source_map.is_same_map.Goals as goal

pub returns : goal.returns
returns c = Decides-at _ _ c.eq.ensures (Decides-map c.args.a.now c.args.b.now)
