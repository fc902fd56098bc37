use Rattle.wit_arena.proofs.Common.{Decides-and, Decides-at, Decides-like}
use Rattle.wit_lex.proofs.Maps.{Decides-map}
use Rattle.wit_model.proofs.SameMaps.{Decides-lists, Decides-package}
use Rattle.wit_groups.proofs.laws.is_same_group.Goals as goal

pub returns : goal.returns
returns c = Decides-at _ _ c.eq.ensures (Decides-like _ (λ e. record { main = e.0; nested = e.1.0; sources = e.1.1 }) (λ s. (s.main, (s.nested, s.sources))) (Decides-and _ _ (Decides-package c.args.a.now.main c.args.b.now.main) (Decides-and _ _ (Decides-lists Decides-package c.args.a.now.nested c.args.b.now.nested) (Decides-map c.args.a.now.source_map c.args.b.now.source_map))))
