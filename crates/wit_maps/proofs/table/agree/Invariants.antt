use Rattle.std.specs.Map.{lookup_entry}
use Rattle.std.specs.Option.{option_eq}
use Rattle.wit_maps.proofs.Agreeing.{AllBefore}
use Rattle.wit_maps.proofs.table.agree.Given as goal

abbrev pub invariant-loop-place : goal.invariant-loop-place
invariant-loop-place g l = AllBefore (λ k. option_eq {T = g.row.K.Denot × g.row.V.Denot} (λ p q. g.V.PartialEq.eq p.1 q.1) (lookup_entry (g.K.PartialEq.eq k) l.one) (lookup_entry (g.K.PartialEq.eq k) l.other)) l.keys l.place
