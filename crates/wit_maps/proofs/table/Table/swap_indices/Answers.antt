use Rattle.std.proofs.Common.{◌<◌, length, swap, sym, ap, ◌∙◌, subst, arith}
use Rattle.std.specs.Map.{keys_of}
use Rattle.wit_maps.specs.Indexed.{AreApart}
use Rattle.wit_maps.proofs.Indexed.{apart_of}
use Rattle.wit_maps.proofs.IndexMaps.{apart_swap}
use Rattle.wit_maps.proofs.table.Table.swap_indices.Goals as goal

pub swap-requires-clause-i_in_bounds : goal.swap-requires-clause-i_in_bounds
swap-requires-clause-i_in_bounds g c = omega (arith, c.requires.one, ap (λ l. length l) c.self.view_is)

pub swap-requires-clause-j_in_bounds : goal.swap-requires-clause-j_in_bounds
swap-requires-clause-j_in_bounds g c = omega (arith, c.requires.other, ap (λ l. length l) c.self.view_is)

pub invariant_of-self : goal.invariant_of-self
invariant_of-self g c =
    let eq = g.K.PartialEq.eq in
    let es = c.self.inside.entries.items in
    let one : c.args.one < length es = rw (← c.self.view_is) at c.requires.one in
    let other : c.args.other < length es = rw (← c.self.view_is) at c.requires.other in
    subst (λ l. AreApart eq (keys_of l)) (sym c.swap.ensures.items) (apart_swap eq g.met.K.Eq.laws es c.args.one c.args.other one other (apart_of eq g.K.Ord.cmp g.K.Hash.hash_input (keys_of es) c.self.inside.index c.self.invariant))

pub returns : goal.returns
returns g c = c.swap.ensures.items ∙ ap (λ l. swap l c.args.one c.args.other) c.self.view_is
