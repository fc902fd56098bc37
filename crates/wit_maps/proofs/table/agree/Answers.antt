use Rattle.std.proofs.Common.{◌≡◌, ◌≤◌, Bool, Some, length, slice_get, sym, ap, ◌∙◌, arith, option_map}
use Rattle.std.specs.Map.{lookup_entry}
use Rattle.std.specs.Map.Iter.{deref_pair}
use Rattle.std.specs.Option.{option_eq}
use Rattle.wit_maps.proofs.Agreeing.{list_all-each, list_all-not}
use Rattle.wit_maps.proofs.table.agree.Goals as goal

pub returns-then-not-agree_at : goal.returns-then-not-agree_at
returns-then-not-agree_at g c =
    let same : g.row.K.Denot → Bool = (λ k. option_eq {T = g.row.K.Denot × g.row.V.Denot} (λ p q. g.V.PartialEq.eq p.1 q.1) (lookup_entry (g.K.PartialEq.eq k) c.args.one.now) (lookup_entry (g.K.PartialEq.eq k) c.args.other.now)) in
    let at : slice_get c.args.keys.now c.loop-place.place ≡ Some (c.in-Some.key.now, c.in-Some.field-0-1.now) = sym c.get_index.ensures ∙ ap (option_map deref_pair) c.in-Some.is in
    sym (list_all-not same c.args.keys.now c.loop-place.place _ at (sym c.agree_at.ensures ∙ c.if-not-agree_at.true))

pub returns : goal.returns
returns g c =
    let same : g.row.K.Denot → Bool = (λ k. option_eq {T = g.row.K.Denot × g.row.V.Denot} (λ p q. g.V.PartialEq.eq p.1 q.1) (lookup_entry (g.K.PartialEq.eq k) c.args.one.now) (lookup_entry (g.K.PartialEq.eq k) c.args.other.now)) in
    let end : length c.args.keys.now ≤ c.loop-place.place = omega (arith, c.loop-place-test.false, c.loop-place.auto.place-end, c.len-place-end.ensures) in
    sym (list_all-each same c.args.keys.now c.loop-place.place end c.loop-place.invariant)
