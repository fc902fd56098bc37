use Rattle.std.proofs.Common.{arith, ◌≡◌, ap, ◌∙◌, length, get_or, cond, nat_lt, take}
use Rattle.std.proofs.lemmas.List.{with_items_is, get_or_default}
use Rattle.std.proofs.lemmas.List.Elements.{same_from_all_zip}
use Rattle.wit_order.specs.Heap.{times, row_at}
use Rattle.wit_order.specs.Turned.{edges_to}
use Rattle.wit_order.proofs.Spread.{spread_from, fill_begin, row_has_room, row_inside, fill_next, filled_cut, filled}
use Rattle.wit_order.proofs.turned.turned.Goals as goal

pub starts_of-requires : goal.starts_of-requires
starts_of-requires c = rw c.deref.ensures.value (omega (arith, c.in_ok-counts_to.ensures.all, c.len-len.ensures.few))

pub loop-p-init : goal.loop-p-init
loop-p-init c =
    let g = c.args.graph.now in
    let starts = c.in_ok-starts.starts.items in
    let at = rw c.deref.ensures.value at c.in_ok-starts.ensures in
    let s = spread_from g c.in_ok-counts_to.field-0.items starts c.in_ok-counts_to.ensures.long c.in_ok-counts_to.ensures.counts at.long at.starts in
    let same = same_from_all_zip _ starts c.in_ok-prefixes.prefixes.items c.in_ok-prefixes.ensures.cases.0 (λ x y e. e) in
    let n = c.index.ensures ∙ get_or_default starts c.len-len.result c.index.result.now 0 (omega (arith, c.len-len.ensures.long, s.long)) ∙ ap (λ k. get_or starts k 0) c.len-len.ensures.long in
    record { filling = fill_begin g starts c.in_ok-targets.targets.items c.in_ok-prefixes.prefixes.items c.index.result.now s (c.in_ok-targets.ensures.items_if_clones_equal (λ y e. e)) n same; long = ap length same }

pub add_user-requires-clause-room : goal.add_user-requires-clause-room
add_user-requires-clause-room c =
    let g = c.args.graph.now in
    let starts = c.in_ok-starts.starts.items in
    let at = rw c.deref.ensures.value at c.in_ok-starts.ensures in
    let s = spread_from g c.in_ok-counts_to.field-0.items starts c.in_ok-counts_to.ensures.long c.in_ok-counts_to.ensures.counts at.long at.starts in
    rw (c.deref_mut.ensures.value, c.deref_mut-in-loop-p.ensures.value) (
      starts,
      (λ w. edges_to w (take c.loop-p.p g)),
      (λ w q. cond (nat_lt q c.loop-p.p) (times w (row_at g q)) 0),
      c.loop-p.invariant.filling,
      row_has_room g starts s c.loop-p.p c.row.result.now c.row.ensures,
    )

pub add_user-requires-clause-within : goal.add_user-requires-clause-within
add_user-requires-clause-within c =
    let at = rw c.deref.ensures.value at c.in_ok-starts.ensures in
    rw c.deref_mut-in-loop-p.ensures.value (row_inside c.args.graph.now c.loop-p.p _ c.row.result.now c.requires c.row.ensures
    (omega (arith, c.loop-p.invariant.long, at.long, c.in_ok-counts_to.ensures.long)))

pub loop-p-preserved : goal.loop-p-preserved
loop-p-preserved c =
    let g = c.args.graph.now in
    let starts = c.in_ok-starts.starts.items in
    let at = rw c.deref.ensures.value at c.in_ok-starts.ensures in
    let s = spread_from g c.in_ok-counts_to.field-0.items starts c.in_ok-counts_to.ensures.long c.in_ok-counts_to.ensures.counts at.long at.starts in
    let wide : length c.add_user.new.users ≡ c.loop-p.targets.len = omega (arith, c.add_user.ensures.wide, c.deref_mut.ensures.len) in
    let long : length c.add_user.new.prefixes ≡ c.loop-p.prefixes.len = omega (arith, c.add_user.ensures.long, c.deref_mut-in-loop-p.ensures.len) in
    let filling = rw (c.deref_mut.ensures.value, c.deref_mut-in-loop-p.ensures.value) at c.add_user.ensures.filling in
    rw (with_items_is c.loop-p.targets c.add_user.new.users wide, with_items_is c.loop-p.prefixes c.add_user.new.prefixes long) (record {
      filling = fill_next g starts s c.loop-p.p c.row.result.now c.add_user.new.users c.add_user.new.prefixes c.row.ensures
          (filling starts _ _ c.loop-p.invariant.filling (row_has_room g starts s c.loop-p.p c.row.result.now c.row.ensures));
      long = omega (arith, long, c.loop-p.prefixes.ok, c.loop-p.invariant.long);
    })

pub returns : goal.returns
returns c =
    let g = c.args.graph.now in
    let starts = c.in_ok-starts.starts.items in
    let at = rw c.deref.ensures.value at c.in_ok-starts.ensures in
    let s = spread_from g c.in_ok-counts_to.field-0.items starts c.in_ok-counts_to.ensures.long c.in_ok-counts_to.ensures.counts at.long at.starts in
    filled g starts s c.loop-p.p c.loop-p.targets.items c.loop-p.prefixes.items c.loop-p.invariant.filling c.requires (omega (arith, c.loop-p-test.false, c.len-len.ensures.long))

pub invariant_of-result : goal.invariant_of-result
invariant_of-result c =
    let g = c.args.graph.now in
    let starts = c.in_ok-starts.starts.items in
    let at = rw c.deref.ensures.value at c.in_ok-starts.ensures in
    let s = spread_from g c.in_ok-counts_to.field-0.items starts c.in_ok-counts_to.ensures.long c.in_ok-counts_to.ensures.counts at.long at.starts in
    filled_cut g starts s c.loop-p.p c.loop-p.targets.items c.loop-p.prefixes.items c.loop-p.invariant.filling
