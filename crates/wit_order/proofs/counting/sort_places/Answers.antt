use Rattle.std.proofs.Common.{◌<◌, ◌^◌, ◌+◌, ℕ, List, [], arith, ap, sym, ◌∙◌, refl, length, get_or, sum, Vec, Global}
use Rattle.std.proofs.lemmas.List.{length_push}
use Rattle.std.proofs.lemmas.List.Sums.{sum-map}
use Rattle.std.proofs.lemmas.Option.{get_or_from_slice_get}
use Rattle.wit_order.specs.Heap.{times}
use Rattle.wit_order.specs.Released.{times_in}
use Rattle.wit_order.proofs.Counts.{one_same}
use Rattle.wit_graph.proofs.Sorting.{state_done, state_stuck}
use Rattle.wit_order.proofs.HeapState.{heap_start, borrowed, blocked_all}
use Rattle.wit_order.proofs.TreeState.{may_release, tree_pop, all_closed}
use Rattle.wit_order.proofs.counting.sort_places.Goals as goal

pub loop-turn-init : goal.loop-turn-init
loop-turn-init c =
    let off = c.in_ok-done.ensures.items_if_clones_equal (λ y e. e) in
    let same = ap (λ (v : Vec ℕ Global). v.items) c.new-ready.ensures.counts in
    rw (off, c.in_ok-order.ensures.items, c.len.ensures.long) (record {
      state = heap_start c.args.graph.now c.new-ready.result.counts.items (λ q. times_in q c.new-ready.result) c.requires
          (ap length same ∙ c.in_ok-counts_of.ensures.long) (λ q. ap (λ xs. get_or xs q 0) same ∙ c.in_ok-counts_of.ensures.counts q) c.new-ready.ensures.free;
      turn = refl;
      entered = c.new-ready.ensures.entered;
      closed = omega (arith, c.new-ready.ensures.closed, ap sum same, ap sum c.in_ok-counts_of.ensures.lengths, sum-map (λ (row : List ℕ). length row) c.args.graph.now);
    })

pub index_mut-requires : goal.index_mut-requires
index_mut-requires c =
    let p = c.in-Some.p in
    let f = borrowed c.requires c.loop-turn.invariant.state p (omega (arith, c.in-Some.ensures.some p, one_same p p refl)) in
    omega (arith, f.0, c.loop-turn.invariant.state.state.long, c.loop-turn.done.ok)

pub row-requires : goal.row-requires
row-requires c =
    let p = c.in-Some.p in
    let f = borrowed c.requires c.loop-turn.invariant.state p (omega (arith, c.in-Some.ensures.some p, one_same p p refl)) in
    omega (arith, f.0, c.in_ok-users.ensures.long)

pub release-requires : goal.release-requires
release-requires c =
    let p = c.in-Some.p in
    let s = c.loop-turn.invariant in
    let row = get_or_from_slice_get c.in_ok-users.users p c.row.result.now [] c.row.ensures in
    let room : c.loop-turn.ready.steps.closed + sum c.loop-turn.ready.counts.items < 2 ^ 64 = omega (arith, s.closed, c.len.ensures.few) in
    may_release c.requires c.loop-turn.ready c.take.new.self s.state p c.in-Some.ensures.counts c.in-Some.ensures.some c.row.result.now (λ q. ap (times q) (sym row) ∙ c.in_ok-users.ensures.noted p q)
    c.in-Some.ensures.steps s.entered room

pub returns-in-None-clause-sorted : goal.returns-in-None-clause-sorted
returns-in-None-clause-sorted c =
    let s = c.loop-turn.invariant in
    state_stuck c.args.graph.now c.loop-turn.done c.loop-turn.order.items c.requires s.state.state (omega (arith, s.turn, c.loop-turn-test.true, c.len-turn-end.ensures.long)) (blocked_all c.requires s.state c.in-None.ensures.none)

pub loop-turn-preserved : goal.loop-turn-preserved
loop-turn-preserved c =
    let p = c.in-Some.p in
    let s = c.loop-turn.invariant in
    let row = get_or_from_slice_get c.in_ok-users.users p c.row.result.now [] c.row.ensures in
    let r = c.in_ok-release-in-Some.ensures in
    rw c.in_ok-push-in-Some.ensures.items (record {
      state = tree_pop c.requires c.loop-turn.ready c.take.new.self s.state p c.in-Some.ensures.counts c.in-Some.ensures.some c.row.result.now (λ q. ap (times q) (sym row) ∙ c.in_ok-users.ensures.noted p q)
          c.release.new.ready c.in-Some.ensures.least r;
      turn = omega (arith, length_push c.loop-turn.order.items p, s.turn);
      entered = r.entered;
      closed = omega (arith, r.closed, s.closed, ap (λ (v : Vec ℕ Global). sum v.items) c.in-Some.ensures.counts, ap (λ x. x.closed) c.in-Some.ensures.steps);
    })

pub returns-clause-sorted : goal.returns-clause-sorted
returns-clause-sorted c =
    let s = c.loop-turn.invariant in
    state_done c.args.graph.now c.loop-turn.done.items c.loop-turn.order s.state.state (omega (arith, s.turn, c.loop-turn-test.false, c.len-turn-end.ensures.long))

pub returns-clause-steps : goal.returns-clause-steps
returns-clause-steps c =
    let s = c.loop-turn.invariant in
    let all = all_closed c.requires s.state (omega (arith, s.turn, c.loop-turn-test.false, c.len-turn-end.ensures.long)) in
    rw c.steps-2.ensures (s.entered ∙ all.0, omega (arith, s.closed, all.1))
