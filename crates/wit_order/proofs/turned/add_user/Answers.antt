use Rattle.std.proofs.Common.{arith, ◌+◌, ◌-◌, ap, get_or, cond, nat_eq}
use Rattle.std.proofs.lemmas.List.{take_all, length-set}
use Rattle.wit_order.specs.Heap.{times}
use Rattle.wit_order.proofs.Filling.{filling_same, row_some, row_prefix, row_filling}
use Rattle.wit_order.proofs.turned.add_user.Goals as goal

pub overflow_sub-prefix : goal.overflow_sub-prefix
overflow_sub-prefix c =
    let r = c.requires.room in
    let f = c.loop-w.invariant.filling r.0 r.1 r.2 r.3 r.4 in
    row_some r.0 r.1 r.2 c.loop-w.users c.loop-w.prefixes c.args.row.now c.loop-w.w-index c.args.p c.loop-w-test.true r.4 f
    (omega (arith, c.requires.within c.loop-w.w-index 0 c.loop-w-test.true, r.3.long))

pub bounds-users-prefix : goal.bounds-users-prefix
bounds-users-prefix c =
    let r = c.requires.room in
    let f = c.loop-w.invariant.filling r.0 r.1 r.2 r.3 r.4 in
    row_prefix r.0 r.1 r.2 c.loop-w.users c.loop-w.prefixes c.args.row.now c.loop-w.w-index c.args.p c.loop-w-test.true r.4 f
    (omega (arith, c.requires.within c.loop-w.w-index 0 c.loop-w-test.true, r.3.long))

pub offset_bounds-users-prefix : goal.offset_bounds-users-prefix
offset_bounds-users-prefix c =
    let r = c.requires.room in
    let f = c.loop-w.invariant.filling r.0 r.1 r.2 r.3 r.4 in
    let inside = row_prefix r.0 r.1 r.2 c.loop-w.users c.loop-w.prefixes c.args.row.now c.loop-w.w-index c.args.p c.loop-w-test.true r.4 f
    (omega (arith, c.requires.within c.loop-w.w-index 0 c.loop-w-test.true, r.3.long)) in
    omega (arith, inside, c.loop-w.auto.users)

pub loop-w-preserved : goal.loop-w-preserved
loop-w-preserved c = record {
  wide = omega (arith, length-set c.loop-w.users (get_or c.loop-w.prefixes (get_or c.args.row.now c.loop-w.w-index 0 + 1) 0 - 1) c.args.p, c.loop-w.invariant.wide);
  long = omega (
    arith,
    length-set c.loop-w.prefixes (get_or c.args.row.now c.loop-w.w-index 0 + 1) (get_or c.loop-w.prefixes (get_or c.args.row.now c.loop-w.w-index 0 + 1) 0 - 1),
    c.loop-w.invariant.long,
  );
  filling = λ starts put seen f room. row_filling starts put seen c.loop-w.users c.loop-w.prefixes c.args.row.now c.loop-w.w-index c.args.p c.loop-w-test.true room (c.loop-w.invariant.filling starts put seen f room)
      (omega (arith, c.requires.within c.loop-w.w-index 0 c.loop-w-test.true, f.long));
}

pub returns-clause-filling : goal.returns-clause-filling
returns-clause-filling c = λ starts put seen f room.
    let all = take_all c.loop-w.w-index c.args.row.now (omega arith) in
    filling_same starts _ _ _ _ _ _ (λ w. ap (λ xs. put w + times w xs) all) (λ w q. ap (λ xs. seen w q + cond (nat_eq c.args.p q) (times w xs) 0) all)
    (c.loop-w.invariant.filling starts put seen f room)
