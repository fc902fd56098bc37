use Rattle.std.proofs.Common.{◌≡◌, ◌-◌, arith, ap, ◌∙◌, nat_eq, slice_index}
use Rattle.std.proofs.lemmas.Bool.{cond-true, eq-eqb}
use Rattle.std.proofs.lemmas.List.{get_or-set_same, get_or_default}
use Rattle.wit_order.specs.Heap.{times}
use Rattle.wit_order.proofs.Counts.{one}
use Rattle.wit_order.proofs.ReadySet.{times_insert, below_put, ahead_set}
use Rattle.wit_order.proofs.ready.Ready.close.Goals as goal

pub invariant_of-self : goal.invariant_of-self
invariant_of-self c = record {
  below = below_put c.insert.result c.args.self.now.passed.keys c.insert.new.self.keys c.args.user c.args.self.now.next c.insert.ensures.keys c.insert.ensures.err (omega (arith, c.requires.fresh)) c.if-user-self.true
      c.args.self.now.below;
}

pub returns-in_ok-insert-clause-places : goal.returns-in_ok-insert-clause-places
returns-in_ok-insert-clause-places c = λ q.
    let counts = c.args.self.now.counts.items in
    let user = c.args.user in
    let down = c.index.ensures ∙ get_or-set_same counts user (c.index_mut.result.now - 1) c.index.result.now c.requires.within in
    let here = c.index_mut.ensures.value ∙ get_or_default counts user c.index_mut.result.now 0 c.requires.within in
    let last : slice_index counts user ≡ 1 = omega (arith, c.requires.some, down, here, c.if-index-eq0.true) in
    let came = cond-true (nat_eq (slice_index counts user) 1) (one user q) 0 (eq-eqb (slice_index counts user) 1 last) in
    let more = ap (times q) c.in_ok-insert.ensures.keys ∙ times_insert q user c.args.self.now.passed.keys (omega (arith, c.requires.fresh)) in
    omega (arith, came, more, ahead_set q user (c.index_mut.result.now - 1) c.args.self.now.next counts c.if-user-self.true)
