use Rattle.std.proofs.Common.{◌≡◌, ◌+◌, ◌-◌, subst, arith}
use Rattle.wit_type_tree.specs.Comments.{IsNested, Opened, Deeper, Inside}
use Rattle.wit_lex.proofs.Comments.{nested_closed, nested_last, nested_slash}
use Rattle.wit_lex.proofs.blank.block_end.Goals.{else-slash-at-via-then-slash-at+else-bytes-slash-eq42, else-slash-at-via-else-slash-at, else-len-slash-ge2-via-then-len-slash-ge2+else-bytes-slash-eq42-2, else-len-slash-ge2-via-else-len-slash-ge2}
use Rattle.wit_lex.proofs.blank.block_end.Goals as goal

pub loop-slash-init : goal.loop-slash-init
loop-slash-init c =
    let within = c.requires.within in
    (omega arith, omega arith, omega arith, omega arith, Opened c.requires)

pub returns-then-depth-le1-clause-whole : goal.returns-then-depth-le1-clause-whole
returns-then-depth-le1-clause-whole c =
    let i = c.loop-slash.invariant in
    let most = c.if-depth-le1.true in
    let none : c.loop-slash.depth - 1 ≡ 0 = omega arith in
    subst (λ d. IsNested c.args.bytes.now c.args.from d (c.in-Some.slash + 1)) none
    (nested_closed c.args.bytes.now c.args.from c.loop-slash.depth c.loop-slash.at c.in-Some.slash i.4 i.2 c.in-Some.ensures.found c.if-slash-at.true c.if-bytes-slash-eq42.true)

pub loop-slash-preserved-then-bytes-slash-eq42 : goal.loop-slash-preserved-then-bytes-slash-eq42
loop-slash-preserved-then-bytes-slash-eq42 c =
    let i = c.loop-slash.invariant in
    let low = i.0 in
    let deep = i.3 in
    let next = c.in-Some.ensures.found in
    let high = next.high in
    let order = next.low in
    let more = c.if-depth-le1.false in (
      omega arith,
      omega arith,
      omega arith,
      omega arith,
      nested_closed c.args.bytes.now c.args.from c.loop-slash.depth c.loop-slash.at c.in-Some.slash i.4 i.2 next c.if-slash-at.true c.if-bytes-slash-eq42.true,
    )

pub loop-slash-preserved-then-bytes-slash-eq42-2 : goal.loop-slash-preserved-then-bytes-slash-eq42-2
loop-slash-preserved-then-bytes-slash-eq42-2 c =
    let i = c.loop-slash.invariant in
    let low = i.0 in
    let deep = i.3 in
    let next = c.in-Some.ensures.found in
    let high = next.high in
    let order = next.low in
    let room = c.if-len-slash-ge2.true in
    let here = nested_slash c.args.bytes.now c.args.from c.loop-slash.depth c.loop-slash.at c.in-Some.slash i.4 i.2 next (λ less star. elim c.else-slash-at.branch [
      | else-slash-at-via-then-slash-at+else-bytes-slash-eq42 w ↦ w.if-bytes-slash-eq42.false star
      | else-slash-at-via-else-slash-at w ↦ (let none = w.if-slash-at.false in omega arith)
    ]) in (
      omega arith,
      omega arith,
      omega arith,
      omega arith,
      Deeper c.loop-slash.depth c.in-Some.slash here i.2 (record { within = omega arith; first = next.slash; second = c.if-bytes-slash-eq42-2.true }),
    )

pub loop-slash-preserved : goal.loop-slash-preserved
loop-slash-preserved c =
    let i = c.loop-slash.invariant in
    let low = i.0 in
    let deep = i.3 in
    let next = c.in-Some.ensures.found in
    let high = next.high in
    let order = next.low in
    let here = nested_slash c.args.bytes.now c.args.from c.loop-slash.depth c.loop-slash.at c.in-Some.slash i.4 i.2 next (λ less star. elim c.else-slash-at.branch [
      | else-slash-at-via-then-slash-at+else-bytes-slash-eq42 w ↦ w.if-bytes-slash-eq42.false star
      | else-slash-at-via-else-slash-at w ↦ (let none = w.if-slash-at.false in omega arith)
    ]) in (
      omega arith,
      omega arith,
      i.2,
      omega arith,
      Inside c.loop-slash.depth c.in-Some.slash here i.2 next.high
          (λ p. elim c.else-len-slash-ge2.branch [
            | else-len-slash-ge2-via-then-len-slash-ge2+else-bytes-slash-eq42-2 w ↦ w.if-bytes-slash-eq42-2.false p.second
            | else-len-slash-ge2-via-else-len-slash-ge2 w ↦ (let room = p.within in let none = w.if-len-slash-ge2.false in omega arith)
          ])
          (λ p. (let slash = next.slash in let star = p.first in omega arith)),
    )

pub returns-clause-endless : goal.returns-clause-endless
returns-clause-endless c =
    let i = c.loop-slash.invariant in
    record {
      prefix = c.requires;
      depth = c.loop-slash.depth;
      place = _;
      nested = nested_last c.args.bytes.now c.args.from c.loop-slash.depth c.loop-slash.at i.4 i.2 i.1 c.in_default.ensures.none;
      some = i.2;
      last = omega arith;
    }
