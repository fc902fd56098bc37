use Rattle.wit_contents.proofs.Names.{err_from_is_err_and, inline_of, item_view, none_both, reports_back, reports_prefix, stage, walk_of}
use Rattle.wit_item_entries.proofs.ReachedFaults.{done, failed}
use Rattle.wit_contents.proofs.MemberFaults.{inline_found, inline_here, inside_lent}
use Rattle.wit_contents.proofs.Members.{member_inline}
use Rattle.wit_contents.proofs.walk.walk_inline.Goals as goal

pub resolve_inline-requires : goal.resolve_inline-requires
resolve_inline-requires c = inside_lent c.args.inside.now c.requires.next c.requires.there c.deref.result c.deref.ensures.value

pub returns-clause-adds : goal.returns-clause-adds
returns-clause-adds c = λ n.
    let w = walk_of c.args.item.now c.args.walk.now in
    let x = c.args.inside.now.inline in
    let here = inline_here c.args.inside.now n c.requires.there c.deref.result c.deref.ensures.value in
    let put = rw c.in_ok-id.ensures.id at (c.in_ok-put_resolved.ensures.puts n.keyed) in
    member_inline w n.prefix (stage c.args.growing.now c.args.walked.now) x (inline_of (item_view w.item) x) c.resolve_inline.new.growing _ here c.in_ok-id.ensures.adds put c.in_ok-put_resolved.ensures.seen

pub returns-in_err-id-clause-first : goal.returns-in_err-id-clause-first
returns-in_err-id-clause-first c =
    let p = err_from_is_err_and c.from_residual.result c.from_residual.ensures.1 in
    rw (p.1, p.2) (λ n. inline_found c.args.inside.now n c.requires.there c.deref.result c.deref.ensures.value (failed _) (failed _) c.args.growing.now c.in_err-id.ensures.first (λ o. reports_prefix _))

pub returns-in_err-put_resolved-clause-first : goal.returns-in_err-put_resolved-clause-first
returns-in_err-put_resolved-clause-first c =
    let p = err_from_is_err_and c.from_residual-in_err-put_resolved.result c.from_residual-in_err-put_resolved.ensures.1 in
    rw (p.1, p.2) (λ n. inline_found c.args.inside.now n c.requires.there c.deref.result c.deref.ensures.value (done c.in_ok-id.id) (failed _) c.args.growing.now c.in_ok-id.ensures.first (λ o none. reports_back none c.in_err-put_resolved.ensures.first))

pub returns-clause-first : goal.returns-clause-first
returns-clause-first c = λ n.
    let id = done c.in_ok-id.id in
    inline_found c.args.inside.now n c.requires.there c.deref.result c.deref.ensures.value id id c.args.growing.now c.in_ok-id.ensures.first (λ o none. none_both none c.in_ok-put_resolved.ensures.first)
