use Rattle.wit_contents.proofs.Names.{err_from_is_err_and}
use Rattle.wit_contents.proofs.walk.resolve_inline.Goals as goal

pub returns-clause-adds : goal.returns-clause-adds
returns-clause-adds c =
    let own = rw c.in_ok-id.ensures at c.in_ok-interface.ensures.adds in
    (c.in_ok-interface.interface, rw c.in_ok-interface.ensures.inside at c.in_ok-add.ensures.ok, record { appends = own.appends; extended = own.extended })

pub returns-in_err-interface-clause-first : goal.returns-in_err-interface-clause-first
returns-in_err-interface-clause-first c =
    let p = err_from_is_err_and c.from_residual-in_err-interface.result c.from_residual-in_err-interface.ensures.1 in
    rw (p.1, p.2) (rw c.in_ok-id.ensures at c.in_err-interface.ensures.first)

pub returns-clause-first : goal.returns-clause-first
returns-clause-first c = rw c.in_ok-id.ensures at c.in_ok-interface.ensures.first
