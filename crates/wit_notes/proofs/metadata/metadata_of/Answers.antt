use Rattle.wit_syntax.proofs.Common.{err_from_is_err_and}
use Rattle.wit_notes.proofs.metadata.metadata_of.Goals as goal

pub returns-in_err-as_stated-clause-first : goal.returns-in_err-as_stated-clause-first
returns-in_err-as_stated-clause-first c = (
    let p = err_from_is_err_and c.from_residual-in_err-as_stated.result c.from_residual-in_err-as_stated.ensures.1 in
    rw (p.1, p.2) c.in_err-as_stated.ensures.first)
