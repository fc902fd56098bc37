use Rattle.std.proofs.Common.{◌≡◌, Option, Some, sym, ap, ◌∙◌}
use Rattle.wit_syntax.proofs.Common.{Fault, ForeignVisit, err_from_is_err_and, slice_get, slice_get-get_or}
use Rattle.wit_first.specs.AttributeFaults.{stability_fault}
use Rattle.wit_first.proofs.First.{in-all, in-map, in-next, reports-in, reports_same}
use Rattle.wit_files.specs.ForeignPaths.{foreign_view}
use Rattle.wit_files.specs.declared.foreign.ForeignVisit.{ForeignVisit as Borrowed}
use Rattle.wit_files.proofs.foreign.check_visits.Goals as goal

abbrev own : ForeignVisit → Option Fault
own v = stability_fault v.attributes

abbrev borrowed : Borrowed → Option Fault
borrowed v = stability_fault v.attributes.now

pub returns-in_err-check_stability : goal.returns-in_err-check_stability
returns-in_err-check_stability c =
    let q = err_from_is_err_and c.from_residual.result c.from_residual.ensures.1 in
    let vs = c.args.visits.now in
    let i = c.loop-visit.visit-index in
    let v = c.visit-item.result in
    let at : slice_get vs i ≡ Some v = slice_get-get_or vs i v c.loop-visit-test.true ∙ ap Some (sym c.visit-item.is) in
    rw (q.1, q.2) (reports_same (sym (in-map own foreign_view vs)) (reports-in borrowed vs i v _ at c.loop-visit.invariant c.in_err-check_stability.ensures))

pub loop-visit-preserved : goal.loop-visit-preserved
loop-visit-preserved c = in-next borrowed c.args.visits.now c.loop-visit.visit-index c.visit-item.result c.loop-visit-test.true c.visit-item.is c.loop-visit.invariant c.in_ok-check_stability.ensures

pub returns : goal.returns
returns c =
    let vs = c.args.visits.now in
    in-map own foreign_view vs ∙ in-all borrowed vs c.loop-visit.visit-index c.loop-visit-test.false c.loop-visit.invariant
