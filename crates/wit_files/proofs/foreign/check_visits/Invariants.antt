use Rattle.std.proofs.Common.{◌≡◌, None, take}
use Rattle.wit_first.specs.AttributeFaults.{stability_fault}
use Rattle.wit_first.specs.First.{first_in}
use Rattle.wit_files.specs.declared.foreign.ForeignVisit.{ForeignVisit as Borrowed}
use Rattle.wit_files.proofs.foreign.check_visits.Given as goal

abbrev pub invariant-loop-visit : goal.invariant-loop-visit
invariant-loop-visit l = first_in (λ (v : Borrowed). stability_fault v.attributes.now) (take l.visit-index l.visits) ≡ None
