use Rattle.std.proofs.Common.{◌≡◌, None, take}
use Rattle.wit_first.specs.AttributeFaults.{external_fault}
use Rattle.wit_notes.proofs.attributes.check_external_once.Given as goal

abbrev pub invariant-loop-place : goal.invariant-loop-place
invariant-loop-place l = external_fault (take l.place l.attributes) ≡ None
