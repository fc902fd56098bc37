use Rattle.std.proofs.Common.{◌≡◌, None, take}
use Rattle.wit_first.specs.AttributeFaults.{each_once_fault}
use Rattle.wit_notes.proofs.attributes.check_each_once.Given as goal

abbrev pub invariant-loop-place : goal.invariant-loop-place
invariant-loop-place l = each_once_fault (take l.place l.attributes) ≡ None
