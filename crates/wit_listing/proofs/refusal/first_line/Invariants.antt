use Rattle.std.proofs.Common.{◌≡◌, ◌++◌, take, drop}
use Rattle.wit_listing.specs.ErrorLine.{first_line}
use Rattle.wit_listing.proofs.refusal.first_line.Given as goal

abbrev pub invariant-loop-at : goal.invariant-loop-at
invariant-loop-at l = first_line l.text ≡ take l.at l.text ++ first_line (drop l.at l.text)
