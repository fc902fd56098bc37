use Rattle.std.proofs.Common.{◌<◌, length}
use Rattle.wit_resolved.specs.AliasEnds.{IsAlias}
use Rattle.wit_resolved.proofs.type_ref.end_of.Given as goal

abbrev pub invariant-loop-next : goal.invariant-loop-next
invariant-loop-next l = (l.end < length l.resolved.types) × IsAlias l.resolved.types l.place l.end

abbrev pub decreases-loop-next : goal.decreases-loop-next
decreases-loop-next l = l.end
