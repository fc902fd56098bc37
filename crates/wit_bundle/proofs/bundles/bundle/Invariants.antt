use Rattle.std.specs.Option.{option_copied}
use Rattle.wit_bundle.proofs.Laying.{AreSplit, left_of}
use Rattle.wit_bundle.proofs.bundles.bundle.Given as goal

abbrev pub invariant-loop-rest : goal.invariant-loop-rest
invariant-loop-rest l = AreSplit l.text (option_copied l.rest) l.map.sources.items

abbrev pub decreases-loop-rest : goal.decreases-loop-rest
decreases-loop-rest l = left_of (option_copied l.rest)
