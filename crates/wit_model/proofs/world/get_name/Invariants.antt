use Rattle.wit_model.specs.ItemsOfWorlds.{is_name}
use Rattle.wit_model.proofs.Lookups.{NoneBefore}
use Rattle.wit_model.proofs.world.get_name.Given as goal

abbrev pub invariant-loop-place : goal.invariant-loop-place
invariant-loop-place g l = NoneBefore (is_name l.name) l.items l.place
