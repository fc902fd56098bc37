use Rattle.wit_model.specs.declared.world.WorldItem.{WorldItem}
use Rattle.wit_model.specs.declared.world.WorldKey.{WorldKey}
use Rattle.wit_model.specs.ItemsOfWorlds.{function_of}
use Rattle.wit_functions.specs.MaybeFunction.{is_setter}
use Rattle.wit_setters.proofs.Sought.{NoneBefore}
use Rattle.wit_setters.proofs.side_setters.have_setter.Given as goal

abbrev pub invariant-loop-place : goal.invariant-loop-place
invariant-loop-place l = NoneBefore (λ (e : WorldKey × WorldItem). is_setter (function_of e.1)) l.side l.place
