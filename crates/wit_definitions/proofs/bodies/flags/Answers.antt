use Rattle.std.proofs.Common.{map, ap, ◌∙◌}
use Rattle.wit_arena.proofs.Common.{Flag as WrittenFlag, member, take_all}
use Rattle.wit_first.proofs.Pushed.{pushed_next}
use Rattle.wit_definitions.specs.Bodies.{flag_member}
use Rattle.wit_definitions.proofs.bodies.flags.Goals as goal

pub loop-written-preserved : goal.loop-written-preserved
loop-written-preserved c = pushed_next flag_member (λ (x : WrittenFlag). member x.docs x.name) c.loop-written.made.items _ c.args.flags.now c.loop-written.written-index c.written-item.result _ c.loop-written-test.true c.written-item.is c.loop-written.invariant c.in_ok-push.ensures.items c.in_ok-flag.ensures

pub returns : goal.returns
returns c = ap (map flag_member) c.from.ensures ∙ c.loop-written.invariant ∙ ap (map (λ (x : WrittenFlag). member x.docs x.name)) (take_all c.loop-written.written-index c.args.flags.now c.loop-written-test.false)
