use Rattle.std.proofs.Common.{map, ap, ◌∙◌}
use Rattle.wit_arena.proofs.Common.{EnumCase as WrittenEnumCase, member, take_all}
use Rattle.wit_first.proofs.Pushed.{pushed_next}
use Rattle.wit_definitions.specs.Bodies.{enum_case_member}
use Rattle.wit_definitions.proofs.bodies.enum_cases.Goals as goal

pub loop-written-preserved : goal.loop-written-preserved
loop-written-preserved c = pushed_next enum_case_member (λ (x : WrittenEnumCase). member x.docs x.name) c.loop-written.made.items _ c.args.cases.now c.loop-written.written-index c.written-item.result _ c.loop-written-test.true c.written-item.is c.loop-written.invariant c.in_ok-push.ensures.items c.in_ok-enum_case.ensures

pub returns : goal.returns
returns c = ap (map enum_case_member) c.from.ensures ∙ c.loop-written.invariant ∙ ap (map (λ (x : WrittenEnumCase). member x.docs x.name)) (take_all c.loop-written.written-index c.args.cases.now c.loop-written-test.false)
