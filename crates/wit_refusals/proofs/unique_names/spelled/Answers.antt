use Rattle.std.proofs.Common.{List, ℕ, Bor, map, refl, ap, ◌∙◌}
use Rattle.wit_syntax.proofs.Common.{Id, take_all}
use Rattle.wit_first.proofs.Pushed.{pushed_next}
use Rattle.wit_refusals.proofs.unique_names.spelled.Goals as goal

pub loop-id-preserved : goal.loop-id-preserved
loop-id-preserved c = pushed_next (λ (t : Bor (List ℕ)). t.now) (λ (id : Id). id.name.now) c.loop-id.texts.items _ c.args.names.now c.loop-id.id-index c.id-item.result _ c.loop-id-test.true c.id-item.is c.loop-id.invariant c.in_ok-push.ensures.items refl

pub returns : goal.returns
returns c = c.loop-id.invariant ∙ ap (map (λ (id : Id). id.name.now)) (take_all c.loop-id.id-index c.args.names.now c.loop-id-test.false)
