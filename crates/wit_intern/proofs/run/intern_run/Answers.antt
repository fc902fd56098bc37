use Rattle.std.proofs.Common.{◌≡◌, ◌∙◌, ◌+◌, [], ◌∷◌, ap, inr, length, length-append, take}
use Rattle.wit_intern.specs.FiniteMap.{after_steps}
use Rattle.wit_intern.proofs.Steps.{replied_first, step_done, step_replied}
use Rattle.wit_intern.proofs.run.intern_run.Goals as goal

pub returns-in-Err-push-clause-stopped : goal.returns-in-Err-push-clause-stopped
returns-in-Err-push-clause-stopped g c =
    rw
    (ap length c.in-Err-push.ensures.items ∙ c.loop-at.invariant.many)
    (inr (step_done c.args.steps.now c.loop-at.at c.index-steps-at.result _ _ _ c.loop-at-test.true c.index-steps-at.is c.in-Ok.ensures.table c.loop-at.invariant.after))

pub loop-at-preserved : goal.loop-at-preserved
loop-at-preserved g c =
    let steps = c.args.steps.now in
    let at = c.loop-at.at in
    let s = c.index-steps-at.result in
    let given = c.loop-at.as_stated.items in
    record {
      replied =
          step_replied steps at s _ _ _ c.loop-at-test.true c.index-steps-at.is c.in-Ok.ensures.table given c.in-Ok.reply c.push.new.self.items
          c.in-Ok-push.ensures.items
          c.in-Ok.ensures.reply
          c.loop-at.invariant.replied;
      after = step_done steps at s _ _ _ c.loop-at-test.true c.index-steps-at.is c.in-Ok.ensures.table c.loop-at.invariant.after;
      many = ap length c.in-Ok-push.ensures.items ∙ length-append given (c.in-Ok.reply ∷ []) ∙ ap (λ n. n + 1) c.loop-at.invariant.many;
    }

pub returns-in-Err-clause-prefix : goal.returns-in-Err-clause-prefix
returns-in-Err-clause-prefix g c = replied_first _ _ _ c.loop-at.invariant.replied

pub returns-in-Err-push-clause-prefix : goal.returns-in-Err-push-clause-prefix
returns-in-Err-push-clause-prefix g c = rw c.in-Err-push.ensures.items (replied_first _ _ _ c.loop-at.invariant.replied)

pub returns-clause-prefix : goal.returns-clause-prefix
returns-clause-prefix g c = replied_first _ _ _ c.loop-at.invariant.replied
