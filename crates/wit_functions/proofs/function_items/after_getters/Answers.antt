use Rattle.std.proofs.Common.{subst}
use Rattle.wit_functions.specs.Reordered.{IsOrder}
use Rattle.wit_functions.specs.SettersPlaced.{setters_placed}
use Rattle.wit_functions.specs.MaybeFunction.{HaveOwnNames, goes}
use Rattle.wit_functions.proofs.function_items.after_getters.Goals as goal

pub returns : goal.returns
returns g c = λ names.
    let function_at = g.T.MaybeFunction.function_at in
    let order = c.in_ok-order.order.items in
    c.put_in_order.ensures (setters_placed (goes function_at) c.args.items.items) (subst (λ l. HaveOwnNames function_at l → IsOrder l order (setters_placed (goes function_at) l)) c.deref.ensures.value c.in_ok-order.ensures names)
