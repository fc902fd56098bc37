use Rattle.std.specs.Option.{option_copied}
use Rattle.wit_functions.proofs.Reordered.{own_stated, placed_order}
use Rattle.wit_functions.proofs.function_items.new_order.Goals as goal

pub returns : goal.returns
returns g c = λ names.
    let function_at = g.T.MaybeFunction.function_at in
    let items = c.args.items.now in
    let maybe_function = c.in_ok-maybe_function.maybe_function.items in
    let are = c.in_ok-maybe_function.ensures in
    let own = own_stated function_at (λ t. t.0) (λ t. option_copied t.1) maybe_function items are names in
    rw (c.in_ok-order.ensures own) (placed_order function_at (λ t. t.0) (λ t. option_copied t.1) maybe_function items are names)
