use Rattle.std.specs.Option.{option_copied}
use Rattle.wit_functions.proofs.Reordered.{own_stated, placed_order}
use Rattle.wit_functions.proofs.setters.map_order.Goals as goal

pub returns : goal.returns
returns g c = λ function_at h names.
    let es = g.M.FunctionMap.entries c.args.map.now in
    let maybe_function = c.in_ok-maybe_function.maybe_function.items in
    let are = c.in_ok-maybe_function.ensures function_at h in
    let own = own_stated (λ e. function_at e.1) (λ t. t.0) (λ t. option_copied t.1) maybe_function es are names in
    rw (c.in_ok-order.ensures own) (placed_order (λ e. function_at e.1) (λ t. t.0) (λ t. option_copied t.1) maybe_function es are names)
