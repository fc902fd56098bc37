use Rattle.std.proofs.Common.{ℕ, map, ap, ◌∙◌}
use Rattle.wit_functions.proofs.placed.order_of.Goals as goal

pub returns : goal.returns
returns c = λ own. c.in_ok-order.ensures ∙ ap (map {B = ℕ} (λ t. t.0)) (c.in_ok-placed.ensures own)
