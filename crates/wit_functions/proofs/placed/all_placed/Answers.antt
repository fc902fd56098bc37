use Rattle.std.proofs.Common.{◌∙◌}
use Rattle.std.specs.BTreeMap.{get_by_text}
use Rattle.std.specs.BTreeSet.{contains_text}
use Rattle.wit_functions.proofs.Serving.{served_placed}
use Rattle.wit_functions.proofs.placed.all_placed.Goals as goal

pub returns : goal.returns
returns g c = λ own.
    let parted = c.in_ok-parted.parted in
    c.in_ok-placed.ensures ∙ served_placed g.T.MaybeFunction.function_at c.args.items.items parted.others.items (contains_text parted.getters) (get_by_text parted.waiting) (c.in_ok-parted.ensures own) own
