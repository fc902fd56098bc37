use Rattle.wit_names.proofs.Fragments.{ends_well-fragments}
use Rattle.wit_names.proofs.label.has_fragments.Goals as goal

pub loop-at-init : goal.loop-at-init
loop-at-init c = ends_well-fragments c.args.text.now
