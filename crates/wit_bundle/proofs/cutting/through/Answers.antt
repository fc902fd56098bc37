use Rattle.std.proofs.Common.{◌<◌, get_or, arith}
use Rattle.std.proofs.lemmas.Str.{lead_after_ascii}
use Rattle.wit_bundle.proofs.cutting.through.Goals as goal

pub range-requires-clause-end_boundary : goal.range-requires-clause-end_boundary
range-requires-clause-end_boundary c =
    let ascii : get_or c.args.text.now c.args.place 0 < 128 = omega (arith, c.requires.feed) in
    (omega arith, λ lt high. lead_after_ascii c.args.text.now c.args.place c.utf8.text ascii lt high)
