use Rattle.std.proofs.Common.{◌≡◌, true, rules}
use Rattle.wit_listing.specs.ErrorLine.{has_place}
use Rattle.wit_listing.proofs.Placing.{placed}
use Rattle.wit_listing.proofs.refusal.place_of.Goals as goal

pub returns-then-has_place : goal.returns-then-has_place
returns-then-has_place c =
    let has : has_place c.args.fault.now.rule ≡ true = search rules in
    placed c.args.map.now.sources.items c.args.fault.now c.span.result c.locate.result has c.span.ensures c.locate.ensures.found c.locate.ensures.none
