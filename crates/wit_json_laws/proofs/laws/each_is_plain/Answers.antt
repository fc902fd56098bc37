use Rattle.std.proofs.Common.{Some, ap, sym, ◌∙◌, subst, take_all}
use Rattle.wit_arena.proofs.Common.{All, slice_get-get_or}
use Rattle.wit_json_laws.specs.Laws.{IsPlainWhereMade}
use Rattle.wit_json_laws.proofs.Lists.{all_next, all_none}
use Rattle.wit_json_laws.proofs.laws.each_is_plain.Goals as goal

pub loop-inner-init : goal.loop-inner-init
loop-inner-init c = all_none IsPlainWhereMade

pub loop-inner-preserved : goal.loop-inner-preserved
loop-inner-preserved c =
    let l = c.loop-inner in
    let x = c.inner-item.result in
    all_next IsPlainWhereMade c.args.packages.now l.inner-index x (slice_get-get_or c.args.packages.now l.inner-index x c.loop-inner-test.true ∙ ap Some (sym c.inner-item.is)) l.invariant c.packages_are_plain.ensures

pub returns : goal.returns
returns c = subst (All IsPlainWhereMade) (take_all c.loop-inner.inner-index c.args.packages.now c.loop-inner-test.false) c.loop-inner.invariant
