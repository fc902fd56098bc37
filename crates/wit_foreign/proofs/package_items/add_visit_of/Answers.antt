use Rattle.std.proofs.Common.{◌∙◌, ap, sym, not, nat_eq}
use Rattle.wit_syntax.proofs.Common.{insert_entry, is_some, lookup, pointwise, set_value_at}
use Rattle.wit_foreign.specs.Kept.{item_more}
use Rattle.wit_foreign.proofs.Places.{lookup-position, set_value_at-position, lookup-nowhere}
use Rattle.wit_foreign.proofs.package_items.add_visit_of.Goals as goal

pub returns-in_ok-visit_again-in-Some-clause-items : goal.returns-in_ok-visit_again-in-Some-clause-items
returns-in_ok-visit_again-in-Some-clause-items c =
    let at = sym c.place_of.ensures ∙ c.in-Some.is in
    let was = lookup-position (pointwise nat_eq c.args.name.now) c.args.items.now c.in-Some.place c.value_mut.result.now at c.value_mut.ensures.value in
    ap (set_value_at c.args.items.now c.in-Some.place) (c.in_ok-visit_again-in-Some.ensures ∙ ap (λ o. item_more o c.args.entry c.args.stability) (sym was))
    ∙ set_value_at-position (pointwise nat_eq) c.args.items.now c.args.name.now c.in-Some.place (item_more (lookup (pointwise nat_eq c.args.name.now) c.args.items.now) c.args.entry c.args.stability) at

pub returns-in_ok-visit_again-in-Some-clause-fresh : goal.returns-in_ok-visit_again-in-Some-clause-fresh
returns-in_ok-visit_again-in-Some-clause-fresh c =
    let was = lookup-position (pointwise nat_eq c.args.name.now) c.args.items.now c.in-Some.place c.value_mut.result.now (sym c.place_of.ensures ∙ c.in-Some.is) c.value_mut.ensures.value in
    sym (ap (λ o. not (is_some o)) was)

pub returns-in_ok-add_item-in-None-clause-items : goal.returns-in_ok-add_item-in-None-clause-items
returns-in_ok-add_item-in-None-clause-items c =
    let was = lookup-nowhere (pointwise nat_eq c.args.name.now) c.args.items.now (sym c.place_of.ensures ∙ c.in-None.is) in
    c.in_ok-add_item-in-None.ensures ∙ ap (λ o. insert_entry (pointwise nat_eq) c.args.items.now c.args.name.now (item_more o c.args.entry c.args.stability)) (sym was)

pub returns-in_ok-add_item-in-None-clause-fresh : goal.returns-in_ok-add_item-in-None-clause-fresh
returns-in_ok-add_item-in-None-clause-fresh c =
    let was = lookup-nowhere (pointwise nat_eq c.args.name.now) c.args.items.now (sym c.place_of.ensures ∙ c.in-None.is) in
    sym (ap (λ o. not (is_some o)) was)
