use Rattle.std.proofs.Common.{◌∙◌, ap, sym, not, nat_eq, []}
use Rattle.wit_syntax.proofs.Common.{insert_entry, is_some, lookup, pointwise, same_package, set_value_at, unwrap_or}
use Rattle.wit_foreign.specs.Kept.{row_more}
use Rattle.wit_foreign.proofs.Places.{lookup-position, set_value_at-position, lookup-nowhere}
use Rattle.wit_foreign.proofs.packages.add_visit_in.Goals as goal

pub returns-in_ok-add_visit_of-in-Some-clause-packages : goal.returns-in_ok-add_visit_of-in-Some-clause-packages
returns-in_ok-add_visit_of-in-Some-clause-packages c =
    let at = sym c.place_of.ensures ∙ c.in-Some.is in
    let was = lookup-position (same_package c.args.key) c.args.packages.now c.in-Some.place c.value_mut-items.result.now at c.value_mut-items.ensures.value in
    ap (set_value_at c.args.packages.now c.in-Some.place) (c.in_ok-add_visit_of-in-Some.ensures.items ∙ ap (λ o. row_more (unwrap_or o []) c.args.name.now c.args.entry c.args.stability) (sym was))
    ∙ set_value_at-position same_package c.args.packages.now c.args.key c.in-Some.place (row_more (unwrap_or (lookup (same_package c.args.key) c.args.packages.now) []) c.args.name.now c.args.entry c.args.stability) at

pub returns-in_ok-add_visit_of-in-Some-clause-fresh : goal.returns-in_ok-add_visit_of-in-Some-clause-fresh
returns-in_ok-add_visit_of-in-Some-clause-fresh c =
    let was = lookup-position (same_package c.args.key) c.args.packages.now c.in-Some.place c.value_mut-items.result.now (sym c.place_of.ensures ∙ c.in-Some.is) c.value_mut-items.ensures.value in
    c.in_ok-add_visit_of-in-Some.ensures.fresh ∙ ap (λ o. not (is_some (lookup (pointwise nat_eq c.args.name.now) (unwrap_or o [])))) (sym was)

pub returns-in_ok-add_package-in-None-clause-packages : goal.returns-in_ok-add_package-in-None-clause-packages
returns-in_ok-add_package-in-None-clause-packages c =
    let was = lookup-nowhere (same_package c.args.key) c.args.packages.now (sym c.place_of.ensures ∙ c.in-None.is) in
    c.in_ok-add_package-in-None.ensures ∙ ap (λ o. insert_entry same_package c.args.packages.now c.args.key (row_more (unwrap_or o []) c.args.name.now c.args.entry c.args.stability)) (sym was)

pub returns-in_ok-add_package-in-None-clause-fresh : goal.returns-in_ok-add_package-in-None-clause-fresh
returns-in_ok-add_package-in-None-clause-fresh c =
    let was = lookup-nowhere (same_package c.args.key) c.args.packages.now (sym c.place_of.ensures ∙ c.in-None.is) in
    sym (ap (λ o. not (is_some (lookup (pointwise nat_eq c.args.name.now) (unwrap_or o [])))) was)
