use Rattle.std.proofs.Common.{◌≡◌, List, map, ap, ◌∙◌, subst}
use Rattle.std.specs.Prelude.{IfOk}
use Rattle.wit_syntax.proofs.Common.{TopName, all_items, item_twice, top_text}
use Rattle.wit_first.specs.First.{first_repeat, Finds}
use Rattle.wit_first.proofs.First.{repeat-map}
use Rattle.wit_top_names.specs.Tops.{top_view, item_top, AreNamed}
use Rattle.wit_top_names.proofs.FirstNames.{declared_if}
use Rattle.wit_top_names.proofs.top_name.item_names.Goals as goal

pub returns-clause-first : goal.returns-clause-first
returns-clause-first c =
    let is = all_items c.args.files.now in
    let as_fault = λ (n : TopName). item_twice n.id in
    let are : map top_view c.deref.result.now ≡ map item_top is = ap (map top_view) c.deref.ensures.value ∙ c.in_ok-names.ensures in
    subst (λ first. Finds first c.unique_names.result) (ap (first_repeat top_text as_fault) are ∙ repeat-map top_text as_fault item_top is) c.unique_names.ensures.first

pub returns-clause-declared : goal.returns-clause-declared
returns-clause-declared c =
    let is = all_items c.args.files.now in
    let are : map top_view c.deref.result.now ≡ map item_top is = ap (map top_view) c.deref.ensures.value ∙ c.in_ok-names.ensures in
    declared_if is c.unique_names.result (subst (λ (l : List TopName). IfOk c.unique_names.result (AreNamed l)) are c.unique_names.ensures.named)
