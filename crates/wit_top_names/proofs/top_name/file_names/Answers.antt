use Rattle.std.proofs.Common.{◌≡◌, List, map, ap, ◌∙◌, subst}
use Rattle.std.specs.Prelude.{IfOk}
use Rattle.wit_syntax.proofs.Common.{TopName, top_name, top_names, top_text, top_twice}
use Rattle.wit_first.specs.First.{first_repeat, Finds}
use Rattle.wit_top_names.specs.Tops.{top_view, AreNamed}
use Rattle.wit_top_names.proofs.top_name.file_names.Goals as goal

pub returns-clause-named : goal.returns-clause-named
returns-clause-named c =
    let are : map top_view c.deref-2.result.now ≡ top_names c.args.file.now = ap (map top_view) c.deref-2.ensures.value ∙ c.in_ok-names.ensures ∙ ap (map top_name) c.deref.ensures.value in
    subst (λ (l : List TopName). IfOk c.unique_names.result (AreNamed l)) are c.unique_names.ensures.named

pub returns-clause-first : goal.returns-clause-first
returns-clause-first c =
    let are : map top_view c.deref-2.result.now ≡ top_names c.args.file.now = ap (map top_view) c.deref-2.ensures.value ∙ c.in_ok-names.ensures ∙ ap (map top_name) c.deref.ensures.value in
    subst (λ (l : List TopName). Finds (first_repeat top_text (λ (n : TopName). top_twice n.id) l) c.unique_names.result) are c.unique_names.ensures.first
