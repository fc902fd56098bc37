use Rattle.std.proofs.Common.{◌≡◌, ◌+◌, ◌++◌, ◌∷◌, [], List, take, sym, ap, ◌∙◌}
use Rattle.wit_arena.proofs.Common.{Case, append-nil, case_types, take_all, take_more}
use Rattle.wit_scopes.proofs.Placed.{type_words, words_more, cases_more, cases_same}
use Rattle.wit_scopes.proofs.written_names.collect_case_deps.Goals.{in-Some+in_ok-collect_deps, in_default}
use Rattle.wit_scopes.proofs.written_names.collect_case_deps.Goals as goal

pub loop-case-preserved : goal.loop-case-preserved
loop-case-preserved c =
    let cs = c.args.cases.now in
    let i = c.loop-case.case-index in
    let old = c.args.deps.now.items in
    let in_use : take (i + 1) cs ≡ take i cs ++ c.case-item.result ∷ [] = take_more cs i c.case-item.result c.loop-case-test.true ∙ ap (λ x. take i cs ++ x ∷ []) (sym c.case-item.is) in
    elim c.match-case.branch [
      | in-Some+in_ok-collect_deps w ↦ rw w.deps-is (words_more old _ _ (case_types (take i cs)) (case_types (take (i + 1) cs)) _ (ap case_types in_use ∙ cases_more (take i cs) c.case-item.result _ w.in-Some.is) c.loop-case.invariant w.in_ok-collect_deps.ensures)
      | in_default w ↦ rw w.deps-is (c.loop-case.invariant ∙ ap (λ ts. old ++ type_words ts) (sym (ap case_types in_use ∙ cases_same (take i cs) c.case-item.result w.in_default.is)))
    ]

pub loop-case-init : goal.loop-case-init
loop-case-init c = sym (append-nil c.args.deps.now.items)

pub returns : goal.returns
returns c = c.loop-case.invariant ∙ ap (λ (l : List Case). c.args.deps.now.items ++ type_words (case_types l)) (take_all c.loop-case.case-index c.args.cases.now c.loop-case-test.false)
