use Rattle.std.proofs.Common.{◌≡◌, ◌+◌, ◌++◌, ◌∷◌, [], take, sym, ap, ◌∙◌}
use Rattle.wit_arena.proofs.Common.{append-nil, result_shape, take_all, take_more, words}
use Rattle.wit_scopes.proofs.Placed.{type_words, words_more, tuple_words}
use Rattle.wit_scopes.proofs.written_names.+deps.Goals as goal

pub collect_all_deps-loop-ty-preserved : goal.collect_all_deps-loop-ty-preserved
collect_all_deps-loop-ty-preserved t c =
    let ts = c.args.types.now in
    let i = c.loop-ty.ty-index in
    let in_use : take (i + 1) ts ≡ take i ts ++ c.ty-item.result ∷ [] = take_more ts i c.ty-item.result c.loop-ty-test.true ∙ ap (λ x. take i ts ++ x ∷ []) (sym c.ty-item.is) in
    words_more c.args.deps.now.items _ _ (take i ts) (take (i + 1) ts) c.ty-item.result in_use c.loop-ty.invariant c.in_ok-collect_deps.ensures

pub collect_deps-returns-in_ok-collect_all_deps-in-Tuple : goal.collect_deps-returns-in_ok-collect_all_deps-in-Tuple
collect_deps-returns-in_ok-collect_all_deps-in-Tuple t c =
    rw c.in-Tuple.is (c.in_ok-collect_all_deps-in-Tuple.ensures ∙ ap (λ ids. c.args.deps.now.items ++ ids) (ap type_words c.deref-in-Tuple.ensures.value ∙ sym (tuple_words c.in-Tuple.field-0 c.in-Tuple.parts)))

pub collect_deps-returns-in_ok-collect_result_deps-in-Result : goal.collect_deps-returns-in_ok-collect_result_deps-in-Result
collect_deps-returns-in_ok-collect_result_deps-in-Result t c =
    rw c.in-Result.is (c.in_ok-collect_result_deps-in-Result.ensures ∙ ap (λ x. c.args.deps.now.items ++ words x) (sym (result_shape c.in-Result.field-0 c.in-Result.types)))

pub collect_all_deps-loop-ty-init : goal.collect_all_deps-loop-ty-init
collect_all_deps-loop-ty-init t c = sym (append-nil c.args.deps.now.items)

pub collect_all_deps-returns : goal.collect_all_deps-returns
collect_all_deps-returns t c = c.loop-ty.invariant ∙ ap (λ ts. c.args.deps.now.items ++ type_words ts) (take_all c.loop-ty.ty-index c.args.types.now c.loop-ty-test.false)
