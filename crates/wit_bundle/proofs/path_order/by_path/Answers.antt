use Rattle.std.proofs.Common.{◌∙◌, rules, take_all}
use Rattle.std.proofs.lemmas.List.Sorted.{answers_always}
use Rattle.wit_bundle.proofs.Turning.{by_path_is, is_below, path_order}
use Rattle.wit_bundle.proofs.path_order.by_path.Goals as goal

pub returns : goal.returns
returns c =
    by_path_is c.args.sources.now c.loop-source.turn.items c.sort_by.new.self.items
    (c.loop-source.invariant ∙ take_all c.loop-source.source-index c.args.sources.now c.loop-source-test.false)
    c.in_ok-sort_by.ensures.permutation
    (c.in_ok-sort_by.ensures.sorted (λ s t. is_below s.now t.now) path_order (answers_always _ _ _ (λ f a r g h. search rules)))
    (c.in_ok-sort_by.ensures.stable (λ s t. is_below s.now t.now) path_order (answers_always _ _ _ (λ f a r g h. search rules)))
