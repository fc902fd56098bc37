use Rattle.std.proofs.Common.{arith, ap, sym, ◌+◌, ◌∷◌, ◌≡◌, ◌∙◌, ◌++◌, Some, [], length, get_or, take}
use Rattle.std.proofs.lemmas.List.{flat_map_more, take_more}
use Rattle.std.specs.List.{flat_map}
use Rattle.wit_functions.specs.Futures.{futures}
use Rattle.wit_functions.proofs.function.Function.find_futures_and_streams.Goals as goal

pub loop-param-preserved : goal.loop-param-preserved
loop-param-preserved c =
    let ts = c.args.types.now in
    let ps = c.args.self.now.params in
    let i = c.loop-param.param-index in
    let x = c.param-item.result in
    let more : take (i + 1) ps ≡ take i ps ++ (x ∷ []) = take_more ps i x (omega (arith, ap length c.as_slice-param-items.ensures)) ∙ ap (λ y. take i ps ++ (y ∷ [])) (sym (c.param-item.is ∙ ap (λ l. get_or l i x) c.as_slice-param-items.ensures)) in
    c.in_ok-add_futures.ensures (length ts) (λ h. h) ∙ ap (λ l. l ++ futures ts (length ts) (Some x.ty)) c.loop-param.invariant ∙ flat_map_more (λ p. futures ts (length ts) (Some p.ty)) [] (take i ps) x ∙ ap (λ l. flat_map (λ p. futures ts (length ts) (Some p.ty)) l) (sym more)
