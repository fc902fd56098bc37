use Rattle.std.proofs.Common.{◌≡◌, ◌-◌, Some, sym, ap, ◌∙◌, arith}
use Rattle.wit_syntax.proofs.Common.{slice_get, slice_get-get_or}
use Rattle.wit_functions.specs.SettersPlaced.{is_getter_of}
use Rattle.wit_setters.proofs.paired.is_paired.Goals as goal

pub returns : goal.returns
returns c = λ pairs s at sets.
    let fs = c.args.functions.now in
    let f = c.index-functions-place.result in
    let g = c.index-functions-place-2.result in
    let rest_after = c.if-place-eq0.false in
    let here : slice_get fs c.args.place ≡ Some f = slice_get-get_or fs c.args.place f c.requires ∙ ap Some (sym c.index-functions-place.is) in
    let before : slice_get fs (c.args.place - 1) ≡ Some g = slice_get-get_or fs (c.args.place - 1) g (omega (arith, c.requires)) ∙ ap Some (sym c.index-functions-place-2.is) in
    let one : Some f ≡ Some s = sym here ∙ at in
    let same : f ≡ s = cc in
    (c.args.place - 1, g, omega arith, before, ap (λ x. is_getter_of x g) (sym same) ∙ sym c.is_getter_of.ensures ∙ pairs)
