use Rattle.std.proofs.Common.{Some, inl, inr, sym, ap, ◌∙◌, ◌++◌}
use Rattle.wit_items.proofs.Common.{codes, false≢true, free_functions}
use Rattle.wit_item_entries.proofs.ReachedFaults.{of_function, of_nothing}
use Rattle.wit_item_entries.proofs.uses.refuse_used.Goals as goal

pub returns-then-has_function : goal.returns-then-has_function
returns-then-has_function c =
    let is = of_function (free_functions c.args.interface.now) c.args.name (c.has_function.ensures.0 c.if-has_function.true) in
    elim (c.refuse_in.ensures (codes "cannot import function `" ++ (c.args.name.name.now ++ codes "`")) c.function_used.ensures) [ inl memory ↦ inl memory | inr says ↦ inr (ap Some (is ∙ sym says)) ]

pub returns : goal.returns
returns c =
    let is = of_nothing (free_functions c.args.interface.now) c.args.name (λ among. false≢true (sym c.if-has_function.false ∙ c.has_function.ensures.1 among)) in
    elim c.refuse_missing.ensures [ inl memory ↦ inl memory | inr says ↦ inr (ap Some (is ∙ sym says)) ]
