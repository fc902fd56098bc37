use Rattle.std.proofs.Common.{Some, inl, inr, sym, ap, ◌∙◌}
use Rattle.wit_items.proofs.Common.{mismatch, not_both, package_of}
use Rattle.wit_parser.proofs.Pushing.{other_here, same_here}
use Rattle.wit_parser.proofs.resolver.check_same.Goals as goal

pub returns-then-is_same : goal.returns-then-is_same
returns-then-is_same c = same_here c.args.before.now c.args.own.now (c.is_same.ensures.0 c.if-is_same.true)

pub returns : goal.returns
returns c =
    let before = c.args.before.now in
    let own = c.args.own.now in
    elim (c.refuse_in.ensures (mismatch (package_of own) (package_of before)) c.mismatch.ensures) [
      | inl memory ↦ inl memory
      | inr says ↦ inr (other_here before own (λ same. not_both c.is_same.result (c.is_same.ensures.1 same) c.if-is_same.false) ∙ ap Some (sym says))
    ]
