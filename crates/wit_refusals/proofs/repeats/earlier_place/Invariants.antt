use Rattle.std.proofs.Common.{ℕ, ◌<◌, map}
use Rattle.wit_syntax.proofs.Common.{IsRepeatAt}
use Rattle.wit_refusals.proofs.repeats.earlier_place.Given as goal

abbrev pub invariant-loop-earlier : goal.invariant-loop-earlier
invariant-loop-earlier l = (i : ℕ) → i < l.earlier → IsRepeatAt (map (λ t. t.now) l.texts) i l.place → ⊥
