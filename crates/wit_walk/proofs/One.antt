-- What the walk of files comes to is one: each table has one outcome.
use Rattle.std.proofs.Common.{◌≡◌, ◌+◌, List, Option, inl, inr, sym, ap, ◌∙◌, arith}
use Rattle.wit_syntax.proofs.Common.{AreRefused, Fault, Id, IsCyclic, IsMissing, PackageFile, Row, not_missing, one_answer, target}
use mathlib.Core.Path.{fun_ext}
use Rattle.wit_walk.specs.Orders.{Outcome, InOrder, AtMissing, AtCycle, IsOutcome}
use Rattle.wit_walk.specs.Walk.{ComesTo, first_fault}
use Rattle.wit_graph.proofs.Forward.{first_same}

missing_refused : (rs : List Row) (id : Id) → IsOutcome rs (AtMissing id) → AreRefused rs
missing_refused rs id m = inl (m.0, m.1, id, m.2.is, m.2.holds)

cyclic_refused : (rs : List Row) (id : Id) → IsOutcome rs (AtCycle id) → AreRefused rs
cyclic_refused rs id c = inr (c.0, (c.1, c.2, id, c.3.is, c.3.holds))

not_both : (rs : List Row) (a b : Id) → IsOutcome rs (AtMissing a) → IsOutcome rs (AtCycle b) → ⊥
not_both rs a b m c = not_missing (target rs a) (c.0 m.0 m.1 a m.2.is) m.2.holds

-- a table has one outcome
pub outcome_one : (rs : List Row) (a b : Outcome) → IsOutcome rs a → IsOutcome rs b → a ≡ b
outcome_one rs (InOrder p) (InOrder q) x y = ap InOrder ((one_answer rs).one p q x y)
outcome_one rs (InOrder p) (AtMissing b) x y = absurd ((one_answer rs).never_both (p, x) (missing_refused rs b y))
outcome_one rs (InOrder p) (AtCycle b) x y = absurd ((one_answer rs).never_both (p, x) (cyclic_refused rs b y))
outcome_one rs (AtMissing a) (InOrder q) x y = absurd ((one_answer rs).never_both (q, y) (missing_refused rs a x))
outcome_one rs (AtMissing a) (AtMissing b) x y = ap AtMissing (first_same rs (IsMissing rs) x.0 x.1 y.0 y.1 a b x.2 y.2)
outcome_one rs (AtMissing a) (AtCycle b) x y = absurd (not_both rs a b x y)
outcome_one rs (AtCycle a) (InOrder q) x y = absurd ((one_answer rs).never_both (q, y) (cyclic_refused rs a x))
outcome_one rs (AtCycle a) (AtMissing b) x y = absurd (not_both rs b a y x)
outcome_one rs (AtCycle a) (AtCycle b) x y = ap AtCycle (first_same rs (IsCyclic rs) x.1 x.2 y.1 y.2 a b x.3 y.3)

-- so the walk of files comes to one fault, or to none
pub one_first : (files : List PackageFile) (first other : Option Fault) → ComesTo files first → ComesTo files other → first ≡ other
one_first files first other a b =
    let n = a.enough + b.enough in
    let outcomes : a.outcome ≡ b.outcome = fun_ext (λ (rs : List Row). outcome_one rs (a.outcome rs) (b.outcome rs) (a.outcomes rs) (b.outcomes rs)) in
    sym (a.is n (omega arith)) ∙ ap (λ (o : List Row → Outcome). first_fault files (record { outcome = o; steps = n })) outcomes ∙ b.is n (omega arith)
