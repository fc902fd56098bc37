-- The first fault of the order of a table, one step after another, and that it is a broken rule.
use Rattle.std.proofs.Common.{◌≡◌, ◌⊎◌, ℕ, List, Option, Some, None, inl, inr, refl, sym, subst}
use Rattle.wit_syntax.proofs.Common.{Fault, Id, IsAllocationFailure, IsCyclicEdge, IsMissingEdge, ParseError, Row, cyclic_at, fault_of}
use Rattle.wit_first.specs.First.{IsOr, Reports}
use Rattle.wit_first.specs.OrderFaults.{IsOrderFault}

-- an earlier fault, or none
pub or_prefix : (IsLater : Option Fault → Type 0) (earlier : Option Fault) (f : Fault) → earlier ≡ Some f → IsOr earlier IsLater (Some f)
or_prefix IsLater earlier f is = subst (λ (o : Option Fault). IsOr o IsLater (Some f)) (sym is) refl

pub or_back : (IsLater : Option Fault → Type 0) (earlier first : Option Fault) → earlier ≡ None → IsLater first → IsOr earlier IsLater first
or_back IsLater earlier first none later = subst (λ (o : Option Fault). IsOr o IsLater first) (sym none) later

-- which of them it is
pub or_is : (IsLater : Option Fault → Type 0) (earlier : Option Fault) (f : Fault) → IsOr earlier IsLater (Some f) → (earlier ≡ Some f) ⊎ ((earlier ≡ None) × IsLater (Some f))
or_is IsLater None f h = inr (refl, h)
or_is IsLater (Some g) f h = inl (sym h)

pub or_neither : (IsLater : Option Fault → Type 0) (earlier : Option Fault) → IsOr earlier IsLater None → (earlier ≡ None) × IsLater None
or_neither IsLater None h = (refl, h)
or_neither IsLater (Some f) h = absurd (let none : None ≡ Some f = h in let g : ⊥ = cc in g)

-- an error that reports an earlier fault
pub reports_or : (IsLater : Option Fault → Type 0) (earlier : Option Fault) (e : ParseError) → Reports earlier e → IsAllocationFailure e ⊎ IsOr earlier IsLater (Some (fault_of e))
reports_or IsLater earlier e report = elim report [ inl memory ↦ inl memory | inr is ↦ inr (or_prefix IsLater earlier (fault_of e) is) ]

-- or a later one, where there is none before it
pub reports_later : (IsLater : Option Fault → Type 0) (earlier : Option Fault) (e : ParseError) → earlier ≡ None → IsAllocationFailure e ⊎ IsLater (Some (fault_of e)) → IsAllocationFailure e ⊎ IsOr earlier IsLater (Some (fault_of e))
reports_later IsLater earlier e none report = elim report [ inl memory ↦ inl memory | inr is ↦ inr (or_back IsLater earlier (Some (fault_of e)) none is) ]

-- of the order of a table
pub order_broken : (lost : Id → Fault) (number : ℕ) (sort : List ℕ) (rs : List Row) (f : Fault) → IsOrderFault lost (cyclic_at number sort) rs (Some f) → IsMissingEdge lost rs f ⊎ IsCyclicEdge number sort rs f
order_broken lost number sort rs f h = elim h [
  | inl m ↦ inl (m.0, m.1, m.2.id, m.2.first.is, m.2.first.holds, m.3)
  | inr r ↦ inr (r.0, r.1, r.2.first.holds.1.0, r.2.id, r.2.first.is, r.2.first.holds.1.1, r.2.first.holds.0, r.2.first.holds.1.2, r.3)
]
