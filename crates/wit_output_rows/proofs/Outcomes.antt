-- Outcomes of tables that compute: where there is an order, and where the only name that is needed is missing.
use Rattle.std.proofs.Common.{◌≡◌, ℕ, Bool, true, false, List, [], ◌∷◌, Option, Some, None, inl, inr, refl, ap, arith}
use Rattle.wit_arena.proofs.Common.{Id, Row, slice_get, target}
use Rattle.wit_walk.proofs.Common.{AtMissing, InOrder, IsOutcome, Outcome}
use Rattle.wit_walk.proofs.Outcomes.{outcome_of}
use Rattle.wit_output_rows.proofs.Sorting.{is_sorted, sorted, sorted_order}

-- a table of one row, where this is the place of the name that it needs
abbrev by_target : Option ℕ → Row → Id → Outcome
by_target None r id = AtMissing id
by_target (Some place) r id = (outcome_of (r ∷ [])).0

abbrev by_needs : List Id → Row → Outcome
by_needs [] r = (outcome_of (r ∷ [])).0
by_needs (id ∷ []) r = by_target (target (r ∷ []) id) r id
by_needs (id ∷ other ∷ ids) r = (outcome_of (r ∷ [])).0

abbrev by_rows : List Row → Outcome
by_rows [] = (outcome_of []).0
by_rows (r ∷ []) = by_needs r.needs r
by_rows (r ∷ s ∷ rs) = (outcome_of (r ∷ s ∷ rs)).0

abbrev by_order : Bool → List Row → Outcome
by_order true rs = InOrder (sorted rs)
by_order false rs = by_rows rs

-- the outcome of a table
abbrev pub outcome : List Row → Outcome
outcome rs = by_order (is_sorted rs) rs

missing_alone : (r : Row) (id : Id) → r.needs ≡ id ∷ [] → target (r ∷ []) id ≡ None → IsOutcome (r ∷ []) (AtMissing id)
missing_alone r id needs none = (
  0,
  0,
  record {
    is = (r, refl, ap (λ (ids : List Id). slice_get ids 0) needs);
    holds = none;
    earlier = λ j l y edge before passes. elim before [ inl less ↦ omega (arith, less) | inr here ↦ omega (arith, here.1) ];
  },
)

target_outcome : (r : Row) (id : Id) (place : Option ℕ) → r.needs ≡ id ∷ [] → target (r ∷ []) id ≡ place → IsOutcome (r ∷ []) (by_target place r id)
target_outcome r id None needs none = missing_alone r id needs none
target_outcome r id (Some place) needs there = (outcome_of (r ∷ [])).1

needs_outcome : (r : Row) (ids : List Id) → r.needs ≡ ids → IsOutcome (r ∷ []) (by_needs ids r)
needs_outcome r [] needs = (outcome_of (r ∷ [])).1
needs_outcome r (id ∷ []) needs = target_outcome r id (target (r ∷ []) id) needs refl
needs_outcome r (id ∷ other ∷ ids) needs = (outcome_of (r ∷ [])).1

rows_outcome : (rs : List Row) → IsOutcome rs (by_rows rs)
rows_outcome [] = (outcome_of []).1
rows_outcome (r ∷ []) = needs_outcome r r.needs refl
rows_outcome (r ∷ s ∷ rs) = (outcome_of (r ∷ s ∷ rs)).1

order_outcome : (rs : List Row) (whole : Bool) → is_sorted rs ≡ whole → IsOutcome rs (by_order whole rs)
order_outcome rs true whole = sorted_order rs whole
order_outcome rs false other = rows_outcome rs

pub outcomes : (rs : List Row) → IsOutcome rs (outcome rs)
outcomes rs = order_outcome rs (is_sorted rs) refl
