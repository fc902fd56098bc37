-- Edges counted down, one after the other.
use Rattle.std.proofs.Common.{◌≡◌, ◌≢◌, ℕ, ◌+◌, ◌-◌, ◌<◌, ◌≤◌, List, [], length, get_or, set, take, arith, sym, ◌∙◌, ap, refl, subst, inl, inr, cond, nat_eq, sum, ◌^◌}
use Rattle.std.proofs.lemmas.Bool.{cases_eq, cond-true, cond-false, eq-eqb, ne_eqb}
use Rattle.std.proofs.lemmas.List.{length-set, get_or-set_same}
use Rattle.wit_order.specs.declared.ready.Ready.{Ready}
use Rattle.wit_order.specs.Heap.{times, zeros, came_free}
use Rattle.wit_order.specs.Released.{times_in, MayRelease, IsReleased}
use Rattle.wit_order.proofs.Counts.{one, one_same, some_left, counted, came_more, came_same, came_left, times_more, times-take-le}

pub released_none : (us : List ℕ) (old : Ready) → MayRelease us old → IsReleased [] old old
released_none us old may = record { long = refl; counts = λ u. omega arith; places = λ q. omega arith; entered = may.entered; closed = refl }

-- the edge of the next of the users
module _ (us : List ℕ) (i : ℕ) (old new : Ready) (inside : i < length us) (may : MayRelease us old) (done : IsReleased (take i us) old new) where
  pub user_within : get_or us i 0 < length new.counts.items
  user_within = omega (arith, may.within i 0 inside, done.long)

  pub user_some : 1 ≤ get_or new.counts.items (get_or us i 0) 0
  user_some = some_left us old.counts.items new.counts.items i inside may.enough user_within done.counts

  pub user_fresh : times_in (get_or us i 0) new ≡ 0
  user_fresh =
      let u = get_or us i 0 in
      let more = times_more u us i inside in
      let one = one_same u u refl in
      let le = times-take-le u us (i + 1) in
      let before = may.fresh u (omega (arith, more, one, le)) in
      let left : get_or new.counts.items u 0 ≢ 0 = λ z. let s = user_some in absurd (omega (arith, z, s)) in
      omega (arith, before, done.places u, came_left (times u (take i us)) (get_or new.counts.items u 0) left)

  pub user_room : new.steps.closed + sum new.counts.items < 2 ^ 64
  user_room = omega (arith, may.room, done.closed)

  pub released_more : (next : Ready) → next.counts.items ≡ set new.counts.items (get_or us i 0) (get_or new.counts.items (get_or us i 0) 0 - 1)
      → ((q : ℕ) → times_in q next ≡ times_in q new + cond (nat_eq (get_or new.counts.items (get_or us i 0) 0) 1) (one (get_or us i 0) q) 0)
      → next.steps.entered ≡ zeros next.counts.items → next.steps.closed + sum next.counts.items ≡ new.steps.closed + sum new.counts.items
      → IsReleased (take (i + 1) us) old next
  released_more next down places entered closed =
      let x = get_or us i 0 in
      let count = get_or new.counts.items x 0 in
      let here = get_or-set_same new.counts.items x (count - 1) 0 user_within in
      let came : (q : ℕ) → came_free (take (i + 1) us) next.counts.items q ≡ cond (nat_eq count 1) (one x q) 0 + came_free (take i us) new.counts.items q = λ q.
      ap (λ c. came_free (take (i + 1) us) c q) down ∙ elim (cases_eq count 1) [
        | inl e ↦
            let m = came_more us old.counts.items new.counts.items i inside may.enough user_within done.counts (omega (arith, here, e)) q in
            omega (arith, m, cond-true (nat_eq count 1) (one x q) 0 (eq-eqb count 1 e))
        | inr ne ↦
            let some = user_some in
            let m = came_same us old.counts.items new.counts.items i inside may.enough user_within done.counts (λ z. ne (omega (arith, here, z, some))) q in
            omega (arith, m, cond-false (nat_eq count 1) (one x q) 0 (ne_eqb count 1 ne))
      ] in
      record {
        long = ap length down ∙ length-set new.counts.items x (count - 1) ∙ done.long;
        counts = subst (λ c. (u : ℕ) → get_or c u 0 + times u (take (i + 1) us) ≡ get_or old.counts.items u 0) (sym down) (counted us old.counts.items new.counts.items i inside may.enough user_within done.counts);
        places = λ q. omega (arith, places q, done.places q, came q);
        entered = entered;
        closed = closed ∙ done.closed;
      }
