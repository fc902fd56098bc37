-- Names of a scope, one after another, and their rows.
use Rattle.std.proofs.Common.{◌≡◌, ℕ, zero, suc, Bool, true, false, cond, List, [], ◌∷◌, ◌++◌, take, Option, Some, IsSome, nat_eq, inl, inr, refl, sym, ap, ◌∙◌, subst, arith, ◌<◌}
use Rattle.wit_arena.proofs.Names.{Contains, Env, HasNames, Id, IsEdge, IsOrder, IsStored, Leads, Names, Row, ScopeName, at_contains, at_either, env_of, get_or_from_slice_get, in_order, in_order_has, local_name, lookup-insert_entry, name_itself, needed_ids, option_map, place_of-Some, pointwise, row_of, rows_of, slice_get, slice_get-get_or, slice_get-map, slice_get-take, slice_get_within, slice_index, some_of, target}

-- the name after a row
pub name_at : (xs : List ScopeName) (i : ℕ) (r : Row) → slice_get (rows_of xs) i ≡ Some r → (x : ScopeName) × (slice_get xs i ≡ Some x) × (row_of x ≡ r)
name_at [] i r at = absurd (let f : ⊥ = cc in f)
name_at (x ∷ xs) zero r at = (x, refl, cc)
name_at (x ∷ xs) (suc i) r at = name_at xs i r at

-- in an order of rows, what an edge of a row leads to comes before it
pub row_before : (rs : List Row) (places : List ℕ) → IsOrder rs places → (k p j : ℕ) (id : Id) → slice_get places k ≡ Some p → IsEdge rs p j id → (t : ℕ) × (b : ℕ) × (t < k) × (slice_get places t ≡ Some b) × (target rs id ≡ Some b)
row_before rs places order k p j id next edge =
    let b = some_of (target rs id) (order.complete p j id edge) in
    let long = order.sorted.long in
    let lt = slice_get_within places k p next in
    let here : slice_index places k ≡ p = get_or_from_slice_get places k p 0 next in
    let to : Leads rs (slice_index places k) b.0 = subst (λ a. Leads rs a b.0) (sym here) (j, id, edge, b.1) in
    let before = order.sorted.after k b.0 (omega arith) to in
    let below = before.below in
    (before.index, b.0, below, slice_get-get_or places before.index 0 (omega arith) ∙ ap Some before.is, b.1)

-- in the order of a scope, what a name needs is an earlier one
pub needed_earlier : (xs : List ScopeName) (places : List ℕ) (k p : ℕ) (x : ScopeName) (id : Id) → IsOrder (rows_of xs) places → slice_get places k ≡ Some p → slice_get xs p ≡ Some x → Contains (needed_ids x) id → (i : ℕ) × (y : ScopeName) × (slice_get (in_order xs (take k places)) i ≡ Some y) × (local_name y ≡ id.name.now)
needed_earlier xs places k p x id order at there among =
    let j = at_contains (needed_ids x) id among in
    let b = row_before (rows_of xs) places order k p j.0 id at (row_of x, slice_get-map row_of xs p ∙ ap (option_map row_of) there, j.1) in
    let r = place_of-Some (rows_of xs) id.name.now b.1 b.4 in
    let y = name_at xs b.1 r.0 r.1 in
    let found = in_order_has xs (take k places) b.0 b.1 y.0 (slice_get-take places k b.0 b.2 ∙ b.3) y.1 in
    (found.0, y.0, found.1, ap (λ (row : Row). row.name) y.2 ∙ sym r.2)

pub names_none : (env : Env) → HasNames env []
names_none env = record { has = λ i x at. absurd (let f : ⊥ = cc in f) }

some_cond : (b : Bool) (place : ℕ) (o : Option ℕ) → IsSome o → IsSome (cond b (Some place) o)
some_cond true place o h = refl
some_cond false place o h = h

-- those that are in a table are in one with a name more
pub names_kept : (names names' : Names) (xs : List ScopeName) (name : List ℕ) → HasNames (env_of names) xs → IsStored names names' name → HasNames (env_of names') xs
names_kept names names' xs name has stored = record {
  has = λ i y at. subst IsSome (sym (ap (λ ns. env_of ns (local_name y)) stored.is ∙ lookup-insert_entry names name (local_name y) stored.place)) (some_cond (pointwise nat_eq (local_name y) name) stored.place (env_of names (local_name y)) (has.has i y at));
}

-- one more that is in a table
pub names_one : (env : Env) (xs : List ScopeName) (x : ScopeName) → HasNames env xs → IsSome (env (local_name x)) → HasNames env (xs ++ x ∷ [])
names_one env xs x has one = record {
  has = λ i y at. elim (at_either xs x i y at) [
    | inl old ↦ has.has i y old
    | inr new ↦ subst (λ (z : ScopeName). IsSome (env (local_name z))) (sym new.1) one
  ];
}

-- a name that was put into a table is in it
pub stored_some : (names names' : Names) (name : List ℕ) → IsStored names names' name → IsSome (env_of names' name)
stored_some names names' name stored =
    let found = ap (λ ns. env_of ns name) stored.is ∙ lookup-insert_entry names name name stored.place in
    subst IsSome (sym found) (rw (name_itself name) refl)

-- a name more
pub names_more : (names names' : Names) (xs : List ScopeName) (x : ScopeName) → HasNames (env_of names) xs → IsStored names names' (local_name x) → HasNames (env_of names') (xs ++ x ∷ [])
names_more names names' xs x has stored = names_one (env_of names') xs x (names_kept names names' xs (local_name x) has stored) (stored_some names names' (local_name x) stored)
