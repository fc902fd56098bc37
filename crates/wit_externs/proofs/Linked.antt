-- Interfaces on the sides of a world that have no name of their own, and one more of them.
use Rattle.std.proofs.Common.{◌≡◌, ℕ, Bool, true, false, not, List, [], ◌∷◌, ◌++◌, Contains, sym, ap, ◌∙◌, subst}
use Rattle.wit_arena.proofs.Common.{AllDiffer, Exported, Imported, MatchBool, WorldSide, any_passes_from_place, append-nil, at_contains, cond-false, contains_at, differ_more, insert_key, list_any, not-false, not-true}
use Rattle.indexmap.proofs.CallerLemmas.{Contains-list_any}
use Rattle.wit_sides.specs.SideNames.{only_on}

-- an interface of a side, where it is none of these
one_side : (s side : WorldSide) (old new : WorldSide → List ℕ) (id : ℕ) → new s ≡ old s ++ only_on s side id → (Contains (old side) id → ⊥) → AllDiffer (old s) → AllDiffer (new s)
one_side Imported Imported old new id defined free d = subst AllDiffer (sym defined) (differ_more (old Imported) id d (λ i at. free (contains_at (old Imported) i id at)))
one_side Exported Exported old new id defined free d = subst AllDiffer (sym defined) (differ_more (old Exported) id d (λ i at. free (contains_at (old Exported) i id at)))
one_side Imported Exported old new id defined free d = subst AllDiffer (sym (defined ∙ append-nil (old Imported))) d
one_side Exported Imported old new id defined free d = subst AllDiffer (sym (defined ∙ append-nil (old Exported))) d

pub places_differ : (side : WorldSide) (old new : WorldSide → List ℕ) (id : ℕ) → ((s : WorldSide) → new s ≡ old s ++ only_on s side id) → (Contains (old side) id → ⊥) → (s : WorldSide) → AllDiffer (old s) → AllDiffer (new s)
places_differ side old new id defined free s d = one_side s side old new id (defined s) free d

-- a place is put after these, where it is none of them
any_from : (eq : ℕ → ℕ → Bool) → ((x : ℕ) → eq x x ≡ true) → (ks : List ℕ) (k : ℕ) → Contains ks k → list_any (eq k) ks ≡ true
any_from eq itself ks k among = (let there = at_contains ks k among in any_passes_from_place (eq k) ks there.0 k there.1 (itself k))

pub turned : (a b : Bool) → a ≡ not b → b ≡ not a
turned a true is = sym (ap not is)
turned a false is = sym (ap not is)

pub inserted : (eq : ℕ → ℕ → Bool) → ((x y : ℕ) → eq x y ≡ true → x ≡ y) → ((x : ℕ) → eq x x ≡ true) → (ks keys : List ℕ) (k : ℕ) (new : Bool) → new ≡ not (list_any (eq k) ks) → keys ≡ insert_key eq ks k → MatchBool new ((keys ≡ ks ++ k ∷ []) × (Contains ks k → ⊥)) (Contains ks k)
inserted eq same itself ks keys k true as_stated is =
    let none : list_any (eq k) ks ≡ false = not-true (list_any (eq k) ks) (sym as_stated) in
    (is ∙ cond-false (list_any (eq k) ks) ks (ks ++ k ∷ []) none, λ among. (let wrong : true ≡ false = sym (any_from eq itself ks k among) ∙ none in cc))
inserted eq same itself ks keys k false as_stated is = Contains-list_any eq same ks k (not-false (list_any (eq k) ks) (sym as_stated))
