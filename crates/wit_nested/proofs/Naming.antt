-- Names that occur one by one, and which of them occurs again.
use Rattle.std.proofs.Common.{◌≡◌, ℕ, ◌<◌, ◌+◌, suc, Bool, true, false, not, List, [], ◌∷◌, ◌++◌, length, take, get_or, map, Some, Contains, inl, inr, sym, ap, subst, ◌∙◌, true≢false}
use Rattle.wit_items.proofs.Common.{AllDiffer, MatchBool, PackageName, UnresolvedPackage, any_passes_from_place, at_contains, cases_Bool, cond-false, contains_at, differ_more, differ_none, insert_key, list_any, map-append, map_at, not-false, not-true}
use Rattle.wit_nested.specs.PackageNames.{package_names}
use Rattle.wit_nested.proofs.Prefixes.{prefix_more}
use Rattle.wit_nested.proofs.PackageNames.{none_among}

-- keys are compared by what they lead to
any_among : {K N : Type 0} (now : K → N) (eq : K → K → Bool) → ((x y : K) → now x ≡ now y → eq x y ≡ true) → (ks : List K) (k : K) → Contains (map now ks) (now k) → list_any (eq k) ks ≡ true
any_among now eq same ks k among =
    let named = at_contains (map now ks) (now k) among in
    let it = map_at now ks named.0 (now k) named.1 in
    any_passes_from_place (eq k) ks named.0 it.0 it.1 (same k it.0 (sym it.2))

among_any : {K N : Type 0} (now : K → N) (eq : K → K → Bool) → ((x y : K) → eq x y ≡ true → now x ≡ now y) → (ks : List K) (k : K) → list_any (eq k) ks ≡ true → Contains (map now ks) (now k)
among_any now eq equal [] k h = absurd (true≢false (sym h))
among_any now eq equal (x ∷ xs) k h = elim (cases_Bool (eq k x)) [
  | inl hit ↦ contains_at (now x ∷ map now xs) 0 (now k) (ap Some (sym (equal k x hit)))
  | inr miss ↦ (
      let rest = at_contains (map now xs) (now k) (among_any now eq equal xs k (rw miss at h)) in
      contains_at (now x ∷ map now xs) (suc rest.0) (now k) rest.1)
]

pub turned : (a b : Bool) → a ≡ not b → b ≡ not a
turned a true is = sym (ap not is)
turned a false is = sym (ap not is)

-- a key is put after these, where it is none of them
pub inserted : {K N : Type 0} (now : K → N) (eq : K → K → Bool) → ((x y : K) → eq x y ≡ true → now x ≡ now y) → ((x y : K) → now x ≡ now y → eq x y ≡ true) → (ks keys : List K) (k : K) (new : Bool) →
    new ≡ not (list_any (eq k) ks) → keys ≡ insert_key eq ks k → MatchBool new ((map now keys ≡ map now ks ++ now k ∷ []) × (Contains (map now ks) (now k) → ⊥)) (Contains (map now ks) (now k))
inserted now eq equal same ks keys k true as_stated is =
    let none : list_any (eq k) ks ≡ false = not-true (list_any (eq k) ks) (sym as_stated) in
    (ap (map now) (is ∙ cond-false (list_any (eq k) ks) ks (ks ++ k ∷ []) none) ∙ map-append now ks (k ∷ []), λ among. true≢false (sym (any_among now eq same ks k among) ∙ none))
inserted now eq equal same ks keys k false as_stated is = among_any now eq equal ks k (not-false (list_any (eq k) ks) (sym as_stated))

-- these are the names of the main package and of the first nested ones, and no two of them are one
pub record AreSeen (main : UnresolvedPackage) (nested : List UnresolvedPackage) (i : ℕ) (names : List PackageName) : Type 0 where
  pub are : names ≡ package_names (main ∷ take i nested)
  pub apart : AllDiffer names

-- the main package alone
pub main_seen : (main : UnresolvedPackage) (nested : List UnresolvedPackage) (old new : List PackageName) (fresh : Bool) → old ≡ [] → MatchBool fresh ((new ≡ old ++ main.name ∷ []) × (Contains old main.name → ⊥)) (Contains old main.name) →
    AreSeen main nested 0 new
main_seen main nested old new true none h =
    let one : new ≡ main.name ∷ [] = h.0 ∙ ap (λ ns. ns ++ main.name ∷ []) none in
    record {
      are = one;
      apart = subst AllDiffer (sym h.0) (differ_more old main.name (subst AllDiffer (sym none) differ_none) (λ i at. h.1 (contains_at old i main.name at)));
    }
main_seen main nested old new false none h = absurd (none_among main.name (subst (λ ns. Contains ns main.name) none h))

-- a nested one more
pub more_seen : (main : UnresolvedPackage) (nested : List UnresolvedPackage) (i : ℕ) (p : UnresolvedPackage) (old new : List PackageName) → i < length nested → p ≡ get_or nested i p → AreSeen main nested i old →
    (new ≡ old ++ p.name ∷ []) × (Contains old p.name → ⊥) → AreSeen main nested (i + 1) new
more_seen main nested i p old new lt is seen h = record {
  are = h.0 ∙ (ap (λ ns. ns ++ p.name ∷ []) seen.are ∙ ap (λ ns. main.name ∷ ns) (sym (prefix_more (λ (q : UnresolvedPackage). q.name) nested i p lt is)));
  apart = subst AllDiffer (sym h.0) (differ_more old p.name seen.apart (λ j at. h.1 (contains_at old j p.name at)));
}
