-- Functions under their names, where setters are placed after their getters.
use Rattle.std.proofs.Common.{◌≡◌, ◌||◌, Bool, true, false, List, [], ◌∷◌, ◌++◌, inl, inr, refl, sym, ap, ◌∙◌, ℕ, Some, subst, nat_eq, ◌≤◌, ◌<◌, length, arith, Contains}
use Rattle.wit_items.proofs.Common.{cases_Bool, early, filter, flat_map, list_any, map, map-append, others, setters_placed, with_setters, AllDiffer, Function, by_name, is_getter_of, made_name, names_distinct, pairs, placed, insert_entry, inserted_next, name_cases, pointwise, at_contains, contains_at, flat_map_at, flat_map_has, freestanding_names, slice_get, slice_get_within}
use Rattle.wit_functions.proofs.InTurn.{in_turn}
use Rattle.wit_functions.proofs.Pairs.{in_turn-placed}
use Rattle.wit_setters.proofs.Keys.{in_turn_differ}

module _ {X Y : Type 0} (g : X → Y) (goes : X → X → Bool) (goes_seen : Y → Y → Bool) (same : (a b : X) → goes_seen (g a) (g b) ≡ goes a b) where
  list_any-map : (e : X) (es : List X) → list_any (goes_seen (g e)) (map g es) ≡ list_any (goes e) es
  list_any-map e [] = refl
  list_any-map e (x ∷ es) = λ j. same e x j || list_any-map e es j

  early-map : (es : List X) → early goes_seen (map g es) ≡ map g (early goes es)
  early-map [] = refl
  early-map (e ∷ es) = elim (cases_Bool (list_any (goes e) es)) [
    | inl hit ↦ (let seen : list_any (goes_seen (g e)) (map g es) ≡ true = list_any-map e es ∙ hit in rw (hit, seen) (ap (λ l. g e ∷ l) (early-map es)))
    | inr miss ↦ (let seen : list_any (goes_seen (g e)) (map g es) ≡ false = list_any-map e es ∙ miss in rw (miss, seen) (early-map es))
  ]

  others-map : (es : List X) → others goes_seen (map g es) ≡ map g (others goes es)
  others-map [] = refl
  others-map (e ∷ es) = elim (cases_Bool (list_any (goes e) es)) [
    | inl hit ↦ (let seen : list_any (goes_seen (g e)) (map g es) ≡ true = list_any-map e es ∙ hit in rw (hit, seen) (others-map es))
    | inr miss ↦ (let seen : list_any (goes_seen (g e)) (map g es) ≡ false = list_any-map e es ∙ miss in rw (miss, seen) (ap (λ l. g e ∷ l) (others-map es)))
  ]

  filter-map : (x : X) (ss : List X) → filter (λ s. goes_seen s (g x)) (map g ss) ≡ map g (filter (λ s. goes s x) ss)
  filter-map x [] = refl
  filter-map x (s ∷ ss) = elim (cases_Bool (goes s x)) [
    | inl hit ↦ (let seen : goes_seen (g s) (g x) ≡ true = same s x ∙ hit in rw (hit, seen) (ap (λ l. g s ∷ l) (filter-map x ss)))
    | inr miss ↦ (let seen : goes_seen (g s) (g x) ≡ false = same s x ∙ miss in rw (miss, seen) (filter-map x ss))
  ]

  with_setters-map : (ss os : List X) → flat_map (with_setters goes_seen (map g ss)) (map g os) ≡ map g (flat_map (with_setters goes ss) os)
  with_setters-map ss [] = refl
  with_setters-map ss (o ∷ os) =
      ap (λ l. (g o ∷ l) ++ flat_map (with_setters goes_seen (map g ss)) (map g os)) (filter-map o ss)
      ∙ ap (λ l. map g (with_setters goes ss o) ++ l) (with_setters-map ss os)
      ∙ sym (map-append g (with_setters goes ss o) (flat_map (with_setters goes ss) os))

  -- where a test sees of entries what another sees, both place the same ones
  pub setters_placed-map : (es : List X) → setters_placed goes_seen (map g es) ≡ map g (setters_placed goes es)
  setters_placed-map es =
      ap (λ l. flat_map (with_setters goes_seen l) (others goes_seen (map g es))) (early-map es)
      ∙ ap (flat_map (with_setters goes_seen (map g (early goes es)))) (others-map es)
      ∙ with_setters-map (early goes es) (others goes es)

-- Functions whose names differ still do once setters are placed.
abbrev entry_name : List ℕ × Function → List ℕ
entry_name e = e.1.name

entry_names : (fs : List Function) → map entry_name (map by_name fs) ≡ map made_name fs
entry_names [] = refl
entry_names (f ∷ fs) = ap (λ l. f.name ∷ l) (entry_names fs)

-- the table of functions has the setters placed
pub table_placed : (fs : List Function) → map by_name (setters_placed is_getter_of fs) ≡ placed Some (map by_name fs)
table_placed fs = sym (setters_placed-map by_name is_getter_of (pairs Some) (λ a b. refl) fs)

pub placed_differ : (fs : List Function) → AllDiffer (map made_name fs) → AllDiffer (map made_name (setters_placed is_getter_of fs))
placed_differ fs d =
    let put = in_turn_differ entry_name (pairs Some) (map by_name fs) (subst AllDiffer (sym (entry_names fs)) d) in
    let is : in_turn (pairs Some) (map by_name fs) ≡ map by_name (setters_placed is_getter_of fs) = in_turn-placed Some (map by_name fs) (names_distinct fs d) ∙ sym (table_placed fs) in
    subst AllDiffer (ap (map entry_name) is ∙ entry_names (setters_placed is_getter_of fs)) put

-- Functions under their names, one more.
-- a function more is at its name, where names differ
pub function_next : (fs rest : List Function) (f : Function) → AllDiffer (map made_name (fs ++ f ∷ rest)) → insert_entry (pointwise nat_eq) (map by_name fs) f.name f ≡ map by_name (fs ++ f ∷ [])
function_next fs rest f differ = inserted_next (pointwise nat_eq) made_name (λ g. g) [] fs rest f (λ d. name_cases f.name d.0) differ

-- Written names of functions that are no resource's, among those of an interface.
-- the written names of a function at its name: none, or one
abbrev pub written_names : List ℕ × Function → List (List ℕ)
written_names f = freestanding_names f.1.kind f.1.name

-- a function has the name
pub called_at : (fs : List (List ℕ × Function)) (i : ℕ) (f : List ℕ × Function) (name : List ℕ) → slice_get fs i ≡ Some f → Contains (written_names f) name → Contains (flat_map written_names fs) name
called_at fs i f name at h =
    let j = at_contains (written_names f) name h in
    let k = flat_map_has written_names fs i j.0 f name at j.1 in
    contains_at (flat_map written_names fs) k.0 name k.1

-- none of the first n has the name
abbrev pub AreOthers : List (List ℕ × Function) → ℕ → List ℕ → Type 0
AreOthers fs n name = (k : ℕ) (f : List ℕ × Function) → k < n → slice_get fs k ≡ Some f → Contains (written_names f) name → ⊥

-- so none has, where these are all
pub called_none : (fs : List (List ℕ × Function)) (n : ℕ) (name : List ℕ) → length fs ≤ n → AreOthers fs n name → Contains (flat_map written_names fs) name → ⊥
called_none fs n name long none h =
    let j = at_contains (flat_map written_names fs) name h in
    let it = flat_map_at written_names fs j.0 name j.1 in
    none it.0 it.1 (omega (arith, slice_get_within fs it.0 it.1 it.2)) it.2 (contains_at (written_names it.1) it.3.0 name it.3.1)
