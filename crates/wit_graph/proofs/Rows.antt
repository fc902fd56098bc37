-- The rows of a table that grows, and its keys in an order: for callers.
use Rattle.std.proofs.Common.{◌≡◌, ℕ, suc, ◌+◌, ◌≤◌, Bool, true, false, not, cond, List, [], ◌∷◌, ◌++◌, length, map, arith, sym, ◌∙◌, ap, refl, subst, inl, inr, Some, None, Vec, Global, Bor}
use Rattle.std.specs.List.{prefix_len}
use Rattle.std.specs.Prelude.{nat_lt}
use Rattle.std.specs.Str.{bytes_eq}
use Rattle.std.proofs.lemmas.List.{map-append}
use Rattle.std.proofs.lemmas.Option.{none-some}
use Rattle.std.proofs.lemmas.Bool.{cases_Bool, cases_lt, cond-true, cond-false, lt-ltb}
use Rattle.indexmap.specs.IndexMap.{insert_entry}
use Rattle.wit_type_tree.specs.declared.leaves.Id.{Id}
use Rattle.wit_graph.specs.Table.{Row, entry_row, place_of}

-- equality of keys
abbrev pub key_eq : Bor (List ℕ) → Bor (List ℕ) → Bool
key_eq a b = bytes_eq a.now b.now

pub past_all : (p n : ℕ) → cond (nat_lt p n) (Some p) None ≡ None → n ≤ p
past_all p n e = elim (cases_lt p n) [
  | inl l ↦ absurd (none-some p (sym (sym (cond-true (nat_lt p n) (Some p) None (lt-ltb p n l)) ∙ e)))
  | inr ge ↦ ge
]

fresh_entry : (es : List (Bor (List ℕ) × Vec Id Global)) (k : Bor (List ℕ)) (v : Vec Id Global) → length (map entry_row es) ≤ prefix_len (λ (row : Row). not (bytes_eq k.now row.name)) (map entry_row es)
    → insert_entry key_eq es k v ≡ es ++ (k, v) ∷ []
fresh_entry [] k v h = refl
fresh_entry (e ∷ es) k v h =
    let rest = prefix_len (λ (row : Row). not (bytes_eq k.now row.name)) (map entry_row es) in
    elim (cases_Bool (bytes_eq k.now e.0.now)) [
      | inl same ↦
          let h' : suc (length (map entry_row es)) ≤ cond (not true) (1 + rest) 0 = subst (λ b. suc (length (map entry_row es)) ≤ cond (not b) (1 + rest) 0) same h in
          absurd (omega (arith, h'))
      | inr other ↦
          let h' : suc (length (map entry_row es)) ≤ cond (not false) (1 + rest) 0 = subst (λ b. suc (length (map entry_row es)) ≤ cond (not b) (1 + rest) 0) other h in
          cond-false (bytes_eq k.now e.0.now) ((e.0, v) ∷ es) (e ∷ insert_entry key_eq es k v) other ∙ ap (λ l. e ∷ l) (fresh_entry es k v (omega (arith, h')))
    ]

-- inserting a name that no row has appends a row; `rows entries` is `map entry_row entries`
pub rows-insert : (old new : List (Bor (List ℕ) × Vec Id Global)) (k : Bor (List ℕ)) (v : Vec Id Global) → new ≡ insert_entry key_eq old k v → place_of (map entry_row old) k.now ≡ None
    → map entry_row new ≡ map entry_row old ++ (record { name = k.now; needs = v.items }) ∷ []
rows-insert old new k v e fresh =
    let past = past_all (prefix_len (λ (row : Row). not (bytes_eq k.now row.name)) (map entry_row old)) (length (map entry_row old)) fresh in
    ap (map entry_row) (e ∙ fresh_entry old k v past) ∙ map-append entry_row old ((k, v) ∷ [])
