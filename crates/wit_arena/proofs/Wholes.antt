-- Where unnamed types occur in scopes.
use Rattle.std.proofs.Common.{◌≡◌, ℕ, List, [], ◌∷◌, ◌++◌, Some, ◌⊎◌, inl, inr, subst}
use Rattle.wit_arena.proofs.Names.{Address, Def, Exprs, Form, Key, ScopeName, SourceFunction, Whole, all_function_occurrences, all_seen, keys, local_name, name_exprs, name_occurrences, slice_get}
use Rattle.wit_arena.proofs.Occurrence.{Has, has_either, keys-append, has_from}
use Rattle.wit_arena.proofs.DefinitionPart.{name_keys, parts_keys}
use Rattle.wit_arena.proofs.Resolving.{IsInFunctions, whole_in_functions}
use Rattle.wit_arena.proofs.Turns.{parts_occurrences, all_name_occurrences}

-- an unnamed type that occurs in a name occurs in its parts
whole_in_name : (s : Address) (x : ScopeName) (form : Form) (parts : Exprs) → Has (keys (name_occurrences s x)) (Whole form parts) → Has (all_seen (name_exprs s x)) (Whole form parts)
whole_in_name s x form parts h = elim (has_either (keys (parts_occurrences s x)) (Def s (local_name x) ∷ []) (Whole form parts) (subst (λ (ks : List Key). Has ks (Whole form parts)) (name_keys s x) h)) [
  | inl inner ↦ subst (λ (ks : List Key). Has ks (Whole form parts)) (parts_keys s x) inner
  | inr last ↦ elim last [ inl here ↦ absurd (let f : ⊥ = cc in f) | inr none ↦ absurd none ]
]

-- an unnamed type that occurs in names is written in one
pub whole_in_names : (s : Address) (xs : List ScopeName) (form : Form) (parts : Exprs) → Has (keys (all_name_occurrences s xs)) (Whole form parts) → (k : ℕ) × (x : ScopeName) × (slice_get xs k ≡ Some x) × Has (all_seen (name_exprs s x)) (Whole form parts)
whole_in_names s xs form parts h =
    let it = has_from (name_occurrences s) xs (Whole form parts) h in
    (it.0, it.1, it.2, whole_in_name s it.1 form parts it.3)

-- an unnamed type that occurs there is in one of its names, or in one of its functions
pub whole_in_turn : (s : Address) (xs : List ScopeName) (fns : List SourceFunction) (form : Form) (parts : Exprs) → Has (keys (all_name_occurrences s xs ++ all_function_occurrences s fns)) (Whole form parts) → Has (keys (all_name_occurrences s xs)) (Whole form parts) ⊎ IsInFunctions s fns form parts
whole_in_turn s xs fns form parts h = elim (has_either (keys (all_name_occurrences s xs)) (keys (all_function_occurrences s fns)) (Whole form parts) (subst (λ (l : List Key). Has l (Whole form parts)) (keys-append (all_name_occurrences s xs) (all_function_occurrences s fns)) h)) [
  | inl named ↦ inl named
  | inr other ↦ inr (whole_in_functions s fns form parts other)
]
