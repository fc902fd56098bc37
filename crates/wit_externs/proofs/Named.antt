-- Names that are defined one after the other, of which no two may have one key.
use Rattle.std.proofs.Common.{ℕ, ◌+◌, List, [], ◌∷◌, ◌++◌, sym, subst}
use Rattle.wit_arena.proofs.Common.{AllDiffer, Span, differ_more, folded_key, map, map-append, map_at}
use Rattle.wit_refusals.specs.NameScopes.{Name, AreUsed}
use Rattle.wit_signatures.specs.FunctionsOfScope.{name_key}

-- the keys differ once a name is defined whose key is not in use
pub keys_more : (names : List Name) (name : List ℕ) (span : Span) → (AreUsed names name → ⊥) → AllDiffer (map name_key names) → AllDiffer (map name_key (names ++ (name, span) ∷ []))
keys_more names name span free d =
    subst AllDiffer (sym (map-append name_key names ((name, span) ∷ []))) (differ_more (map name_key names) (folded_key name) d (λ i at.
    let there = map_at name_key names i (folded_key name) at in
    free (record { place = i; earlier = there.0; at = there.1; same = there.2 })))
