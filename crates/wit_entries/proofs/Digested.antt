-- A place more in an ordered map from hashes.
use Rattle.std.proofs.Common.{◌≡◌, ℕ, ◌<◌, true, false, Option, Some, None, inl, inr, refl, ap, ◌∙◌}
use Rattle.std.specs.BTreeMap.{BTreeMap, get, Updates}
use Rattle.wit_arena.proofs.Common.{MatchOrdering, cases_Bool, is_eq, is_some, nat_cmp}
use Rattle.std.specs.declared.cmp.Ordering.{Ordering}
use Rattle.std.specs.declared.cmp.Ordering.TheVariants.{Less, Equal, Greater}
use Rattle.std.proofs.lemmas.Cmp.{ranked}

equal_numbers : (x y : ℕ) → is_eq (nat_cmp x y) ≡ true → x ≡ y
equal_numbers x y h = go (nat_cmp x y) (ranked x y (nat_cmp x y) refl) h
  where
    go : (r : Ordering) → MatchOrdering r (x < y) (x ≡ y) (y < x) → is_eq r ≡ true → x ≡ y
    go Less m e = absurd (let f : ⊥ = cc in f)
    go Equal m e = m
    go Greater m e = absurd (let f : ⊥ = cc in f)

none_there : {X : Type 0} (o : Option X) (x : X) → is_some o ≡ false → o ≡ Some x → ⊥
none_there None x empty is = absurd (let f : ⊥ = cc in f)
none_there (Some y) x empty is = absurd (let f : ⊥ = cc in f)

-- what was there stays, where the hash had no place
pub key_hashes_kept : (m n : BTreeMap ℕ ℕ) (key_hash i : ℕ) → is_some (get nat_cmp m key_hash) ≡ false → Updates nat_cmp m n key_hash (Some i) → (x j : ℕ) → get nat_cmp m x ≡ Some j → get nat_cmp n x ≡ Some j
key_hashes_kept m n key_hash i free updates x j h = elim (cases_Bool (is_eq (nat_cmp key_hash x))) [
  | inl same ↦ absurd (none_there (get nat_cmp m key_hash) j free (ap (get nat_cmp m) (equal_numbers key_hash x same) ∙ h))
  | inr other ↦ updates.2 x other ∙ h
]

pub key_hash_there : (m n : BTreeMap ℕ ℕ) (key_hash i : ℕ) → Updates nat_cmp m n key_hash (Some i) → get nat_cmp n key_hash ≡ Some i
key_hash_there m n key_hash i updates = updates.1
