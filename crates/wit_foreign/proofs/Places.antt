-- Values at keys that are found by their places.
use Rattle.std.proofs.Common.{◌≡◌, ℕ, Bool, List, Some, None, slice_get, sym, ◌∙◌}
use Rattle.wit_syntax.proofs.Common.{insert_entry, keys_of, lookup, option_map, position, set_value_at, slice_get-map}
use Rattle.indexmap.proofs.MapLemmas.{Found-position, Missing-position, insert_entry-first}

-- the value at the place of a key is what the key finds
pub lookup-position : {K V : Type 0} (t : K → Bool) (es : List (K × V)) (i : ℕ) (old : V) → position t (keys_of es) ≡ Some i → option_map (λ e. e.1) (slice_get es i) ≡ Some old → lookup t es ≡ Some old
lookup-position {K} {V} t es i old at is = (Found-position t es i at).value ∙ (slice_get-map (λ (e : K × V). e.1) es i ∙ is)

-- a value at the place of a key is put at the key
pub set_value_at-position : {K V : Type 0} (eq : K → K → Bool) (es : List (K × V)) (k : K) (i : ℕ) (v : V) → position (eq k) (keys_of es) ≡ Some i → set_value_at es i v ≡ insert_entry eq es k v
set_value_at-position eq es k i v at = sym (insert_entry-first eq k v es i (Found-position (eq k) es i at).first)

-- a key without a place finds nothing
pub lookup-nowhere : {K V : Type 0} (t : K → Bool) (es : List (K × V)) → position t (keys_of es) ≡ None → lookup t es ≡ None
lookup-nowhere t es at = (Missing-position t es at).value
