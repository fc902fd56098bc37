-- Several items, one after the other: as long as one begins, or up to a mark.
use Rattle.std.proofs.Common.{◌≡◌, ℕ, zero, suc, ◌+◌, ◌<◌, ◌≤◌, List, [], ◌∷◌, ◌++◌, length, map, ap, ◌∙◌, sym, arith, refl, true, false, Bool}
use Rattle.std.specs.Prelude.{Ok, Err, not, if◌then◌else◌}
use Rattle.std.proofs.lemmas.List.{append-nil}
use Rattle.wit_lex.specs.declared.fault.ReadError.{ReadError}
use Rattle.wit_lex.specs.declared.fault.ReadError.TheVariants.{Fault, OutOfMemory}
use Rattle.wit_lex.specs.declared.kind.Kind.{Kind}
use Rattle.wit_lex.specs.Lexis.{Stops}
use Rattle.wit_grammar.specs.TokenKinds.{same_kind}
use Rattle.wit_grammar.specs.Leaves.{Spot, Read, ◌>>=◌}
use Rattle.wit_grammar.specs.Grammar.{closes, many_at, until_at}
use Rattle.wit_reader.specs.declared.reader.Reader.{Reader}
use Rattle.wit_reader.specs.Reading.{spot, Parses, ParsesOn}
use Rattle.wit_reader.proofs.Lists.{with_prefix, no_prefix, prefixes, map_more, bytes_left}

-- so far these were read, and what is read of the rest completes the whole
pub record IsSeveral {A V : Type 0} (view : A → V) (goes : Spot → Bool) (item : Spot → Read V) (old : Reader) (whole : Read (List V)) (xs : List A) (cur : Reader) : Type 0 where
  pub source : cur.source ≡ old.source
  pub offset : cur.offset ≡ old.offset
  pub onward : old.before ≤ cur.before
  pub left : ℕ
  pub enough : length old.source.now < left + cur.before
  pub rest : whole ≡ with_prefix (map view xs) (many_at goes item left (spot cur))

pub several_opened : {A V : Type 0} {old : Reader} {whole : Read (List V)} (view : A → V) (goes : Spot → Bool) (item : Spot → Read V) →
    whole ≡ many_at goes item (suc (length old.source.now)) (spot old) → IsSeveral view goes item old whole [] old
several_opened {A} {V} {old} {whole} view goes item h = record {
  source = refl;
  offset = refl;
  onward = omega arith;
  left = suc (length old.source.now);
  enough = omega arith;
  rest = h ∙ sym (no_prefix (many_at goes item (suc (length old.source.now)) (spot old)));
}

some_left : {A V : Type 0} {view : A → V} {goes : Spot → Bool} {item : Spot → Read V} {old cur : Reader} {whole : Read (List V)} {xs : List A} (h : IsSeveral view goes item old whole xs cur) →
    (n : ℕ) × (h.left ≡ suc n)
some_left {old} {cur} h = bytes_left old cur h.left h.source h.enough

-- what is read of the rest, where there is a step left
rest_of : {A V : Type 0} {view : A → V} {goes : Spot → Bool} {item : Spot → Read V} {old cur : Reader} {whole : Read (List V)} {xs : List A} (h : IsSeveral view goes item old whole xs cur) →
    whole ≡ with_prefix (map view xs) (many_at goes item (suc (some_left h).0) (spot cur))
rest_of {A} {V} {view} {goes} {item} {old} {cur} {whole} {xs} h = h.rest ∙ ap (λ m. with_prefix (map view xs) (many_at goes item m (spot cur))) (some_left h).1

one_step : {V : Type 0} (goes : Spot → Bool) (item : Spot → Read V) (n : ℕ) (s m : Spot) (v : V) → goes s ≡ true → item s ≡ Ok (v, m) →
    many_at goes item (suc n) s ≡ with_prefix (v ∷ []) (many_at goes item n m)
one_step goes item n s m v g h = rw (g, h) refl

pub several_more : {A V : Type 0} {view : A → V} {goes : Spot → Bool} {item : Spot → Read V} {old cur new : Reader} {whole : Read (List V)} {xs : List A} (ys : List A) (x : A) →
    IsSeveral view goes item old whole xs cur → goes (spot cur) ≡ true → Parses cur (item (spot cur)) (view x) new → ys ≡ xs ++ x ∷ [] → IsSeveral view goes item old whole ys new
several_more {A} {V} {view} {goes} {item} {old} {cur} {new} {whole} {xs} ys x h g r e =
    let n = some_left h in
    let one = r.onward in
    let two = h.onward in
    let enough = h.enough in
    let left = n.1 in
    record {
      source = r.source ∙ h.source;
      offset = r.offset ∙ h.offset;
      onward = omega arith;
      left = n.0;
      enough = omega arith;
      rest = rest_of h ∙ ap (with_prefix (map view xs)) (one_step goes item n.0 (spot cur) (spot new) (view x) g r.parses)
          ∙ prefixes (map view xs) (view x ∷ []) (many_at goes item n.0 (spot new))
          ∙ ap (λ zs. with_prefix zs (many_at goes item n.0 (spot new))) (sym (ap (map view) e ∙ map_more view xs x));
    }

none_left : {V : Type 0} (goes : Spot → Bool) (item : Spot → Read V) (n : ℕ) (s : Spot) (prefix : List V) → goes s ≡ false → with_prefix prefix (many_at goes item (suc n) s) ≡ Ok (prefix, s)
none_left goes item n s prefix g = rw g (ap (λ zs. Ok (zs, s)) (append-nil prefix))

pub several_closed : {A V : Type 0} {view : A → V} {goes : Spot → Bool} {item : Spot → Read V} {old cur : Reader} {whole : Read (List V)} {xs : List A} →
    IsSeveral view goes item old whole xs cur → goes (spot cur) ≡ false → ParsesOn old whole (map view xs) cur
several_closed {A} {V} {view} {goes} {item} {old} {cur} {whole} {xs} h g = record {
  source = h.source;
  offset = h.offset;
  onward = h.onward;
  parses = rest_of h ∙ none_left goes item (some_left h).0 (spot cur) (map view xs) g;
}

fault_of : {V : Type 0} (goes : Spot → Bool) (item : Spot → Read V) (n : ℕ) (s : Spot) (prefix : List V) (e : ReadError) → goes s ≡ true → item s ≡ Err e → with_prefix prefix (many_at goes item (suc n) s) ≡ Err e
fault_of goes item n s prefix e g h = rw (g, h) refl

-- a fault of an item stops the whole
pub several_stops : {A V : Type 0} {view : A → V} {goes : Spot → Bool} {item : Spot → Read V} {old cur : Reader} {whole : Read (List V)} {xs : List A} (e : ReadError) →
    IsSeveral view goes item old whole xs cur → goes (spot cur) ≡ true → Stops (item (spot cur)) e → Stops whole e
several_stops {A} {V} {view} {goes} {item} {old} {cur} {whole} {xs} (Fault f start end) h g k = rest_of h ∙ fault_of goes item (some_left h).0 (spot cur) (map view xs) (Fault f start end) g k
several_stops OutOfMemory h g k = tt

-- ---- up to a mark
abbrev pub goes_until : Kind → Spot → Bool
goes_until close s = not (closes close s)

abbrev none_at : {V : Type 0} → Spot → Read (List V)
none_at s = Ok ([], s)

abbrev put : {V : Type 0} → V → List V × Spot → Read (List V)
put x ys = Ok (x ∷ ys.0, ys.1)

one_way : {V : Type 0} (b : Bool) (r : Read V) (f g : Spot → Read (List V)) (s : Spot) → ((m : Spot) → f m ≡ g m) →
    (if b then none_at {V = V} s else (r >>= λ x. f x.1 >>= put x.0)) ≡ (if not b then (r >>= λ x. g x.1 >>= put x.0) else none_at {V = V} s)
one_way true r f g s h = refl
one_way false (Ok x) f g s h = ap (λ ys. ys >>= put x.0) (h x.1)
one_way false (Err e) f g s h = refl

pub until_is_many : {V : Type 0} (item : Spot → Read V) (close : Kind) (n : ℕ) (s : Spot) → until_at item close n s ≡ many_at (goes_until close) item n s
unfolding until_at
until_is_many item close zero s = refl
until_is_many item close (suc n) s = one_way (closes close s) (item s) (until_at item close n) (many_at (goes_until close) item n) s (until_is_many item close n)

closes_here : (close : Kind) (r : Reader) → closes close (spot r) ≡ same_kind r.token.kind close
closes_here close r = rw r.next refl

-- the token says whether the mark is reached
pub goes_on : (close : Kind) (r : Reader) (b : Bool) → same_kind r.token.kind close ≡ b → goes_until close (spot r) ≡ not b
goes_on close r b h = ap not (closes_here close r ∙ h)
