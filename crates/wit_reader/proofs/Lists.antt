-- Several items between two marks: a loop over them, from what is read of the first to the mark that closes.
use Rattle.std.proofs.Common.{◌≡◌, ℕ, zero, suc, ◌+◌, ◌<◌, List, [], ◌∷◌, ◌++◌, length, map, ap, ◌∙◌, sym, arith, refl, true, false, Bool, append_assoc}
use Rattle.std.specs.Prelude.{Ok, Err}
use Rattle.std.proofs.lemmas.List.{append-nil}
use Rattle.wit_lex.specs.declared.fault.ReadError.{ReadError}
use Rattle.wit_lex.specs.declared.fault.ReadError.TheVariants.{Fault, OutOfMemory}
use Rattle.wit_lex.specs.declared.kind.Kind.{Kind}
use Rattle.wit_lex.specs.Lexis.{Stops}
use Rattle.wit_grammar.specs.Grammar.{items_at, listed_at, next_at, open_at}
use Rattle.wit_grammar.specs.Leaves.{Spot, Read, ◌>>=◌}
use Rattle.wit_reader.specs.declared.reader.Reader.{Reader}
use Rattle.wit_reader.specs.Reading.{Parses, spot}

-- what was read before, and then the rest
abbrev pub with_prefix : {V : Type 0} → List V → Read (List V) → Read (List V)
with_prefix prefix r = r >>= λ x. Ok (prefix ++ x.0, x.1)

pub no_prefix : {V : Type 0} (r : Read (List V)) → with_prefix [] r ≡ r
no_prefix (Ok x) = refl
no_prefix (Err e) = refl

pub prefixes : {V : Type 0} (xs ys : List V) (r : Read (List V)) → with_prefix xs (with_prefix ys r) ≡ with_prefix (xs ++ ys) r
prefixes xs ys (Ok x) = ap (λ zs. Ok (zs, x.1)) (sym (append_assoc xs ys x.0))
prefixes xs ys (Err e) = refl

pub map_more : {A V : Type 0} (view : A → V) (xs : List A) (x : A) → map view (xs ++ x ∷ []) ≡ map view xs ++ view x ∷ []
map_more view [] x = refl
map_more view (y ∷ xs) x = ap (λ zs. view y ∷ zs) (map_more view xs x)

-- the source from a reader on has more than so many bytes less
pub bytes_left : (old cur : Reader) (left : ℕ) → cur.source ≡ old.source → length old.source.now < left + cur.before → (n : ℕ) × (left ≡ suc n)
bytes_left old cur left same enough = by_left left (
    let len : length cur.source.now ≡ length old.source.now = ap (λ s. length s.now) same in
    let prefix = cur.prefix in
    let order = cur.within.order in
    let within = cur.within.within in
    omega arith)
  where
    by_left : (n : ℕ) → 0 < n → (m : ℕ) × (n ≡ suc m)
    by_left zero z = absurd (omega arith)
    by_left (suc m) z = (m, refl)

-- so far these were read, and what is read of the rest completes the whole
pub record IsListing {A V : Type 0} (view : A → V) (item : Spot → Read V) (close : Kind) (old : Reader) (whole : Read (List V)) (xs : List A) (more : Bool) (cur : Reader) : Type 0 where
  pub source : cur.source ≡ old.source
  pub offset : cur.offset ≡ old.offset
  pub onward : old.before < cur.before
  pub left : ℕ
  pub enough : length old.source.now < left + cur.before
  pub goes : whole ≡ with_prefix (map view xs) (items_at item close left (more, spot cur))

pub listing_opened : {A V : Type 0} {old cur : Reader} (view : A → V) (item : Spot → Read V) (opening close : Kind) (more : Bool) → Parses old (open_at opening close (spot old)) more cur →
    IsListing view item close old (listed_at item opening close (spot old)) [] more cur
unfolding listed_at
listing_opened {A} {V} {old} {cur} view item opening close more r = record {
  source = r.source;
  offset = r.offset;
  onward = r.onward;
  left = suc (length old.source.now);
  enough = omega arith;
  goes = rw r.parses (sym (no_prefix (items_at item close (suc (length old.source.now)) (more, spot cur))));
}

one_step : {V : Type 0} (item : Spot → Read V) (close : Kind) (n : ℕ) (s m e : Spot) (v : V) (more : Bool) → item s ≡ Ok (v, m) → next_at close m ≡ Ok (more, e) →
    items_at item close (suc n) (true, s) ≡ with_prefix (v ∷ []) (items_at item close n (more, e))
unfolding items_at
one_step item close n s m e v more h k = rw h (rw k refl)

pub listing_more : {A V : Type 0} {view : A → V} {item : Spot → Read V} {close : Kind} {old cur mid new : Reader} {whole : Read (List V)} {xs : List A} (ys : List A) (x : A) (more : Bool) →
    IsListing view item close old whole xs true cur → Parses cur (item (spot cur)) (view x) mid → ys ≡ xs ++ x ∷ [] → Parses mid (next_at close (spot mid)) more new →
    IsListing view item close old whole ys more new
listing_more {A} {V} {view} {item} {close} {old} {cur} {mid} {new} {whole} {xs} ys x more h r e k =
    let n = bytes_left old cur h.left h.source h.enough in
    let one = r.onward in
    let two = k.onward in
    let three = h.onward in
    let enough = h.enough in
    let left = n.1 in
    record {
      source = k.source ∙ r.source ∙ h.source;
      offset = k.offset ∙ r.offset ∙ h.offset;
      onward = omega arith;
      left = n.0;
      enough = omega arith;
      goes = h.goes ∙ ap (λ m. with_prefix (map view xs) (items_at item close m (true, spot cur))) n.1
          ∙ ap (with_prefix (map view xs)) (one_step item close n.0 (spot cur) (spot mid) (spot new) (view x) more r.parses k.parses)
          ∙ prefixes (map view xs) (view x ∷ []) (items_at item close n.0 (more, spot new))
          ∙ ap (λ zs. with_prefix zs (items_at item close n.0 (more, spot new))) (sym (ap (map view) e ∙ map_more view xs x));
    }

pub listing_closed : {A V : Type 0} {view : A → V} {item : Spot → Read V} {close : Kind} {old cur : Reader} {whole : Read (List V)} {xs : List A} →
    IsListing view item close old whole xs false cur → Parses old whole (map view xs) cur
unfolding items_at
listing_closed {A} {V} {view} {item} {close} {old} {cur} {whole} {xs} h = record {
  source = h.source;
  offset = h.offset;
  onward = h.onward;
  parses = h.goes ∙ ap (λ zs. Ok (zs, spot cur)) (append-nil (map view xs));
}

item_fault : {V : Type 0} (item : Spot → Read V) (close : Kind) (n : ℕ) (s : Spot) (e : ReadError) → item s ≡ Err e → items_at item close (suc n) (true, s) ≡ Err e
unfolding items_at
item_fault item close n s e h = rw h refl

next_fault : {V : Type 0} (item : Spot → Read V) (close : Kind) (n : ℕ) (s m : Spot) (v : V) (e : ReadError) → item s ≡ Ok (v, m) → next_at close m ≡ Err e → items_at item close (suc n) (true, s) ≡ Err e
unfolding items_at
next_fault item close n s m v e h k = rw h (rw k refl)

-- a fault of the mark that opens stops the whole
pub open_stops : {V : Type 0} (item : Spot → Read V) (opening close : Kind) (s : Spot) (e : ReadError) → Stops (open_at opening close s) e → Stops (listed_at item opening close s) e
unfolding listed_at
open_stops item opening close s (Fault f a b) h = rw h refl
open_stops item opening close s OutOfMemory h = tt

-- a fault of an item, or after it, stops the whole
pub item_stops : {A V : Type 0} {view : A → V} {item : Spot → Read V} {close : Kind} {old cur : Reader} {whole : Read (List V)} {xs : List A} (e : ReadError) →
    IsListing view item close old whole xs true cur → Stops (item (spot cur)) e → Stops whole e
item_stops {A} {V} {view} {item} {close} {old} {cur} {whole} {xs} (Fault f a b) h k =
    let n = bytes_left old cur h.left h.source h.enough in
    h.goes ∙ ap (λ m. with_prefix (map view xs) (items_at item close m (true, spot cur))) n.1 ∙ rw (item_fault item close n.0 (spot cur) (Fault f a b) k) refl
item_stops OutOfMemory h k = tt

pub next_stops : {A V : Type 0} {view : A → V} {item : Spot → Read V} {close : Kind} {old cur mid : Reader} {whole : Read (List V)} {xs : List A} (v : V) (e : ReadError) →
    IsListing view item close old whole xs true cur → Parses cur (item (spot cur)) v mid → Stops (next_at close (spot mid)) e → Stops whole e
next_stops {A} {V} {view} {item} {close} {old} {cur} {mid} {whole} {xs} v (Fault f a b) h r k =
    let n = bytes_left old cur h.left h.source h.enough in
    h.goes ∙ ap (λ m. with_prefix (map view xs) (items_at item close m (true, spot cur))) n.1 ∙ rw (next_fault item close n.0 (spot cur) (spot mid) v (Fault f a b) r.parses k) refl
next_stops v OutOfMemory h r k = tt
