-- What is spelled is read, where one token decides.
use Rattle.std.proofs.Common.{◌≡◌, ℕ, zero, suc, ◌+◌, ◌<◌, List, [], ◌∷◌, ◌++◌, length, ap, ◌∙◌, sym, subst, arith, refl, true, false, Bool, not, inl, inr, Some, None}
use Rattle.std.specs.Prelude.{Ok, ◌&&◌}
use Rattle.std.proofs.lemmas.Bool.{and_parts, or_parts}
use Rattle.wit_lex.specs.declared.kind.Kind.{Kind}
use Rattle.wit_lex.specs.declared.kind.Kind.TheVariants.{Comma}
use Rattle.wit_lex.specs.Lexis.{Lexeme}
use Rattle.wit_grammar.specs.TokenKinds.{same_kind}
use Rattle.wit_grammar.specs.Leaves.{Spot, lexed, mark_at}
use Rattle.wit_grammar.specs.Grammar.{Gram, mark, spanned, says, name, name_but, number, version, primitives, docs, never, deeper, both, act, either, opt, many, until, listed, Terminal, of_kind, matches_first, among, nullable, where_empty, first, starts, closes, spells, run, Many, AreListed, many_at, until_at, open_at, next_at, items_at, listed_at}
use Rattle.wit_grammar.specs.OneToken.{apart, more, an_item, one_token}
use Rattle.wit_grammar.proofs.LeafReads.{IsInside, ahead_inside, mark_token, mark_begins}
use Rattle.wit_grammar.proofs.Onward.{isnt, in_prefix, in_back, not_among, among_token, where_so, same_among, misses, missed, onward_inside, many_onward, until_onward, onward, begins}

-- an item of several, which takes a token
record IsItem {A : Type 0} (g : Gram A) : Type 0 where
  some : nullable g ≡ false
  reads : (a : A) (s e : Spot) → IsInside s → spells g a s e → among (more g) e ≡ false → run g s ≡ Ok (a, e)

many_read : {A : Type 0} (g : Gram A) → IsItem g → apart (more g) (first g) ≡ true →
    (xs : List A) (n : ℕ) (s e : Spot) → IsInside s → length s.source < s.place + n → Many (spells g) xs s e → among (first g ++ more g) e ≡ false → many_at (starts g) (run g) n s ≡ Ok (xs, e)
many_read g is far xs zero s e inside lt h last = absurd (omega arith)
many_read g is far [] (suc n) s e inside lt h last =
    let l = not_among (first g) (more g) e last in
    let none : among (first g) s ≡ false = subst (λ m. among (first g) m ≡ false) (sym h) l.0 in
    rw none (ap (λ m. Ok ([], m)) h)
many_read g is far (x ∷ xs) (suc n) s e inside lt h last =
    let b = begins g x s h.0 inside is.some h.1 in
    let ahead = b.1.more in
    let len = ap (λ (l : List ℕ). length l) b.1.source in
    let next = ahead_inside s h.0 b.1 in
    let l = not_among (first g) (more g) e last in
    let between : among (more g) h.0 ≡ false = elim (many_onward g (λ a s e i k. onward g a s e i k) xs h.0 e next h.2) [
      | inl t ↦ missed (more g) (first g) h.0 far t.0
      | inr t ↦ sym (same_among (more g) h.0 e t) ∙ l.1
    ] in
    rw b.0 (rw (is.reads x s h.0 inside h.1 between) (rw (many_read g is far xs n h.0 e next (omega arith) h.2 last) refl))

until_read : {A : Type 0} (g : Gram A) (close : Kind) → IsItem g → apart (first g) (of_kind close ∷ []) ≡ true → apart (more g) (first g ++ of_kind close ∷ []) ≡ true →
    (xs : List A) (n : ℕ) (s e : Spot) → IsInside s → length s.source < s.place + n → Many (spells g) xs s e → closes close e ≡ true → until_at (run g) close n s ≡ Ok (xs, e)
unfolding until_at
until_read g close is near far xs zero s e inside lt h last = absurd (omega arith)
until_read g close is near far [] (suc n) s e inside lt h last =
    let shut : closes close s ≡ true = subst (λ m. closes close m ≡ true) (sym h) last in
    rw shut (ap (λ m. Ok ([], m)) h)
until_read g close is near far (x ∷ xs) (suc n) s e inside lt h last =
    let b = begins g x s h.0 inside is.some h.1 in
    let ahead = b.1.more in
    let len = ap (λ (l : List ℕ). length l) b.1.source in
    let next = ahead_inside s h.0 b.1 in
    let u = until_onward g close (λ a s e i k. onward g a s e i k) xs h.0 e next h.2 last in
    let open_still = or_parts (closes close s) false (misses (first g) (of_kind close ∷ []) s near b.0) in
    let read = is.reads x s h.0 inside h.1 (missed (more g) (first g ++ of_kind close ∷ []) h.0 far u.0) in
    rw open_still.0 (rw read (rw (until_read g close is near far xs n h.0 e next (omega arith) h.2 last) refl))

-- ---- lists with commas
kind_of : (k : Kind) (s : Spot) (t : Lexeme) → lexed s ≡ Ok t → closes k s ≡ false → same_kind t.kind k ≡ false
kind_of k s t is h = sym (ap (matches_first (of_kind k) s) is) ∙ h

shut_read : (opening close : Kind) (s m e : Spot) → mark_at opening s ≡ Ok m → mark_at close m ≡ Ok e → open_at opening close s ≡ Ok (false, e)
unfolding open_at
shut_read opening close s m e h k =
    let t = mark_token close m e k in
    rw h (rw t.1 (rw t.2 (rw t.3 refl)))

open_read : (opening close : Kind) (s m : Spot) (ks : List Terminal) → mark_at opening s ≡ Ok m → among ks m ≡ true → apart ks (of_kind close ∷ []) ≡ true → open_at opening close s ≡ Ok (true, m)
unfolding open_at
open_read opening close s m ks h among far =
    let t = among_token ks m among in
    let none = or_parts (closes close m) false (misses ks (of_kind close ∷ []) m far among) in
    rw h (rw t.1 (rw (kind_of close m t.0 t.1 none.0) refl))

-- no comma closes a list
abbrev NoComma : Kind → Type 0
NoComma close = apart (of_kind Comma ∷ []) (of_kind close ∷ []) ≡ true

next_closed : (close : Kind) (s e : Spot) → IsInside s → NoComma close → mark_at close s ≡ Ok e → next_at close s ≡ Ok (false, e)
unfolding next_at
next_closed close s e inside other h =
    let t = mark_token close s e h in
    let none = or_parts (closes Comma s) false (missed (of_kind Comma ∷ []) (of_kind close ∷ []) s other (mark_begins close s e inside h).0) in
    rw t.1 (rw (kind_of Comma s t.0 t.1 none.0) (rw h refl))

next_comma : (close : Kind) (s m e : Spot) (more : Bool) → mark_at Comma s ≡ Ok m → open_at Comma close s ≡ Ok (more, e) → next_at close s ≡ Ok (more, e)
unfolding next_at
next_comma close s m e more h k =
    let t = mark_token Comma s m h in
    rw t.1 (rw t.2 k)

first_listed : {A : Type 0} (f : A → Spot → Spot → Type 0) (close : Kind) (x : A) (xs : List A) (s e : Spot) → AreListed f close x xs s e → (m : Spot) × f x s m
first_listed f close x [] s e h = (h.0, h.1)
first_listed f close x (y ∷ ys) s e h = (h.0, h.2)

-- what one token decides of a list
record IsList {A : Type 0} (g : Gram A) (close : Kind) : Type 0 where
  item : IsItem g
  near : apart (first g) (of_kind close ∷ []) ≡ true
  far : apart (more g) (of_kind Comma ∷ of_kind close ∷ []) ≡ true
  no_comma : NoComma close

items_read : {A : Type 0} (g : Gram A) (close : Kind) → IsList g close → (x : A) (xs : List A) (n : ℕ) (s e : Spot) → IsInside s → length s.source < s.place + n → AreListed (spells g) close x xs s e →
    items_at (run g) close n (true, s) ≡ Ok (x ∷ xs, e)
unfolding items_at
items_read g close is x xs zero s e inside lt h = absurd (omega arith)
items_read g close is x [] (suc n) s e inside lt h =
    let next = ahead_inside s h.0 (begins g x s h.0 inside is.item.some h.1).1 in
    elim h.2 [
      | inl k ↦ (
          let here = in_back (of_kind Comma ∷ []) (of_kind close ∷ []) h.0 (mark_begins close h.0 e next k).0 in
          let read = is.item.reads x s h.0 inside h.1 (missed (more g) (of_kind Comma ∷ of_kind close ∷ []) h.0 is.far here) in
          rw read (rw (next_closed close h.0 e next is.no_comma k) refl)
          )
      | inr k ↦ (
          let here = in_prefix (of_kind Comma ∷ []) (of_kind close ∷ []) h.0 (mark_begins Comma h.0 k.0 next k.1).0 in
          let read = is.item.reads x s h.0 inside h.1 (missed (more g) (of_kind Comma ∷ of_kind close ∷ []) h.0 is.far here) in
          rw read (rw (next_comma close h.0 k.0 e false k.1 (shut_read Comma close h.0 k.0 e k.1 k.2)) refl)
          )
    ]
items_read g close is x (y ∷ ys) (suc n) s e inside lt h =
    let b = begins g x s h.0 inside is.item.some h.2 in
    let c = mark_begins Comma h.0 h.1 (ahead_inside s h.0 b.1) h.3 in
    let ahead = b.1.more in
    let further = c.1.more in
    let len = ap (λ (l : List ℕ). length l) (c.1.source ∙ b.1.source) in
    let next = ahead_inside h.0 h.1 c.1 in
    let here = in_prefix (of_kind Comma ∷ []) (of_kind close ∷ []) h.0 c.0 in
    let read = is.item.reads x s h.0 inside h.2 (missed (more g) (of_kind Comma ∷ of_kind close ∷ []) h.0 is.far here) in
    let item = first_listed (spells g) close y ys h.1 e h.4 in
    let goes = open_read Comma close h.0 h.1 (first g) h.3 (begins g y h.1 item.0 next is.item.some item.1).0 is.near in
    rw read (rw (next_comma close h.0 h.1 h.1 true h.3 goes) (rw (items_read g close is y ys n h.1 e next (omega arith) h.4) refl))

listed_read : {A : Type 0} (g : Gram A) (opening close : Kind) → IsList g close → (xs : List A) (s e : Spot) → IsInside s → spells (listed opening close g) xs s e → listed_at (run g) opening close s ≡ Ok (xs, e)
unfolding listed_at items_at
listed_read g opening close is [] s e inside h = rw (shut_read opening close s h.0 e h.1 h.2) refl
listed_read g opening close is (x ∷ xs) s e inside h =
    let b = mark_begins opening s h.0 inside h.1 in
    let ahead = b.1.more in
    let len = ap (λ (l : List ℕ). length l) b.1.source in
    let next = ahead_inside s h.0 b.1 in
    let item = first_listed (spells g) close x xs h.0 e h.2 in
    rw (open_read opening close s h.0 (first g) h.1 (begins g x h.0 item.0 next is.item.some item.1).0 is.near) (items_read g close is x xs (suc (length s.source)) h.0 e next (omega arith) h.2)

pub complete : {A : Type 0} (g : Gram A) (a : A) (s e : Spot) → one_token g ≡ true → IsInside s → spells g a s e → among (more g) e ≡ false → run g s ≡ Ok (a, e)
complete (mark k) a s e one inside h last = rw h refl
complete (spanned k) a s e one inside h last = h
complete (says w) a s e one inside h last = h
complete name a s e one inside h last = h
complete (name_but ws) a s e one inside h last = h
complete number a s e one inside h last = h
complete version a s e one inside h last = h
complete primitives a s e one inside h last = h
complete docs a s e one inside h last = h
complete never a s e one inside h last = absurd (h)
complete (deeper ks) a s e one inside h last = absurd (h)
complete (both f g k) c s e one inside h last =
    let p = and_parts (one_token g && one_token k) (apart (more g) (first k)) one in
    let q = and_parts (one_token g) (one_token k) p.0 in
    let n = not_among (more k) (where_empty (nullable k) (more g)) e last in
    let next = onward_inside g s h.2 (onward g h.0 s h.2 inside h.4) in
    let between : among (more g) h.2 ≡ false = elim (onward k h.1 h.2 e next h.5) [
      | inl t ↦ missed (more g) (first k) h.2 p.1 t.0
      | inr t ↦ sym (same_among (more g) h.2 e t.1) ∙ (sym (ap (λ ks. among ks e) (where_so (nullable k) (more g) t.0)) ∙ n.1)
    ] in
    rw (complete g h.0 s h.2 q.0 inside h.4 between) (rw (complete k h.1 h.2 e q.1 next h.5 n.0) (ap (λ x. Ok (x, e)) (sym h.3)))
complete (act f g) b s e one inside h last = rw (complete g h.0 s e one inside h.2 last) (ap (λ x. Ok (x, e)) (sym h.1))
complete (either g k) a s e one inside h last =
    let p = and_parts (one_token g && one_token k) _ one in
    let q = and_parts (one_token g) (one_token k) p.0 in
    let r = and_parts (not (nullable g) && not (nullable k)) (apart (first g) (first k)) p.1 in
    let t = and_parts (not (nullable g)) (not (nullable k)) r.0 in
    let n = not_among (more g) (more k) e last in
    elim h [
      | inl x ↦ rw (begins g a s e inside (isnt (nullable g) t.0) x).0 (complete g a s e q.0 inside x n.0)
      | inr x ↦ rw (missed (first g) (first k) s r.1 (begins k a s e inside (isnt (nullable k) t.1) x).0) (complete k a s e q.1 inside x n.1)
    ]
complete (opt g) None s e one inside h last =
    let n = not_among (first g) (more g) e last in
    let none : among (first g) s ≡ false = subst (λ m. among (first g) m ≡ false) (sym h) n.0 in
    rw none (ap (λ m. Ok (None, m)) h)
complete (opt g) (Some a) s e one inside h last =
    let p = and_parts (one_token g) (not (nullable g)) one in
    let n = not_among (first g) (more g) e last in
    rw (begins g a s e inside (isnt (nullable g) p.1) h).0 (rw (complete g a s e p.0 inside h n.1) refl)
complete (many g) xs s e one inside h last =
    let p = and_parts (one_token g && not (nullable g)) _ one in
    let q = and_parts (one_token g) (not (nullable g)) p.0 in
    let r = and_parts (apart (first g) []) (apart (more g) (first g)) p.1 in
    let item : IsItem g = record { some = isnt (nullable g) q.1; reads = λ a s e i h last. complete g a s e q.0 i h last } in
    many_read g item r.1 xs (suc (length s.source)) s e inside (omega arith) h last
complete (until g close) xs s e one inside h last =
    let p = and_parts (one_token g && not (nullable g)) _ one in
    let q = and_parts (one_token g) (not (nullable g)) p.0 in
    let r = and_parts (apart (first g) (of_kind close ∷ [])) (apart (more g) (first g ++ of_kind close ∷ [])) p.1 in
    let item : IsItem g = record { some = isnt (nullable g) q.1; reads = λ a s e i h last. complete g a s e q.0 i h last } in
    until_read g close item r.0 r.1 xs (suc (length s.source)) s e inside (omega arith) h.0 h.1
complete (listed opening close g) xs s e one inside h last =
    let o = and_parts (an_item g (one_token g) (of_kind close ∷ []) (of_kind Comma ∷ of_kind close ∷ [])) (not (same_kind Comma close)) one in
    let p = and_parts (one_token g && not (nullable g)) _ o.0 in
    let q = and_parts (one_token g) (not (nullable g)) p.0 in
    let r = and_parts (apart (first g) (of_kind close ∷ [])) (apart (more g) (of_kind Comma ∷ of_kind close ∷ [])) p.1 in
    let item : IsItem g = record { some = isnt (nullable g) q.1; reads = λ a s e i h last. complete g a s e q.0 i h last } in
    listed_read g opening close (record { item = item; near = r.0; far = r.1; no_comma = rw o.1 refl }) xs s e inside h
