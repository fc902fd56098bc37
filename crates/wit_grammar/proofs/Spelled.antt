-- What is read is spelled.
use Rattle.std.proofs.Common.{◌≡◌, ℕ, zero, suc, ◌⊎◌, List, [], ◌∷◌, length, ap, ◌∙◌, sym, subst, true, false, Bool, inl, inr, Option, Some, None}
use Rattle.std.specs.Prelude.{Ok, Err, cond}
use Rattle.std.proofs.lemmas.Bool.{true≢false}
use Rattle.wit_lex.specs.declared.fault.ReadFault.TheVariants as fault
use Rattle.wit_lex.specs.declared.kind.Kind.{Kind}
use Rattle.wit_lex.specs.declared.kind.Kind.TheVariants.{Comma}
use Rattle.wit_lex.specs.Lexis.{Lexeme}
use Rattle.wit_grammar.specs.TokenKinds.{same_kind}
use Rattle.wit_grammar.specs.Leaves.{Spot, Read, lexed, past, mark_at, stop, is_among, nothing_at, deeper_at, ◌>>=◌}
use Rattle.wit_grammar.specs.Grammar.{Gram, mark, spanned, says, name, name_but, number, version, primitives, docs, never, deeper, both, act, either, opt, many, until, listed, spells, run, starts, closes, Many, AreListed, Listed, many_at, until_at, open_at, next_at, items_at, listed_at}
use Rattle.wit_grammar.proofs.Tokens.{chosen}
use Rattle.wit_grammar.proofs.LeafReads.{bind_ok, with_value, same_spot}

value_of : {A : Type 0} → A → Read A → A
value_of d (Ok x) = x.0
value_of d (Err e) = d

pub same_made : {A : Type 0} (a b : A) (s e : Spot) → with_value a s ≡ with_value b e → a ≡ b
unfolding value_of
same_made a b s e h = ap (value_of a) h

-- what is made of a value that is read
abbrev pub made : {A C : Type 0} → (A → C) → A × Spot → Read C
made make x = Ok (make x.0, x.1)

two_reads : {A B C : Type 0} (r : Read A) (k : Spot → Read B) (make : A → B → C) (c : C) (e : Spot) → (r >>= λ x. k x.1 >>= made (make x.0)) ≡ Ok (c, e) →
    (x : A × Spot) × (y : B) × (r ≡ Ok x) × (k x.1 ≡ Ok (y, e)) × (make x.0 y ≡ c)
two_reads r k make c e h =
    let b = bind_ok r (λ x. k x.1 >>= made (make x.0)) (c, e) h in
    let d = bind_ok (k b.0.1) (made (make b.0.0)) (c, e) b.2 in
    (b.0, d.0.0, b.1, d.1 ∙ ap (λ q. Ok (d.0.0, q)) (same_spot (make b.0.0 d.0.0) c d.0.1 e d.2), same_made (make b.0.0 d.0.0) c d.0.1 e d.2)

one_read : {A C : Type 0} (r : Read A) (make : A → C) (c : C) (e : Spot) → (r >>= made make) ≡ Ok (c, e) → (x : A) × (r ≡ Ok (x, e)) × (make x ≡ c)
one_read r make c e h =
    let b = bind_ok r (made make) (c, e) h in
    (b.0.0, b.1 ∙ ap (λ q. Ok (b.0.0, q)) (same_spot (make b.0.0) c b.0.1 e b.2), same_made (make b.0.0) c b.0.1 e b.2)

-- ---- several
many_sound : {A : Type 0} (item : Spot → Read A) (f : A → Spot → Spot → Type 0) → ((a : A) (s e : Spot) → item s ≡ Ok (a, e) → f a s e) →
    (goes : Spot → Bool) (n : ℕ) (xs : List A) (s e : Spot) → many_at goes item n s ≡ Ok (xs, e) → Many f xs s e
many_sound item f is goes zero xs s e h = absurd (cc)
many_sound {A} item f is goes (suc n) xs s e h = elim (chosen {A = Read (List A)} (goes s) (item s >>= λ x. many_at goes item n x.1 >>= made (λ ys. x.0 ∷ ys)) (Ok ([], s)) (Ok (xs, e)) h) [
  | inl k ↦ (
      let b = two_reads {A = A} {B = List A} {C = List A} (item s) (many_at goes item n) (λ y ys. y ∷ ys) xs e k.1 in
      subst (λ ys. Many f ys s e) b.4 (b.0.1, is b.0.0 s b.0.1 b.2, many_sound item f is goes n b.1 b.0.1 e b.3)
      )
  | inr k ↦ subst (λ ys. Many f ys s e) (same_made [] xs s e k.1) (same_spot [] xs s e k.1)
]

until_sound : {A : Type 0} (item : Spot → Read A) (f : A → Spot → Spot → Type 0) → ((a : A) (s e : Spot) → item s ≡ Ok (a, e) → f a s e) →
    (close : Kind) (n : ℕ) (xs : List A) (s e : Spot) → until_at item close n s ≡ Ok (xs, e) → Many f xs s e × (closes close e ≡ true)
unfolding until_at
until_sound item f is close zero xs s e h = absurd (cc)
until_sound {A} item f is close (suc n) xs s e h = elim (chosen {A = Read (List A)} (closes close s) (Ok ([], s)) (item s >>= λ x. until_at item close n x.1 >>= made (λ ys. x.0 ∷ ys)) (Ok (xs, e)) h) [
  | inl k ↦ (
      let same = same_spot [] xs s e k.1 in
      (subst (λ ys. Many f ys s e) (same_made [] xs s e k.1) same, subst (λ m. closes close m ≡ true) same k.0)
      )
  | inr k ↦ (
      let b = two_reads {A = A} {B = List A} {C = List A} (item s) (until_at item close n) (λ y ys. y ∷ ys) xs e k.1 in
      let rest = until_sound item f is close n b.1 b.0.1 e b.3 in
      (subst (λ ys. Many f ys s e) b.4 (b.0.1, is b.0.0 s b.0.1 b.2, rest.0), rest.1)
      )
]

-- ---- lists with commas
-- a list is closed, or goes on
abbrev shut : Spot → Read Bool
shut b = Ok (false, b)

-- the mark that closes a list
shut_mark : (close : Kind) (s e : Spot) (t : Lexeme) → lexed s ≡ Ok t → same_kind t.kind close ≡ true → (past s t >>= shut) ≡ Ok (false, e) → mark_at close s ≡ Ok e
unfolding mark_at
shut_mark close s e t is k h =
    let b = bind_ok (past s t) shut (false, e) h in
    rw is (rw k (b.1 ∙ ap (λ m. Ok m) (same_spot false false b.0 e b.2)))

pub opened : (opening close : Kind) (s e : Spot) (more : Bool) → open_at opening close s ≡ Ok (more, e) →
    ((more ≡ true) × (mark_at opening s ≡ Ok e)) ⊎ ((more ≡ false) × (m : Spot) × (mark_at opening s ≡ Ok m) × (mark_at close m ≡ Ok e))
unfolding open_at
opened opening close s e more h =
    let goes : Spot → Lexeme → Read Bool = λ a t. cond (same_kind t.kind close) (past a t >>= shut) (Ok (true, a)) in
    let a = bind_ok (mark_at opening s) (λ a. lexed a >>= goes a) (more, e) h in
    let t = bind_ok (lexed a.0) (goes a.0) (more, e) a.2 in
    elim (chosen (same_kind t.0.kind close) (past a.0 t.0 >>= shut) (Ok (true, a.0)) (Ok (more, e)) t.2) [
      | inl k ↦ (
          let b = bind_ok (past a.0 t.0) shut (more, e) k.1 in
          let no : more ≡ false = sym (same_made false more b.0 e b.2) in
          inr (no, a.0, a.1, shut_mark close a.0 e t.0 t.1 k.0 (k.1 ∙ ap (λ x. Ok (x, e)) no))
          )
      | inr k ↦ inl (sym (same_made true more a.0 e k.1), a.1 ∙ ap (λ m. Ok m) (same_spot true more a.0 e k.1))
    ]

-- after an item
pub went_on : (close : Kind) (s e : Spot) (more : Bool) → next_at close s ≡ Ok (more, e) →
    ((more ≡ true) × (mark_at Comma s ≡ Ok e)) ⊎ ((more ≡ false) × ((mark_at close s ≡ Ok e) ⊎ ((m : Spot) × (mark_at Comma s ≡ Ok m) × (mark_at close m ≡ Ok e))))
unfolding next_at
went_on close s e more h =
    let goes : Lexeme → Read Bool = λ t. cond (same_kind t.kind Comma) (open_at Comma close s) (mark_at close s >>= shut) in
    let t = bind_ok (lexed s) goes (more, e) h in
    elim (chosen (same_kind t.0.kind Comma) (open_at Comma close s) (mark_at close s >>= shut) (Ok (more, e)) t.2) [
      | inl k ↦ elim (opened Comma close s e more k.1) [ inl o ↦ inl o | inr o ↦ inr (o.0, inr (o.1, o.2, o.3)) ]
      | inr k ↦ (
          let b = bind_ok (mark_at close s) shut (more, e) k.1 in
          inr (sym (same_made false more b.0 e b.2), inl (b.1 ∙ ap (λ m. Ok m) (same_spot false more b.0 e b.2)))
          )
    ]

-- the items that are left, where the list is closed, or goes on
abbrev Left : {A : Type 0} → (A → Spot → Spot → Type 0) → Kind → Bool → List A → Spot → Spot → Type 0
Left f close false xs s e = ([] ≡ xs) × (s ≡ e)
Left f close true [] s e = ⊥
Left f close true (x ∷ xs) s e = AreListed f close x xs s e

one_more : {A : Type 0} (f : A → Spot → Spot → Type 0) (close : Kind) (more : Bool) (x : A) (xs : List A) (s m n e : Spot) → f x s m → next_at close m ≡ Ok (more, n) → Left f close more xs n e → AreListed f close x xs s e
one_more f close false x xs s m n e is next left = elim (went_on close m n false next) [
  | inl k ↦ absurd (true≢false (sym k.0))
  | inr k ↦ (
      let at_end : (mark_at close m ≡ Ok e) ⊎ ((o : Spot) × (mark_at Comma m ≡ Ok o) × (mark_at close o ≡ Ok e)) =
      subst (λ y. (mark_at close m ≡ Ok y) ⊎ ((o : Spot) × (mark_at Comma m ≡ Ok o) × (mark_at close o ≡ Ok y))) left.1 k.1 in
      subst (λ ys. AreListed f close x ys s e) left.0 (m, is, at_end)
      )
]
one_more f close true x [] s m n e is next left = absurd (left)
one_more f close true x (y ∷ ys) s m n e is next left = elim (went_on close m n true next) [
  | inl k ↦ (m, n, is, k.1, left)
  | inr k ↦ absurd (true≢false k.0)
]

items_sound : {A : Type 0} (item : Spot → Read A) (f : A → Spot → Spot → Type 0) → ((a : A) (s e : Spot) → item s ≡ Ok (a, e) → f a s e) →
    (close : Kind) (n : ℕ) (more : Bool) (xs : List A) (s e : Spot) → items_at item close n (more, s) ≡ Ok (xs, e) → Left f close more xs s e
unfolding items_at
items_sound item f is close n false xs s e h = (same_made [] xs s e h, same_spot [] xs s e h)
items_sound item f is close zero true xs s e h = absurd (cc)
items_sound {A} item f is close (suc n) true xs s e h =
    let rest : Bool × Spot → Read (List A) = λ m. items_at item close n m in
    let a = bind_ok (item s) (λ x. next_at close x.1 >>= λ m. rest m >>= made (λ ys. x.0 ∷ ys)) (xs, e) h in
    let m = bind_ok (next_at close a.0.1) (λ m. rest m >>= made (λ ys. a.0.0 ∷ ys)) (xs, e) a.2 in
    let r = one_read (rest m.0) (λ ys. a.0.0 ∷ ys) xs e m.2 in
    let left = items_sound item f is close n m.0.0 r.0 m.0.1 e r.1 in
    subst (λ ys. Left f close true ys s e) r.2 (one_more f close m.0.0 a.0.0 r.0 s a.0.1 m.0.1 e (is a.0.0 s a.0.1 a.1) m.1 left)

listed_sound : {A : Type 0} (item : Spot → Read A) (f : A → Spot → Spot → Type 0) → ((a : A) (s e : Spot) → item s ≡ Ok (a, e) → f a s e) →
    (opening close : Kind) (xs : List A) (s e : Spot) → listed_at item opening close s ≡ Ok (xs, e) → (m : Spot) × (mark_at opening s ≡ Ok m) × Listed f close xs m e
unfolding listed_at
listed_sound item f is opening close xs s e h =
    let a = bind_ok (open_at opening close s) (λ m. items_at item close (suc (length s.source)) m) (xs, e) h in
    by_more a.0.0 a.0.1 (opened opening close s a.0.1 a.0.0 a.1) (items_sound item f is close (suc (length s.source)) a.0.0 xs a.0.1 e a.2)
  where
    by_more : (more : Bool) (b : Spot) → ((more ≡ true) × (mark_at opening s ≡ Ok b)) ⊎ ((more ≡ false) × (m : Spot) × (mark_at opening s ≡ Ok m) × (mark_at close m ≡ Ok b)) →
        Left f close more xs b e → (m : Spot) × (mark_at opening s ≡ Ok m) × Listed f close xs m e
    by_more false b (inl o) left = absurd (true≢false (sym o.0))
    by_more false b (inr o) left = subst (λ ys. (m : Spot) × (mark_at opening s ≡ Ok m) × Listed f close ys m e) left.0 (o.1, o.2, o.3 ∙ ap (λ y. Ok y) left.1)
    by_more true b (inr o) left = absurd (true≢false o.0)
    by_more true b (inl o) left = (b, o.1, begun xs left)
      where
        begun : (ys : List _) → Left f close true ys b e → Listed f close ys b e
        begun [] l = absurd (l)
        begun (y ∷ ys) l = l

-- nothing is read where nothing is spelled
none_read : {A : Type 0} (s e : Spot) (a : A) → nothing_at {A = A} s ≡ Ok (a, e) → ⊥
unfolding nothing_at
none_read {A} s e a h =
    let b = bind_ok (lexed s) (λ t. stop {A = A × Spot} fault.Token t) (a, e) h in
    let none = b.2 in
    cc

none_deeper : {A : Type 0} (ks : List Kind) (s e : Spot) (a : A) → deeper_at {A = A} ks s ≡ Ok (a, e) → ⊥
unfolding deeper_at
none_deeper {A} ks s e a h =
    let b = bind_ok (lexed s) (λ t. stop {A = A × Spot} (cond (is_among ks t.kind) fault.Nesting fault.Token) t) (a, e) h in
    let none = b.2 in
    cc

pub sound : {A : Type 0} (g : Gram A) (a : A) (s e : Spot) → run g s ≡ Ok (a, e) → spells g a s e
sound (mark k) a s e h =
    let b = bind_ok (mark_at k s) (with_value tt) (a, e) h in
    b.1 ∙ ap (λ m. Ok m) (same_spot tt a b.0 e b.2)
sound (spanned k) a s e h = h
sound (says w) a s e h = h
sound name a s e h = h
sound (name_but ws) a s e h = h
sound number a s e h = h
sound version a s e h = h
sound primitives a s e h = h
sound docs a s e h = h
sound never a s e h = none_read s e a h
sound (deeper ks) a s e h = none_deeper ks s e a h
sound (both f g k) c s e h =
    let b = two_reads (run g s) (run k) f c e h in
    (b.0.0, b.1, b.0.1, sym b.4, sound g b.0.0 s b.0.1 b.2, sound k b.1 b.0.1 e b.3)
sound (act f g) a s e h =
    let b = one_read (run g s) f a e h in
    (b.0, sym b.2, sound g b.0 s e b.1)
sound (either g k) a s e h = elim (chosen (starts g s) (run g s) (run k s) _ h) [ inl c ↦ inl (sound g a s e c.1) | inr c ↦ inr (sound k a s e c.1) ]
sound (opt {A} g) a s e h = elim (chosen {A = Read (Option A)} (starts g s) (run g s >>= made {A = A} {C = Option A} (λ x. Some x)) (Ok (None, s)) (Ok (a, e)) h) [
  | inl c ↦ (
      let b = one_read {A = A} {C = Option A} (run g s) (λ x. Some x) a e c.1 in
      subst (λ x. spells (opt g) x s e) b.2 (sound g b.0 s e b.1)
      )
  | inr c ↦ subst (λ x. spells (opt g) x s e) (same_made None a s e c.1) (same_spot None a s e c.1)
]
sound (many g) a s e h = many_sound (run g) (spells g) (sound g) (starts g) (suc (length s.source)) a s e h
sound (until g close) a s e h = until_sound (run g) (spells g) (sound g) close (suc (length s.source)) a s e h
sound (listed opening close g) a s e h = listed_sound (run g) (spells g) (sound g) opening close a s e h
