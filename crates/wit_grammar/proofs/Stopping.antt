-- Reading stops at faults alone: there are steps enough for every text.
use Rattle.std.proofs.Common.{◌≡◌, ℕ, zero, suc, ◌+◌, ◌<◌, List, [], ◌∷◌, ◌++◌, length, ap, refl, true, false, Bool, not, inl, inr, ◌⊎◌, Option, Some, None, arith, drop}
use Rattle.std.specs.Prelude.{Result, Ok, Err, cond, ◌==◌, ◌&&◌, nat_lt, slice_range}
use Rattle.std.specs.Char.{is_ascii_digit}
use Rattle.std.specs.Str.{bytes_eq}
use Rattle.std.specs.Str.Parse.{digits_value}
use Rattle.std.proofs.lemmas.Bool.{and_parts, true≢false}
use Rattle.semver.specs.declared.error.Error.{Error}
use Rattle.semver.specs.Parse.{version_parts}
use Rattle.wit_names.specs.Label.{is_label}
use Rattle.wit_values.specs.declared.span.Span.{Span}
use Rattle.wit_type_tree.specs.declared.types.Primitive.{Primitive}
use Rattle.wit_lex.specs.Words.{unescaped}
use Rattle.wit_lex.specs.declared.fault.ReadError.{ReadError}
use Rattle.wit_lex.specs.declared.fault.ReadError.TheVariants.{Fault, OutOfMemory}
use Rattle.wit_lex.specs.declared.fault.ReadFault.TheVariants as fault
use Rattle.wit_lex.specs.declared.kind.Kind.{Kind}
use Rattle.wit_lex.specs.declared.kind.Kind.TheVariants.{Comma, Number, Arrow, Name as NameKind}
use Rattle.wit_lex.specs.Starts.{is_letter, is_in_word, is_sign}
use Rattle.wit_lex.specs.Lexis.{between, skipped, run_end, Lexeme, sign_kind, no_token, word_token, arrow_or_escaped, token_here, token_after, first_token}
use Rattle.wit_lex.specs.VersionLexis.{version_to}
use Rattle.wit_grammar.specs.TokenKinds.{same_kind}
use Rattle.wit_grammar.specs.Trees.{Text, Release, primitive}
use Rattle.wit_grammar.specs.Leaves.{Spot, Read, moved, lexed, stop, past, mark_at, spanned_at, span_of, text_of, is_in, text_at, name_of, name_at, name_but_at, number_at, release_at, release_to, version_at, docs_of, docs_at, primitive_of, primitive_with, primitive_at, is_among, deeper_at, nothing_at, ◌>>=◌}
use Rattle.wit_grammar.specs.Grammar.{Gram, mark, spanned, says, name, name_but, number, version, primitives, docs, never, deeper, both, act, either, opt, many, until, listed, of_kind, nullable, first, run, starts, closes, many_at, until_at, open_at, next_at, items_at, listed_at}
use Rattle.wit_grammar.specs.OneToken.{apart, more, an_item, one_token}
use Rattle.wit_grammar.proofs.Tokens.{lexeme_ok}
use Rattle.wit_grammar.proofs.LeafReads.{IsInside, Ahead, ahead_inside, mark_begins, with_value}
use Rattle.wit_grammar.proofs.Onward.{isnt, onward, onward_inside, begins}
use Rattle.wit_grammar.proofs.Spelled.{made, sound, opened, went_on}

-- it does not stop for want of steps
abbrev pub Goes : {A : Type 0} → Result A ReadError → Type 0
Goes (Ok x) = Unit {0}
Goes (Err (Fault f start end)) = Unit {0}
Goes (Err OutOfMemory) = ⊥

bind_goes : {A B : Type 0} (r : Result A ReadError) (f : A → Result B ReadError) → Goes r → ((x : A) → r ≡ Ok x → Goes (f x)) → Goes (r >>= f)
bind_goes (Ok x) f g h = h x refl
bind_goes (Err (Fault fault start end)) f g h = tt
bind_goes (Err OutOfMemory) f g h = absurd (g)

cond_goes : {A : Type 0} (b : Bool) (x y : Result A ReadError) → Goes x → Goes y → Goes (cond b x y)
cond_goes true x y h k = h
cond_goes false x y h k = k

-- ---- tokens
sign_goes : (source : List ℕ) (at c : ℕ) (rest : List ℕ) → Goes (arrow_or_escaped source at c rest)
sign_goes source at c [] = tt
sign_goes source at c (d ∷ rest) =
    let escaped : Lexeme = record { kind = NameKind; start = at; end = run_end is_in_word (at + 1) (d ∷ rest) } in
    cond_goes (c == 45 && d == 62) (lexeme_ok (record { kind = Arrow; start = at; end = at + 2 })) (cond (c == 37 && is_letter d) (lexeme_ok escaped) (no_token source at c)) tt
    (cond_goes (c == 37 && is_letter d) (lexeme_ok escaped) (no_token source at c) tt tt)

here_goes : (source : List ℕ) (at : ℕ) (rest : List ℕ) → Goes (token_here source at rest)
here_goes source at [] = tt
here_goes source at (c ∷ rest) =
    let number : Result Lexeme ReadError = lexeme_ok (record { kind = Number; start = at; end = run_end is_ascii_digit at (c ∷ rest) }) in
    let sign : Result Lexeme ReadError = lexeme_ok (record { kind = sign_kind c; start = at; end = at + 1 }) in
    let other : Result Lexeme ReadError = cond (is_ascii_digit c) number (arrow_or_escaped source at c rest) in
    cond_goes (is_letter c) (lexeme_ok (word_token source at (run_end is_in_word at (c ∷ rest)))) (cond (is_sign c) sign other) tt
    (cond_goes (is_sign c) sign other tt (cond_goes (is_ascii_digit c) number (arrow_or_escaped source at c rest) tt (sign_goes source at c rest)))

after_goes : (source : List ℕ) (r : Result ℕ ℕ) → Goes (token_after source r)
after_goes source (Ok at) = here_goes source at (drop at source)
after_goes source (Err at) = tt

token_goes : (source : List ℕ) (from : ℕ) → Goes (first_token source from)
unfolding first_token
token_goes source from = after_goes source (skipped between from (drop from source))

-- ---- leaves
lexed_goes : {A : Type 0} (s : Spot) (f : Lexeme → Result A ReadError) → ((t : Lexeme) → Goes (f t)) → Goes (lexed s >>= f)
lexed_goes s f h = bind_goes (lexed s) f (token_goes s.source s.place) (λ t is. h t)

past_goes : (s : Spot) (t : Lexeme) → Goes (past s t)
unfolding past
past_goes s t =
    let go : Lexeme → Result Spot ReadError = λ _. Ok (moved s t.end) in
    cond_goes (t.start == t.end) (stop {A = Spot} fault.Token t) (first_token s.source t.end >>= go) tt (bind_goes (first_token s.source t.end) go (token_goes s.source t.end) (λ u is. tt))

value_goes : {A : Type 0} (s : Spot) (v : Lexeme → A) (t : Lexeme) → Goes (past s t >>= with_value (v t))
value_goes s v t = bind_goes (past s t) (with_value (v t)) (past_goes s t) (λ m is. tt)

-- where a test of the token holds, something is read
test_goes : {A : Type 0} (s : Spot) (test : Lexeme → Bool) (read : Lexeme → Result A ReadError) → ((t : Lexeme) → Goes (read t)) → Goes (lexed s >>= λ t. cond (test t) (read t) (stop fault.Token t))
test_goes s test read h = lexed_goes s (λ t. cond (test t) (read t) (stop fault.Token t)) (λ t. cond_goes (test t) (read t) (stop fault.Token t) (h t) tt)

mark_goes : (k : Kind) (s : Spot) → Goes (mark_at k s)
unfolding mark_at
mark_goes k s = test_goes s (λ t. same_kind t.kind k) (past s) (past_goes s)

spanned_goes : (k : Kind) (s : Spot) → Goes (spanned_at k s)
unfolding spanned_at
spanned_goes k s = lexed_goes s (λ t. mark_at k s >>= with_value (span_of s t)) (λ t. bind_goes (mark_at k s) (with_value (span_of s t)) (mark_goes k s) (λ m is. tt))

text_goes : (w : Text) (s : Spot) → Goes (text_at w s)
unfolding text_at
text_goes w s = test_goes s (λ t. same_kind t.kind NameKind && bytes_eq (text_of s t) w) (λ t. past s t >>= with_value (span_of s t)) (value_goes s (span_of s))

name_goes : (s : Spot) → Goes (name_at s)
unfolding name_at
name_goes s = test_goes s (λ t. same_kind t.kind NameKind && is_label (unescaped (text_of s t))) (λ t. past s t >>= with_value (name_of s t)) (value_goes s (name_of s))

other_goes : (ws : List Text) (s : Spot) → Goes (name_but_at ws s)
unfolding name_but_at
other_goes ws s = lexed_goes s (λ t. cond (is_in (text_of s t) ws) (stop fault.Token t) (name_at s)) (λ t. cond_goes (is_in (text_of s t) ws) (stop fault.Token t) (name_at s) tt (name_goes s))

number_goes : (s : Spot) → Goes (number_at s)
unfolding number_at
number_goes s =
    let value : Lexeme → ℕ = λ t. digits_value 10 (text_of s t) in
    test_goes s (λ t. same_kind t.kind Number) (λ t. cond (nat_lt (value t) 4294967296) (past s t >>= with_value (value t)) (stop fault.Number t))
    (λ t. cond_goes (nat_lt (value t) 4294967296) (past s t >>= with_value (value t)) (stop fault.Number t) (value_goes s value t) tt)

release_goes : (s : Spot) (start end : ℕ) (r : Result Release Error) → Goes (release_at s start end r)
release_goes s start end (Err e) = tt
release_goes s start end (Ok release) =
    let v : Span × Release = (record { start = s.offset + start; end = s.offset + end }, release) in
    bind_goes (first_token s.source end) (λ _. with_value v (moved s end)) (token_goes s.source end) (λ t is. tt)

release_to_goes : (s : Spot) (start : ℕ) (r : Result ℕ ℕ) → Goes (release_to s start r)
release_to_goes s start (Err at) = bind_goes (first_token s.source at) (λ t. stop {A = (Span × Release) × Spot} fault.Token t) (token_goes s.source at) (λ t is. tt)
release_to_goes s start (Ok end) = release_goes s start end (version_parts (slice_range s.source start end))

version_goes : (s : Spot) → Goes (version_at s)
unfolding version_at
version_goes s = test_goes s (λ t. same_kind t.kind Number) (λ t. release_to s t.start (version_to s.source t.end)) (λ t. release_to_goes s t.start (version_to s.source t.end))

docs_goes : (s : Spot) → Goes (docs_at s)
unfolding docs_at
docs_goes s = lexed_goes s (λ t. with_value (docs_of s) (moved s t.start)) (λ t. tt)

primitive_with_goes : (s : Spot) (t : Lexeme) (p : Option Primitive) → Goes (primitive_with s t p)
primitive_with_goes s t None = tt
primitive_with_goes s t (Some p) = value_goes s (λ t. primitive (span_of s t) p) t

primitive_goes : (s : Spot) → Goes (primitive_at s)
unfolding primitive_at
primitive_goes s = lexed_goes s (λ t. primitive_with s t (primitive_of t.kind)) (λ t. primitive_with_goes s t (primitive_of t.kind))

deeper_goes : (A : Type 0) (ks : List Kind) (s : Spot) → Goes (deeper_at {A = A} ks s)
unfolding deeper_at
deeper_goes A ks s = lexed_goes s (λ t. stop {A = A × Spot} (cond (is_among ks t.kind) fault.Nesting fault.Token) t) (λ t. tt)

nothing_goes : (A : Type 0) (s : Spot) → Goes (nothing_at {A = A} s)
unfolding nothing_at
nothing_goes A s = lexed_goes s (λ t. stop {A = A × Spot} fault.Token t) (λ t. tt)

-- ---- several
made_goes : {A C : Type 0} (r : Read A) (make : A → C) → Goes r → Goes (r >>= made make)
made_goes r make h = bind_goes r (made make) h (λ x is. tt)

-- an item of several, which takes a token
record IsStep {A : Type 0} (g : Gram A) : Type 0 where
  some : nullable g ≡ false
  goes : (s : Spot) → IsInside s → Goes (run g s)

step_ahead : {A : Type 0} (g : Gram A) → IsStep g → (s : Spot) (x : A × Spot) → IsInside s → run g s ≡ Ok x → Ahead s x.1
step_ahead g is s x inside h = (begins g x.0 s x.1 inside is.some (sound g x.0 s x.1 h)).1

-- there are as many steps as bytes
abbrev AreEnough : ℕ → Spot → Type 0
AreEnough n s = length s.source < s.place + n

enough : (s e : Spot) (n : ℕ) → Ahead s e → AreEnough (suc n) s → AreEnough n e
enough s e n a lt =
    let ahead = a.more in
    let len = ap (λ (l : List ℕ). length l) a.source in
    omega arith

still_enough : (s e : Spot) (n : ℕ) → Ahead s e → AreEnough n s → AreEnough n e
still_enough s e n a lt = enough s e n a (omega (arith, lt))

many_goes : {A : Type 0} (g : Gram A) → IsStep g → (n : ℕ) (s : Spot) → IsInside s → AreEnough n s → Goes (many_at (starts g) (run g) n s)
many_goes g is zero s inside lt = absurd (omega arith)
many_goes {A} g is (suc n) s inside lt =
    let rest : A × Spot → Read (List A) = λ x. many_at (starts g) (run g) n x.1 >>= made (λ ys. x.0 ∷ ys) in
    let goes : Goes (run g s >>= rest) = bind_goes (run g s) rest (is.goes s inside) (λ x h. (
    let a = step_ahead g is s x inside h in
    made_goes (many_at (starts g) (run g) n x.1) (λ ys. x.0 ∷ ys) (many_goes g is n x.1 (ahead_inside s x.1 a) (enough s x.1 n a lt)))) in
    cond_goes (starts g s) (run g s >>= rest) (with_value [] s) goes tt

until_goes : {A : Type 0} (g : Gram A) (close : Kind) → IsStep g → (n : ℕ) (s : Spot) → IsInside s → AreEnough n s → Goes (until_at (run g) close n s)
unfolding until_at
until_goes g close is zero s inside lt = absurd (omega arith)
until_goes {A} g close is (suc n) s inside lt =
    let rest : A × Spot → Read (List A) = λ x. until_at (run g) close n x.1 >>= made (λ ys. x.0 ∷ ys) in
    let goes : Goes (run g s >>= rest) = bind_goes (run g s) rest (is.goes s inside) (λ x h. (
    let a = step_ahead g is s x inside h in
    made_goes (until_at (run g) close n x.1) (λ ys. x.0 ∷ ys) (until_goes g close is n x.1 (ahead_inside s x.1 a) (enough s x.1 n a lt)))) in
    cond_goes (closes close s) (with_value [] s) (run g s >>= rest) tt goes

-- ---- lists with commas
open_goes : (opening close : Kind) (s : Spot) → Goes (open_at opening close s)
unfolding open_at
open_goes opening close s =
    let goes : Spot → Lexeme → Read Bool = λ a t. cond (same_kind t.kind close) (past a t >>= with_value false) (Ok (true, a)) in
    bind_goes (mark_at opening s) (λ a. lexed a >>= goes a) (mark_goes opening s) (λ a is.
    lexed_goes a (goes a) (λ t. cond_goes (same_kind t.kind close) (past a t >>= with_value false) (with_value true a) (value_goes a (λ _. false) t) tt))

next_goes : (close : Kind) (s : Spot) → Goes (next_at close s)
unfolding next_at
next_goes close s =
    let shut : Read Bool = mark_at close s >>= with_value false in
    lexed_goes s (λ t. cond (same_kind t.kind Comma) (open_at Comma close s) shut)
    (λ t. cond_goes (same_kind t.kind Comma) (open_at Comma close s) shut (open_goes Comma close s) (bind_goes (mark_at close s) (with_value false) (mark_goes close s) (λ m is. tt)))

-- after a mark the items go on, where those that follow another do
items_after : {A : Type 0} (g : Gram A) (close : Kind) (n : ℕ) → ((m : Spot) → IsInside m → AreEnough n m → Goes (items_at (run g) close n (true, m))) →
    (more : Bool) (s m : Spot) → IsInside s → AreEnough n s → next_at close s ≡ Ok (more, m) → Goes (items_at (run g) close n (more, m))
unfolding items_at
items_after g close n go false s m inside lt h = tt
items_after g close n go true s m inside lt h = elim (went_on close s m true h) [
  | inl c ↦ (let a = (mark_begins Comma s m inside c.1).1 in go m (ahead_inside s m a) (still_enough s m n a lt))
  | inr c ↦ absurd (true≢false c.0)
]

items_goes : {A : Type 0} (g : Gram A) (close : Kind) → IsStep g → (n : ℕ) (s : Spot) → IsInside s → AreEnough n s → Goes (items_at (run g) close n (true, s))
unfolding items_at
items_goes g close is zero s inside lt = absurd (omega arith)
items_goes {A} g close is (suc n) s inside lt =
    let rest : A → Bool × Spot → Read (List A) = λ x m. items_at (run g) close n m >>= made (λ ys. x ∷ ys) in
    bind_goes (run g s) (λ x. next_at close x.1 >>= rest x.0) (is.goes s inside) (λ x h. (
    let a = step_ahead g is s x inside h in
    let go = items_after g close n (λ m i l. items_goes g close is n m i l) in
    bind_goes (next_at close x.1) (rest x.0) (next_goes close x.1) (λ m k.
    made_goes (items_at (run g) close n m) (λ ys. x.0 ∷ ys) (go m.0 x.1 m.1 (ahead_inside s x.1 a) (enough s x.1 n a lt) k))))

listed_goes : {A : Type 0} (g : Gram A) (opening close : Kind) → IsStep g → (s : Spot) → IsInside s → Goes (listed_at (run g) opening close s)
unfolding listed_at items_at
listed_goes {A} g opening close is s inside =
    let rest : Bool × Spot → Read (List A) = λ m. items_at (run g) close (suc (length s.source)) m in
    bind_goes (open_at opening close s) rest (open_goes opening close s) (λ m h. by_more m.0 m.1 (opened opening close s m.1 m.0 h))
  where
    by_more : (more : Bool) (m : Spot) → ((more ≡ true) × (mark_at opening s ≡ Ok m)) ⊎ ((more ≡ false) × (n : Spot) × (mark_at opening s ≡ Ok n) × (mark_at close n ≡ Ok m)) →
        Goes (items_at (run g) close (suc (length s.source)) (more, m))
    by_more false m h = tt
    by_more true m (inr h) = absurd (true≢false h.0)
    by_more true m (inl h) =
        let a = (mark_begins opening s m inside h.1).1 in
        let ahead = a.more in
        let len = ap (λ (l : List ℕ). length l) a.source in
        items_goes g close is (suc (length s.source)) m (ahead_inside s m a) (omega arith)

-- ---- of a grammar that one token decides
pub goes_by : {A : Type 0} (g : Gram A) (s : Spot) → one_token g ≡ true → IsInside s → Goes (run g s)
goes_by (mark k) s one inside = bind_goes (mark_at k s) (with_value tt) (mark_goes k s) (λ m is. tt)
goes_by (spanned k) s one inside = spanned_goes k s
goes_by (says w) s one inside = text_goes w s
goes_by name s one inside = name_goes s
goes_by (name_but ws) s one inside = other_goes ws s
goes_by number s one inside = number_goes s
goes_by version s one inside = version_goes s
goes_by primitives s one inside = primitive_goes s
goes_by docs s one inside = docs_goes s
goes_by (never {A}) s one inside = nothing_goes A s
goes_by (deeper {A} ks) s one inside = deeper_goes A ks s
goes_by (both {A} {B} {C} f g k) s one inside =
    let p = and_parts (one_token g && one_token k) (apart (more g) (first k)) one in
    let q = and_parts (one_token g) (one_token k) p.0 in
    let rest : A × Spot → Read C = λ x. run k x.1 >>= made (f x.0) in
    bind_goes (run g s) rest (goes_by g s q.0 inside) (λ x h. (
    let next = onward_inside g s x.1 (onward g x.0 s x.1 inside (sound g x.0 s x.1 h)) in
    made_goes (run k x.1) (f x.0) (goes_by k x.1 q.1 next)))
goes_by (act f g) s one inside = made_goes (run g s) f (goes_by g s one inside)
goes_by (either g k) s one inside =
    let p = and_parts (one_token g && one_token k) ((not (nullable g) && not (nullable k)) && apart (first g) (first k)) one in
    let q = and_parts (one_token g) (one_token k) p.0 in
    cond_goes (starts g s) (run g s) (run k s) (goes_by g s q.0 inside) (goes_by k s q.1 inside)
goes_by (opt {A} g) s one inside =
    let p = and_parts (one_token g) (not (nullable g)) one in
    let some : A → Option A = λ x. Some x in
    cond_goes (starts g s) (run g s >>= made some) (with_value None s) (made_goes (run g s) some (goes_by g s p.0 inside)) tt
goes_by (many g) s one inside =
    let p = and_parts (one_token g && not (nullable g)) (apart (first g) [] && apart (more g) (first g)) one in
    let q = and_parts (one_token g) (not (nullable g)) p.0 in
    many_goes g (record { some = isnt (nullable g) q.1; goes = λ s i. goes_by g s q.0 i }) (suc (length s.source)) s inside (omega arith)
goes_by (until g close) s one inside =
    let p = and_parts (one_token g && not (nullable g)) (apart (first g) (of_kind close ∷ []) && apart (more g) (first g ++ of_kind close ∷ [])) one in
    let q = and_parts (one_token g) (not (nullable g)) p.0 in
    until_goes g close (record { some = isnt (nullable g) q.1; goes = λ s i. goes_by g s q.0 i }) (suc (length s.source)) s inside (omega arith)
goes_by (listed opening close g) s one inside =
    let o = and_parts (an_item g (one_token g) (of_kind close ∷ []) (of_kind Comma ∷ of_kind close ∷ [])) (not (same_kind Comma close)) one in
    let p = and_parts (one_token g && not (nullable g)) (apart (first g) (of_kind close ∷ []) && apart (more g) (of_kind Comma ∷ of_kind close ∷ [])) o.0 in
    let q = and_parts (one_token g) (not (nullable g)) p.0 in
    listed_goes g opening close (record { some = isnt (nullable g) q.1; goes = λ s i. goes_by g s q.0 i }) s inside
