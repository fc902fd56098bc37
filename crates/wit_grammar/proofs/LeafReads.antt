-- What is read by a leaf begins as the leaf does, and takes a token.
use Rattle.std.proofs.Common.{◌≡◌, ℕ, ◌+◌, ◌<◌, ◌≤◌, List, [], ◌∷◌, length, ap, ◌∙◌, sym, subst, arith, refl, true, false, Bool, not, inl, inr, Option, Some, None}
use Rattle.std.specs.Prelude.{Ok, Err, Result, cond, ◌==◌, ◌&&◌, ◌||◌, nat_lt, slice_range}
use Rattle.std.specs.Str.{bytes_eq}
use Rattle.std.specs.Str.Parse.{digits_value}
use Rattle.std.proofs.lemmas.Bool.{and_parts, and_from, cases_lt, eq-eqb, not_from_false, or_cases, or_left, or_right, true≢false}
use Rattle.semver.specs.declared.error.Error.{Error}
use Rattle.semver.specs.Parse.{version_parts}
use Rattle.wit_names.specs.Label.{is_label}
use Rattle.wit_values.specs.declared.span.Span.{Span}
use Rattle.wit_type_tree.specs.declared.types.Primitive.{Primitive}
use Rattle.wit_lex.specs.Words.{unescaped}
use Rattle.wit_lex.specs.declared.fault.ReadError.{ReadError}
use Rattle.wit_lex.specs.declared.fault.ReadFault.TheVariants as fault
use Rattle.wit_lex.specs.declared.kind.Kind.{Kind}
use Rattle.wit_lex.specs.declared.kind.Kind.TheVariants as kind
use Rattle.wit_lex.specs.declared.word.Word.TheVariants as word
use Rattle.wit_lex.specs.Lexis.{Lexeme, first_token}
use Rattle.wit_lex.specs.VersionLexis.{version_to}
use Rattle.wit_grammar.specs.TokenKinds.{same_kind}
use Rattle.wit_grammar.specs.Trees.{Text, Name, Documents, Release, Ty, primitive}
use Rattle.wit_grammar.specs.Leaves.{Spot, Read, moved, lexed, text_of, span_of, stop, past, mark_at, spanned_at, is_in, text_at, name_of, name_at, name_but_at, number_at, release_at, release_to, version_at, docs_of, docs_at, primitive_of, primitive_with, primitive_at, ◌>>=◌}
use Rattle.wit_grammar.specs.Grammar.{Terminal, of_kind, of_text, of_other, matches, matches_first, fits, among, primitive_kinds}
use Rattle.wit_grammar.proofs.Tokens.{chosen, token_placed, version_placed}

pub bind_ok : {A B : Type 0} (r : Result A ReadError) (f : A → Result B ReadError) (y : B) → (r >>= f) ≡ Ok y → (x : A) × (r ≡ Ok x) × (f x ≡ Ok y)
bind_ok (Ok x) f y h = (x, refl, h)
bind_ok (Err e) f y h = absurd (cc)

abbrev good : {A : Type 0} → A → Result A ReadError
good x = Ok x

value : {A : Type 0} → A → Result A ReadError → A
value d (Ok x) = x
value d (Err e) = d

pub same_value : {A : Type 0} (x y : A) → good x ≡ good y → x ≡ y
unfolding value
same_value x y h = ap (value x) h

-- a value and the spot after it
abbrev pub with_value : {A : Type 0} → A → Spot → Read A
with_value v e = Ok (v, e)

pub same_spot : {A : Type 0} (v a : A) (m e : Spot) → with_value v m ≡ with_value a e → m ≡ e
same_spot v a m e h = ap (λ x. x.1) (same_value (v, m) (a, e) h)

-- ---- what spots and tokens have to do with one another
abbrev pub IsInside : Spot → Type 0
IsInside s = s.place ≤ length s.source

-- a token of the source was taken
pub record Ahead (s e : Spot) : Type 0 where
  pub source : e.source ≡ s.source
  pub more : s.place < e.place
  pub within : e.place ≤ length s.source

-- none was taken: the same token comes
pub record Same (s e : Spot) : Type 0 where
  pub source : e.source ≡ s.source
  pub onward : s.place ≤ e.place
  pub within : e.place ≤ length s.source
  pub token : lexed e ≡ lexed s

-- it begins with one of these, and a token was taken
abbrev pub Begins : List Terminal → Spot → Spot → Type 0
Begins ks s e = (among ks s ≡ true) × Ahead s e

pub ahead_inside : (s e : Spot) → Ahead s e → IsInside e
ahead_inside s e a = let within = a.within in let len = ap (λ (l : List ℕ). length l) a.source in omega arith

pub same_inside : (s e : Spot) → Same s e → IsInside e
same_inside s e a = let within = a.within in let len = ap (λ (l : List ℕ). length l) a.source in omega arith

pub still : (s e : Spot) → IsInside s → s ≡ e → Same s e
still s e inside h = subst (λ m. Same s m) h (record { source = refl; onward = omega arith; within = inside; token = refl })

-- ---- a token that fits
pub fits_by : (k : Terminal) (s : Spot) (t : Lexeme) → lexed s ≡ Ok t → matches k s t ≡ true → fits k s ≡ true
fits_by k s t is h = ap (matches_first k s) is ∙ h

same_match : (k : Terminal) (s e : Spot) (t : Lexeme) → e.source ≡ s.source → matches k e t ≡ matches k s t
same_match (of_kind k) s e t h = refl
same_match (of_text w) s e t h = ap (λ source. same_kind t.kind kind.Name && bytes_eq (slice_range source t.start t.end) w) h
same_match (of_other ws) s e t h = ap (λ source. same_kind t.kind kind.Name && not (is_in (slice_range source t.start t.end) ws)) h

same_matches : (k : Terminal) (s e : Spot) (r : Result Lexeme ReadError) → e.source ≡ s.source → matches_first k e r ≡ matches_first k s r
same_matches k s e (Ok t) h = same_match k s e t h
same_matches k s e (Err x) h = refl

pub same_fits : (k : Terminal) (s e : Spot) → Same s e → fits k e ≡ fits k s
same_fits k s e h = ap (matches_first k e) h.token ∙ same_matches k s e (lexed s) h.source

pub fits_token : (k : Terminal) (s : Spot) (r : Result Lexeme ReadError) → matches_first k s r ≡ true → (t : Lexeme) × (r ≡ Ok t) × (matches k s t ≡ true)
fits_token k s (Ok t) h = (t, refl, h)
fits_token k s (Err e) h = absurd (true≢false (sym h))

-- ---- the leaves
past_ahead : (s e : Spot) (t : Lexeme) → IsInside s → lexed s ≡ Ok t → past s t ≡ Ok e → Ahead s e
unfolding past
past_ahead s e t inside is h =
    let p = token_placed s.source s.place t inside is in
    let low = p.low in
    let within = p.within in
    let go : Lexeme → Result Spot ReadError = λ _. Ok (moved s t.end) in
    elim (chosen (t.start == t.end) (stop {A = Spot} fault.Token t) (first_token s.source t.end >>= go) (Ok e) h) [
      | inl b ↦ absurd (cc)
      | inr b ↦ (
          let n = bind_ok (first_token s.source t.end) go e b.1 in
          let same : moved s t.end ≡ e = same_value (moved s t.end) e n.2 in
          let less : t.start < t.end = elim (cases_lt t.start t.end) [
            | inl lt ↦ lt
            | inr ge ↦ absurd (let order = p.order in true≢false (sym (eq-eqb t.start t.end (omega arith)) ∙ b.0))
          ] in
          subst (λ m. Ahead s m) same (record { source = refl; more = omega arith; within = within })
          )
    ]

-- a test of the token, and what is read where it holds
tested : {A : Type 0} (s : Spot) (test : Lexeme → Bool) (read : Lexeme → Result A ReadError) (y : A) →
    (lexed s >>= λ t. cond (test t) (read t) (stop fault.Token t)) ≡ Ok y → (t : Lexeme) × (lexed s ≡ Ok t) × (test t ≡ true) × (read t ≡ Ok y)
tested s test read y h =
    let b = bind_ok (lexed s) (λ t. cond (test t) (read t) (stop fault.Token t)) y h in
    elim (chosen (test b.0) (read b.0) (stop fault.Token b.0) (Ok y) b.2) [ inl c ↦ (b.0, b.1, c.0, c.1) | inr c ↦ absurd (cc) ]

past_value : {A : Type 0} (s e : Spot) (t : Lexeme) (v a : A) → (past s t >>= with_value v) ≡ Ok (a, e) → past s t ≡ Ok e
past_value s e t v a h =
    let b = bind_ok (past s t) (with_value v) (a, e) h in
    b.1 ∙ ap good (same_spot v a b.0 e b.2)

one_begins : (k : Terminal) (s e : Spot) (t : Lexeme) → IsInside s → lexed s ≡ Ok t → matches k s t ≡ true → past s t ≡ Ok e → Begins (k ∷ []) s e
one_begins k s e t inside is m h = (or_left (fits k s) false (fits_by k s t is m), past_ahead s e t inside is h)

pub mark_token : (k : Kind) (s e : Spot) → mark_at k s ≡ Ok e → (t : Lexeme) × (lexed s ≡ Ok t) × (same_kind t.kind k ≡ true) × (past s t ≡ Ok e)
unfolding mark_at
mark_token k s e h = tested s (λ t. same_kind t.kind k) (past s) e h

pub mark_begins : (k : Kind) (s e : Spot) → IsInside s → mark_at k s ≡ Ok e → Begins (of_kind k ∷ []) s e
mark_begins k s e inside h =
    let b = mark_token k s e h in
    one_begins (of_kind k) s e b.0 inside b.1 b.2 b.3

pub spanned_begins : (k : Kind) (a : Span) (s e : Spot) → IsInside s → spanned_at k s ≡ Ok (a, e) → Begins (of_kind k ∷ []) s e
unfolding spanned_at
spanned_begins k a s e inside h =
    let b = bind_ok (lexed s) (λ t. mark_at k s >>= with_value (span_of s t)) (a, e) h in
    let c = bind_ok (mark_at k s) (with_value (span_of s b.0)) (a, e) b.2 in
    mark_begins k s e inside (c.1 ∙ ap good (same_spot (span_of s b.0) a c.0 e c.2))

pub text_begins : (w : Text) (a : Span) (s e : Spot) → IsInside s → text_at w s ≡ Ok (a, e) → Begins (of_text w ∷ []) s e
unfolding text_at
text_begins w a s e inside h =
    let b = tested s (λ t. same_kind t.kind kind.Name && bytes_eq (text_of s t) w) (λ t. past s t >>= with_value (span_of s t)) (a, e) h in
    one_begins (of_text w) s e b.0 inside b.1 b.2 (past_value s e b.0 (span_of s b.0) a b.3)

name_read : (a : Name) (s e : Spot) → name_at s ≡ Ok (a, e) → (t : Lexeme) × (lexed s ≡ Ok t) × (same_kind t.kind kind.Name ≡ true) × (past s t ≡ Ok e)
unfolding name_at
name_read a s e h =
    let b = tested s (λ t. same_kind t.kind kind.Name && is_label (unescaped (text_of s t))) (λ t. past s t >>= with_value (name_of s t)) (a, e) h in
    (b.0, b.1, (and_parts (same_kind b.0.kind kind.Name) _ b.2).0, past_value s e b.0 (name_of s b.0) a b.3)

pub name_begins : (a : Name) (s e : Spot) → IsInside s → name_at s ≡ Ok (a, e) → Begins (of_kind kind.Name ∷ []) s e
name_begins a s e inside h = let b = name_read a s e h in one_begins (of_kind kind.Name) s e b.0 inside b.1 b.2 b.3

pub other_begins : (ws : List Text) (a : Name) (s e : Spot) → IsInside s → name_but_at ws s ≡ Ok (a, e) → Begins (of_other ws ∷ []) s e
unfolding name_but_at
other_begins ws a s e inside h =
    let b = bind_ok (lexed s) (λ t. cond (is_in (text_of s t) ws) (stop fault.Token t) (name_at s)) (a, e) h in
    elim (chosen (is_in (text_of s b.0) ws) (stop fault.Token b.0) (name_at s) (Ok (a, e)) b.2) [
      | inl c ↦ absurd (cc)
      | inr c ↦ (
          let n = name_read a s e c.1 in
          let same : n.0 ≡ b.0 = same_value n.0 b.0 (sym n.1 ∙ b.1) in
          let named : same_kind b.0.kind kind.Name ≡ true = subst (λ t. same_kind t.kind kind.Name ≡ true) same n.2 in
          let read : past s b.0 ≡ Ok e = subst (λ t. past s t ≡ Ok e) same n.3 in
          one_begins (of_other ws) s e b.0 inside b.1 (and_from (same_kind b.0.kind kind.Name) (not (is_in (text_of s b.0) ws)) named (not_from_false (is_in (text_of s b.0) ws) c.0)) read
          )
    ]

pub number_begins : (a : ℕ) (s e : Spot) → IsInside s → number_at s ≡ Ok (a, e) → Begins (of_kind kind.Number ∷ []) s e
unfolding number_at
number_begins a s e inside h =
    let number : Lexeme → ℕ = λ t. digits_value 10 (text_of s t) in
    let b = tested s (λ t. same_kind t.kind kind.Number) (λ t. cond (nat_lt (number t) 4294967296) (past s t >>= with_value (number t)) (stop fault.Number t)) (a, e) h in
    elim (chosen (nat_lt (number b.0) 4294967296) (past s b.0 >>= with_value (number b.0)) (stop fault.Number b.0) (Ok (a, e)) b.3) [
      | inl c ↦ one_begins (of_kind kind.Number) s e b.0 inside b.1 b.2 (past_value s e b.0 (number b.0) a c.1)
      | inr c ↦ absurd (cc)
    ]

release_moves : (s e : Spot) (start end : ℕ) (r : Result Release Error) (a : Span × Release) → release_at s start end r ≡ Ok (a, e) → moved s end ≡ e
release_moves s e start end (Err x) a h = absurd (cc)
release_moves s e start end (Ok release) a h =
    let v : Span × Release = (record { start = s.offset + start; end = s.offset + end }, release) in
    let b = bind_ok (first_token s.source end) (λ _. with_value v (moved s end)) (a, e) h in
    same_spot v a (moved s end) e b.2

version_moves : (s e : Spot) (start : ℕ) (r : Result ℕ ℕ) (a : Span × Release) → release_to s start r ≡ Ok (a, e) → (end : ℕ) × (r ≡ Ok end) × (moved s end ≡ e)
version_moves s e start (Err at) a h =
    let b = bind_ok (first_token s.source at) (λ t. stop {A = (Span × Release) × Spot} fault.Token t) (a, e) h in
    let none = b.2 in
    absurd (cc)
version_moves s e start (Ok end) a h = (end, refl, release_moves s e start end (version_parts (slice_range s.source start end)) a h)

pub version_begins : (a : Span × Release) (s e : Spot) → IsInside s → version_at s ≡ Ok (a, e) → Begins (of_kind kind.Number ∷ []) s e
unfolding version_at
version_begins a s e inside h =
    let b = tested s (λ t. same_kind t.kind kind.Number) (λ t. release_to s t.start (version_to s.source t.end)) (a, e) h in
    let p = token_placed s.source s.place b.0 inside b.1 in
    let m = version_moves s e b.0.start (version_to s.source b.0.end) a b.3 in
    let v = version_placed s.source b.0.end m.0 p.within m.1 in
    let low = p.low in
    let order = p.order in
    let more = v.0 in
    let ahead : Ahead s e = subst (λ x. Ahead s x) m.2 (record { source = refl; more = omega arith; within = v.1 }) in
    (or_left (fits (of_kind kind.Number) s) false (fits_by (of_kind kind.Number) s b.0 b.1 b.2), ahead)

pub docs_same : (a : Documents) (s e : Spot) → IsInside s → docs_at s ≡ Ok (a, e) → Same s e
unfolding docs_at
docs_same a s e inside h =
    let b = bind_ok (lexed s) (λ t. with_value (docs_of s) (moved s t.start)) (a, e) h in
    let p = token_placed s.source s.place b.0 inside b.1 in
    let order = p.order in
    let within = p.within in
    subst (λ x. Same s x) (same_spot (docs_of s) a (moved s b.0.start) e b.2) (record { source = refl; onward = p.low; within = omega arith; token = p.same })

-- whether the kind of a token is one of these
abbrev kind_among : List Terminal → Kind → Bool
kind_among [] k = false
kind_among (of_kind j ∷ ks) k = same_kind k j || kind_among ks k
kind_among (of_text w ∷ ks) k = kind_among ks k
kind_among (of_other ws ∷ ks) k = kind_among ks k

kind_begins : (ks : List Terminal) (s : Spot) (t : Lexeme) → lexed s ≡ Ok t → kind_among ks t.kind ≡ true → among ks s ≡ true
kind_begins [] s t is h = h
kind_begins (of_kind j ∷ ks) s t is h = elim (or_cases (same_kind t.kind j) (kind_among ks t.kind) h) [
  | inl m ↦ or_left (fits (of_kind j) s) (among ks s) (fits_by (of_kind j) s t is m)
  | inr m ↦ or_right (fits (of_kind j) s) (among ks s) (kind_begins ks s t is m)
]
kind_begins (of_text w ∷ ks) s t is h = or_right (fits (of_text w) s) (among ks s) (kind_begins ks s t is h)
kind_begins (of_other ws ∷ ks) s t is h = or_right (fits (of_other ws) s) (among ks s) (kind_begins ks s t is h)

primitive_among : (k : Kind) (p : Primitive) → primitive_of k ≡ Some p → kind_among primitive_kinds k ≡ true
unfolding same_kind
primitive_among (kind.Word word.Bool) p h = refl
primitive_among (kind.Word word.U8) p h = refl
primitive_among (kind.Word word.U16) p h = refl
primitive_among (kind.Word word.U32) p h = refl
primitive_among (kind.Word word.U64) p h = refl
primitive_among (kind.Word word.S8) p h = refl
primitive_among (kind.Word word.S16) p h = refl
primitive_among (kind.Word word.S32) p h = refl
primitive_among (kind.Word word.S64) p h = refl
primitive_among (kind.Word word.F32) p h = refl
primitive_among (kind.Word word.F64) p h = refl
primitive_among (kind.Word word.Char) p h = refl
primitive_among (kind.Word word.String) p h = refl
primitive_among (kind.Word word.ErrorContext) p h = refl
primitive_among other p h = absurd (cc)

primitive_read : (s e : Spot) (t : Lexeme) (a : Ty) (found : Option Primitive) → primitive_with s t found ≡ Ok (a, e) → (p : Primitive) × (found ≡ Some p) × (past s t ≡ Ok e)
primitive_read s e t a None h = absurd (cc)
primitive_read s e t a (Some p) h = (p, refl, past_value s e t (primitive (span_of s t) p) a h)

pub primitive_begins : (a : Ty) (s e : Spot) → IsInside s → primitive_at s ≡ Ok (a, e) → Begins primitive_kinds s e
unfolding primitive_at
primitive_begins a s e inside h =
    let b = bind_ok (lexed s) (λ t. primitive_with s t (primitive_of t.kind)) (a, e) h in
    let p = primitive_read s e b.0 a (primitive_of b.0.kind) b.2 in
    (kind_begins primitive_kinds s b.0 b.1 (primitive_among b.0.kind p.0 p.1), past_ahead s e b.0 inside b.1 p.2)
