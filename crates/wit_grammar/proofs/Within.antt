-- The fault at which reading stops lies within the source.
use Rattle.std.proofs.Common.{◌≡◌, ℕ, zero, suc, ◌+◌, ◌≤◌, List, [], ◌∷◌, length, drop, ap, ◌∙◌, subst, arith, refl, true, false, Bool, inl, inr, Option, Some, None}
use Rattle.std.specs.Prelude.{Result, Ok, Err, cond, min, ◌==◌, ◌&&◌, nat_lt, slice_range}
use Rattle.std.specs.Char.{is_ascii_digit}
use Rattle.std.specs.Str.{bytes_eq}
use Rattle.std.specs.Str.Parse.{digits_value}
use Rattle.std.proofs.lemmas.List.{length-drop}
use Rattle.semver.specs.declared.error.Error.{Error}
use Rattle.semver.specs.Parse.{version_parts}
use Rattle.wit_names.specs.Label.{is_label}
use Rattle.wit_values.specs.declared.span.Span.{Span}
use Rattle.wit_type_tree.specs.declared.types.Primitive.{Primitive}
use Rattle.wit_type_tree.specs.Comments.{is_blank}
use Rattle.wit_lex.specs.Words.{unescaped}
use Rattle.wit_lex.specs.declared.fault.ReadError.{ReadError}
use Rattle.wit_lex.specs.declared.fault.ReadError.TheVariants.{Fault, OutOfMemory}
use Rattle.wit_lex.specs.declared.fault.ReadFault.TheVariants as fault
use Rattle.wit_lex.specs.declared.kind.Kind.{Kind}
use Rattle.wit_lex.specs.declared.kind.Kind.TheVariants.{Comma, Number, Arrow, Name as NameKind}
use Rattle.wit_lex.specs.TextFaults.{IsWithin}
use Rattle.wit_lex.specs.Starts.{is_letter, is_in_word, is_sign, width_of}
use Rattle.wit_lex.specs.Lexis.{Mode, between, in_line, in_block, skipped, run_end, Lexeme, sign_kind, no_token, word_token, arrow_or_escaped, token_here, token_after, first_token, Stops}
use Rattle.wit_lex.specs.VersionLexis.{number_from, dot_number_from, dot_number, with_marks, patch_number, version_to}
use Rattle.wit_grammar.specs.TokenKinds.{same_kind}
use Rattle.wit_grammar.specs.Trees.{Text, Release, primitive}
use Rattle.wit_grammar.specs.Leaves.{Spot, Read, moved, lexed, stop, past, mark_at, spanned_at, span_of, text_of, is_in, text_at, name_of, name_at, name_but_at, number_at, release_at, release_to, version_at, docs_of, docs_at, primitive_of, primitive_with, primitive_at, is_among, deeper_at, nothing_at, ◌>>=◌}
use Rattle.wit_grammar.specs.Grammar.{Gram, mark, spanned, says, name, name_but, number, version, primitives, docs, never, deeper, both, act, either, opt, many, until, listed, run, starts, closes, many_at, until_at, open_at, next_at, items_at, listed_at}
use Rattle.wit_grammar.specs.ItemRules.{file}
use Rattle.wit_grammar.specs.Laws.{start as first_spot, FaultsLieWithin}
use Rattle.wit_grammar.proofs.Tokens.{chosen, at_place, lexeme_ok, IsPlaced, token_placed, number_within, version_placed}
use Rattle.wit_grammar.proofs.LeafReads.{IsInside, ahead_inside, same_inside, mark_begins, with_value}
use Rattle.wit_grammar.proofs.Onward.{onward}
use Rattle.wit_grammar.proofs.Spelled.{made, sound, opened, went_on}

-- where it stops, it does so within the source
abbrev StopsWithin : {A : Type 0} → List ℕ → Result A ReadError → Type 0
StopsWithin source (Ok x) = Unit {0}
StopsWithin source (Err e) = IsWithin source e

bind_within : {A B : Type 0} (source : List ℕ) (r : Result A ReadError) (f : A → Result B ReadError) → StopsWithin source r → ((x : A) → r ≡ Ok x → StopsWithin source (f x)) → StopsWithin source (r >>= f)
bind_within source (Ok x) f h k = k x refl
bind_within source (Err e) f h k = h

cond_within : {A : Type 0} (source : List ℕ) (b : Bool) (x y : Result A ReadError) → StopsWithin source x → StopsWithin source y → StopsWithin source (cond b x y)
cond_within source true x y h k = h
cond_within source false x y h k = k

-- ---- a comment that has no end
abbrev no_end : ℕ → Result ℕ ℕ
no_end at = Err at

same_start : (a b : ℕ) → no_end a ≡ no_end b → a ≡ b
same_start a b h = cc

-- the comment that is open at a place began two bytes before it at least
abbrev IsBegun : Mode → ℕ → Type 0
IsBegun between at = Unit {0}
IsBegun (in_line start) at = Unit {0}
IsBegun (in_block start inner) at = start + 2 ≤ at

endless_within : (m : Mode) (at : ℕ) (rest : List ℕ) (k : ℕ) → IsBegun m at → skipped m at rest ≡ Err k → k + 2 ≤ at + length rest
unfolding skipped
endless_within between at [] k b h = absurd (cc)
endless_within between at (c ∷ []) k b h = elim (chosen (is_blank c) (at_place (at + 1)) (at_place at) (no_end k) h) [ inl n ↦ absurd (cc) | inr n ↦ absurd (cc) ]
endless_within between at (c ∷ d ∷ rest) k b h = elim (chosen (is_blank c) (skipped between (at + 1) (d ∷ rest)) _ (no_end k) h) [
  | inl s ↦ (let w = endless_within between (at + 1) (d ∷ rest) k tt s.1 in omega arith)
  | inr s ↦ elim (chosen (c == 47 && d == 47) (skipped (in_line at) (at + 1) (d ∷ rest)) _ (no_end k) s.1) [
    | inl l ↦ (let w = endless_within (in_line at) (at + 1) (d ∷ rest) k tt l.1 in omega arith)
    | inr l ↦ elim (chosen (c == 47 && d == 42) (skipped (in_block at 0) (at + 2) rest) (at_place at) (no_end k) l.1) [
      | inl n ↦ (let w = endless_within (in_block at 0) (at + 2) rest k (omega arith) n.1 in omega arith)
      | inr n ↦ absurd (cc)
    ]
  ]
]
endless_within (in_line start) at [] k b h = absurd (cc)
endless_within (in_line start) at (c ∷ rest) k b h = elim (chosen (c == 10) (skipped between (at + 1) rest) (skipped (in_line start) (at + 1) rest) (no_end k) h) [
  | inl s ↦ (let w = endless_within between (at + 1) rest k tt s.1 in omega arith)
  | inr s ↦ (let w = endless_within (in_line start) (at + 1) rest k tt s.1 in omega arith)
]
endless_within (in_block start inner) at [] k b h = let same = same_start start k h in omega arith
endless_within (in_block start inner) at (c ∷ []) k b h = let same = same_start start k h in omega arith
endless_within (in_block start zero) at (c ∷ d ∷ rest) k b h = elim (chosen (c == 42 && d == 47) (skipped between (at + 2) rest) _ (no_end k) h) [
  | inl s ↦ (let w = endless_within between (at + 2) rest k tt s.1 in omega arith)
  | inr s ↦ elim (chosen (c == 47 && d == 42) (skipped (in_block start 1) (at + 2) rest) (skipped (in_block start 0) (at + 1) (d ∷ rest)) (no_end k) s.1) [
    | inl n ↦ (let w = endless_within (in_block start 1) (at + 2) rest k (omega arith) n.1 in omega arith)
    | inr n ↦ (let w = endless_within (in_block start 0) (at + 1) (d ∷ rest) k (omega arith) n.1 in omega arith)
  ]
]
endless_within (in_block start (suc inner)) at (c ∷ d ∷ rest) k b h = elim (chosen (c == 42 && d == 47) (skipped (in_block start inner) (at + 2) rest) _ (no_end k) h) [
  | inl s ↦ (let w = endless_within (in_block start inner) (at + 2) rest k (omega arith) s.1 in omega arith)
  | inr s ↦ elim (chosen (c == 47 && d == 42) (skipped (in_block start (suc (suc inner))) (at + 2) rest) (skipped (in_block start (suc inner)) (at + 1) (d ∷ rest)) (no_end k) s.1) [
    | inl n ↦ (let w = endless_within (in_block start (suc (suc inner))) (at + 2) rest k (omega arith) n.1 in omega arith)
    | inr n ↦ (let w = endless_within (in_block start (suc inner)) (at + 1) (d ∷ rest) k (omega arith) n.1 in omega arith)
  ]
]

-- ---- tokens
character_low : (at width size : ℕ) → at ≤ size → at ≤ min (at + width) size
character_low at width size le = omega arith

character_high : (at width size : ℕ) → min (at + width) size ≤ size
character_high at width size = omega arith

character_within : (source : List ℕ) (at c : ℕ) → at ≤ length source → StopsWithin source (no_token source at c)
character_within source at c le = (character_low at (width_of c) (length source) le, character_high at (width_of c) (length source))

sign_within : (source : List ℕ) (at c : ℕ) (rest : List ℕ) → at ≤ length source → StopsWithin source (arrow_or_escaped source at c rest)
sign_within source at c [] le = character_within source at c le
sign_within source at c (d ∷ rest) le =
    let escaped : Lexeme = record { kind = NameKind; start = at; end = run_end is_in_word (at + 1) (d ∷ rest) } in
    cond_within source (c == 45 && d == 62) (lexeme_ok (record { kind = Arrow; start = at; end = at + 2 })) (cond (c == 37 && is_letter d) (lexeme_ok escaped) (no_token source at c)) tt
    (cond_within source (c == 37 && is_letter d) (lexeme_ok escaped) (no_token source at c) tt (character_within source at c le))

here_within : (source : List ℕ) (at : ℕ) (rest : List ℕ) → drop at source ≡ rest → StopsWithin source (token_here source at rest)
here_within source at [] h = tt
here_within source at (c ∷ rest) h =
    let size = length-drop at source in
    let some = ap (λ (l : List ℕ). length l) h in
    let number : Result Lexeme ReadError = lexeme_ok (record { kind = Number; start = at; end = run_end is_ascii_digit at (c ∷ rest) }) in
    let sign : Result Lexeme ReadError = lexeme_ok (record { kind = sign_kind c; start = at; end = at + 1 }) in
    let other : Result Lexeme ReadError = cond (is_ascii_digit c) number (arrow_or_escaped source at c rest) in
    cond_within source (is_letter c) (lexeme_ok (word_token source at (run_end is_in_word at (c ∷ rest)))) (cond (is_sign c) sign other) tt
    (cond_within source (is_sign c) sign other tt (cond_within source (is_ascii_digit c) number (arrow_or_escaped source at c rest) tt (sign_within source at c rest (omega arith))))

after_within : (source : List ℕ) (from : ℕ) (r : Result ℕ ℕ) → from ≤ length source → skipped between from (drop from source) ≡ r → StopsWithin source (token_after source r)
after_within source from (Ok at) le h = here_within source at (drop at source) refl
after_within source from (Err at) le h =
    let size = length-drop from source in
    let begun = endless_within between from (drop from source) at tt h in
    (omega arith, omega arith)

token_within : (source : List ℕ) (from : ℕ) → from ≤ length source → StopsWithin source (first_token source from)
unfolding first_token
token_within source from le = after_within source from (skipped between from (drop from source)) le refl

-- ---- where a version breaks off
number_missing : (at : ℕ) (rest : List ℕ) (k : ℕ) → number_from at rest ≡ Err k → at ≡ k
number_missing at [] k h = same_start at k h
number_missing at (c ∷ rest) k h = elim (chosen (is_ascii_digit c) (at_place (run_end is_ascii_digit at (c ∷ rest))) (no_end at) (no_end k) h) [ inl b ↦ absurd (cc) | inr b ↦ same_start at k b.1 ]

dot_missing : (at : ℕ) (rest : List ℕ) (k : ℕ) → dot_number_from at rest ≡ Err k → k ≤ at + length rest
dot_missing at [] k h = let same = same_start at k h in omega arith
dot_missing at (c ∷ rest) k h = elim (chosen (c == 46) (number_from (at + 1) rest) (no_end at) (no_end k) h) [
  | inl b ↦ (let same = number_missing (at + 1) rest k b.1 in omega arith)
  | inr b ↦ (let same = same_start at k b.1 in omega arith)
]

missing_within : (source : List ℕ) (at k : ℕ) → at ≤ length source → dot_number source at ≡ Err k → k ≤ length source
missing_within source at k le h =
    let size = length-drop at source in
    let found = dot_missing at (drop at source) k h in
    omega arith

broken_within : (source : List ℕ) (at k : ℕ) → at ≤ length source → version_to source at ≡ Err k → k ≤ length source
unfolding version_to
broken_within source at k le h = by_minor (dot_number source at) refl h
  where
    by_patch : (r : Result ℕ ℕ) (j : ℕ) → j ≤ length source → dot_number source j ≡ r → with_marks source r ≡ Err k → k ≤ length source
    by_patch (Ok n) j high is h = absurd (cc)
    by_patch (Err i) j high is h =
        let same = same_start i k h in
        let found = missing_within source j i high is in
        omega arith

    by_minor : (r : Result ℕ ℕ) → dot_number source at ≡ r → with_marks source (patch_number source r) ≡ Err k → k ≤ length source
    by_minor (Err i) is h =
        let same = same_start i k h in
        let found = missing_within source at i le is in
        omega arith
    by_minor (Ok j) is h = by_patch (dot_number source j) j (number_within source at j le is).1 refl h

-- ---- leaves
-- it is the token
abbrev IsHere : Spot → Lexeme → Type 0
IsHere s t = IsPlaced s.source s.place t

lexed_within : {A : Type 0} (s : Spot) (f : Lexeme → Result A ReadError) → IsInside s → ((t : Lexeme) → IsHere s t → StopsWithin s.source (f t)) → StopsWithin s.source (lexed s >>= f)
lexed_within s f inside h = bind_within s.source (lexed s) f (token_within s.source s.place inside) (λ t is. h t (token_placed s.source s.place t inside is))

past_within : (s : Spot) (t : Lexeme) → IsHere s t → StopsWithin s.source (past s t)
unfolding past
past_within s t p =
    let go : Lexeme → Result Spot ReadError = λ _. Ok (moved s t.end) in
    cond_within s.source (t.start == t.end) (stop {A = Spot} fault.Token t) (first_token s.source t.end >>= go) (p.order, p.within)
    (bind_within s.source (first_token s.source t.end) go (token_within s.source t.end p.within) (λ u is. tt))

value_within : {A : Type 0} (s : Spot) (v : A) (t : Lexeme) → IsHere s t → StopsWithin s.source (past s t >>= with_value v)
value_within s v t p = bind_within s.source (past s t) (with_value v) (past_within s t p) (λ m is. tt)

-- where a test of the token holds, something is read
test_within : {A : Type 0} (s : Spot) (test : Lexeme → Bool) (read : Lexeme → Result A ReadError) → IsInside s → ((t : Lexeme) → IsHere s t → StopsWithin s.source (read t)) →
    StopsWithin s.source (lexed s >>= λ t. cond (test t) (read t) (stop fault.Token t))
test_within s test read inside h =
    lexed_within s (λ t. cond (test t) (read t) (stop fault.Token t)) inside (λ t p. cond_within s.source (test t) (read t) (stop fault.Token t) (h t p) (p.order, p.within))

mark_within : (k : Kind) (s : Spot) → IsInside s → StopsWithin s.source (mark_at k s)
unfolding mark_at
mark_within k s inside = test_within s (λ t. same_kind t.kind k) (past s) inside (past_within s)

spanned_within : (k : Kind) (s : Spot) → IsInside s → StopsWithin s.source (spanned_at k s)
unfolding spanned_at
spanned_within k s inside =
    lexed_within s (λ t. mark_at k s >>= with_value (span_of s t)) inside (λ t p. bind_within s.source (mark_at k s) (with_value (span_of s t)) (mark_within k s inside) (λ m is. tt))

text_within : (w : Text) (s : Spot) → IsInside s → StopsWithin s.source (text_at w s)
unfolding text_at
text_within w s inside =
    test_within s (λ t. same_kind t.kind NameKind && bytes_eq (text_of s t) w) (λ t. past s t >>= with_value (span_of s t)) inside (λ t p. value_within s (span_of s t) t p)

name_within : (s : Spot) → IsInside s → StopsWithin s.source (name_at s)
unfolding name_at
name_within s inside =
    test_within s (λ t. same_kind t.kind NameKind && is_label (unescaped (text_of s t))) (λ t. past s t >>= with_value (name_of s t)) inside (λ t p. value_within s (name_of s t) t p)

other_within : (ws : List Text) (s : Spot) → IsInside s → StopsWithin s.source (name_but_at ws s)
unfolding name_but_at
other_within ws s inside =
    lexed_within s (λ t. cond (is_in (text_of s t) ws) (stop fault.Token t) (name_at s)) inside
    (λ t p. cond_within s.source (is_in (text_of s t) ws) (stop fault.Token t) (name_at s) (p.order, p.within) (name_within s inside))

number_at_within : (s : Spot) → IsInside s → StopsWithin s.source (number_at s)
unfolding number_at
number_at_within s inside =
    let value : Lexeme → ℕ = λ t. digits_value 10 (text_of s t) in
    test_within s (λ t. same_kind t.kind Number) (λ t. cond (nat_lt (value t) 4294967296) (past s t >>= with_value (value t)) (stop fault.Number t)) inside
    (λ t p. cond_within s.source (nat_lt (value t) 4294967296) (past s t >>= with_value (value t)) (stop fault.Number t) (value_within s (value t) t p) (p.order, p.within))

release_within : (s : Spot) (start end : ℕ) (r : Result Release Error) → start ≤ end → end ≤ length s.source → StopsWithin s.source (release_at s start end r)
release_within s start end (Err e) order within = (order, within)
release_within s start end (Ok release) order within =
    let v : Span × Release = (record { start = s.offset + start; end = s.offset + end }, release) in
    bind_within s.source (first_token s.source end) (λ _. with_value v (moved s end)) (token_within s.source end within) (λ t is. tt)

release_to_within : (s : Spot) (t : Lexeme) (r : Result ℕ ℕ) → IsHere s t → version_to s.source t.end ≡ r → StopsWithin s.source (release_to s t.start r)
release_to_within s t (Err at) p is =
    let le = broken_within s.source t.end at p.within is in
    bind_within s.source (first_token s.source at) (λ u. stop {A = (Span × Release) × Spot} fault.Token u) (token_within s.source at le)
    (λ u h. (let q = token_placed s.source at u le h in (q.order, q.within)))
release_to_within s t (Ok end) p is =
    let v = version_placed s.source t.end end p.within is in
    let more = v.0 in
    let order = p.order in
    release_within s t.start end (version_parts (slice_range s.source t.start end)) (omega arith) v.1

version_within : (s : Spot) → IsInside s → StopsWithin s.source (version_at s)
unfolding version_at
version_within s inside =
    test_within s (λ t. same_kind t.kind Number) (λ t. release_to s t.start (version_to s.source t.end)) inside (λ t p. release_to_within s t (version_to s.source t.end) p refl)

docs_within : (s : Spot) → IsInside s → StopsWithin s.source (docs_at s)
unfolding docs_at
docs_within s inside = lexed_within s (λ t. with_value (docs_of s) (moved s t.start)) inside (λ t p. tt)

primitive_with_within : (s : Spot) (t : Lexeme) (p : Option Primitive) → IsHere s t → StopsWithin s.source (primitive_with s t p)
primitive_with_within s t None h = (h.order, h.within)
primitive_with_within s t (Some p) h = value_within s (primitive (span_of s t) p) t h

primitive_within : (s : Spot) → IsInside s → StopsWithin s.source (primitive_at s)
unfolding primitive_at
primitive_within s inside = lexed_within s (λ t. primitive_with s t (primitive_of t.kind)) inside (λ t p. primitive_with_within s t (primitive_of t.kind) p)

deeper_within : (A : Type 0) (ks : List Kind) (s : Spot) → IsInside s → StopsWithin s.source (deeper_at {A = A} ks s)
unfolding deeper_at
deeper_within A ks s inside =
    lexed_within s (λ t. stop {A = A × Spot} (cond (is_among ks t.kind) fault.Nesting fault.Token) t) inside (λ t p. (p.order, p.within))

nothing_within : (A : Type 0) (s : Spot) → IsInside s → StopsWithin s.source (nothing_at {A = A} s)
unfolding nothing_at
nothing_within A s inside = lexed_within s (λ t. stop {A = A × Spot} fault.Token t) inside (λ t p. (p.order, p.within))

-- ---- what is read on from a spot inside the same source
record IsOn (s e : Spot) : Type 0 where
  source : e.source ≡ s.source
  inside : IsInside e

then_on : (s m e : Spot) → IsOn s m → IsOn m e → IsOn s e
then_on s m e a b = record { source = b.source ∙ a.source; inside = b.inside }

read_on : {A : Type 0} (g : Gram A) (s : Spot) (x : A × Spot) → IsInside s → run g s ≡ Ok x → IsOn s x.1
read_on g s x inside h = elim (onward g x.0 s x.1 inside (sound g x.0 s x.1 h)) [
  | inl b ↦ record { source = b.1.source; inside = ahead_inside s x.1 b.1 }
  | inr b ↦ record { source = b.1.source; inside = same_inside s x.1 b.1 }
]

mark_on : (k : Kind) (s e : Spot) → IsInside s → mark_at k s ≡ Ok e → IsOn s e
mark_on k s e inside h =
    let a = (mark_begins k s e inside h).1 in
    record { source = a.source; inside = ahead_inside s e a }

marks_on : (j k : Kind) (s m e : Spot) → IsInside s → mark_at j s ≡ Ok m → mark_at k m ≡ Ok e → IsOn s e
marks_on j k s m e inside h i =
    let a = mark_on j s m inside h in
    then_on s m e a (mark_on k m e a.inside i)

open_on : (opening close : Kind) (s : Spot) (m : Bool × Spot) → IsInside s → open_at opening close s ≡ Ok m → IsOn s m.1
open_on opening close s m inside h = elim (opened opening close s m.1 m.0 h) [ inl o ↦ mark_on opening s m.1 inside o.1 | inr o ↦ marks_on opening close s o.1 m.1 inside o.2 o.3 ]

next_on : (close : Kind) (s : Spot) (m : Bool × Spot) → IsInside s → next_at close s ≡ Ok m → IsOn s m.1
next_on close s m inside h = elim (went_on close s m.1 m.0 h) [
  | inl c ↦ mark_on Comma s m.1 inside c.1
  | inr c ↦ elim c.1 [ inl d ↦ mark_on close s m.1 inside d | inr d ↦ marks_on Comma close s d.0 m.1 inside d.1 d.2 ]
]

-- what stops from there on stops within the source
on_within : {A : Type 0} (s e : Spot) (r : Result A ReadError) → IsOn s e → StopsWithin e.source r → StopsWithin s.source r
on_within s e r on h = subst (λ l. StopsWithin l r) on.source h

-- ---- several
made_within : {A C : Type 0} (source : List ℕ) (r : Read A) (make : A → C) → StopsWithin source r → StopsWithin source (r >>= made make)
made_within source r make h = bind_within source r (made make) h (λ x is. tt)

-- a grammar stops within the source, wherever it begins in it
abbrev AllWithin : {A : Type 0} → Gram A → Type 0
AllWithin g = (s : Spot) → IsInside s → StopsWithin s.source (run g s)

many_within : {A : Type 0} (g : Gram A) → AllWithin g → (n : ℕ) (s : Spot) → IsInside s → StopsWithin s.source (many_at (starts g) (run g) n s)
many_within g is zero s inside = tt
many_within {A} g is (suc n) s inside =
    let rest : A × Spot → Read (List A) = λ x. many_at (starts g) (run g) n x.1 >>= made (λ ys. x.0 ∷ ys) in
    let read : StopsWithin s.source (run g s >>= rest) = bind_within s.source (run g s) rest (is s inside) (λ x h. (
    let on = read_on g s x inside h in
    on_within s x.1 (rest x) on (made_within x.1.source (many_at (starts g) (run g) n x.1) (λ ys. x.0 ∷ ys) (many_within g is n x.1 on.inside)))) in
    cond_within s.source (starts g s) (run g s >>= rest) (with_value [] s) read tt

until_within : {A : Type 0} (g : Gram A) (close : Kind) → AllWithin g → (n : ℕ) (s : Spot) → IsInside s → StopsWithin s.source (until_at (run g) close n s)
unfolding until_at
until_within g close is zero s inside = tt
until_within {A} g close is (suc n) s inside =
    let rest : A × Spot → Read (List A) = λ x. until_at (run g) close n x.1 >>= made (λ ys. x.0 ∷ ys) in
    let read : StopsWithin s.source (run g s >>= rest) = bind_within s.source (run g s) rest (is s inside) (λ x h. (
    let on = read_on g s x inside h in
    on_within s x.1 (rest x) on (made_within x.1.source (until_at (run g) close n x.1) (λ ys. x.0 ∷ ys) (until_within g close is n x.1 on.inside)))) in
    cond_within s.source (closes close s) (with_value [] s) (run g s >>= rest) tt read

-- ---- lists with commas
open_within : (opening close : Kind) (s : Spot) → IsInside s → StopsWithin s.source (open_at opening close s)
unfolding open_at
open_within opening close s inside =
    let goes : Spot → Lexeme → Read Bool = λ a t. cond (same_kind t.kind close) (past a t >>= with_value false) (Ok (true, a)) in
    bind_within s.source (mark_at opening s) (λ a. lexed a >>= goes a) (mark_within opening s inside) (λ a is. (
    let on = mark_on opening s a inside is in
    on_within s a (lexed a >>= goes a) on (lexed_within a (goes a) on.inside
    (λ t p. cond_within a.source (same_kind t.kind close) (past a t >>= with_value false) (with_value true a) (value_within a false t p) tt))))

next_within : (close : Kind) (s : Spot) → IsInside s → StopsWithin s.source (next_at close s)
unfolding next_at
next_within close s inside =
    let shut : Read Bool = mark_at close s >>= with_value false in
    lexed_within s (λ t. cond (same_kind t.kind Comma) (open_at Comma close s) shut) inside
    (λ t p. cond_within s.source (same_kind t.kind Comma) (open_at Comma close s) shut (open_within Comma close s inside)
    (bind_within s.source (mark_at close s) (with_value false) (mark_within close s inside) (λ m is. tt)))

items_within : {A : Type 0} (g : Gram A) (close : Kind) → AllWithin g → (n : ℕ) (more : Bool) (s : Spot) → IsInside s → StopsWithin s.source (items_at (run g) close n (more, s))
unfolding items_at
items_within g close is n false s inside = tt
items_within g close is zero true s inside = tt
items_within {A} g close is (suc n) true s inside =
    let rest : A → Bool × Spot → Read (List A) = λ x m. items_at (run g) close n m >>= made (λ ys. x ∷ ys) in
    bind_within s.source (run g s) (λ x. next_at close x.1 >>= rest x.0) (is s inside) (λ x h. (
    let on = read_on g s x inside h in
    on_within s x.1 (next_at close x.1 >>= rest x.0) on (bind_within x.1.source (next_at close x.1) (rest x.0) (next_within close x.1 on.inside) (λ m k. (
    let go = next_on close x.1 m on.inside k in
    on_within x.1 m.1 (rest x.0 m) go (made_within m.1.source (items_at (run g) close n m) (λ ys. x.0 ∷ ys) (items_within g close is n m.0 m.1 go.inside)))))))

listed_within : {A : Type 0} (g : Gram A) (opening close : Kind) → AllWithin g → (s : Spot) → IsInside s → StopsWithin s.source (listed_at (run g) opening close s)
unfolding listed_at
listed_within {A} g opening close is s inside =
    let rest : Bool × Spot → Read (List A) = λ m. items_at (run g) close (suc (length s.source)) m in
    bind_within s.source (open_at opening close s) rest (open_within opening close s inside) (λ m h. (
    let on = open_on opening close s m inside h in
    on_within s m.1 (rest m) on (items_within g close is (suc (length s.source)) m.0 m.1 on.inside)))

-- ---- of every grammar
within : {A : Type 0} (g : Gram A) (s : Spot) → IsInside s → StopsWithin s.source (run g s)
within (mark k) s inside = bind_within s.source (mark_at k s) (with_value tt) (mark_within k s inside) (λ m is. tt)
within (spanned k) s inside = spanned_within k s inside
within (says w) s inside = text_within w s inside
within name s inside = name_within s inside
within (name_but ws) s inside = other_within ws s inside
within number s inside = number_at_within s inside
within version s inside = version_within s inside
within primitives s inside = primitive_within s inside
within docs s inside = docs_within s inside
within (never {A}) s inside = nothing_within A s inside
within (deeper {A} ks) s inside = deeper_within A ks s inside
within (both {A} {B} {C} f g k) s inside =
    let rest : A × Spot → Read C = λ x. run k x.1 >>= made (f x.0) in
    bind_within s.source (run g s) rest (within g s inside) (λ x h. (
    let on = read_on g s x inside h in
    on_within s x.1 (rest x) on (made_within x.1.source (run k x.1) (f x.0) (within k x.1 on.inside))))
within (act f g) s inside = made_within s.source (run g s) f (within g s inside)
within (either g k) s inside = cond_within s.source (starts g s) (run g s) (run k s) (within g s inside) (within k s inside)
within (opt {A} g) s inside =
    let some : A → Option A = λ x. Some x in
    cond_within s.source (starts g s) (run g s >>= made some) (with_value None s) (made_within s.source (run g s) some (within g s inside)) tt
within (many g) s inside = many_within g (λ m i. within g m i) (suc (length s.source)) s inside
within (until g close) s inside = until_within g close (λ m i. within g m i) (suc (length s.source)) s inside
within (listed opening close g) s inside = listed_within g opening close (λ m i. within g m i) s inside

-- the fault, where it is one
pub fault_within : {A : Type 0} (g : Gram A) (s : Spot) (e : ReadError) → IsInside s → Stops (run g s) e → IsWithin s.source e
fault_within {A} g s (Fault f from to) inside h = subst (λ (r : Read A). StopsWithin s.source r) h (within g s inside)
fault_within g s OutOfMemory inside h = tt

pub faults_lie_within : FaultsLieWithin
faults_lie_within source offset f from to h = fault_within file (first_spot source offset) (Fault f from to) (omega arith) h
