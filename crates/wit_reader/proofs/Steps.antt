-- Past a token.
use Rattle.std.proofs.Common.{◌≡◌, ℕ, List, Bool, true, false, ap, sym, refl}
use Rattle.std.specs.Prelude.{Result, Ok, Err, ◌&&◌, if◌then◌else◌}
use Rattle.std.specs.Str.{bytes_eq}
use Rattle.std.proofs.lemmas.Bool.{eq-eqb, ne_eqb}
use Rattle.wit_values.specs.declared.span.Span.{Span}
use Rattle.wit_lex.specs.declared.fault.ReadError.{ReadError}
use Rattle.wit_lex.specs.declared.fault.ReadError.TheVariants.{Fault, OutOfMemory}
use Rattle.wit_lex.specs.declared.fault.ReadFault.TheVariants as fault
use Rattle.wit_lex.specs.declared.kind.Kind.TheVariants.{Name}
use Rattle.wit_lex.specs.Lexis.{Lexeme, Stops, first_token}
use Rattle.wit_grammar.specs.TokenKinds.{same_kind}
use Rattle.wit_grammar.specs.Leaves.{Spot, Read, lexed, past, moved, span_of, stop, text_at, text_of, ◌>>=◌}

pub past_end : (s : Spot) (t : Lexeme) → t.start ≡ t.end → past s t ≡ Err (Fault fault.Token t.start t.end)
unfolding past
past_end s t e = rw (eq-eqb t.start t.end e) refl

pub past_next : (s : Spot) (t next : Lexeme) → (t.start ≡ t.end → ⊥) → first_token s.source t.end ≡ Ok next → past s t ≡ Ok (moved s t.end)
unfolding past
past_next s t next n e = rw (ne_eqb t.start t.end n) (rw e refl)

past_fault : (s : Spot) (t : Lexeme) (e : ReadError) → (t.start ≡ t.end → ⊥) → first_token s.source t.end ≡ Err e → past s t ≡ Err e
unfolding past
past_fault s t e n h = rw (ne_eqb t.start t.end n) (rw h refl)

-- what is no token stops the reader
pub past_stops : (s : Spot) (t : Lexeme) (e : ReadError) → (t.start ≡ t.end → ⊥) → first_token s.source t.end ≡ Err e → Stops (past s t) e
past_stops s t (Fault f a b) n h = past_fault s t (Fault f a b) n h
past_stops s t OutOfMemory n h = tt

abbrev value_or : Span → Read Span → Span
value_or span (Ok x) = x.0
value_or span (Err e) = span

the_span : (s end : Spot) (t : Lexeme) (b : Bool) (p : Result Spot ReadError) (it : Span) → (if b then ◌>>=◌ {B = Span × Spot} p (λ next. Ok (span_of s t, next)) else stop fault.Token t) ≡ Ok (it, end) → it ≡ span_of s t
the_span s end t true (Ok next) it h = ap (value_or (span_of s t)) (sym h)
the_span s end t true (Err e) it h = ap (value_or (span_of s t)) (sym h)
the_span s end t false p it h = ap (value_or (span_of s t)) (sym h)

-- a name that is read is where the token is
pub text_span : (s end : Spot) (t : Lexeme) (w : List ℕ) (it : Span) → lexed s ≡ Ok t → text_at w s ≡ Ok (it, end) → it ≡ span_of s t
unfolding text_at
text_span s end t w it lex h = the_span s end t (same_kind t.kind Name && bytes_eq (text_of s t) w) (past s t) it (rw lex at h)
