-- Numbers of 32 bits.
use Rattle.std.proofs.Common.{◌≡◌, ℕ, zero, suc, ◌+◌, ◌-◌, ◌<◌, ◌≤◌, ◌^◌, List, length, drop, take, ap, ◌∙◌, sym, arith, refl, true, inl, inr}
use Rattle.std.specs.Prelude.{Result, Ok, Err, slice_index, slice_range}
use Rattle.std.specs.Char.{is_ascii_digit}
use Rattle.std.specs.Result.{OkIff}
use Rattle.std.specs.Str.{all_ascii_digits}
use Rattle.std.specs.Str.Parse.{ParsesUnsigned, digits_value}
use Rattle.std.proofs.Math.Logic.{∥∥₁_elim}
use Rattle.std.proofs.Props.{props}
use Rattle.std.proofs.lemmas.Bool.{and_from, cases_lt, lt-ltb, le-ltb, true≢false}
use Rattle.std.proofs.lemmas.List.{drop_more, get_or_past, length-drop, length-take-le}
use Rattle.std.proofs.lemmas.Str.Parse.{IsNumeralModel, numerals_by_value, tells_all_ascii_digits, parse_digits}
use Rattle.wit_lex.specs.declared.fault.ReadError.{ReadError}
use Rattle.wit_lex.specs.declared.fault.ReadError.TheVariants.{Fault, OutOfMemory}
use Rattle.wit_lex.specs.declared.fault.ReadFault.TheVariants as fault
use Rattle.wit_lex.specs.declared.kind.Kind.TheVariants.{Number}
use Rattle.wit_lex.specs.Lexis.{Lexeme, Stops, lexeme}
use Rattle.wit_lex.specs.Starts.{IsRun}
use Rattle.wit_lex.specs.Tokens.{IsFound}
use Rattle.wit_grammar.specs.Leaves.{Spot, lexed, past, text_of, number_at}
use Rattle.wit_reader.specs.declared.reader.Reader.{Reader}
use Rattle.wit_reader.specs.Reading.{Parses, Passes, spot}
use Rattle.wit_reader.proofs.KindCodes.{same}

run_digits : (source : List ℕ) (start n : ℕ) → start + n ≤ length source → ((i : ℕ) → start ≤ i → i < start + n → is_ascii_digit (slice_index source i) ≡ true) → all_ascii_digits (take n (drop start source)) ≡ true
run_digits source start zero within inside = refl
run_digits source start (suc n) within inside =
    ap (λ (xs : List ℕ). all_ascii_digits (take (suc n) xs)) (drop_more source start 0 (omega arith))
    ∙ and_from (is_ascii_digit (slice_index source start)) (all_ascii_digits (take n (drop (start + 1) source))) (inside start (omega arith) (omega arith))
    (run_digits source (start + 1) n (omega arith) (λ i low high. inside i (omega arith) (omega arith)))

-- a run of digits that begins with one is not empty
some_digits : (source : List ℕ) (start end : ℕ) → is_ascii_digit (slice_index source start) ≡ true → IsRun is_ascii_digit source start end → start < end
some_digits source start end digit run = elim (cases_lt start end) [
  | inl lt ↦ lt
  | inr ge ↦ (
      let order = run.order in
      let empty : start ≡ end = omega arith in
      elim (cases_lt end (length source)) [
        | inl lt ↦ absurd (true≢false (sym (rw empty at digit) ∙ run.stop lt))
        | inr none ↦ absurd (true≢false (sym digit ∙ ap is_ascii_digit (get_or_past source start 0 (omega arith))))
      ]
      )
]

own : IsNumeralModel (λ ds. all_ascii_digits ds ≡ true) (digits_value 10)
own = numerals_by_value (λ ds. all_ascii_digits ds ≡ true) tells_all_ascii_digits

weaker : {T E : Type 0} (r : Result T E) (P Q : Type 0) (v : T) → (P → Q) → (Q → P) → OkIff r P v → OkIff r Q v
weaker (Ok x) P Q v f g h = (f h.0, h.1)
weaker (Err e) P Q v f g h = λ q. h (g q)

decided : {E : Type 0} (text : List ℕ) (r : Result ℕ E) → all_ascii_digits text ≡ true → 0 < length text → ParsesUnsigned 32 10 text r → OkIff r (digits_value 10 text < 2 ^ 32) (digits_value 10 text)
decided text r digits some h =
    weaker r ((0 < length text) × (digits_value 10 text < 2 ^ 32)) (digits_value 10 text < 2 ^ 32) (digits_value 10 text) (λ p. p.1) (λ small. (some, small)) (parse_digits own 32 text r h digits)

number_text : (source text : List ℕ) (start end : ℕ) → text ≡ slice_range source start end → end ≤ length source → IsFound source start end text Number → (all_ascii_digits text ≡ true) × (0 < length text)
number_text source text start end whole within found =
    let some = some_digits source start end found.0 found.1 in
    let long : length (take (end - start) (drop start source)) ≡ end - start = length-take-le (end - start) (drop start source) (rw length-drop (omega arith)) in
    let digits = run_digits source start (end - start) (omega arith) (λ i low high. found.1.inside i low (omega arith)) in
    (ap all_ascii_digits whole ∙ digits, rw whole (omega arith))

-- what std reads of a token of digits
pub number_parsed : {E : Type 0} (r : Reader) (answer : Result ℕ E) → r.token.kind ≡ Number → ParsesUnsigned 32 10 r.token.text.now answer →
    OkIff answer (digits_value 10 r.token.text.now < 2 ^ 32) (digits_value 10 r.token.text.now)
number_parsed r answer kind h =
    let text : (all_ascii_digits r.token.text.now ≡ true) × (0 < length r.token.text.now) =
    ∥∥₁_elim r.found (hlevel props) (λ f. number_text r.source.now r.token.text.now r.token.start r.token.end r.within.text r.within.within (rw kind at f)) in
    decided r.token.text.now answer text.0 text.1 h

number_goes : (s next : Spot) (t : Lexeme) → lexed s ≡ Ok t → t.kind ≡ Number → digits_value 10 (text_of s t) < 4294967296 → past s t ≡ Ok next → number_at s ≡ Ok (digits_value 10 (text_of s t), next)
unfolding number_at
number_goes s next t lex kind small goes = rw (lex, same t.kind Number kind, lt-ltb (digits_value 10 (text_of s t)) 4294967296 small, goes) refl

number_stops : (s : Spot) (t : Lexeme) (e : ReadError) → lexed s ≡ Ok t → t.kind ≡ Number → digits_value 10 (text_of s t) < 4294967296 → past s t ≡ Err e → number_at s ≡ Err e
unfolding number_at
number_stops s t e lex kind small goes = rw (lex, same t.kind Number kind, lt-ltb (digits_value 10 (text_of s t)) 4294967296 small, goes) refl

number_large : (s : Spot) (t : Lexeme) → lexed s ≡ Ok t → t.kind ≡ Number → 4294967296 ≤ digits_value 10 (text_of s t) → number_at s ≡ Err (Fault fault.Number t.start t.end)
unfolding number_at
number_large s t lex kind large = rw (lex, same t.kind Number kind, le-ltb (digits_value 10 (text_of s t)) 4294967296 large) refl

-- a number that fits was read
pub number_read_at : {a b : Reader} (n : ℕ) → a.token.kind ≡ Number → (digits_value 10 a.token.text.now < 2 ^ 32) × (n ≡ digits_value 10 a.token.text.now) → Passes a (past (spot a) (lexeme a.token)) b →
    Parses a (number_at (spot a)) n b
number_read_at {a} {b} n kind fits p =
    let text = a.within.text in
    let value : digits_value 10 a.token.text.now ≡ digits_value 10 (text_of (spot a) (lexeme a.token)) = ap (digits_value 10) text in
    let small = fits.0 in
    record {
      source = p.source;
      offset = p.offset;
      onward = p.onward;
      parses = number_goes (spot a) (spot b) (lexeme a.token) a.next kind (omega arith) p.passes ∙ ap (λ v. Ok (v, spot b)) (sym (fits.1 ∙ value));
    }

-- what follows it stops
pub number_stops_after : (r : Reader) (e : ReadError) → r.token.kind ≡ Number → digits_value 10 r.token.text.now < 2 ^ 32 → Stops (past (spot r) (lexeme r.token)) e → Stops (number_at (spot r)) e
number_stops_after r (Fault f a b) kind small h = number_stops (spot r) (lexeme r.token) (Fault f a b) r.next kind (rw (sym r.within.text) small) h
number_stops_after r OutOfMemory kind small h = tt

-- it fits no 32 bits
pub number_stops_large : (r : Reader) → r.token.kind ≡ Number → (digits_value 10 r.token.text.now < 2 ^ 32 → ⊥) → Stops (number_at (spot r)) (Fault fault.Number r.token.start r.token.end)
number_stops_large r kind large = number_large (spot r) (lexeme r.token) r.next kind (rw (sym r.within.text) not_small)
  where
    not_small : 4294967296 ≤ digits_value 10 r.token.text.now
    not_small = elim (cases_lt (digits_value 10 r.token.text.now) 4294967296) [
      | inl lt ↦ absurd (large lt)
      | inr ge ↦ ge
    ]
