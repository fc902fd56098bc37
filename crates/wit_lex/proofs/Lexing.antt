-- What the scanner finds is the first token of the source, or its fault, as the functions of `Lexis` have them.
use Rattle.std.proofs.Common.{◌≡◌, ℕ, zero, suc, ◌+◌, ◌-◌, ◌<◌, ◌≤◌, List, [], ◌∷◌, length, drop, ap, ◌∙◌, sym, subst, arith, refl, true, false, Bool, inl, inr}
use Rattle.std.specs.Prelude.{Ok, Err, Result, ◌==◌, ◌&&◌, ◌||◌, slice_index, slice_range}
use Rattle.std.specs.Char.{is_ascii_digit}
use Rattle.std.specs.Str.{bytes_eq}
use Rattle.std.proofs.lemmas.Bool.{cases_lt, and_parts, eqb-true, ne_eqb, false_from_ne_true, agree_below_at, or_parts, and_from, true≢false}
use Rattle.std.proofs.lemmas.List.{drop_all, get_or_past, length-drop}
use Rattle.std.proofs.lemmas.Slice.Eq.{bytes_eq-Decides}
use Rattle.wit_type_tree.specs.Comments.{IsNested, IsStop, is_blank}
use Rattle.wit_lex.specs.Blanks.{IsFirst, IsSkipped, Here, PastBlank, PastComment, IsEndless}
use Rattle.wit_lex.specs.TextFaults.{IsUnread}
use Rattle.wit_lex.specs.Starts.{IsEscaped, IsRun, IsStrange, is_letter, is_in_word, is_sign}
use Rattle.wit_lex.specs.Tokens.{IsFound, IsToken}
use Rattle.wit_lex.specs.Words.{IsPlain, word_text}
use Rattle.wit_lex.specs.declared.fault.ReadError.{ReadError}
use Rattle.wit_lex.specs.declared.fault.ReadError.TheVariants.{Fault, OutOfMemory}
use Rattle.wit_lex.specs.declared.fault.ReadFault.TheVariants as fault
use Rattle.wit_lex.specs.declared.kind.Kind.{Kind}
use Rattle.wit_lex.specs.declared.kind.Kind.TheVariants as kind
use Rattle.wit_lex.specs.declared.token.Token.{Token}
use Rattle.wit_lex.specs.declared.word.Word.{Word}
use Rattle.wit_lex.specs.declared.word.Word.TheVariants as word
use Rattle.wit_lex.proofs.Walking.{IsWalk, blank_passed, comment_passed, left, more, nested_on, next_byte, no_pair, pair_rest}
use Rattle.wit_lex.specs.Lexis.{between, in_line, in_block, skipped, run_end, words, word_among, word_kind, sign_kind, lexeme, no_token, arrow_or_escaped, word_token, token_here, token_after, first_token}

walk_blank : (at c : ℕ) (rest : List ℕ) → is_blank c ≡ true → skipped between at (c ∷ rest) ≡ skipped between (at + 1) rest
unfolding skipped
walk_blank at c [] b = rw b refl
walk_blank at c (d ∷ rest) b = rw b refl

walk_line : (at : ℕ) (rest : List ℕ) → skipped between at (47 ∷ 47 ∷ rest) ≡ skipped (in_line at) (at + 1 + 1) rest
unfolding skipped
walk_line at rest = refl

walk_on_line : (start at c : ℕ) (rest : List ℕ) → (c ≡ 10 → ⊥) → skipped (in_line start) at (c ∷ rest) ≡ skipped (in_line start) (at + 1) rest
unfolding skipped
walk_on_line start at c rest n = rw (ne_eqb c 10 n) refl

walk_line_end : (start at : ℕ) (rest : List ℕ) → skipped (in_line start) at (10 ∷ rest) ≡ skipped between at (10 ∷ rest)
unfolding skipped
walk_line_end start at [] = refl
walk_line_end start at (d ∷ rest) = refl

walk_last_line : (start at : ℕ) → skipped (in_line start) at [] ≡ skipped between at []
unfolding skipped
walk_last_line start at = refl

walk_block : (at : ℕ) (rest : List ℕ) → skipped between at (47 ∷ 42 ∷ rest) ≡ skipped (in_block at 0) (at + 2) rest
unfolding skipped
walk_block at rest = refl

walk_deeper : (start n at : ℕ) (rest : List ℕ) → skipped (in_block start n) at (47 ∷ 42 ∷ rest) ≡ skipped (in_block start (suc n)) (at + 2) rest
unfolding skipped
walk_deeper start zero at rest = refl
walk_deeper start (suc n) at rest = refl

walk_closed : (start n at : ℕ) (rest : List ℕ) → skipped (in_block start (suc n)) at (42 ∷ 47 ∷ rest) ≡ skipped (in_block start n) (at + 2) rest
unfolding skipped
walk_closed start n at rest = refl

walk_block_end : (start at : ℕ) (rest : List ℕ) → skipped (in_block start 0) at (42 ∷ 47 ∷ rest) ≡ skipped between (at + 2) rest
unfolding skipped
walk_block_end start at rest = refl

walk_inside : (start n at c : ℕ) (rest : List ℕ) → ((d : ℕ) (r : List ℕ) → rest ≡ d ∷ r → ((c == 42 && d == 47) ≡ false) × ((c == 47 && d == 42) ≡ false)) →
    skipped (in_block start n) at (c ∷ rest) ≡ skipped (in_block start n) (at + 1) rest
unfolding skipped
walk_inside start zero at c [] h = refl
walk_inside start (suc n) at c [] h = refl
walk_inside start zero at c (d ∷ r) h = let none = h d r refl in rw (none.0, none.1) refl
walk_inside start (suc n) at c (d ∷ r) h = let none = h d r refl in rw (none.0, none.1) refl

-- nothing is gathered
abbrev keep : ℕ → ℕ → Result ℕ ℕ → Result ℕ ℕ
keep start end r = r

skips : IsWalk skipped keep
skips = record {
  blank = walk_blank;
  line = walk_line;
  on_line = walk_on_line;
  line_end = walk_line_end;
  last_line = walk_last_line;
  block = walk_block;
  deeper = walk_deeper;
  closed = walk_closed;
  block_end = walk_block_end;
  inside = walk_inside;
}

pub skipped_by : (source : List ℕ) (from at : ℕ) → IsSkipped source from at → skipped between from (drop from source) ≡ skipped between at (drop at source)
skipped_by source from _ Here = refl
skipped_by source from _ (PastBlank at h lt blank) = skipped_by source from at h ∙ blank_passed skipped keep skips source at lt blank
skipped_by source from _ (PastComment at end h c) = skipped_by source from at h ∙ comment_passed skipped keep skips source at end c

stop_on : (at c : ℕ) (rest : List ℕ) → is_blank c ≡ false → ((d : ℕ) (r : List ℕ) → rest ≡ d ∷ r → ((c == 47 && d == 47) ≡ false) × ((c == 47 && d == 42) ≡ false)) → skipped between at (c ∷ rest) ≡ Ok at
unfolding skipped
stop_on at c [] b h = rw b refl
stop_on at c (d ∷ r) b h = let none = h d r refl in rw (b, none.0, none.1) refl

end_on : (at : ℕ) → skipped between at [] ≡ Ok at
unfolding skipped
end_on at = refl

pub stopped : (source : List ℕ) (at : ℕ) → IsStop source at → skipped between at (drop at source) ≡ Ok at
stopped source at s = elim (cases_lt at (length source)) [
  | inl lt ↦ ap (skipped between at) (more source at lt)
      ∙ stop_on at (slice_index source at) (drop (at + 1) source) (false_from_ne_true _ (s.blank lt)) (λ d r e. (no_pair source at 47 47 d r s.line e, no_pair source at 47 42 d r s.block e))
  | inr ge ↦ rw (drop_all at source ge) (end_on at)
]

last_on : (start n place : ℕ) (rest : List ℕ) → length rest ≤ 1 → skipped (in_block start n) place rest ≡ Err start
unfolding skipped
last_on start zero place [] h = refl
last_on start (suc n) place [] h = refl
last_on start zero place (c ∷ []) h = refl
last_on start (suc n) place (c ∷ []) h = refl
last_on start n place (c ∷ d ∷ r) h = absurd (omega arith)

short : (source : List ℕ) (place : ℕ) → length source ≤ place + 1 → length (drop place source) ≤ 1
short source place last = rw (length-drop place source) (omega arith)

open_endless : (source : List ℕ) (at depth place : ℕ) → IsNested source at depth place → 0 < depth → length source ≤ place + 1 → skipped between at (drop at source) ≡ Err at
unfolding left
open_endless source at zero place h some last = absurd (omega arith)
open_endless source at (suc n) place h some last = nested_on skipped keep skips source at (suc n) place h ∙ last_on at n place (drop place source) (short source place last)

endless : (source : List ℕ) (at : ℕ) → IsEndless source at → skipped between at (drop at source) ≡ Err at
endless source at e = open_endless source at e.depth e.place e.nested e.some e.last

run_stop : (test : ℕ → Bool) (at c : ℕ) (rest : List ℕ) → test c ≡ false → run_end test at (c ∷ rest) ≡ at
unfolding run_end
run_stop test at c rest h = rw h refl

run_none : (test : ℕ → Bool) (at : ℕ) → run_end test at [] ≡ at
unfolding run_end
run_none test at = refl

run_step : (test : ℕ → Bool) (at c : ℕ) (rest : List ℕ) → test c ≡ true → run_end test at (c ∷ rest) ≡ run_end test (at + 1) rest
unfolding run_end
run_step test at c rest h = rw h refl

run_on : (test : ℕ → Bool) (source : List ℕ) (at end n : ℕ) → at + n ≡ end → end ≤ length source → ((i : ℕ) → at ≤ i → i < end → test (slice_index source i) ≡ true) → (end < length source → test (slice_index source end) ≡ false) →
    run_end test at (drop at source) ≡ end
run_on test source at end zero e within inside last =
    let same : end ≡ at = omega arith in
    subst (λ i. run_end test i (drop i source) ≡ end) same (elim (cases_lt end (length source)) [
      | inl lt ↦ ap (run_end test end) (more source end lt) ∙ run_stop test end (slice_index source end) (drop (end + 1) source) (last lt)
      | inr ge ↦ ap (run_end test end) (drop_all end source ge) ∙ run_none test end
    ])
run_on test source at end (suc n) e within inside last =
    ap (run_end test at) (more source at (omega arith)) ∙ run_step test at (slice_index source at) (drop (at + 1) source) (inside at (omega arith) (omega arith))
    ∙ run_on test source (at + 1) end n (omega arith) within (λ i low high. inside i (omega arith) high) last

pub run_is : (test : ℕ → Bool) (source : List ℕ) (at end : ℕ) → IsRun test source at end → run_end test at (drop at source) ≡ end
run_is test source at end r = let order = r.order in run_on test source at end (end - at) (omega arith) r.within r.inside r.stop

-- a place where some byte is is within the source
within_at : (test : ℕ → Bool) (source : List ℕ) (at : ℕ) → test 0 ≡ false → test (slice_index source at) ≡ true → at < length source
within_at test source at z h = elim (cases_lt at (length source)) [
  | inl lt ↦ lt
  | inr ge ↦ absurd (true≢false (sym h ∙ ap test (get_or_past source at 0 ge) ∙ z))
]

named_kind : (w : Word) → word_kind (word_text w) ≡ kind.Word w
unfolding word_kind
named_kind word.Use = refl
named_kind word.Type = refl
named_kind word.Func = refl
named_kind word.Async = refl
named_kind word.Resource = refl
named_kind word.Own = refl
named_kind word.Borrow = refl
named_kind word.Record = refl
named_kind word.Flags = refl
named_kind word.Variant = refl
named_kind word.Enum = refl
named_kind word.Bool = refl
named_kind word.U8 = refl
named_kind word.U16 = refl
named_kind word.U32 = refl
named_kind word.U64 = refl
named_kind word.S8 = refl
named_kind word.S16 = refl
named_kind word.S32 = refl
named_kind word.S64 = refl
named_kind word.F32 = refl
named_kind word.F64 = refl
named_kind word.Char = refl
named_kind word.String = refl
named_kind word.Option = refl
named_kind word.Result = refl
named_kind word.Future = refl
named_kind word.Stream = refl
named_kind word.List = refl
named_kind word.Map = refl
named_kind word.Tuple = refl
named_kind word.ErrorContext = refl
named_kind word.As = refl
named_kind word.Static = refl
named_kind word.Interface = refl
named_kind word.Import = refl
named_kind word.Export = refl
named_kind word.World = refl
named_kind word.Package = refl
named_kind word.Constructor = refl
named_kind word.Include = refl
named_kind word.With = refl

plain_among : (ws : List Word) (text : List ℕ) → IsPlain text → word_among ws text ≡ kind.Name
plain_among [] text h = refl
plain_among (w ∷ ws) text h = rw (false_from_ne_true (bytes_eq text (word_text w)) (λ e. h w ((bytes_eq-Decides text (word_text w)).0 e))) (plain_among ws text h)

plain_kind : (text : List ℕ) → IsPlain text → word_kind text ≡ kind.Name
unfolding word_kind
plain_kind text h = plain_among words text h

letter_begun : (source : List ℕ) (at c : ℕ) (rest : List ℕ) → is_letter c ≡ true → token_here source at (c ∷ rest) ≡ Ok (word_token source at (run_end is_in_word at (c ∷ rest)))
letter_begun source at c rest h = rw h refl

sign_begun : (source : List ℕ) (at c : ℕ) (rest : List ℕ) → is_letter c ≡ false → is_sign c ≡ true → token_here source at (c ∷ rest) ≡ Ok (record { kind = sign_kind c; start = at; end = at + 1 })
sign_begun source at c rest h k = rw (h, k) refl

digit_begun : (source : List ℕ) (at c : ℕ) (rest : List ℕ) → is_letter c ≡ false → is_sign c ≡ false → is_ascii_digit c ≡ true → token_here source at (c ∷ rest) ≡ Ok (record { kind = kind.Number; start = at; end = run_end is_ascii_digit at (c ∷ rest) })
digit_begun source at c rest h k d = rw (h, k, d) refl

other_begun : (source : List ℕ) (at c : ℕ) (rest : List ℕ) → is_letter c ≡ false → is_sign c ≡ false → is_ascii_digit c ≡ false → token_here source at (c ∷ rest) ≡ arrow_or_escaped source at c rest
other_begun source at c rest h k d = rw (h, k, d) refl

found_letter : (source : List ℕ) (start end : ℕ) (k : Kind) → is_letter (slice_index source start) ≡ true → IsRun is_in_word source start end → word_kind (slice_range source start end) ≡ k →
    token_here source start (drop start source) ≡ Ok (record { kind = k; start = start; end = end })
found_letter source start end k letter run named =
    let rest = more source start (within_at is_letter source start refl letter) in
    ap (token_here source start) rest ∙ letter_begun source start (slice_index source start) (drop (start + 1) source) letter
    ∙ ap (λ e. Ok (word_token source start e)) (ap (run_end is_in_word start) (sym rest) ∙ run_is is_in_word source start end run)
    ∙ ap (λ n. Ok (record { kind = n; start = start; end = end })) named

found_sign : (source : List ℕ) (start end c : ℕ) (k : Kind) → slice_index source start ≡ c × (end ≡ start + 1) → is_letter c ≡ false → is_sign c ≡ true → (c ≡ 0 → ⊥) → sign_kind c ≡ k →
    token_here source start (drop start source) ≡ Ok (record { kind = k; start = start; end = end })
found_sign source start end c k h letter sign some named = elim (cases_lt start (length source)) [
  | inl lt ↦ ap (token_here source start) (more source start lt ∙ ap (λ b. b ∷ drop (start + 1) source) h.0) ∙ sign_begun source start c (drop (start + 1) source) letter sign
      ∙ ap (λ n. Ok (record { kind = n; start = start; end = start + 1 })) named ∙ ap (λ e. Ok (record { kind = k; start = start; end = e })) (sym h.1)
  | inr ge ↦ absurd (some (sym h.0 ∙ get_or_past source start 0 ge))
]

digit_only : (c : ℕ) → c < 128 → is_ascii_digit c ≡ true → (is_letter c ≡ false) × (is_sign c ≡ false)
digit_only c low digit = or_parts (is_letter c) (is_sign c) (false_from_ne_true _ (λ e. true≢false (sym (both digit e) ∙ agree_below_at (λ b. is_ascii_digit b && (is_letter b || is_sign b)) (λ b. false) 128 c refl low)))
  where
    both : is_ascii_digit c ≡ true → (is_letter c || is_sign c) ≡ true → (is_ascii_digit c && (is_letter c || is_sign c)) ≡ true
    both d e = and_from _ _ d e

found_number : (source : List ℕ) (start end : ℕ) → slice_index source start < 128 → is_ascii_digit (slice_index source start) ≡ true → IsRun is_ascii_digit source start end →
    token_here source start (drop start source) ≡ Ok (record { kind = kind.Number; start = start; end = end })
found_number source start end low digit run =
    let rest = more source start (within_at is_ascii_digit source start refl digit) in
    let only = digit_only (slice_index source start) low digit in
    ap (token_here source start) rest ∙ digit_begun source start (slice_index source start) (drop (start + 1) source) only.0 only.1 digit
    ∙ ap (λ e. Ok (record { kind = kind.Number; start = start; end = e })) (ap (run_end is_ascii_digit start) (sym rest) ∙ run_is is_ascii_digit source start end run)

escaped_paired : (source : List ℕ) (at d : ℕ) (rest : List ℕ) → is_letter d ≡ true → arrow_or_escaped source at 37 (d ∷ rest) ≡ Ok (record { kind = kind.Name; start = at; end = run_end is_in_word (at + 1) (d ∷ rest) })
escaped_paired source at d rest h = rw h refl

found_escaped : (source : List ℕ) (start end : ℕ) → IsEscaped source start end → token_here source start (drop start source) ≡ Ok (record { kind = kind.Name; start = start; end = end })
found_escaped source start end e =
    let room = within_at is_letter source (start + 1) refl e.letter in
    let rest = more source (start + 1) room in
    ap (token_here source start) (more source start (omega arith) ∙ ap (λ c. c ∷ drop (start + 1) source) e.prefix) ∙ other_begun source start 37 (drop (start + 1) source) refl refl refl
    ∙ ap (arrow_or_escaped source start 37) rest ∙ escaped_paired source start (slice_index source (start + 1)) (drop (start + 1 + 1) source) e.letter
    ∙ ap (λ n. Ok (record { kind = kind.Name; start = start; end = n })) (ap (run_end is_in_word (start + 1)) (sym rest) ∙ run_is is_in_word source (start + 1) end e.run)

found : (source : List ℕ) (start end : ℕ) (text : List ℕ) (k : Kind) → (k ≡ kind.Number → slice_index source start < 128) → text ≡ slice_range source start end → IsFound source start end text k →
    token_here source start (drop start source) ≡ Ok (record { kind = k; start = start; end = end })
found source start end text (kind.Word w) low same f = found_letter source start end (kind.Word w) f.0 f.1 (ap word_kind (sym same ∙ f.2) ∙ named_kind w)
found source start end text kind.Name low same (inl f) = found_letter source start end kind.Name f.0 f.1 (ap word_kind (sym same) ∙ plain_kind text f.2)
found source start end text kind.Name low same (inr f) = found_escaped source start end f
found source start end text kind.Number low same f = found_number source start end (low refl) f.0 f.1
found source start end text kind.Arrow low same f = ap (token_here source start) (pair_rest source start 45 62 f.0) ∙ ap (λ e. Ok (record { kind = kind.Arrow; start = start; end = e })) (sym f.1)
found source start end text kind.End low same f = ap (token_here source start) (drop_all start source (let e = f.0 in omega arith)) ∙ ap (λ e. Ok (record { kind = kind.End; start = start; end = e })) (sym f.1)
found source start end text kind.Equals low same f = found_sign source start end 61 kind.Equals f refl refl (λ z. (let n = z in absurd (omega arith))) refl
found source start end text kind.Comma low same f = found_sign source start end 44 kind.Comma f refl refl (λ z. (let n = z in absurd (omega arith))) refl
found source start end text kind.Colon low same f = found_sign source start end 58 kind.Colon f refl refl (λ z. (let n = z in absurd (omega arith))) refl
found source start end text kind.Semicolon low same f = found_sign source start end 59 kind.Semicolon f refl refl (λ z. (let n = z in absurd (omega arith))) refl
found source start end text kind.OpenParen low same f = found_sign source start end 40 kind.OpenParen f refl refl (λ z. (let n = z in absurd (omega arith))) refl
found source start end text kind.CloseParen low same f = found_sign source start end 41 kind.CloseParen f refl refl (λ z. (let n = z in absurd (omega arith))) refl
found source start end text kind.OpenBrace low same f = found_sign source start end 123 kind.OpenBrace f refl refl (λ z. (let n = z in absurd (omega arith))) refl
found source start end text kind.CloseBrace low same f = found_sign source start end 125 kind.CloseBrace f refl refl (λ z. (let n = z in absurd (omega arith))) refl
found source start end text kind.OpenAngle low same f = found_sign source start end 60 kind.OpenAngle f refl refl (λ z. (let n = z in absurd (omega arith))) refl
found source start end text kind.CloseAngle low same f = found_sign source start end 62 kind.CloseAngle f refl refl (λ z. (let n = z in absurd (omega arith))) refl
found source start end text kind.Dot low same f = found_sign source start end 46 kind.Dot f refl refl (λ z. (let n = z in absurd (omega arith))) refl
found source start end text kind.Slash low same f = found_sign source start end 47 kind.Slash f refl refl (λ z. (let n = z in absurd (omega arith))) refl
found source start end text kind.At low same f = found_sign source start end 64 kind.At f refl refl (λ z. (let n = z in absurd (omega arith))) refl
found source start end text kind.Underscore low same f = found_sign source start end 95 kind.Underscore f refl refl (λ z. (let n = z in absurd (omega arith))) refl

pub next_lexed : (source : List ℕ) (from : ℕ) (t : Token) → IsToken source t → IsFirst source from t.start → IsFound source t.start t.end t.text.now t.kind → first_token source from ≡ Ok (lexeme t)
unfolding first_token
next_lexed source from t token first there =
    ap (token_after source) (skipped_by source from t.start first.skipped ∙ stopped source t.start first.stop) ∙ found source t.start t.end t.text.now t.kind token.digit token.text there

strange_paired : (source : List ℕ) (at c : ℕ) (rest : List ℕ) → ((d : ℕ) (r : List ℕ) → rest ≡ d ∷ r → ((c == 45 && d == 62) ≡ false) × ((c == 37 && is_letter d) ≡ false)) → arrow_or_escaped source at c rest ≡ no_token source at c
strange_paired source at c [] h = refl
strange_paired source at c (d ∷ r) h = let none = h d r refl in rw (none.0, none.1) refl

found_strange : (source : List ℕ) (start end : ℕ) → IsStrange source start end → token_here source start (drop start source) ≡ Err (Fault fault.Character start end)
found_strange source start end s =
    ap (token_here source start) (more source start s.within) ∙ other_begun source start (slice_index source start) (drop (start + 1) source) s.start.letter s.sign s.start.digit
    ∙ strange_paired source start (slice_index source start) (drop (start + 1) source) (λ d r e. (no_pair source start 45 62 d r s.start.arrow e, no_escape d r e))
    ∙ ap (λ n. Err (Fault fault.Character start n)) (sym s.whole)
  where
    no_escape : (d : ℕ) (r : List ℕ) → drop (start + 1) source ≡ d ∷ r → (slice_index source start == 37 && is_letter d) ≡ false
    no_escape d r e =
        let next = next_byte source (start + 1) d r e in
        false_from_ne_true _ (λ h. (
        let both = and_parts _ _ h in
        s.start.escape (eqb-true (slice_index source start) 37 both.0) next.0 (ap is_letter next.1 ∙ both.1)))

pub next_unlexed : (source : List ℕ) (from : ℕ) (e : ReadError) → IsUnread source from e → first_token source from ≡ Err e
unfolding first_token
next_unlexed source from (Fault fault.Character start end) u = ap (token_after source) (skipped_by source from start u.0.skipped ∙ stopped source start u.0.stop) ∙ found_strange source start end u.1
next_unlexed source from (Fault fault.Comment start end) u =
    ap (token_after source) (skipped_by source from start u.0 ∙ endless source start u.1) ∙ ap (λ n. Err (Fault fault.Comment start n)) (sym u.2)
next_unlexed source from (Fault fault.Token start end) u = absurd u
next_unlexed source from (Fault fault.Nesting start end) u = absurd u
next_unlexed source from (Fault fault.Version start end) u = absurd u
next_unlexed source from (Fault fault.Number start end) u = absurd u
next_unlexed source from OutOfMemory u = absurd u
