-- A version's end, as the scanner finds it, is the one that the functions of `VersionLexis` have.
use Rattle.std.proofs.Common.{◌≡◌, ℕ, ◌+◌, ◌<◌, List, [], ◌∷◌, length, drop, ap, ◌∙◌, sym, subst, arith, refl, true, false, inl, inr}
use Rattle.std.specs.Prelude.{Ok, Err, ◌==◌, ◌&&◌, slice_index}
use Rattle.std.specs.Char.{is_ascii_digit}
use Rattle.std.proofs.lemmas.Bool.{cases_Bool, cases_lt, eq-eqb, eqb-true, false_from_ne_true, and_parts, le-ltb, lt-ltb, ne_eqb, true≢false}
use Rattle.std.proofs.lemmas.List.{drop_all, get_or_past}
use Rattle.wit_lex.specs.Starts.{IsRun, is_in_word}
use Rattle.wit_lex.specs.VersionEnds.{IsDotNumber, IsNoDotNumber, IsNumbers, IsNoNumbers, NoMinor, NoPatch, IsDotted, Start, Byte, Dot, IsLongest, IsMarked, IsVersionEnd}
use Rattle.wit_lex.specs.Lexis.{run_end}
use Rattle.wit_lex.specs.VersionLexis.{number_from, dot_number_from, dot_number, dotted_end, marked_from, marked, with_marks, patch_number, version_to}
use Rattle.wit_lex.proofs.Lexing.{run_is}
use Rattle.wit_lex.proofs.Walking.{more, next_byte}

-- a place lies in the text where its byte is not that which means none
in_text : (source : List ℕ) (at c : ℕ) → slice_index source at ≡ c → 0 < c → at < length source
in_text source at c is some = elim (cases_lt at (length source)) [
  | inl lt ↦ lt
  | inr ge ↦ (let none : 0 ≡ c = sym (get_or_past source at 0 ge) ∙ is in absurd (omega arith))
]

in_word_text : (source : List ℕ) (at : ℕ) → is_in_word (slice_index source at) ≡ true → at < length source
in_word_text source at is = elim (cases_lt at (length source)) [
  | inl lt ↦ lt
  | inr ge ↦ absurd (true≢false (sym is ∙ ap is_in_word (get_or_past source at 0 ge)))
]

digit_first : (at c : ℕ) (rest : List ℕ) → is_ascii_digit c ≡ true → number_from at (c ∷ rest) ≡ Ok (run_end is_ascii_digit at (c ∷ rest))
digit_first at c rest h = rw h refl

no_digit : (at c : ℕ) (rest : List ℕ) → is_ascii_digit c ≡ false → number_from at (c ∷ rest) ≡ Err at
no_digit at c rest h = rw h refl

number_is : (source : List ℕ) (at end : ℕ) → at < end → IsRun is_ascii_digit source at end → number_from at (drop at source) ≡ Ok end
number_is source at end some run =
    let lt : at < length source = omega (arith, run.within, some) in
    ap (number_from at) (more source at lt) ∙ digit_first at (slice_index source at) (drop (at + 1) source) (run.inside at (omega arith) some)
    ∙ ap Ok (ap (run_end is_ascii_digit at) (sym (more source at lt)) ∙ run_is is_ascii_digit source at end run)

number_missing : (source : List ℕ) (at : ℕ) → (at < length source → is_ascii_digit (slice_index source at) ≡ false) → number_from at (drop at source) ≡ Err at
number_missing source at h = elim (cases_lt at (length source)) [
  | inl lt ↦ ap (number_from at) (more source at lt) ∙ no_digit at (slice_index source at) (drop (at + 1) source) (h lt)
  | inr ge ↦ ap (number_from at) (drop_all at source ge)
]

dot_first : (at c : ℕ) (rest : List ℕ) → c ≡ 46 → dot_number_from at (c ∷ rest) ≡ number_from (at + 1) rest
dot_first at c rest h = rw h refl

no_dot : (at c : ℕ) (rest : List ℕ) → (c ≡ 46 → ⊥) → dot_number_from at (c ∷ rest) ≡ Err at
no_dot at c rest h = rw (ne_eqb c 46 h) refl

dot_is : (source : List ℕ) (from end : ℕ) → IsDotNumber source from end → dot_number source from ≡ Ok end
dot_is source from end d =
    let lt = in_text source from 46 d.dot (omega arith) in
    ap (dot_number_from from) (more source from lt) ∙ dot_first from (slice_index source from) (drop (from + 1) source) d.dot ∙ number_is source (from + 1) end d.some d.run

dot_missing : (source : List ℕ) (from at : ℕ) → IsNoDotNumber source from at → dot_number source from ≡ Err at
dot_missing source from at (inl h) = elim (cases_lt from (length source)) [
  | inl lt ↦ ap (dot_number_from from) (more source from lt) ∙ no_dot from (slice_index source from) (drop (from + 1) source) (h.1 lt) ∙ ap Err (sym h.0)
  | inr ge ↦ ap (dot_number_from from) (drop_all from source ge) ∙ ap Err (sym h.0)
]
dot_missing source from at (inr h) =
    let lt = in_text source from 46 h.1 (omega arith) in
    ap (dot_number_from from) (more source from lt) ∙ dot_first from (slice_index source from) (drop (from + 1) source) h.1
    ∙ number_missing source (from + 1) (subst (λ i. i < length source → is_ascii_digit (slice_index source i) ≡ false) h.0 h.2) ∙ ap Err (sym h.0)

numbers_missing : (source : List ℕ) (from at : ℕ) → IsNoNumbers source from at → patch_number source (dot_number source from) ≡ Err at
numbers_missing source from at (NoMinor none) = ap (patch_number source) (dot_missing source from at none)
numbers_missing source from at (NoPatch middle minor none) = ap (patch_number source) (dot_is source from middle minor) ∙ dot_missing source middle at none

numbers_are : (source : List ℕ) (from end : ℕ) → IsNumbers source from end → patch_number source (dot_number source from) ≡ Ok end
numbers_are source from end n = ap (patch_number source) (dot_is source from n.middle n.minor) ∙ dot_is source n.middle end n.patch

dotted_byte : (at c : ℕ) (rest : List ℕ) → is_in_word c ≡ true → dotted_end at (c ∷ rest) ≡ dotted_end (at + 1) rest
unfolding dotted_end
dotted_byte at c [] h = rw h refl
dotted_byte at c (d ∷ rest) h = rw h refl

dotted_dot : (at d : ℕ) (rest : List ℕ) → is_in_word d ≡ true → dotted_end at (46 ∷ d ∷ rest) ≡ dotted_end (at + 2) rest
unfolding dotted_end
dotted_dot at d rest h = rw h refl

dotted_stop : (at c : ℕ) (rest : List ℕ) → is_in_word c ≡ false → ((d : ℕ) (r : List ℕ) → rest ≡ d ∷ r → (c == 46 && is_in_word d) ≡ false) → dotted_end at (c ∷ rest) ≡ at
unfolding dotted_end
dotted_stop at c [] h none = rw h refl
dotted_stop at c (d ∷ rest) h none = rw (h, none d rest refl) refl

dotted_none : (at : ℕ) → dotted_end at [] ≡ at
unfolding dotted_end
dotted_none at = refl

dotted_on : (source : List ℕ) (from at : ℕ) → IsDotted source from at → dotted_end from (drop from source) ≡ dotted_end at (drop at source)
dotted_on source from _ Start = refl
dotted_on source from _ (Byte at h is) =
    dotted_on source from at h ∙ ap (dotted_end at) (more source at (in_word_text source at is)) ∙ dotted_byte at (slice_index source at) (drop (at + 1) source) is
dotted_on source from _ (Dot at h dot is) =
    let place : at + 1 + 1 ≡ at + 2 = omega arith in
    dotted_on source from at h
    ∙ ap (dotted_end at) (more source at (in_text source at 46 dot (omega arith)) ∙ ap (λ c. c ∷ drop (at + 1) source) dot
    ∙ ap (λ r. 46 ∷ r) (more source (at + 1) (in_word_text source (at + 1) is) ∙ ap (λ i. slice_index source (at + 1) ∷ drop i source) place))
    ∙ dotted_dot at (slice_index source (at + 1)) (drop (at + 2) source) is

longest_is : (source : List ℕ) (from end : ℕ) → IsLongest source from end → dotted_end from (drop from source) ≡ end
longest_is source from end l = dotted_on source from end l.dotted ∙ elim (cases_lt end (length source)) [
  | inl lt ↦ ap (dotted_end end) (more source end lt) ∙ dotted_stop end (slice_index source end) (drop (end + 1) source) (l.stop lt) none
  | inr ge ↦ ap (dotted_end end) (drop_all end source ge) ∙ dotted_none end
]
  where
    none : (d : ℕ) (r : List ℕ) → drop (end + 1) source ≡ d ∷ r → (slice_index source end == 46 && is_in_word d) ≡ false
    none d r e =
        let next = next_byte source (end + 1) d r e in
        false_from_ne_true _ (λ h. (let both = and_parts _ _ h in true≢false (sym both.1 ∙ ap is_in_word (sym next.1) ∙ l.dot next.0 (eqb-true (slice_index source end) 46 both.0))))

mark_first : (mark at c end : ℕ) (rest : List ℕ) → c ≡ mark → dotted_end (at + 1) rest ≡ end → at + 1 < end → marked_from mark at (c ∷ rest) ≡ end
mark_first mark at c end rest is ends some = rw (eq-eqb c mark is, ends, lt-ltb (at + 1) end some) refl

no_mark : (mark at c : ℕ) (rest : List ℕ) → (c ≡ mark → dotted_end (at + 1) rest ≡ at + 1) → marked_from mark at (c ∷ rest) ≡ at
no_mark mark at c rest h = elim (cases_Bool (c == mark)) [
  | inl is ↦ rw (is, h (eqb-true c mark is), le-ltb (at + 1) (at + 1) (omega arith)) refl
  | inr other ↦ rw other refl
]

marked_is : (mark : ℕ) (source : List ℕ) (from end : ℕ) → 0 < mark → IsMarked mark source from end → marked mark source from ≡ end
marked_is mark source from end some m = elim (cases_lt from end) [
  | inl lt ↦ (let it = m.some lt in let within = in_text source from mark it.0 some in
      ap (marked_from mark from) (more source from within) ∙ mark_first mark from (slice_index source from) end (drop (from + 1) source) it.0 (longest_is source (from + 1) end it.2) it.1)
  | inr ge ↦ (let same : end ≡ from = omega (arith, m.order) in elim (cases_lt from (length source)) [
    | inl within ↦ ap (marked_from mark from) (more source from within) ∙ no_mark mark from (slice_index source from) (drop (from + 1) source) (λ is. longest_is source (from + 1) (from + 1) (m.none same within is)) ∙ sym same
    | inr past ↦ ap (marked_from mark from) (drop_all from source past) ∙ sym same
  ])
]

pub version_ends : (source : List ℕ) (from end : ℕ) → IsVersionEnd source from end → version_to source from ≡ Ok end
unfolding version_to
version_ends source from end v =
    ap (with_marks source) (numbers_are source from v.numbers v.more)
    ∙ ap (λ pre. Ok (marked 43 source pre)) (marked_is 45 source v.numbers v.pre (omega arith) v.before) ∙ ap Ok (marked_is 43 source v.pre end (omega arith) v.rest_after)

pub version_missing : (source : List ℕ) (from at : ℕ) → IsNoNumbers source from at → version_to source from ≡ Err at
unfolding version_to
version_missing source from at none = ap (with_marks source) (numbers_missing source from at none)
