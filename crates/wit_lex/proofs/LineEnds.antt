-- Where a line begins and ends, and where the next `/` is, by a search.
use Rattle.std.proofs.Common.{◌≡◌, ◌⊎◌, inl, inr, ℕ, ◌+◌, ◌-◌, ◌<◌, ◌≤◌, true, List, length, take, drop, ap, subst, ◌∙◌, sym, arith, eqb-true, refl, length-take-le, length-drop, get_or-take, get_or-drop, slice_index}
use Rattle.std.specs.Prelude.{IsUtf8}
use Rattle.std.specs.Str.{IsCharBoundary}
use Rattle.std.proofs.lemmas.Str.{IsCharBoundary-after_ascii, IsCharBoundary-start}
use Rattle.memchr.specs.Find.{Nowhere, NoneBefore, Passes, is_byte}
use Rattle.wit_type_tree.specs.Comments.{IsPair, IsLine}
use Rattle.wit_lex.specs.Blanks.{IsNextSlash, IsNoSlash}
use Rattle.wit_lex.specs.Places.{IsLineEnd, IsLineStart}

-- what is from a place on, as it is searched
abbrev rest : List ℕ → ℕ → List ℕ
rest text at = take (length text - at) (drop at text)

length-rest : (text : List ℕ) (at : ℕ) → length (rest text at) ≡ length text - at
length-rest text at = length-take-le (length text - at) (drop at text) (rw (length-drop at text) (omega arith))

rest_at : (text : List ℕ) (at i : ℕ) → at + i < length text → slice_index (rest text at) i ≡ slice_index text (at + i)
rest_at text at i lt = get_or-take (length text - at) (drop at text) i 0 (omega arith) ∙ get_or-drop at text i 0

-- a part that is searched in vain has no such byte
no_byte : (text : List ℕ) (byte at count : ℕ) → is_byte byte byte ≡ true → at + count ≤ length text → Nowhere (Passes (is_byte byte) (rest text at)) 0 count → (i : ℕ) → at ≤ i → i < at + count → slice_index text i ≡ byte → ⊥
no_byte text byte at count same fits none i low high found =
    let place : at + (i - at) ≡ i = omega arith in
    let is : slice_index (rest text at) (i - at) ≡ byte = rest_at text at (i - at) (omega arith) ∙ ap (slice_index text) place ∙ found in
    none (i - at) (omega arith) (omega arith) (ap (is_byte byte) is ∙ same)

pub line_found : (text : List ℕ) (from count : ℕ) → IsPair text from 47 47 → NoneBefore (Passes (is_byte 10) (rest text (from + 2))) 0 (length (rest text (from + 2))) count × Passes (is_byte 10) (rest text (from + 2)) count → IsLine text from (from + 2 + count)
line_found text from count pair found =
    let long = length-rest text (from + 2) in
    let within : from + 2 + count < length text = omega (arith, found.0.high, long) in
    record {
      prefix = pair;
      order = omega arith;
      within = omega arith;
      inside = no_byte text 10 (from + 2) count refl (omega arith) found.0.before;
      last = λ lt. sym (rest_at text (from + 2) count within) ∙ eqb-true (slice_index (rest text (from + 2)) count) 10 found.1;
    }

pub line_last : (text : List ℕ) (from : ℕ) → IsPair text from 47 47 → Nowhere (Passes (is_byte 10) (rest text (from + 2))) 0 (length (rest text (from + 2))) → IsLine text from (length text)
line_last text from pair none =
    let long = length-rest text (from + 2) in
    let order : from + 2 ≤ length text = pair.within in
    let place : from + 2 + (length text - (from + 2)) ≡ length text = omega arith in
    record {
      prefix = pair;
      order = order;
      within = omega arith;
      inside = λ i low high. no_byte text 10 (from + 2) (length text - (from + 2)) refl (omega arith) (rw long at none) i low (omega arith);
      last = λ lt. absurd (omega arith);
    }

pub slash_found : (text : List ℕ) (from count : ℕ) → from ≤ length text → NoneBefore (Passes (is_byte 47) (rest text from)) 0 (length (rest text from)) count × Passes (is_byte 47) (rest text from) count → IsNextSlash text from (from + count)
slash_found text from count order found =
    let long = length-rest text from in
    let within : from + count < length text = omega (arith, found.0.high, long) in
    record {
      low = omega arith;
      high = within;
      slash = sym (rest_at text from count within) ∙ eqb-true (slice_index (rest text from) count) 47 found.1;
      before = no_byte text 47 from count refl (omega arith) found.0.before;
    }

pub no_slash : (text : List ℕ) (from : ℕ) → from ≤ length text → Nowhere (Passes (is_byte 47) (rest text from)) 0 (length (rest text from)) → IsNoSlash text from (length text)
no_slash text from order none =
    let long = length-rest text from in
    λ i low high. no_byte text 47 from (length text - from) refl (omega arith) (rw long at none) i low (omega arith)

pub end_found : (text : List ℕ) (at count : ℕ) → at ≤ length text → NoneBefore (Passes (is_byte 10) (rest text at)) 0 (length (rest text at)) count × Passes (is_byte 10) (rest text at) count → IsLineEnd text at (at + count)
end_found text at count order found =
    let long = length-rest text at in
    let within : at + count < length text = omega (arith, found.0.high, long) in
    record {
      order = omega arith;
      within = omega arith;
      ends = λ lt. sym (rest_at text at count within) ∙ eqb-true (slice_index (rest text at) count) 10 found.1;
      inside = no_byte text 10 at count refl (omega arith) found.0.before;
    }

pub end_last : (text : List ℕ) (at : ℕ) → at ≤ length text → Nowhere (Passes (is_byte 10) (rest text at)) 0 (length (rest text at)) → IsLineEnd text at (length text)
end_last text at order none =
    let long = length-rest text at in
    record {
      order = order;
      within = omega arith;
      ends = λ lt. absurd (omega arith);
      inside = λ i low high. no_byte text 10 at (length text - at) refl (omega arith) (rw long at none) i low (omega arith);
    }

boundary_by : (text : List ℕ) (start : ℕ) → IsUtf8 text → start ≤ length text → (start ≡ 0) ⊎ ((0 < start) × (slice_index text (start - 1) ≡ 10)) → IsCharBoundary text start
boundary_by text start utf8 within (inl zero) = subst (IsCharBoundary text) (sym zero) (IsCharBoundary-start text utf8)
boundary_by text start utf8 within (inr line) =
    let same : start - 1 + 1 ≡ start = omega (arith, line.0) in
    subst (IsCharBoundary text) same (IsCharBoundary-after_ascii text (start - 1) utf8 (omega (arith, line.0)) (rw line.1 (omega arith)))

-- where a line begins, a character does
pub start_boundary : (text bytes : List ℕ) (at start : ℕ) → IsUtf8 text → bytes ≡ text → at ≤ length text → IsLineStart bytes at start → IsCharBoundary text start
start_boundary text bytes at start utf8 same within line = boundary_by text start utf8 (omega (arith, line.order, within)) (subst (λ b. (start ≡ 0) ⊎ ((0 < start) × (slice_index b (start - 1) ≡ 10))) same line.begins)
