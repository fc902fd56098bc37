-- The docs that the scanner finds are those that the functions of `DocsLexis` have.
use Rattle.std.proofs.Common.{◌≡◌, ℕ, zero, suc, ◌+◌, ◌-◌, List, [], ◌∷◌, ◌++◌, length, drop, ap, ◌∙◌, sym, arith, refl, true, false, Bool, append_assoc, inl, inr}
use Rattle.std.specs.Prelude.{◌==◌, ◌&&◌, map, slice_index, slice_range}
use Rattle.std.specs.List.{filter}
use Rattle.std.proofs.lemmas.Bool.{and_from, and_parts, cases_lt, eq-eqb, eqb-true, false_from_ne_true, le-leb, leb-true, ne_eqb}
use Rattle.std.proofs.lemmas.List.{append-nil, drop_all, map-append}
use Rattle.std.proofs.lemmas.List.Elements.{filter-append}
use denote.Ref.{Bor}
use Rattle.wit_values.specs.declared.span.Span.{Span}
use Rattle.wit_type_tree.specs.Comments.{IsStop, is_blank}
use Rattle.wit_type_tree.specs.declared.leaves.Docs.{Docs}
use Rattle.wit_lex.specs.Lexis.{between, in_line, in_block}
use Rattle.wit_lex.specs.DocsLexis.{AreDocsFrom, IsDocs, Range, comments, docs_from, docs_span, docs_text, is_docs, span_to, stretched}
use Rattle.wit_lex.proofs.Comments.{IsStretch, Start, Blank, Other, Found, stretch_skipped}
use Rattle.wit_lex.proofs.Lexing.{skipped_by, stopped}
use Rattle.wit_lex.proofs.Walking.{IsWalk, blank_passed, comment_passed, more, no_pair}

walk_blank : (at c : ℕ) (rest : List ℕ) → is_blank c ≡ true → comments between at (c ∷ rest) ≡ comments between (at + 1) rest
unfolding comments
walk_blank at c [] b = refl
walk_blank at c (d ∷ rest) b = rw b refl

walk_line : (at : ℕ) (rest : List ℕ) → comments between at (47 ∷ 47 ∷ rest) ≡ comments (in_line at) (at + 1 + 1) rest
unfolding comments
walk_line at rest = refl

walk_on_line : (start at c : ℕ) (rest : List ℕ) → (c ≡ 10 → ⊥) → comments (in_line start) at (c ∷ rest) ≡ comments (in_line start) (at + 1) rest
unfolding comments
walk_on_line start at c rest n = rw (ne_eqb c 10 n) refl

walk_line_end : (start at : ℕ) (rest : List ℕ) → comments (in_line start) at (10 ∷ rest) ≡ (start, at) ∷ comments between at (10 ∷ rest)
unfolding comments
walk_line_end start at [] = refl
walk_line_end start at (d ∷ rest) = refl

walk_last_line : (start at : ℕ) → comments (in_line start) at [] ≡ (start, at) ∷ comments between at []
unfolding comments
walk_last_line start at = refl

walk_block : (at : ℕ) (rest : List ℕ) → comments between at (47 ∷ 42 ∷ rest) ≡ comments (in_block at 0) (at + 2) rest
unfolding comments
walk_block at rest = refl

walk_deeper : (start n at : ℕ) (rest : List ℕ) → comments (in_block start n) at (47 ∷ 42 ∷ rest) ≡ comments (in_block start (suc n)) (at + 2) rest
unfolding comments
walk_deeper start zero at rest = refl
walk_deeper start (suc n) at rest = refl

walk_closed : (start n at : ℕ) (rest : List ℕ) → comments (in_block start (suc n)) at (42 ∷ 47 ∷ rest) ≡ comments (in_block start n) (at + 2) rest
unfolding comments
walk_closed start n at rest = refl

walk_block_end : (start at : ℕ) (rest : List ℕ) → comments (in_block start 0) at (42 ∷ 47 ∷ rest) ≡ (start, at + 2) ∷ comments between (at + 2) rest
unfolding comments
walk_block_end start at rest = refl

walk_inside : (start n at c : ℕ) (rest : List ℕ) → ((d : ℕ) (r : List ℕ) → rest ≡ d ∷ r → ((c == 42 && d == 47) ≡ false) × ((c == 47 && d == 42) ≡ false)) →
    comments (in_block start n) at (c ∷ rest) ≡ comments (in_block start n) (at + 1) rest
unfolding comments
walk_inside start zero at c [] h = refl
walk_inside start (suc n) at c [] h = refl
walk_inside start zero at c (d ∷ r) h = let none = h d r refl in rw (none.0, none.1) refl
walk_inside start (suc n) at c (d ∷ r) h = let none = h d r refl in rw (none.0, none.1) refl

abbrev gather : ℕ → ℕ → List Range → List Range
gather start end rs = (start, end) ∷ rs

gathers : IsWalk comments gather
gathers = record {
  blank = walk_blank;
  line = walk_line;
  on_line = walk_on_line;
  line_end = walk_line_end;
  last_line = walk_last_line;
  block = walk_block;
  deeper = walk_deeper;
  closed = walk_closed;
  block_end = walk_block_end;
  inside = walk_inside;
}

-- what is left to be gathered at a place
abbrev rest_at : List ℕ → ℕ → List Range
rest_at source at = comments between at (drop at source)

-- these comments lie from a place up to another, of which the docs are these, with their span
record IsGathered (source : List ℕ) (offset from : ℕ) (docs : List (Bor (List ℕ))) (span : Span) (at : ℕ) : Type 0 where
  passed : List Range
  whole : rest_at source from ≡ passed ++ rest_at source at
  texts : map (λ (d : Bor (List ℕ)). d.now) docs ≡ docs_text source (filter (is_docs source) passed)
  spanned : span ≡ docs_span offset (filter (is_docs source) passed)

docs_found : (source : List ℕ) (at end : ℕ) → IsDocs source at end → is_docs source (at, end) ≡ true
docs_found source at end d = and_from _ _ (le-leb (at + 3) end d.long) (eq-eqb (slice_index source (at + 2)) (slice_index source (at + 1)) d.third)

docs_missed : (source : List ℕ) (at end : ℕ) → (IsDocs source at end → ⊥) → is_docs source (at, end) ≡ false
docs_missed source at end none = false_from_ne_true _ (λ h. (let both = and_parts _ _ h in none (record { long = leb-true (at + 3) end both.0; third = eqb-true (slice_index source (at + 2)) (slice_index source (at + 1)) both.1 })))

kept_last : {X : Type 0} (test : X → Bool) (xs : List X) (x : X) → test x ≡ true → filter test (xs ++ x ∷ []) ≡ filter test xs ++ x ∷ []
kept_last test xs x h = filter-append test xs (x ∷ []) ∙ ap (λ l. filter test xs ++ l) (rw h refl)

dropped_last : {X : Type 0} (test : X → Bool) (xs : List X) (x : X) → test x ≡ false → filter test (xs ++ x ∷ []) ≡ filter test xs
dropped_last test xs x h = filter-append test xs (x ∷ []) ∙ ap (λ l. filter test xs ++ l) (rw h refl) ∙ append-nil (filter test xs)

-- the span of some docs and one more
span_on : (offset start end : ℕ) (r : Range) (rs : List Range) (at : ℕ) → span_to offset start r (rs ++ (at, end) ∷ []) ≡ record { start = offset + start; end = offset + end }
span_on offset start end r [] at = refl
span_on offset start end r (next ∷ rs) at = span_on offset start end next rs at

span_starts : (offset start : ℕ) (r : Range) (rs : List Range) → (span_to offset start r rs).start ≡ offset + start
span_starts offset start r [] = refl
span_starts offset start r (next ∷ rs) = span_starts offset start next rs

stretched_on : (d : Bor (List ℕ)) (docs : List (Bor (List ℕ))) (span found : Span) → stretched (d ∷ docs) span found ≡ record { start = span.start; end = found.end }
stretched_on d docs span found = rw (ne_eqb (length (d ∷ docs)) 0 (λ e. absurd (omega arith))) refl

longer : (source : List ℕ) (offset at end : ℕ) (docs : List (Bor (List ℕ))) (rs : List Range) (span found : Span) → map (λ (d : Bor (List ℕ)). d.now) docs ≡ docs_text source rs → span ≡ docs_span offset rs →
    found.start ≡ offset + at → found.end ≡ offset + end → stretched docs span found ≡ docs_span offset (rs ++ (at, end) ∷ [])
longer source offset at end [] [] span found texts same start stop = λ i. record { start = start i; end = stop i }
longer source offset at end (d ∷ docs) [] span found texts same start stop = absurd (let f : ⊥ = cc in f)
longer source offset at end [] (r ∷ rs) span found texts same start stop = absurd (let f : ⊥ = cc in f)
longer source offset at end (d ∷ docs) (r ∷ rs) span found texts same start stop =
    let begin : span.start ≡ offset + r.0 = ap (λ (s : Span). s.start) same ∙ span_starts offset r.0 r rs in
    let joined : record { start = span.start; end = found.end } ≡ record { start = offset + r.0; end = offset + end } = λ i. record { start = begin i; end = stop i } in
    stretched_on d docs span found ∙ joined ∙ sym (span_on offset r.0 end r rs at)

gathered : (source : List ℕ) (offset from : ℕ) (docs : List (Bor (List ℕ))) (span : Span) (at : ℕ) → IsStretch source offset from docs span at → IsGathered source offset from docs span at
gathered source offset from _ _ _ Start = record { passed = []; whole = refl; texts = refl; spanned = refl }
gathered source offset from _ _ _ (Blank docs span at h lt blank) =
    let it = gathered source offset from docs span at h in
    record { passed = it.passed; whole = it.whole ∙ ap (λ l. it.passed ++ l) (blank_passed comments gather gathers source at lt blank); texts = it.texts; spanned = it.spanned }
gathered source offset from _ _ _ (Other docs span at end h comment none) =
    let it = gathered source offset from docs span at h in
    let same = dropped_last (is_docs source) it.passed (at, end) (docs_missed source at end none) in
    record {
      passed = it.passed ++ (at, end) ∷ [];
      whole = it.whole ∙ ap (λ l. it.passed ++ l) (comment_passed comments gather gathers source at end comment) ∙ sym (append_assoc it.passed ((at, end) ∷ []) (rest_at source end));
      texts = it.texts ∙ ap (docs_text source) (sym same);
      spanned = it.spanned ∙ ap (docs_span offset) (sym same);
    }
gathered source offset from _ _ _ (Found docs span found one at end h comment is text start stop) =
    let it = gathered source offset from docs span at h in
    let same = kept_last (is_docs source) it.passed (at, end) (docs_found source at end is) in
    record {
      passed = it.passed ++ (at, end) ∷ [];
      whole = it.whole ∙ ap (λ l. it.passed ++ l) (comment_passed comments gather gathers source at end comment) ∙ sym (append_assoc it.passed ((at, end) ∷ []) (rest_at source end));
      texts = map-append (λ (d : Bor (List ℕ)). d.now) docs (one ∷ []) ∙ ap (λ l. l ++ one.now ∷ []) it.texts ∙ ap (λ t. docs_text source (filter (is_docs source) it.passed) ++ t ∷ []) text
          ∙ sym (map-append (λ (r : Range). slice_range source r.0 r.1) (filter (is_docs source) it.passed) ((at, end) ∷ [])) ∙ ap (docs_text source) (sym same);
      spanned = longer source offset at end docs (filter (is_docs source) it.passed) span found it.texts it.spanned start stop ∙ ap (docs_span offset) (sym same);
    }

none_on : (at c : ℕ) (rest : List ℕ) → is_blank c ≡ false → ((d : ℕ) (r : List ℕ) → rest ≡ d ∷ r → ((c == 47 && d == 47) ≡ false) × ((c == 47 && d == 42) ≡ false)) → comments between at (c ∷ rest) ≡ []
unfolding comments
none_on at c [] b h = refl
none_on at c (d ∷ r) b h = let none = h d r refl in rw (b, none.0, none.1) refl

none_end : (at : ℕ) → comments between at [] ≡ []
unfolding comments
none_end at = refl

-- where neither a blank nor a comment begins there are no more comments
none_left : (source : List ℕ) (at : ℕ) → IsStop source at → rest_at source at ≡ []
none_left source at s = elim (cases_lt at (length source)) [
  | inl lt ↦ ap (comments between at) (more source at lt)
      ∙ none_on at (slice_index source at) (drop (at + 1) source) (false_from_ne_true _ (s.blank lt)) (λ d r e. (no_pair source at 47 47 d r s.line e, no_pair source at 47 42 d r s.block e))
  | inr ge ↦ ap (comments between at) (drop_all at source ge) ∙ none_end at
]

-- the docs up to where neither begins are those of the functions
pub docs_lexed : (source : List ℕ) (offset from : ℕ) (docs : Docs) (to : ℕ) → IsStretch source offset from docs.docs.items docs.span to → IsStop source to → AreDocsFrom source offset from docs to
unfolding docs_from
docs_lexed source offset from docs to h stop =
    let it = gathered source offset from docs.docs.items docs.span to h in
    let all : rest_at source from ≡ it.passed = it.whole ∙ ap (λ l. it.passed ++ l) (none_left source to stop) ∙ append-nil it.passed in
    record {
      texts = it.texts ∙ ap (λ l. docs_text source (filter (is_docs source) l)) (sym all);
      span = it.spanned ∙ ap (λ l. docs_span offset (filter (is_docs source) l)) (sym all);
      ends = skipped_by source from to (stretch_skipped _ _ _ _ _ _ h) ∙ stopped source to stop;
    }
