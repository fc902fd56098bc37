-- Comments, byte by byte, and docs, comment by comment.
use Rattle.std.proofs.Common.{◌≡◌, ℕ, zero, suc, ◌+◌, ◌-◌, ◌<◌, ◌≤◌, true, List, [], ◌∷◌, ◌++◌, length, ap, ◌∙◌, sym, arith, subst}
use Rattle.std.specs.Prelude.{slice_index, slice_range}
use denote.Ref.{Bor}
use Rattle.wit_values.specs.declared.span.Span.{Span}
use Rattle.wit_type_tree.specs.Comments.{IsComment, IsNested, IsPair, Closed, Inside, is_blank}
use Rattle.wit_lex.specs.Blanks.{IsNextSlash, IsNoSlash, IsSkipped, Here, PastBlank, PastComment}
use Rattle.wit_lex.specs.DocsLexis.{IsDocs, stretched}

-- from a place up to a place there are blanks and comments alone, and these docs among them, as they are written, with a span from the first to the end of the last
pub data IsStretch (source : List ℕ) (offset from : ℕ) : List (Bor (List ℕ)) → Span → ℕ → Type 0 where
  Start : IsStretch source offset from [] (record { start = 0; end = 0 }) from
  Blank : (docs : List (Bor (List ℕ))) (span : Span) (at : ℕ) → IsStretch source offset from docs span at →
      at < length source → is_blank (slice_index source at) ≡ true → IsStretch source offset from docs span (at + 1)
  Other : (docs : List (Bor (List ℕ))) (span : Span) (at end : ℕ) → IsStretch source offset from docs span at →
      IsComment source at end → (IsDocs source at end → ⊥) → IsStretch source offset from docs span end
  Found : (docs : List (Bor (List ℕ))) (span found : Span) (comment : Bor (List ℕ)) (at end : ℕ) → IsStretch source offset from docs span at →
      IsComment source at end → IsDocs source at end → comment.now ≡ slice_range source at end → found.start ≡ offset + at → found.end ≡ offset + end →
      IsStretch source offset from (docs ++ comment ∷ []) (stretched docs span found) end

-- one comment more among docs
pub docs_more : (source : List ℕ) (offset from : ℕ) (docs more : List (Bor (List ℕ))) (span whole found : Span) (comment : Bor (List ℕ)) (at end : ℕ) →
    IsStretch source offset from docs span at → IsComment source at end → IsDocs source at end → comment.now ≡ slice_range source at end →
    found.start ≡ offset + at → found.end ≡ offset + end → more ≡ docs ++ comment ∷ [] → whole ≡ stretched docs span found → IsStretch source offset from more whole end
docs_more source offset from docs more span whole found comment at end h k d text first last e f = rw (e, f) (Found docs span found comment at end h k d text first last)

-- places of a comment after each of which is no `/`
nested_on : (source : List ℕ) (from depth at n : ℕ) → IsNested source from depth at → 0 < depth → at + n ≤ length source → ((i : ℕ) → at ≤ i → i < at + n + 1 → i < length source → slice_index source i ≡ 47 → ⊥) → IsNested source from depth (at + n)
nested_on source from depth at zero h some room none =
    let same : at ≡ at + 0 = omega arith in
    subst (IsNested source from depth) same h
nested_on source from depth at (suc n) h some room none =
    let before = nested_on source from depth at n h some (omega arith) (λ i low high. none i low (omega arith)) in
    let one = Inside depth (at + n) before some (omega arith) (λ p. none (at + n) (omega arith) (omega arith) (omega arith) p.first) (λ p. (let room = p.within in none (at + n + 1) (omega arith) (omega arith) (omega arith) p.second)) in
    let same : at + n + 1 ≡ at + suc n = omega arith in
    subst (IsNested source from depth) same one

-- a comment up to the end of a source that has no `/` any more
pub nested_last : (source : List ℕ) (from depth at : ℕ) → IsNested source from depth at → 0 < depth → at ≤ length source → IsNoSlash source at (length source) → IsNested source from depth (length source)
nested_last source from depth at h some room none =
    let same : at + (length source - at) ≡ length source = omega arith in
    subst (IsNested source from depth) same (nested_on source from depth at (length source - at) h some (omega arith) (λ i low high within. none i low within))

nested_up : (source : List ℕ) (from depth at slash count : ℕ) → IsNested source from depth at → 0 < depth → IsNextSlash source at slash → slash ≡ at + count → (at < slash → slice_index source (slash - 1) ≡ 42 → ⊥) → IsNested source from depth slash
nested_up source from depth at slash zero h some next place other =
    let same : at ≡ slash = omega arith in
    subst (IsNested source from depth) same h
nested_up source from depth at slash (suc n) h some next place other =
    let high = next.high in
    let before = nested_on source from depth at n h some (omega arith) (λ i low less within. next.before i low (omega arith)) in
    let last : at + n ≡ slash - 1 = omega arith in
    let one = Inside depth (at + n) before some (omega arith) (λ p. next.before (at + n) (omega arith) (omega arith) p.first) (λ p. other (omega arith) (ap (slice_index source) (sym last) ∙ p.first)) in
    let same : at + n + 1 ≡ slash = omega arith in
    subst (IsNested source from depth) same one

-- a comment up to the next `/`, which is not the one of a `*/`
pub nested_slash : (source : List ℕ) (from depth at slash : ℕ) → IsNested source from depth at → 0 < depth → IsNextSlash source at slash → (at < slash → slice_index source (slash - 1) ≡ 42 → ⊥) → IsNested source from depth slash
nested_slash source from depth at slash h some next other =
    let low = next.low in
    nested_up source from depth at slash (slash - at) h some next (omega arith) other

-- a comment up to the next `/`, which is that of a `*/`
pub nested_closed : (source : List ℕ) (from depth at slash : ℕ) → IsNested source from depth at → 0 < depth → IsNextSlash source at slash → at < slash → slice_index source (slash - 1) ≡ 42 → IsNested source from (depth - 1) (slash + 1)
nested_closed source from depth at slash h some next order star =
    let high = next.high in
    let place : at + (slash - 1 - at) ≡ slash - 1 = omega arith in
    let before = subst (IsNested source from depth) place (nested_on source from depth at (slash - 1 - at) h some (omega arith) (λ i low less within. next.before i low (omega arith))) in
    let second : slash - 1 + 1 ≡ slash = omega arith in
    let pair : IsPair source (slash - 1) 42 47 = record { within = omega arith; first = star; second = ap (slice_index source) second ∙ next.slash } in
    let same : slash - 1 + 2 ≡ slash + 1 = omega arith in
    subst (IsNested source from (depth - 1)) same (Closed depth (slash - 1) before some pair)

-- what docs are among is blanks and comments
pub stretch_skipped : (source : List ℕ) (offset from : ℕ) (docs : List (Bor (List ℕ))) (span : Span) (at : ℕ) → IsStretch source offset from docs span at → IsSkipped source from at
stretch_skipped source offset from _ _ _ Start = Here
stretch_skipped source offset from _ _ _ (Blank docs span at h room blank) = PastBlank at (stretch_skipped source offset from docs span at h) room blank
stretch_skipped source offset from _ _ _ (Other docs span at end h comment none) = PastComment at end (stretch_skipped source offset from docs span at h) comment
stretch_skipped source offset from _ _ _ (Found docs span found text at end h comment is slice first last) = PastComment at end (stretch_skipped source offset from docs span at h) comment
