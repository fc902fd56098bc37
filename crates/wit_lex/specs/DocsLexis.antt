-- The docs before a token, as a function of the text.
use Rattle.std.specs.Prelude.{◌≡◌, ℕ, zero, suc, ◌+◌, ◌≤◌, ◌==◌, ◌&&◌, Bool, nat_le, List, [], ◌∷◌, drop, if◌then◌else◌, length, map, slice_index, slice_range, Ok}
use Rattle.std.specs.List.{filter}
use Rattle.wit_values.specs.declared.span.Span.{Span}
use denote.Ref.{Bor}
use Rattle.wit_type_tree.specs.declared.leaves.Docs.{Docs}
use Rattle.wit_type_tree.specs.Comments.{is_blank}
use Rattle.wit_lex.specs.Lexis.{Mode, between, in_line, in_block, skipped}

-- a comment: where it begins and where it ends
abbrev pub Range : Type 0
Range = ℕ × ℕ

-- the comments among the blanks and comments that the text goes on with, as far as each has an end
unfoldable pub comments : Mode → ℕ → List ℕ → List Range
comments between at [] = []
comments between at (c ∷ []) = []
comments between at (c ∷ d ∷ rest) =
    if is_blank c then comments between (at + 1) (d ∷ rest)
    else if c == 47 && d == 47 then comments (in_line at) (at + 1) (d ∷ rest)
    else if c == 47 && d == 42 then comments (in_block at 0) (at + 2) rest
    else []
comments (in_line start) at [] = (start, at) ∷ []
comments (in_line start) at (c ∷ rest) = if c == 10 then (start, at) ∷ comments between (at + 1) rest else comments (in_line start) (at + 1) rest
comments (in_block start inner) at [] = []
comments (in_block start inner) at (c ∷ []) = []
comments (in_block start zero) at (c ∷ d ∷ rest) =
    if c == 42 && d == 47 then (start, at + 2) ∷ comments between (at + 2) rest
    else if c == 47 && d == 42 then comments (in_block start 1) (at + 2) rest
    else comments (in_block start 0) (at + 1) (d ∷ rest)
comments (in_block start (suc inner)) at (c ∷ d ∷ rest) =
    if c == 42 && d == 47 then comments (in_block start inner) (at + 2) rest
    else if c == 47 && d == 42 then comments (in_block start (suc (suc inner))) (at + 2) rest
    else comments (in_block start (suc inner)) (at + 1) (d ∷ rest)

-- the comment begins with `///` or `/**`
abbrev pub is_docs : List ℕ → Range → Bool
is_docs source r = nat_le (r.0 + 3) r.1 && slice_index source (r.0 + 2) == slice_index source (r.0 + 1)

-- the docs from a place on, up to the token
unfoldable pub docs_from : List ℕ → ℕ → List Range
docs_from source at = filter (is_docs source) (comments between at (drop at source))

abbrev pub docs_text : List ℕ → List Range → List (List ℕ)
docs_text source rs = map (λ r. slice_range source r.0 r.1) rs

-- the span of what begins at a place and goes on with these
abbrev pub span_to : ℕ → ℕ → Range → List Range → Span
span_to offset start r [] = record { start = offset + start; end = offset + r.1 }
span_to offset start r (next ∷ rs) = span_to offset start next rs

-- from the first to the end of the last
abbrev pub docs_span : ℕ → List Range → Span
docs_span offset [] = record { start = 0; end = 0 }
docs_span offset (r ∷ rs) = span_to offset r.0 r rs

-- docs of a source whose first byte has the place `offset`: those from a place on, up to another, where the token begins
pub record AreDocsFrom (source : List ℕ) (offset from : ℕ) (docs : Docs) (to : ℕ) : Type 0 where
  pub texts : map (λ (d : Bor (List ℕ)). d.now) docs.docs.items ≡ docs_text source (docs_from source from)
  pub span : docs.span ≡ docs_span offset (docs_from source from)
  pub ends : skipped between from (drop from source) ≡ Ok to

-- the comment begins with `///` or `/**`
pub record IsDocs (source : List ℕ) (at end : ℕ) : Type 0 where
  pub long : at + 3 ≤ end
  pub third : slice_index source (at + 2) ≡ slice_index source (at + 1)

-- the span of comments where one more is found: from the first to the end of that one
abbrev pub stretched : List (Bor (List ℕ)) → Span → Span → Span
stretched comments span found = if length comments == 0 then found else record { start = span.start; end = found.end }
