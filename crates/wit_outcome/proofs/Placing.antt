-- The place of a refusal, stated from the first byte of its source on.
use Rattle.std.proofs.Common.{◌≡◌, ℕ, ◌+◌, ◌-◌, ◌≤◌, true, List, ap, sym, ◌∙◌, subst, refl, arith}
use Rattle.std.specs.Prelude.{string_bytes}
use Rattle.wit_values.specs.declared.span.Span.{Span}
use Rattle.wit_type_tree.specs.declared.error.ParseError.{ParseError}
use Rattle.wit_type_tree.specs.RefusalText.{span_of}
use Rattle.wit_lex.specs.declared.source.Source.{Source}
use Rattle.wit_lex.specs.Sources.{LiesIn}
use Rattle.wit_outcome.specs.Plain.{IsPlacedIn}

sum_of_rest : (first place : ℕ) → first ≤ place → first + (place - first) ≡ place
sum_of_rest first place h = omega arith

start_above : (s : Source) (span : Span) → LiesIn s span → s.offset ≤ span.start
start_above s span lies = lies.first

end_above : (s : Source) (span : Span) → LiesIn s span → s.offset ≤ span.end
end_above s span lies =
    let first = lies.first in
    let order = lies.order in
    omega arith

pub placed_in : (s : Source) (e : ParseError) (span : Span) → span ≡ span_of e.kind → LiesIn s (span_of e.kind) → (rule : ℕ) (path message : List ℕ) → path ≡ string_bytes s.path →
    IsPlacedIn s e (record { rule = rule; placed = true; start = span.start - s.offset; end = span.end - s.offset; path = path; message = message })
placed_in s e span is lies rule path message same =
    let here : LiesIn s span = subst (LiesIn s) (sym is) lies in
    record {
      placed = refl;
      path = same;
      start = sum_of_rest s.offset span.start (start_above s span here) ∙ ap (λ (at : Span). at.start) is;
      end = sum_of_rest s.offset span.end (end_above s span here) ∙ ap (λ (at : Span). at.end) is;
    }
