-- Where a refusal is.
use Rattle.std.proofs.Common.{◌≡◌, ℕ, List, subst, sym, true}
use Rattle.std.specs.Prelude.{Option, Some, None, IfSome, IfNone, slice_get}
use Rattle.std.specs.Borrow.{Bor}
use Rattle.wit_values.specs.declared.span.Span.{Span}
use Rattle.wit_type_tree.specs.declared.error.ParseError.{ParseError}
use Rattle.wit_type_tree.specs.RefusalText.{span_of}
use Rattle.wit_lex.specs.declared.source.Source.{Source}
use Rattle.wit_lex.specs.Sources.{IsLocated, LiesIn}
use Rattle.wit_listing.specs.ErrorLine.{IsPlaceOf, has_place}

pub placed : (sources : List Source) (e : ParseError) (span : Span) (found : Option (Bor (List ℕ) × Bor (List ℕ))) → has_place e.rule ≡ true → span ≡ span_of e.kind →
    IfSome found (λ place. (i : ℕ) × (s : Source) × (slice_get sources i ≡ Some s) × IsLocated s span place.0.now place.1.now) →
    IfNone found ((i : ℕ) (s : Source) → slice_get sources i ≡ Some s → LiesIn s span → ⊥) → IsPlaceOf sources e found
placed sources e span None has same some none = λ _ i s at lies. none i s at (subst (LiesIn s) (sym same) lies)
placed sources e span (Some place) has same some none = (has, some.0, some.1, some.2, subst (λ at. IsLocated some.1 at place.0.now place.1.now) same some.3)
