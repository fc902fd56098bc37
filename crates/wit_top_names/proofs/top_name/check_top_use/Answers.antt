use Rattle.std.proofs.Common.{rules, ◌≡◌, List, [], ◌∷◌, Option, Some, inl, inr, refl, sym, ap, ◌∙◌, eqb-true}
use Rattle.wit_syntax.proofs.Common.{Attribute, Fault, Span, fault, if◌then◌else◌, leads, nil_from_length, option_or}
use Rattle.wit_first.specs.FileFaults.{lost_fault}
use Rattle.wit_first.proofs.First.{finds_same}
use Rattle.wit_top_names.proofs.top_name.check_top_use.Goals as goal
use Rattle.wit_first.specs.First.{first_in}

some_attributed : (xs : List Attribute) (span : Span) (o : Option Fault) → (xs ≡ [] → ⊥) → option_or (first_in (λ (a : Attribute). Some (fault 9 span)) xs) o ≡ Some (fault 9 span)
some_attributed [] span o some = absurd (some refl)
some_attributed (a ∷ xs) span o some = refl

pub returns-then-not-is_empty : goal.returns-then-not-is_empty
returns-then-not-is_empty g c = λ is named. elim c.refuse.ensures [
  | inl want ↦ inl want
  | inr as_stated ↦ inr (some_attributed c.args.used.now.attributes.items c.args.used.now.span (lost_fault is (leads [] c.args.used.now.item)) (λ none. (let wrong : ⊥ = search rules in wrong)) ∙ ap Some (sym as_stated))
]

pub returns : goal.returns
returns g c = λ is named.
    let used = c.args.used.now in
    let none : used.attributes.items ≡ [] = nil_from_length used.attributes.items (sym used.attributes.ok.0 ∙ eqb-true used.attributes.len 0 (sym c.is_empty.ensures ∙ c.if-not-is_empty.false)) in
    let lost = lost_fault is (leads [] used.item) in
    finds_same c.check_original.result (sym (ap (λ (l : List Attribute). option_or (first_in (λ (a : Attribute). Some (fault 9 used.span)) l) lost) none)) (c.check_original.ensures is named)
