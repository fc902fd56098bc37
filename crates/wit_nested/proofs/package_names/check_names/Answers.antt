use Rattle.std.proofs.Common.{inl, inr, ap, ◌∙◌}
use Rattle.wit_items.proofs.Common.{Span, fault_in, package_words}
use Rattle.wit_nested.proofs.package_names.check_names.Goals as goal

pub returns-in-Some-clause-refused : goal.returns-in-Some-clause-refused
returns-in-Some-clause-refused c =
    let later = c.in-Some.later.now in
    elim (c.refuse_in.ensures (package_words later.name) c.repeated-words.ensures) [
      | inl memory ↦ inl memory
      | inr says ↦ inr (record {
        later = later;
        again = rw c.in-Some.is at c.in_ok-later.ensures.some;
        is = says ∙ ap (λ (span : Span). fault_in 53 span (package_words later.name)) c.package_name_span.ensures;
      })
    ]
