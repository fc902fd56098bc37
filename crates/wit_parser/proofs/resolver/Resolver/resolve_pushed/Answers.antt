use Rattle.std.proofs.Common.{◌≡◌, List, None, inl, inr, sym, ap, ◌∙◌, subst}
use Rattle.wit_items.proofs.Common.{Fault, IsFirst, PackageFile, fault, last_header, option_copied, span_of_ends}
use Rattle.wit_parser.proofs.FirstFault.{headerless}
use Rattle.wit_parser.proofs.resolver.Resolver.resolve_pushed.Goals as goal

pub resolve_named-requires : goal.resolve_named-requires
resolve_named-requires c = record { header = ap last_header c.pushed.ensures ∙ (sym c.last_header.ensures ∙ ap option_copied c.in-Some.is) }

pub returns-clause-made : goal.returns-clause-made
returns-clause-made c = rw c.pushed.ensures at c.resolve_named.ensures.made

pub returns-in-None-clause-first : goal.returns-in-None-clause-first
returns-in-None-clause-first c =
    let files : List PackageFile = c.args.self.now.files.items in
    let none : last_header files ≡ None = sym c.last_header.ensures ∙ ap option_copied c.in-None.is in
    let at : c.default.result ≡ record { start = 0; end = 0 } = span_of_ends c.default.result 0 0 c.default.ensures.0 c.default.ensures.1 in
    elim c.refuse.ensures [
      | inl memory ↦ inl memory
      | inr says ↦ inr (subst (λ (f : Fault). IsFirst files f) (sym (says ∙ ap (fault 4) at)) (headerless files none))
    ]

pub returns-clause-first : goal.returns-clause-first
returns-clause-first c = rw c.pushed.ensures at c.resolve_named.ensures.first
