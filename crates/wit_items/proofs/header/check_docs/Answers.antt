use Rattle.std.proofs.Common.{Some, inl, inr, sym, ap, ◌∙◌}
use Rattle.wit_first.specs.HeaderFaults.{second_docs_fault}
use Rattle.wit_items.proofs.Documented.{none_second, second_here, second_none}
use Rattle.wit_items.proofs.header.check_docs.Goals.{then-documented+in-Some+else-is_documented, then-documented+in_default, else-documented}
use Rattle.wit_items.proofs.header.check_docs.Goals as goal

pub returns-then-is_documented : goal.returns-then-is_documented
returns-then-is_documented c = λ hs same. elim c.refuse.ensures [
  | inl memory ↦ inl memory
  | inr says ↦ inr (ap (second_docs_fault hs) c.in-Some.is ∙ second_here hs c.in-Some.own (sym same ∙ c.if-documented.true) (sym c.is_documented.ensures ∙ c.if-is_documented.true) ∙ ap Some (sym says))
]

pub returns : goal.returns
returns c = λ hs same. elim c.if-documented.branch [
  | then-documented+in-Some+else-is_documented w ↦ ap (second_docs_fault hs) w.in-Some.is ∙ second_none hs w.in-Some.own (sym w.is_documented.ensures ∙ w.if-is_documented.false)
  | then-documented+in_default w ↦ ap (second_docs_fault hs) w.in_default.is
  | else-documented w ↦ none_second hs c.args.current.now (sym same ∙ w.if-documented.false)
]
