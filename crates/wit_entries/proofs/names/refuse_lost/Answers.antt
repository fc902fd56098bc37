use Rattle.std.proofs.Common.{Some, inl, inr, sym, ap}
use Rattle.wit_entries.proofs.names.refuse_lost.Goals as goal

pub returns-in-Some : goal.returns-in-Some
returns-in-Some c = rw c.in-Some.is c.refuse_word.ensures

pub returns-in-None : goal.returns-in-None
returns-in-None c = rw c.in-None.is (elim c.refuse_missing_type.ensures [ inl memory ↦ inl memory | inr says ↦ inr (ap Some (sym says)) ])
