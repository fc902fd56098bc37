use Rattle.wit_notes.proofs.Texts.{without_end-stripped, without_end-kept}
use Rattle.wit_notes.proofs.comments.without_end.Goals as goal

pub returns-in-Some : goal.returns-in-Some
returns-in-Some c = without_end-stripped _ _ c.in-Some.prefix (rw c.in-Some.is at c.strip_suffix.ensures.cases)

pub returns-in-None : goal.returns-in-None
returns-in-None c = without_end-kept _ _ (rw c.in-None.is at c.strip_suffix.ensures.cases)
