use Rattle.wit_notes.proofs.Texts.{slashes-trimmed}
use Rattle.wit_notes.proofs.comments.after_slashes.Goals as goal

pub returns : goal.returns
returns c = slashes-trimmed _ _ c.trim_start_matches.ensures.matches
