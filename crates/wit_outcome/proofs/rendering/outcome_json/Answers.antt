use Rattle.wit_outcome.proofs.rendering.outcome_json.Goals as goal

pub returns-in-Group : goal.returns-in-Group
returns-in-Group c = rw c.in-Group.is (rw (c.sources-sources.ensures, c.as_slice.ensures) at c.group_json.ensures.text)
