use Rattle.wit_groups.proofs.Outcome.{none_read}
use Rattle.wit_groups.proofs.group.read_source.Goals as goal

pub returns-clause-unread : goal.returns-clause-unread
returns-clause-unread c = none_read c.args.source.now c.read_file.result (rw c.as_str.ensures.value at c.read_file.ensures.only) (rw c.as_str.ensures.value at c.read_file.ensures.refused)
