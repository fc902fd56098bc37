use Rattle.std.proofs.Common.{◌++◌, codes}
use Rattle.wit_entries.proofs.names.refuse_handle.Goals as goal

pub returns : goal.returns
returns c = c.refuse_in.ensures (codes "type `" ++ (c.args.id.name.now ++ codes "` used in a handle must be a resource")) c.handle_words.ensures
