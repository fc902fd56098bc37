use Rattle.std.proofs.Common.{◌-◌, length}
use Rattle.wit_text.proofs.FileBeginning.{AreItems}
use Rattle.wit_text.proofs.file.add_items.Given as goal

abbrev pub invariant-items : goal.invariant-items
invariant-items l = AreItems l.fn.reader l.fn.items l.items l.fn.nested l.nested l.reader

abbrev pub decreases-items : goal.decreases-items
decreases-items l = length l.fn.reader.source.now - l.reader.before
