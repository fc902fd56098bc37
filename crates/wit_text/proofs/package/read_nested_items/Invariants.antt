use Rattle.std.proofs.Common.{◌-◌, length}
use Rattle.wit_text.proofs.Kept.{AreKept}
use Rattle.wit_text.proofs.package.read_nested_items.Given as goal

abbrev pub invariant-items : goal.invariant-items
invariant-items l = AreKept l.fn.reader l.items.items l.inner.items l.reader

abbrev pub decreases-items : goal.decreases-items
decreases-items l = length l.fn.reader.source.now - l.reader.before
