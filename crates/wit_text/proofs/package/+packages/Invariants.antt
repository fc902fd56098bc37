use Rattle.std.proofs.Common.{◌+◌, ◌-◌, ◌*◌, length}
use Rattle.wit_text.proofs.Kept.{IsPassed}
use Rattle.wit_text.proofs.package.+packages.Given as goal

abbrev pub decreases-read_inner : goal.decreases-read_inner
decreases-read_inner l = 3 * l.left

abbrev pub decreases-pass_item : goal.decreases-pass_item
decreases-pass_item l = 3 * l.left + 1

abbrev pub decreases-pass_items : goal.decreases-pass_items
decreases-pass_items l = 3 * l.left + 2

abbrev pub invariant-pass_items-items : goal.invariant-pass_items-items
invariant-pass_items-items l = IsPassed l.fn.left l.fn.reader l.reader

abbrev pub decreases-pass_items-items : goal.decreases-pass_items-items
decreases-pass_items-items l = length l.fn.reader.source.now - l.reader.before
