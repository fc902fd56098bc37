use Rattle.std.proofs.Common.{◌≡◌, map, take}
use Rattle.wit_syntax.proofs.Common.{foreign_visits}
use Rattle.wit_files.specs.ForeignPaths.{foreign_view}
use Rattle.wit_files.proofs.foreign.foreign_visits.Given as goal

abbrev pub invariant-loop-file : goal.invariant-loop-file
invariant-loop-file l = map foreign_view l.foreign.items ≡ foreign_visits (take l.file-index l.files)
