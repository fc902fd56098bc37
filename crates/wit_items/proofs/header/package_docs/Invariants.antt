use Rattle.std.proofs.Common.{◌≡◌, drop}
use Rattle.wit_arena.proofs.Common.{first_docs, headers}
use Rattle.wit_items.proofs.header.package_docs.Given as goal

abbrev pub invariant-loop-file : goal.invariant-loop-file
invariant-loop-file l = first_docs (headers (drop l.file-index l.files)) ≡ first_docs (headers l.files)
