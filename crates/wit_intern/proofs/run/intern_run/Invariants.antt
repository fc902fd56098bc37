use Rattle.std.proofs.Common.{◌≡◌, ◌++◌, drop, length, take}
use Rattle.wit_intern.specs.FiniteMap.{after_steps, replies}
use Rattle.wit_intern.proofs.run.intern_run.Given as goal

abbrev pub invariant-loop-at : goal.invariant-loop-at
invariant-loop-at g l = record {
  replied : replies l.steps (g.T.InternTable.content l.initial.table) ≡ l.as_stated.items ++ replies (drop l.at l.steps) (g.T.InternTable.content l.table);
  after : g.T.InternTable.content l.table ≡ after_steps (take l.at l.steps) (g.T.InternTable.content l.initial.table);
  many : length l.as_stated.items ≡ l.at;
}
