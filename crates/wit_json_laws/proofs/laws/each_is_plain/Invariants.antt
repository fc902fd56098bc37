use Rattle.std.proofs.Common.{take}
use Rattle.wit_arena.proofs.Common.{All}
use Rattle.wit_json_laws.specs.Laws.{IsPlainWhereMade}
use Rattle.wit_json_laws.proofs.laws.each_is_plain.Given as goal

abbrev pub invariant-loop-inner : goal.invariant-loop-inner
invariant-loop-inner l = All IsPlainWhereMade (take l.inner-index l.packages)
