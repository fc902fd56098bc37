use Rattle.std.proofs.Common.{◌≡◌, ◌++◌, None, take, map}
use Rattle.wit_arena.proofs.Common.{AllDiffer, WorldSide, names_on}
use Rattle.wit_sides.specs.SideNames.{defined_on}
use Rattle.wit_signatures.specs.FunctionsOfScope.{name_key, name_of_id}
use Rattle.wit_externs.specs.Clash.{defined_fault}
use Rattle.wit_externs.proofs.in_use.define_names.Given as goal

-- the names up to here are defined, and they differ on each side where those before did
abbrev pub invariant-loop-name : goal.invariant-loop-name
invariant-loop-name l = record {
  defined : (s : WorldSide) → defined_on s l.in_use ≡ defined_on s l.initial.in_use ++ names_on s (map name_of_id (take l.name-index l.names));
  differ : (s : WorldSide) → AllDiffer (map name_key (defined_on s l.initial.in_use)) → AllDiffer (map name_key (defined_on s l.in_use));
  first : defined_fault l.initial.in_use.imports (take l.name-index (map name_of_id l.names)) ≡ None;
}
