use Rattle.std.proofs.Common.{◌≡◌, ◌++◌, List, Option, None, map, take}
use Rattle.wit_arena.proofs.Common.{AllDiffer, Fault, Id, ScopeName, SideFunction, WorldSide, env_of, items_on, flat_map}
use Rattle.wit_sides.specs.SideNames.{defined_on}
use Rattle.wit_rules.specs.Signatures.{IsScopeOf, functions_view}
use Rattle.wit_signatures.specs.FunctionsOfScope.{name_key}
use Rattle.wit_externs.specs.Clash.{IsSafe, alone_faults, item_names}
use Rattle.wit_externs.proofs.DoneFunctions.{AreDone}
use Rattle.wit_externs.proofs.scope_functions.resolve_functions.Given as goal
use Rattle.wit_externs.proofs.AloneFaults.{words_in}

-- the functions up to here are resolved, and their names are defined
abbrev pub invariant-loop-borrowed : goal.invariant-loop-borrowed
invariant-loop-borrowed l = record {
  done : AreDone l.fn.types l.types l.scope (take l.borrowed-index (functions_view l.scope)) l.functions.items l.fn.required.items l.required.items;
  defined : (s : WorldSide) → defined_on s l.in_use ≡ defined_on s l.fn.in_use ++ flat_map item_names (items_on s (take l.borrowed-index (map SideFunction (functions_view l.scope))));
  differ : (s : WorldSide) → AllDiffer (map name_key (defined_on s l.fn.in_use)) → AllDiffer (map name_key (defined_on s l.in_use));
  first : (xs : List ScopeName) → IsScopeOf l.scope xs → (handle : Id → Option Fault) → IsSafe (env_of l.scope.names.now) l.types handle → alone_faults (words_in (env_of l.scope.names.now)) handle xs (λ s. defined_on s l.fn.in_use) (take l.borrowed-index (functions_view l.scope)) ≡ None;
}
