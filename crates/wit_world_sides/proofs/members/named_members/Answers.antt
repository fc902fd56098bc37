use Rattle.std.proofs.Common.{◌++◌, List, map, sym, ap, ◌∙◌, subst}
use Rattle.wit_arena.proofs.Common.{AllDiffer, Imported, WorldSide, differ_none, err_from_is_err_and, names_on}
use Rattle.wit_refusals.specs.NameScopes.{Name}
use Rattle.wit_signatures.specs.FunctionsOfScope.{name_key, name_of_id}
use Rattle.wit_world_sides.proofs.Putting.{begun_with}
use Rattle.wit_walk.proofs.Common.{reports_same}
use Rattle.wit_externs.specs.Clash.{defined_fault}
use Rattle.wit_world_sides.proofs.members.named_members.Goals as goal

pub returns-clause-in_use : goal.returns-clause-in_use
returns-clause-in_use c = λ s. c.in_ok-define_names.ensures.defined s ∙ ap (λ (l : List Name). l ++ names_on s (map name_of_id c.args.turn.now)) (c.new-in_use.ensures s)

pub returns-clause-keyed : goal.returns-clause-keyed
returns-clause-keyed c =
    let ids = c.args.turn.now in
    let in_use = λ (s : WorldSide). c.in_ok-define_names.ensures.defined s ∙ ap (λ (l : List Name). l ++ names_on s (map name_of_id ids)) (c.new-in_use.ensures s) in
    let differ = λ (s : WorldSide). c.in_ok-define_names.ensures.differ s (subst (λ (l : List Name). AllDiffer (map name_key l)) (sym (c.new-in_use.ensures s)) differ_none) in
    begun_with _ c.args.types.now ids c.requires.listed c.in_ok-sides.ensures.imports c.in_ok-sides.ensures.exports in_use differ c.new.ensures

pub returns-in_err-define_names-clause-first : goal.returns-in_err-define_names-clause-first
returns-in_err-define_names-clause-first c =
    let p = err_from_is_err_and c.from_residual.result c.from_residual.ensures.1 in
    rw (p.1, p.2) (reports_same (ap (λ (l : List Name). defined_fault l (map name_of_id c.args.turn.now)) (c.new-in_use.ensures Imported)) c.in_err-define_names.ensures.first)

pub returns-clause-first : goal.returns-clause-first
returns-clause-first c = ap (λ (l : List Name). defined_fault l (map name_of_id c.args.turn.now)) (sym (c.new-in_use.ensures Imported)) ∙ c.in_ok-define_names.ensures.first
