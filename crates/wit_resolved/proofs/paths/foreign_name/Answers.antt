use Rattle.std.proofs.Common.{ℕ, List, ap, sym, ◌∙◌}
use Rattle.wit_arena.proofs.Common.{PackageName, option_map}
use Rattle.wit_resolved.specs.Lookups.{foreign_in}
use Rattle.wit_resolved.proofs.Searching.{first_found, first_step}
use Rattle.wit_resolved.proofs.paths.foreign_name.Goals as goal

pub returns-in-Some-name_among : goal.returns-in-Some-name_among
returns-in-Some-name_among c =
    let named : List ℕ → PackageName × List ℕ = λ name. (c.in-Some.owner.now, name) in
    sym (first_found (foreign_in c.args.place) c.args.deps.now c.loop-at.at _ _ (sym c.in-Some.ensures) (ap (option_map named) (sym c.in-Some-name_among.ensures)))
    ∙ c.loop-at.invariant

pub loop-at-preserved : goal.loop-at-preserved
loop-at-preserved c =
    let named : List ℕ → PackageName × List ℕ = λ name. (c.in-Some.owner.now, name) in
    first_step (foreign_in c.args.place) c.args.deps.now c.loop-at.at _ (sym c.in-Some.ensures) (ap (option_map named) (sym c.in_default-name_among.ensures))
    ∙ c.loop-at.invariant
