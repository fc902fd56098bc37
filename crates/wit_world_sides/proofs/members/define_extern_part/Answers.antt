use Rattle.std.proofs.Common.{◌≡◌, ℕ, true, false, List, sym, ◌∙◌, subst, ◌++◌}
use Rattle.wit_arena.proofs.Common.{codes, side_word}
use Rattle.wit_walk.proofs.Common.{crossed_among, sort_among}
use Rattle.wit_refusals.specs.KeyedNames.{HasName}
use Rattle.wit_refusals.specs.NameScopes.{Name}
use Rattle.wit_sides.specs.SideNames.{defined_on}
use Rattle.wit_world_sides.specs.Members.{sorted_on}
use Rattle.wit_world_sides.proofs.PutFaults.{named_free, named_has, named_other}
use Rattle.wit_world_sides.proofs.members.define_extern_part.Goals as goal

pub returns-in-Ok-clause-first : goal.returns-in-Ok-clause-first
returns-in-Ok-clause-first c = named_free (crossed_among c.args.side (sorted_on c.args.side c.args.sides.now)) (defined_on c.args.side c.args.in_use.now) c.args.name.now c.args.span c.in-Ok.ensures.free

pub returns-then-not-branch-clause-first : goal.returns-then-not-branch-clause-first
returns-then-not-branch-clause-first c =
    let name = c.args.name.now in
    let old = defined_on c.args.side c.args.in_use.now in
    let other : HasName old name → ⊥ = λ has. (
    let there = subst (λ (l : List Name). HasName l name) (sym (c.in-Err.ensures.unchanged c.args.side)) has in
    let wrong : true ≡ false = sym (c.in_ok-has-in-Err.ensures.1 there) ∙ c.if-not-branch.true in
    let f : ⊥ = cc in
    f) in
    named_other (crossed_among c.args.side (sorted_on c.args.side c.args.sides.now)) old name c.args.span c.in-Err.refusal other c.in-Err.ensures.refused

pub returns-else-not-branch-clause-first : goal.returns-else-not-branch-clause-first
returns-else-not-branch-clause-first c =
    let name = c.args.name.now in
    let there = subst (λ (l : List Name). HasName l name) (c.in-Err.ensures.unchanged c.args.side) (c.in_ok-has-in-Err.ensures.0 c.if-not-branch.false) in
    let sorts = sorted_on c.args.side c.args.sides.now in
    let word = sort_among sorts name in
    let says : List ℕ → List ℕ → List ℕ = λ on what. on ++ (codes " `" ++ (name ++ (codes "` conflicts with prior " ++ (what ++ codes " of same name")))) in
    let words = rw (c.side_word-word.ensures, c.sort_on-what.ensures) at c.format-words.ensures.ok in
    named_has (crossed_among c.args.side sorts) (defined_on c.args.side c.args.in_use.now) name c.args.span c.refuse_in.result there (c.refuse_in.ensures (says (side_word c.args.side) word) words)
