use Rattle.std.proofs.Common.{◌≡◌, ◌∷◌, [], ap, ◌∙◌}
use Rattle.wit_arena.proofs.Common.{SideFunction, WorldSide, codes, function_item, role_side, same_side}
use Rattle.wit_refusals.specs.NameScopes.{Name}
use Rattle.wit_rules.specs.Signatures.{function_view}
use Rattle.wit_externs.specs.Clash.{linked_on}
use Rattle.wit_world_sides.specs.Members.{entries_of, inserted_on}
use Rattle.wit_world_sides.proofs.Putting.{puts, function_called, nothing_more}
use Rattle.wit_world_sides.proofs.members.put_function.Goals as goal

pub returns-clause-puts : goal.returns-clause-puts
returns-clause-puts c = λ keyed.
    let m = c.args.members.now in
    let fn = function_view c.args.borrowed in
    let f = c.args.function in
    let same : c.in_ok-clone.field-0 ≡ f.name = c.in_ok-clone.ensures.cases in
    let put = λ (s : WorldSide). (rw same at c.in_ok-add_item.ensures) s ∙ ap (λ (own : WorldSide). inserted_on s own (function_item f) (entries_of s m.sides)) c.side.ensures in
    puts m _ (SideFunction fn) (function_item f) keyed c.in_ok-define_function.ensures.defined (λ s. c.in_ok-define_function.ensures.differ s (keyed.differ s)) (λ s. nothing_more (same_side s (role_side fn.role)) (linked_on s m.links)) keyed.apart (ap (λ (n : Name). n.0 ∷ []) c.requires.borrowed) (function_called f) (ap (λ (n : Name). (n.0, codes "func") ∷ []) c.requires.borrowed) put
