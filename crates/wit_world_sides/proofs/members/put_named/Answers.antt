use Rattle.std.proofs.Common.{ℕ, ◌++◌, [], ◌∷◌, List, map, sym, ap, ◌∙◌}
use Rattle.wit_arena.proofs.Common.{WorldSide, item_side, same_side}
use Rattle.wit_model.specs.declared.world.WorldKey.TheVariants as key
use Rattle.wit_refusals.specs.NameScopes.{Name}
use Rattle.wit_sides.specs.SideNames.{defined_on}
use Rattle.wit_signatures.specs.FunctionsOfScope.{name_of_id}
use Rattle.wit_externs.specs.Clash.{linked_on}
use Rattle.wit_externs.proofs.Clashing.{item_on, sides_differ}
use Rattle.wit_world_sides.specs.Members.{entries_of, inserted_on}
use Rattle.wit_world_sides.proofs.Putting.{puts, interface_none, other_called, nothing_more}
use Rattle.wit_world_sides.proofs.members.put_named.Goals as goal

pub returns-clause-puts : goal.returns-clause-puts
returns-clause-puts c = λ x on keyed.
    let there = on.0 in
    let named = on.1 in
    let m = c.args.members.now in
    let own = c.args.name in
    let item = c.args.item in
    let defined = c.in_ok-define_extern_part.ensures.defined in
    let more = λ (s : WorldSide). defined s ∙ ap (λ (l : List Name). defined_on s m.in_use ++ l) (item_on s c.args.side x (name_of_id own) there named) in
    let differ = λ (s : WorldSide). sides_differ c.args.side (λ t. defined_on t m.in_use) (λ t. defined_on t c.define_extern_part.new.in_use) own.name.now own.span defined c.in_ok-define_extern_part.ensures.free s (keyed.differ s) in
    let put = λ (s : WorldSide). (rw c.in_ok-from_str.ensures at c.in_ok-add_item.ensures) s ∙ ap (λ (t : WorldSide). inserted_on s t (key.Name own.name.now, item) (entries_of s m.sides)) (sym there) in
    puts m _ x (key.Name own.name.now, item) keyed more differ (λ s. nothing_more (same_side s (item_side x)) (linked_on s m.links)) keyed.apart (sym (ap (map (λ (n : Name). n.0)) named)) (other_called (key.Name own.name.now, item) (interface_none item c.requires)) (ap (λ (w : List ℕ). (own.name.now, w) ∷ []) c.requires ∙ sym on.2) put
