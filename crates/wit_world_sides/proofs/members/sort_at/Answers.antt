use Rattle.std.proofs.Common.{Option, sym, ap, ◌∙◌}
use Rattle.wit_arena.proofs.Common.{WorldItem, codes, option_copied, option_map_or}
use Rattle.wit_world_sides.specs.Members.{item_word}
use Rattle.wit_world_sides.proofs.Putting.{sort_lookup}
use Rattle.wit_world_sides.proofs.members.sort_at.Goals as goal

pub returns-in-Some : goal.returns-in-Some
returns-in-Some c = c.sort_of.ensures ∙ sym (sort_lookup c.args.items.now c.args.name.now ∙ ap (λ (o : Option WorldItem). option_map_or item_word o (codes "func")) (sym c.get_name.ensures ∙ ap option_copied c.in-Some.is))

pub returns-in-None : goal.returns-in-None
returns-in-None c = sym (sort_lookup c.args.items.now c.args.name.now ∙ ap (λ (o : Option WorldItem). option_map_or item_word o (codes "func")) (sym c.get_name.ensures ∙ ap option_copied c.in-None.is))
