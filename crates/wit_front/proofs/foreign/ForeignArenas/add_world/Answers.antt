use Rattle.std.proofs.Common.{ℕ, [], ◌∷◌, ◌++◌, refl, ap, ◌∙◌}
use Rattle.wit_model.specs.declared.ast_item.AstItem.TheVariants as entry
use Rattle.wit_items.proofs.Common.{World, foreign_view}
use Rattle.wit_front.proofs.ForeignName.{arenas-world}
use Rattle.wit_front.proofs.foreign.ForeignArenas.add_world.Goals as goal

pub returns : goal.returns
returns c = λ vs before. (
    let a = c.args.self.now in
    let worlds = c.in_ok-id.ensures.ok ∙ ap (λ (w : World). a.worlds ++ w ∷ []) c.in_ok-world.ensures in
    let entries = c.in_ok-push.ensures.items ∙ ap (λ (id : ℕ). a.entries.items ++ entry.World id ∷ []) c.in_ok-id.ensures.id in
    arenas-world vs (foreign_view c.args.visit) a _ before refl c.requires refl worlds entries)
