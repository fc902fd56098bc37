use Rattle.std.proofs.Common.{ℕ, [], ◌∷◌, ◌++◌, refl, ap, ◌∙◌}
use Rattle.wit_model.specs.declared.ast_item.AstItem.TheVariants as entry
use Rattle.wit_items.proofs.Common.{Interface, foreign_view}
use Rattle.wit_front.proofs.ForeignName.{arenas-interface}
use Rattle.wit_front.proofs.foreign.ForeignArenas.add_interface.Goals as goal

pub returns : goal.returns
returns c = λ vs before. (
    let a = c.args.self.now in
    let interfaces = c.in_ok-id.ensures.ok ∙ ap (λ (i : Interface). a.interfaces ++ i ∷ []) c.foreign_interface-interface.ensures in
    let entries = c.in_ok-push.ensures.items ∙ ap (λ (id : ℕ). a.entries.items ++ entry.Interface id ∷ []) c.in_ok-id.ensures.id in
    arenas-interface vs (foreign_view c.args.visit) a _ before refl c.requires interfaces refl entries)
