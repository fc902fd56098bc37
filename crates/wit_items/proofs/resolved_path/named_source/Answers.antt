use Rattle.std.proofs.Common.{◌≡◌, Bool, Option, None, Some, inl, inr, refl, sym, ap, ◌∙◌}
use Rattle.wit_arena.proofs.Common.{Id, Local, all_items, is_world_at, path_id, world_there}
use Rattle.wit_first.specs.FileFaults.{lost_fault}
use Rattle.wit_first.specs.UseFaults.{reached_fault}
use Rattle.wit_files.specs.declared.file_names.Found.TheVariants.{Item as ItemAt}
use Rattle.wit_items.proofs.Others.{leads_nowhere, leads_to, leads_within, lost_named}
use Rattle.wit_items.proofs.resolved_path.named_source.Goals as goal

pub is_world-requires : goal.is_world-requires
is_world-requires c =
    let name = c.args.name in
    record { within = leads_within c.args.files.now (Local name) name c.found.result c.in-Some-Item.place refl c.found.ensures (c.in-Some-Item.is ∙ ap Some c.in-Some-Item.field-0-is) }

pub returns-then-is_world-clause-first : goal.returns-then-is_world-clause-first
returns-then-is_world-clause-first c =
    let files = c.args.files.now in
    let name = c.args.name in
    let world : is_world_at files (Local name) ≡ Some c.is_world.result = leads_to files (Local name) name c.found.result c.in-Some-Item.place c.is_world.result refl c.found.ensures (c.in-Some-Item.is ∙ ap Some c.in-Some-Item.field-0-is) c.is_world.ensures in
    elim c.refuse_world.ensures [
      | inl memory ↦ inl memory
      | inr says ↦ inr (ap (λ (o : Option Bool). reached_fault o (path_id c.args.path.now) (lost_fault (all_items files) (Local name)) None) (world ∙ ap Some c.if-is_world.true) ∙ ap Some (sym (says ∙ ap (λ (id : Id). world_there id) c.path_id.ensures)))
    ]

pub returns-else-is_world-clause-first : goal.returns-else-is_world-clause-first
returns-else-is_world-clause-first c =
    let files = c.args.files.now in
    let name = c.args.name in
    let world : is_world_at files (Local name) ≡ Some c.is_world.result = leads_to files (Local name) name c.found.result c.in-Some-Item.place c.is_world.result refl c.found.ensures (c.in-Some-Item.is ∙ ap Some c.in-Some-Item.field-0-is) c.is_world.ensures in
    ap (λ (o : Option Bool). reached_fault o (path_id c.args.path.now) (lost_fault (all_items files) (Local name)) None) (world ∙ ap Some c.if-is_world.false)

pub returns-in-None-clause-first : goal.returns-in-None-clause-first
returns-in-None-clause-first c =
    let files = c.args.files.now in
    let name = c.args.name in
    let none = leads_nowhere files (Local name) name c.found.result refl c.found.ensures (λ p here. (let wrong : None ≡ Some (ItemAt p) = sym c.in-None.is ∙ here in let f : ⊥ = cc in f)) in
    elim c.refuse_missing-in-None.ensures [
      | inl memory ↦ inl memory
      | inr says ↦ inr (lost_named files name (path_id c.args.path.now) none ∙ ap Some (sym says))
    ]
