use Rattle.std.proofs.Common.{rules, ◌≡◌, Bool, None, Option, Some, inl, inr, sym, ap, ◌∙◌}
use Rattle.wit_arena.proofs.Common.{Foreign, Id, all_items, is_world_at, leads, option_copied, package_of, path_id, world_there}
use Rattle.wit_model.specs.declared.ast_item.AstItem.TheVariants as entry
use Rattle.wit_first.specs.FileFaults.{lost_fault}
use Rattle.wit_first.specs.UseFaults.{reached_fault}
use Rattle.wit_top_names.specs.Tops.{target_view}
use Rattle.wit_files.specs.FileNames.{top_at}
use Rattle.wit_items.proofs.Others.{interface_found, interface_missing, wanted_visited}
use Rattle.wit_items.proofs.resolved_path.path_source.Goals as goal

pub returns-in-Some-Interface-clause-source : goal.returns-in-Some-Interface-clause-source
returns-in-Some-Interface-clause-source c = sym (ap target_view c.in-Foreign.is) ∙ c.target.ensures

pub returns-in-Some-Interface-clause-placed : goal.returns-in-Some-Interface-clause-placed
returns-in-Some-Interface-clause-placed c =
    let files = c.args.files.now in
    let p = package_of c.in-Foreign.«package».now in
    let id = c.in-Foreign.name in
    let there : option_copied c.entry_there.result ≡ Some (entry.Interface c.index.result) = search rules in
    (interface_found files p id c.index.result (sym c.entry_there.ensures ∙ there)).1

pub returns-in-Some-Interface-clause-first : goal.returns-in-Some-Interface-clause-first
returns-in-Some-Interface-clause-first c =
    let files = c.args.files.now in
    let p = package_of c.in-Foreign.«package».now in
    let id = c.in-Foreign.name in
    let from = c.args.path.now in
    let to = leads (top_at files c.args.place) from in
    let lead : to ≡ Foreign p id = sym c.target.ensures ∙ ap target_view c.in-Foreign.is in
    let there : option_copied c.entry_there.result ≡ Some (entry.Interface c.index.result) = search rules in
    ap (λ (o : Option Bool). reached_fault o (path_id from) (lost_fault (all_items files) to) None) (ap (is_world_at files) lead ∙ (interface_found files p id c.index.result (sym c.entry_there.ensures ∙ there)).0)

pub returns-in-Some-World-clause-first : goal.returns-in-Some-World-clause-first
returns-in-Some-World-clause-first c =
    let files = c.args.files.now in
    let p = package_of c.in-Foreign.«package».now in
    let id = c.in-Foreign.name in
    let from = c.args.path.now in
    let to = leads (top_at files c.args.place) from in
    let lead : to ≡ Foreign p id = sym c.target.ensures ∙ ap target_view c.in-Foreign.is in
    let v = wanted_visited files c.args.place from c.requires.path p id lead in
    let world = interface_missing files p id v.0 v.1 (λ i here. (
    let other : option_copied c.entry_there.result ≡ Some (entry.Interface i) = c.entry_there.ensures ∙ here in
    search rules)) in
    elim c.refuse_world.ensures [
      | inl memory ↦ inl memory
      | inr says ↦ inr (ap (λ (o : Option Bool). reached_fault o (path_id from) (lost_fault (all_items files) to) None) (ap (is_world_at files) lead ∙ world) ∙ ap Some (sym (says ∙ ap (λ (id : Id). world_there id) c.path_id.ensures)))
    ]

pub returns-in-None-clause-first : goal.returns-in-None-clause-first
returns-in-None-clause-first c =
    let files = c.args.files.now in
    let p = package_of c.in-Foreign.«package».now in
    let id = c.in-Foreign.name in
    let from = c.args.path.now in
    let to = leads (top_at files c.args.place) from in
    let lead : to ≡ Foreign p id = sym c.target.ensures ∙ ap target_view c.in-Foreign.is in
    let v = wanted_visited files c.args.place from c.requires.path p id lead in
    let world = interface_missing files p id v.0 v.1 (λ i here. (let wrong : None ≡ Some (entry.Interface i) = sym (ap option_copied c.in-None.is) ∙ c.entry_there.ensures ∙ here in let f : ⊥ = cc in f)) in
    elim c.refuse_world-in-None.ensures [
      | inl memory ↦ inl memory
      | inr says ↦ inr (ap (λ (o : Option Bool). reached_fault o (path_id from) (lost_fault (all_items files) to) None) (ap (is_world_at files) lead ∙ world) ∙ ap Some (sym (says ∙ ap (λ (id : Id). world_there id) c.path_id-in-None.ensures)))
    ]
