use Rattle.std.proofs.Common.{◌≡◌, sym, ap, ◌∙◌}
use Rattle.wit_items.proofs.Common.{Foreign, entry_at, leads, package_of, top_at, world_at, world_entry}
use Rattle.wit_top_names.specs.Tops.{target_view}
use Rattle.wit_links.proofs.includes.included_world.Goals as goal

pub returns-in-Foreign : goal.returns-in-Foreign
returns-in-Foreign c =
    let files = c.args.resolved.now.interfaces.files in
    let top = top_at files c.args.place in
    let p = package_of c.in-Foreign.«package».now in
    let id = c.in-Foreign.name in
    let lead : leads top c.args.path.now ≡ Foreign p id = sym c.target.ensures ∙ ap target_view c.in-Foreign.is in
    c.world_of.ensures ∙ ap world_entry (c.entry_of.ensures ∙ ap (entry_at files) lead) ∙ ap (world_at files c.args.resolved.now.world_names) (sym lead)
