use Rattle.std.proofs.Common.{◌≡◌, None, Some, sym, ap, ◌∙◌}
use Rattle.wit_arena.proofs.Common.{Target}
use Rattle.wit_top_names.specs.Tops.{target_view}
use Rattle.wit_files.specs.declared.file_names.Found.TheVariants.{Foreign as ForeignAt}
use Rattle.wit_items.proofs.Others.{got_at, entry_found, entry_missing}
use Rattle.wit_items.proofs.resolved_path.entry_there.Goals as goal

pub returns-in-Some-Foreign : goal.returns-in-Some-Foreign
returns-in-Some-Foreign c =
    let files = c.args.files.now in
    let to : Target = target_view c.args.target in
    let entries = c.entries.result.now in
    let place = c.in-Some-Foreign.place in
    got_at entries place c.get.result c.get.ensures.lookup ∙ entry_found files entries to c.found.result place c.found.ensures (c.in-Some-Foreign.is ∙ ap Some c.in-Some-Foreign.field-0-is) c.entries.ensures

pub returns-in-None : goal.returns-in-None
returns-in-None c = entry_missing c.args.files.now (target_view c.args.target) c.found.result c.found.ensures (λ k here. (let wrong : None ≡ Some (ForeignAt k) = sym c.in-None.is ∙ here in let f : ⊥ = cc in f))
