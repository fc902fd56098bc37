use Rattle.std.proofs.Common.{refl, sym, ap, ◌∙◌}
use Rattle.wit_syntax.proofs.Common.{foreign_visits, option_map}
use Rattle.wit_top_names.specs.Tops.{target_view}
use Rattle.wit_files.specs.FileNames.{found_at}
use Rattle.wit_files.specs.declared.file_names.Found.TheVariants.{Item as ItemAt, Foreign as ForeignAt}
use Rattle.wit_files.proofs.Gathering.{item_place}
use Rattle.wit_files.proofs.file_names.FileNames.found.Goals as goal

pub returns-in_err-place-in-Local : goal.returns-in_err-place-in-Local
returns-in_err-place-in-Local c =
    let files = c.self.inside.files.now in
    let place = item_place files c.self.inside.tables.items c.in-Local.id.name.now c.in-Local.id c.self.invariant.declared.items refl in
    c.from_residual.ensures ∙ ap (option_map ItemAt) (c.in_err-place-in-Local.ensures ∙ place) ∙ ap (λ t. found_at files (target_view t)) (sym c.in-Local.is) ∙ ap (λ l. found_at l (target_view c.args.target)) c.self.view_is

pub returns-in_ok-place-in-Local : goal.returns-in_ok-place-in-Local
returns-in_ok-place-in-Local c =
    let files = c.self.inside.files.now in
    let place = item_place files c.self.inside.tables.items c.in-Local.id.name.now c.in-Local.id c.self.invariant.declared.items refl in
    ap (option_map ItemAt) (c.in_ok-place-in-Local.ensures ∙ place) ∙ ap (λ t. found_at files (target_view t)) (sym c.in-Local.is) ∙ ap (λ l. found_at l (target_view c.args.target)) c.self.view_is

pub returns-in_err-place-in-Foreign : goal.returns-in_err-place-in-Foreign
returns-in_err-place-in-Foreign c = c.from_residual-in_err-place-in-Foreign.ensures ∙ ap (option_map ForeignAt) (c.in_err-place-in-Foreign.ensures (foreign_visits c.self.inside.files.now) c.self.invariant.foreign) ∙ ap (λ t. found_at c.self.inside.files.now (target_view t)) (sym c.in-Foreign.is) ∙ ap (λ l. found_at l (target_view c.args.target)) c.self.view_is

pub returns-in_ok-place-in-Foreign : goal.returns-in_ok-place-in-Foreign
returns-in_ok-place-in-Foreign c = ap (option_map ForeignAt) (c.in_ok-place-in-Foreign.ensures (foreign_visits c.self.inside.files.now) c.self.invariant.foreign) ∙ ap (λ t. found_at c.self.inside.files.now (target_view t)) (sym c.in-Foreign.is) ∙ ap (λ l. found_at l (target_view c.args.target)) c.self.view_is
