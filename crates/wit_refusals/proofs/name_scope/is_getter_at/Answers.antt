use Rattle.std.proofs.Common.{◌≡◌, ℕ, List, Some, ◌∙◌, sym, ap}
use Rattle.wit_syntax.proofs.Common.{option_map, slice_get, slice_get-map}
use Rattle.wit_refusals.specs.KeyedNames.{spelled, name_of, names_of}
use Rattle.wit_refusals.proofs.name_scope.is_getter_at.Goals as goal

pub returns-in-Some : goal.returns-in-Some
returns-in-Some c = λ own.
    let es = c.args.names.now in
    let i = c.args.place in
    let d = c.in-Some.found.now in
    let key = c.in-Some.key.now in
    let entry : slice_get es i ≡ Some (key, d) = sym (rw c.in-Some.is at c.get_index.ensures) in
    let at : slice_get (names_of es) i ≡ Some (spelled key d, d.span) = slice_get-map name_of es i ∙ ap (option_map name_of) entry in
    record { place = i; span = d.span; at = at ∙ ap (λ (n : List ℕ). Some (n, d.span)) (sym c.spelled.ensures ∙ c.is_getter_name.ensures own) }
