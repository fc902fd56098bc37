use Rattle.std.proofs.Common.{◌≡◌, ◌||◌, true, Some, None, string_bytes, nat_eq, sym, ap, ◌∙◌}
use Rattle.std.specs.BTreeSet.{contains_text}
use Rattle.std.specs.Cmp.Lexicographic.{pointwise}
use Rattle.std.specs.Option.{option_copied}
use Rattle.std.proofs.lemmas.Map.Text.{btree_set_updates_text}
use Rattle.wit_functions.specs.SettersPlaced.{both}
use Rattle.wit_functions.specs.MaybeFunction.{offered}
use Rattle.wit_functions.proofs.Parting.{offered_more}
use Rattle.wit_functions.proofs.parted.Parted.keep.Goals.{in-Some+in_ok-name+in_ok-insert, in_default}
use Rattle.wit_functions.proofs.parted.Parted.keep.Goals as goal

pub returns-clause-getters : goal.returns-clause-getters
returns-clause-getters g c = λ name.
    let item = c.args.item in
    let old = c.args.self.now.getters in
    elim c.match-offered.branch [
      | in-Some+in_ok-name+in_ok-insert w ↦ (
          let offer : offered (g.T.MaybeFunction.function_at item) ≡ Some w.in-Some.name.now = ap offered (sym c.maybe_function.ensures) ∙ sym c.offered.ensures ∙ ap option_copied w.in-Some.is in
          ap (λ s. contains_text s.getters name) w.self-is
          ∙ btree_set_updates_text (string_bytes w.in_ok-name.name) old w.insert.new.self true w.in_ok-insert.ensures.updates name
          ∙ offered_more (string_bytes w.in_ok-name.name) w.in-Some.name.now name (offered (g.T.MaybeFunction.function_at item)) (contains_text old name) w.in_ok-name.ensures.ok offer)
      | in_default w ↦ (
          let offer : offered (g.T.MaybeFunction.function_at item) ≡ None = ap offered (sym c.maybe_function.ensures) ∙ sym c.offered.ensures ∙ ap option_copied w.in_default.is in
          ap (λ s. contains_text s.getters name) w.self-is ∙ ap (λ o. both (pointwise nat_eq) (Some name) o || contains_text old name) (sym offer))
    ]
