use Rattle.std.proofs.Common.{◌≡◌, Some, None, string_bytes, sym, ap, ◌∙◌}
use Rattle.std.specs.BTreeMap.{get_by_text}
use Rattle.std.specs.BTreeSet.{contains_text}
use Rattle.std.specs.Option.{option_map}
use Rattle.std.proofs.lemmas.Map.Text.{btree_map_updates_text}
use Rattle.wit_functions.specs.MaybeFunction.{wanted}
use Rattle.wit_functions.specs.Parted.{known}
use Rattle.wit_functions.proofs.Parting.{parted_early, parted_kept}
use Rattle.wit_functions.proofs.parted.Parted.add.Goals as goal

pub returns-in_ok-insert-in-Some : goal.returns-in_ok-insert-in-Some
returns-in_ok-insert-in-Some g c = λ es own was.
    let self = c.args.self.now in
    let has = contains_text self.getters in
    let item = c.args.item in
    let name = string_bytes c.in-Some.name in
    let is : known has (wanted (g.T.MaybeFunction.function_at item)) ≡ Some name = sym c.in_ok-name.ensures ∙ ap (option_map string_bytes) c.in-Some.is in
    parted_early g.T.MaybeFunction.function_at es self.others.items has (get_by_text self.waiting) was (get_by_text c.insert.new.self) item name is (btree_map_updates_text name self.waiting c.insert.new.self _ c.in_ok-insert-in-Some.ensures.updates) own

pub returns-in_ok-keep-in-None : goal.returns-in_ok-keep-in-None
returns-in_ok-keep-in-None g c = λ es own was.
    let self = c.args.self.now in
    let now = c.keep.new.self in
    let has = contains_text self.getters in
    let item = c.args.item in
    let is : known has (wanted (g.T.MaybeFunction.function_at item)) ≡ None = sym c.in_ok-name.ensures ∙ ap (option_map string_bytes) c.in-None.is in
    rw c.in_ok-keep-in-None.ensures.waiting (parted_kept g.T.MaybeFunction.function_at es self.others.items has (get_by_text self.waiting) was now.others.items (contains_text now.getters) item is c.in_ok-keep-in-None.ensures.others c.in_ok-keep-in-None.ensures.getters)
