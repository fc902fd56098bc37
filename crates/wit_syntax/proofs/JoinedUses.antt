-- Files that declare the same: a path that leads nowhere, or to the wrong thing, in the one does so in the other, and so does a used name.
use Rattle.std.proofs.Common.{◌≡◌, ℕ, Bool, List, Option, Some, None, refl, sym, ap, ◌∙◌}
use Rattle.std.specs.Prelude.{find}
use Rattle.std.specs.Option.{option_map}
use Rattle.wit_type_tree.specs.declared.leaves.Id.{Id}
use Rattle.wit_tree.specs.declared.tree.UsePath.{UsePath}
use Rattle.wit_tree.specs.declared.tree.PackageFile.{PackageFile}
use Rattle.wit_package_names.specs.declared.package_name.PackageName.{PackageName}
use Rattle.wit_syntax.specs.Address.{ForeignNamed, same_address}
use Rattle.wit_syntax.specs.Fault.{Fault, item_word, missing_at}
use Rattle.wit_syntax.specs.Foreign.{ForeignVisit, foreign_visits, same_item, visited}
use Rattle.wit_syntax.specs.Repeats.{firsts}
use Rattle.wit_syntax.specs.Source.{TopName, Target, Local, Foreign, leads, Declared, Item, is_world, item_name, parts, all_items, item_named, ScopeName, scope_names, meaning, about}
use Rattle.wit_syntax.specs.Broken.{is_world_at, IsBrokenUse, MissingUse, WorldUsed}
use Rattle.wit_syntax.specs.Splitting.{declared_of}
use Rattle.std.specs.Str.{bytes_eq}
use Rattle.wit_syntax.proofs.Found.{find_at}
use Rattle.wit_syntax.proofs.JoinedTargets.{AreThemselves, IsSameTarget, leads_same, local_from}
use Rattle.wit_syntax.proofs.JoinedItems.{retop, AreTwins, names_same}
use Rattle.wit_syntax.proofs.JoinedFiles.{AreAlike, items_twins, visits_same}
use Rattle.wit_syntax.proofs.JoinedTrees.{named_same}

-- what an option holds by what is declared
none_declared : (o : Option Item) → option_map declared_of o ≡ None → o ≡ None
none_declared None is = refl
none_declared (Some i) is = absurd (let f : ⊥ = cc in f)

some_declared : (o : Option Item) (d : Declared) → option_map declared_of o ≡ Some d → (i : Item) × (o ≡ Some i) × (i.declared ≡ d)
some_declared None d is = absurd (let f : ⊥ = cc in f)
some_declared (Some i) d is = (i, refl, cc)

world_declared : (o : Option Item) → option_map is_world o ≡ option_map (λ (d : Declared). (about d).is_world) (option_map declared_of o)
world_declared None = refl
world_declared (Some i) = refl

module _ (is js : List Item) (t : AreTwins is js) where
  unnamed_onward : (name : List ℕ) → item_named is name ≡ None → item_named js name ≡ None
  unnamed_onward name none = none_declared (item_named js name) (sym (named_same is js t name) ∙ ap (option_map declared_of) none)

  -- the first item of a name has its twin under that name
  twin_named : (name : List ℕ) (i : Item) → item_named is name ≡ Some i → (top : List TopName) × AreThemselves i.top × AreThemselves top × (item_named js name ≡ Some (retop top i))
  twin_named name i at =
      let one = find_at (λ (v : Item). bytes_eq (item_name v) name) is i at in
      let j = some_declared (item_named js name) i.declared (sym (named_same is js t name) ∙ ap (option_map declared_of) at) in
      let two = find_at (λ (v : Item). bytes_eq (item_name v) name) js j.0 j.1 in
      (j.0.top, t.left one.0 i one.1, t.right two.0 j.0 two.1, j.1 ∙ ap (λ (d : Declared). Some (record { top = j.0.top; declared = d })) j.2)

  world_onward : (name : List ℕ) → option_map is_world (item_named is name) ≡ option_map is_world (item_named js name)
  world_onward name = world_declared (item_named is name) ∙ ap (option_map (λ (d : Declared). (about d).is_world)) (named_same is js t name) ∙ sym (world_declared (item_named js name))

abbrev foreign_world : List ForeignVisit → PackageName → List ℕ → Option Bool
foreign_world vs p name = option_map (λ (v : ForeignVisit). v.wants_world) (find (λ (v : ForeignVisit). same_address (visited v) (ForeignNamed p name)) (firsts same_item vs))

module _ (files others : List PackageFile) (a : AreAlike files others) where
  -- what is where paths lead is a world in both or in neither
  world_at_alike : (t u : Target) → IsSameTarget t u → is_world_at files t ≡ is_world_at others u
  world_at_alike (Local x) (Local y) same = ap (λ (name : List ℕ). option_map is_world (item_named (all_items files) name)) same ∙ world_onward (all_items files) (all_items others) (items_twins files others a) y.name.now
  world_at_alike (Foreign p x) (Foreign q y) same = ap (λ (vs : List ForeignVisit). foreign_world vs p x.name.now) (visits_same files others a) ∙ ap (λ (r : PackageName). foreign_world (foreign_visits others) r x.name.now) same.0 ∙ ap (λ (z : Id). foreign_world (foreign_visits others) q z.name.now) same.1
  world_at_alike (Local x) (Foreign q y) same = absurd same
  world_at_alike (Foreign p x) (Local y) same = absurd same

  -- of an item and its twin
  module _ (i : Item) (top : List TopName) (own : AreThemselves i.top) (other : AreThemselves top) where
    pub world_resolved : (from : UsePath) → is_world_at files (leads i.top from) ≡ is_world_at others (leads top from)
    world_resolved from = world_at_alike (leads i.top from) (leads top from) (leads_same i.top top own other from)

    pub use_onward : (f : Fault) → IsBrokenUse files i f → (g : Fault) × IsBrokenUse others (retop top i) g
    use_onward f (MissingUse path id among local missing is) =
        let to = local_from (leads i.top path) (leads top path) id (leads_same i.top top own other path) local in
        let here : item_named (all_items files) to.0.name.now ≡ None = ap (item_named (all_items files)) to.2 ∙ missing in
        (missing_at 7 item_word to.0, MissingUse path to.0 among to.1 (unnamed_onward (all_items files) (all_items others) (items_twins files others a) to.0.name.now here) refl)
    use_onward f (WorldUsed path among world is) = (f, WorldUsed path among (sym (world_resolved path) ∙ world) is)

  -- the interface from which a name is used, and that lacks it
  pub lacking_onward : (target : Item) (name : List ℕ) → item_named (all_items files) (item_name target) ≡ Some target → meaning (scope_names target) name ≡ None → (top : List TopName) × (item_named (all_items others) (item_name target) ≡ Some (retop top target)) × (meaning (scope_names (retop top target)) name ≡ None)
  lacking_onward target name declared missing =
      let it = twin_named (all_items files) (all_items others) (items_twins files others a) (item_name target) target declared in
      let names : scope_names target ≡ scope_names (retop it.0 target) = names_same target.top it.0 it.1 it.2 (parts target) in
      (it.0, it.3, sym (ap (λ (ys : List ScopeName). meaning ys name) names) ∙ missing)
