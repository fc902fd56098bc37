-- Files that declare the same break a rule both or neither.
use Rattle.std.proofs.Common.{unwrap_or, ◌≡◌, ℕ, zero, suc, List, Option, Some, None, refl, sym, ap, ◌∙◌, subst}
use Rattle.std.specs.Prelude.{Contains}
use Rattle.wit_tree.specs.declared.tree.PackageFile.{PackageFile}
use Rattle.wit_type_tree.specs.declared.leaves.Id.{Id}
use Rattle.wit_type_tree.specs.declared.types.«Type».{«Type» as Written}
use Rattle.wit_syntax.specs.Address.{Address}
use Rattle.wit_syntax.specs.NameEnds.{End, Elsewhere, named_end, shape_end, EndsAt, IsNoResource}
use Rattle.wit_syntax.specs.Fault.{Fault, item_word, missing_at}
use Rattle.wit_syntax.specs.Foreign.{ForeignVisit}
use Rattle.wit_syntax.specs.Function.{all_types}
use Rattle.wit_syntax.specs.Form.{Form, AliasForm}
use Rattle.wit_syntax.specs.Shape.{Shape, Shapes, Word, More}
use Rattle.wit_syntax.specs.Source.{TopName, Item, address, all_items, ScopeName, scope_names, parts, local_name, meaning, about_name, Used}
use Rattle.wit_syntax.specs.ScopesOfTrees.{scope}
use Rattle.wit_syntax.specs.Sides.{side_items, IsFoldedTwice, IsCrossedTwice, IsBrokenSides, FoldedTwice, CrossedTwice, all_scopes, InterfaceMetadata, functions, item_types}
use Rattle.wit_syntax.specs.Broken
use Rattle.wit_syntax.specs.Broken.{last_header, IsBrokenScope, IsBrokenItems, IsBrokenNames, IsLinkedTwice, IsBroken, IsLegal}
use Rattle.wit_syntax.proofs.Headers.{no_header}
use Rattle.wit_syntax.proofs.JoinedTargets.{AreThemselves, used_same}
use Rattle.wit_syntax.proofs.JoinedItems.{retop, names_same, twin_among}
use Rattle.wit_syntax.proofs.JoinedFiles.{AreAlike, no_use_in_file, items_twins, visits_same}
use Rattle.wit_syntax.proofs.JoinedOrders.{missing_edge_onward, cyclic_edge_onward}
use Rattle.wit_syntax.proofs.JoinedTrees.{scopes_twins, scope_alike}
use Rattle.wit_syntax.proofs.JoinedNames.{top_repeated, repeated_onward}
use Rattle.wit_syntax.proofs.JoinedUses.{world_resolved, use_onward, lacking_onward}
use Rattle.wit_syntax.proofs.Ends.{meant_end}

-- what is wrong on the sides of an item is wrong on those of its twin
module _ (i : Item) (top : List TopName) (own : AreThemselves i.top) (other : AreThemselves top) where
  twin_names : scope_names i ≡ scope_names (retop top i)
  twin_names = names_same i.top top own other (parts i)

  sides_onward : (f : Fault) → IsBrokenSides i f → IsBrokenSides (retop top i) f
  sides_onward f (FoldedTwice h) = FoldedTwice (subst (λ (xs : List ScopeName). IsFoldedTwice xs (side_items i) f) twin_names h)
  sides_onward f (CrossedTwice h) = CrossedTwice (subst (λ (xs : List ScopeName). IsCrossedTwice xs (side_items i) f) twin_names h)
  sides_onward f (InterfaceMetadata x among broken) = InterfaceMetadata x among broken

  scope_onward : (f : Fault) → IsBrokenScope (scope_names i) (functions i) f → IsBrokenScope (scope_names (retop top i)) (functions (retop top i)) f
  scope_onward f h = subst (λ (xs : List ScopeName). IsBrokenScope xs (functions i) f) twin_names h

-- a name ends where it does wherever its parts end alike
pub named_by : (f g : Shape → Option End) → ((x : Shape) → f x ≡ g x) → (s : Address) (name : List ℕ) (form : Form) (xs : Shapes) → named_end f s name form xs ≡ named_end g s name form xs
named_by f g same s name AliasForm (More x xs) = same x
named_by f g same s name _ xs = refl

meant_by : (f g : Address → Shape → Option End) → ((s : Address) (x : Shape) → f s x ≡ g s x) → (s : Address) (x : Option ScopeName) → meant_end f s x ≡ meant_end g s x
meant_by f g same s None = refl
meant_by f g same s (Some x) = named_by (f (unwrap_or (about_name x).from s)) (g (unwrap_or (about_name x).from s)) (same (unwrap_or (about_name x).from s)) s (local_name x) (about_name x).body.form (about_name x).body.parts

module _ (files others : List PackageFile) (a : AreAlike files others) where
  ends_alike : (n : ℕ) (s : Address) (x : Shape) → shape_end files n s x ≡ shape_end others n s x
  ends_alike zero s x = refl
  ends_alike (suc n) s (Word id) = meant_by (shape_end files n) (shape_end others n) (ends_alike n) s (meaning (scope files s) id.name.now) ∙ ap (λ (xs : List ScopeName). meant_end (shape_end others n) s (meaning xs id.name.now)) (scope_alike files others a s)
  ends_alike (suc n) s _ = refl

  pub ends_onward : (s : Address) (id : Id) (end : End) → EndsAt files s id end → EndsAt others s id end
  ends_onward s id end h = (h.0, sym (ends_alike h.0 s (Word id)) ∙ h.1)

  no_resource_onward : (s : Address) (types : List Written) (f : Fault) → IsNoResource files s types f → IsNoResource others s types f
  no_resource_onward s types f h = (h.0, h.1, ends_onward s h.0 Elsewhere h.2, h.3)

  handle_onward : (i : Item) (top : List TopName) → AreThemselves i.top → AreThemselves top → (f : Fault) → IsNoResource files (address i) (item_types i) f → IsNoResource others (address (retop top i)) (item_types (retop top i)) f
  handle_onward i top own other f h = subst (λ (xs : List ScopeName). IsNoResource others (address i) (all_types xs (functions i)) f) (twin_names i top own other) (no_resource_onward (address i) (all_types (scope_names i) (functions i)) f h)

  linked_onward : (i : Item) (top : List TopName) → AreThemselves i.top → AreThemselves top → (f : Fault) → IsLinkedTwice files i f → IsLinkedTwice others (retop top i) f
  linked_onward i top own other f h = (h.0, h.1, h.2, h.3, h.4, h.5, h.6, h.7, sym (used_same i.top top own other h.2.path) ∙ h.8 ∙ used_same i.top top own other h.3.path, sym (world_resolved files others a i top own other h.3.path) ∙ h.9, h.10)

  items_onward : (f : Fault) → IsBrokenItems files f → (g : Fault) × IsBrokenItems others g
  items_onward f (Broken.DuplicateItem h) = (f, Broken.DuplicateItem (repeated_onward (all_items files) (all_items others) f (items_twins files others a) h))
  items_onward f (Broken.DuplicateTopName file among h) =
      let it = top_repeated files file f a.left.no_use among h in
      (it.0, Broken.DuplicateItem (repeated_onward (all_items files) (all_items others) it.0 (items_twins files others a) it.1))
  items_onward f (Broken.MissingItem h) = (let it = missing_edge_onward files others a (missing_at 7 item_word) f h in (it.0, Broken.MissingItem it.1))
  items_onward f (Broken.CyclicItem h) = (let it = cyclic_edge_onward files others a 8 item_word f h in (it.0, Broken.CyclicItem it.1))

  names_onward : (f : Fault) → IsBrokenNames files f → (g : Fault) × IsBrokenNames others g
  names_onward f (Broken.Items h) = (let it = items_onward f h in (it.0, Broken.Items it.1))
  names_onward f (Broken.ForeignStability v among h) = (f, Broken.ForeignStability v (subst (λ (vs : List ForeignVisit). Contains vs v) (visits_same files others a) among) h)
  names_onward f (Broken.TopUse file among (Broken.AttributedUse u used attributed as_stated)) = absurd (no_use_in_file files a.left.no_use file among u used)
  names_onward f (Broken.TopUse file among (Broken.LostUse u used id local missing as_stated)) = absurd (no_use_in_file files a.left.no_use file among u used)

  headerless : last_header files ≡ None → ⊥
  headerless h = (let none : None ≡ Some a.left.header = sym (no_header files h a.left.place a.left.file a.left.at) ∙ a.left.headed in let wrong : ⊥ = cc in wrong)

  broken_onward : (f : Fault) → IsBroken files f → (g : Fault) × IsBroken others g
  broken_onward f (Broken.Headerless none h) = absurd (headerless none)
  broken_onward f (Broken.Names h) = (let it = names_onward f h in (it.0, Broken.Names it.1))
  broken_onward f (Broken.ItemStability i is h) =
      let t = twin_among (all_items files) (all_items others) (items_twins files others a) i is in
      (f, Broken.ItemStability (retop t.top i) t.among h)
  broken_onward f (Broken.UseMetadata i is u among h) =
      let t = twin_among (all_items files) (all_items others) (items_twins files others a) i is in
      (f, Broken.UseMetadata (retop t.top i) t.among u among h)
  broken_onward f (Broken.IncludeStability i is n among h) =
      let t = twin_among (all_items files) (all_items others) (items_twins files others a) i is in
      (f, Broken.IncludeStability (retop t.top i) t.among n among h)
  broken_onward f (Broken.Use i is h) =
      let t = twin_among (all_items files) (all_items others) (items_twins files others a) i is in
      let it = use_onward files others a i t.top t.own t.other f h in
      (it.0, Broken.Use (retop t.top i) t.among it.1)
  broken_onward f (Broken.InterfaceIncluded i is path among other as_stated) =
      let t = twin_among (all_items files) (all_items others) (items_twins files others a) i is in
      (f, Broken.InterfaceIncluded (retop t.top i) t.among path among (sym (world_resolved files others a i t.top t.own t.other path) ∙ other) as_stated)
  broken_onward f (Broken.MissingName i is from attributes n among target here declared missing as_stated) =
      let t = twin_among (all_scopes files) (all_scopes others) (scopes_twins files others a) i is in
      let used = subst (λ (xs : List ScopeName). Contains xs (Used from attributes n)) (twin_names i t.top t.own t.other) among in
      let it = lacking_onward files others a target n.name.name.now declared missing in
      (f, Broken.MissingName (retop t.top i) t.among from attributes n used (retop it.0 target) here it.1 it.2 as_stated)
  broken_onward f (Broken.Scope i is h) =
      let t = twin_among (all_scopes files) (all_scopes others) (scopes_twins files others a) i is in
      (f, Broken.Scope (retop t.top i) t.among (scope_onward i t.top t.own t.other f h))
  broken_onward f (Broken.Sides i is h) =
      let t = twin_among (all_scopes files) (all_scopes others) (scopes_twins files others a) i is in
      (f, Broken.Sides (retop t.top i) t.among (sides_onward i t.top t.own t.other f h))
  broken_onward f (Broken.LinkedTwice i is h) =
      let t = twin_among (all_items files) (all_items others) (items_twins files others a) i is in
      (f, Broken.LinkedTwice (retop t.top i) t.among (linked_onward i t.top t.own t.other f h))
  broken_onward f (Broken.Handle i is names h) =
      let t = twin_among (all_scopes files) (all_scopes others) (scopes_twins files others a) i is in
      (f, Broken.Handle (retop t.top i) t.among (sym (scope_alike files others a (address i)) ∙ names ∙ twin_names i t.top t.own t.other) (handle_onward i t.top t.own t.other f h))
  broken_onward f (Broken.Setter i is h) =
      let t = twin_among (all_scopes files) (all_scopes others) (scopes_twins files others a) i is in
      (f, Broken.Setter (retop t.top i) t.among h)

  pub legal_back : IsLegal others → IsLegal files
  legal_back legal f h = (let it = broken_onward f h in legal it.0 it.1)
