-- Files that declare the same have tables of items with the same names and edges, and so the same orders.
use Rattle.std.proofs.Common.{◌≡◌, ℕ, List, inl, inr, refl, sym, ap, ◌∙◌, subst}
use Rattle.std.specs.Prelude.{slice_get, map}
use Rattle.std.specs.Option.{option_map}
use Rattle.std.proofs.lemmas.Option.{slice_get-map}
use Rattle.wit_type_tree.specs.declared.leaves.Id.{Id}
use Rattle.wit_tree.specs.declared.tree.UsePath.{UsePath}
use Rattle.wit_tree.specs.declared.tree.PackageFile.{PackageFile}
use Rattle.wit_graph.specs.Table.{Row, IsOrder}
use Rattle.wit_graph.specs.Laws.{NeedsAll, HaveSameEdges}
use Rattle.wit_graph.proofs.Tables.{matched}
use Rattle.wit_graph.proofs.SameEdges.{one_answer, same_edges, missing_onward, cyclic_onward}
use Rattle.wit_syntax.specs.Fault.{Fault, cyclic_at}
use Rattle.wit_syntax.specs.Source.{TopName, Item, item_name, leads, all_items}
use Rattle.wit_syntax.specs.ScopeTables.{needed_paths, local_target, item_row, item_rows}
use Rattle.wit_syntax.specs.Broken.{IsMissingEdge, IsCyclicEdge}
use Rattle.wit_syntax.proofs.Lists.{map_map, map_at}
use Rattle.wit_syntax.proofs.JoinedLists.{flat_map_by, map-flat_map}
use Rattle.wit_syntax.proofs.JoinedTargets.{AreThemselves, id_text, local_by, leads_same}
use Rattle.wit_syntax.proofs.JoinedItems.{retop, AreTwins, twins_back, twin_at, twins_make}
use Rattle.wit_syntax.proofs.JoinedFiles.{AreAlike, items_twins}

-- the names of the items that an item needs
abbrev needed_texts : List TopName → UsePath → List (List ℕ)
needed_texts top from = map id_text (local_target (leads top from))

abbrev needed_items : Item → List Id
needed_items i = (item_row i).needs

needs_same : (i : Item) (top : List TopName) → AreThemselves i.top → AreThemselves top → map id_text (needed_items i) ≡ map id_text (needed_items (retop top i))
needs_same i top own other =
    let paths = needed_paths i in
    let a = λ (from : UsePath). local_target (leads i.top from) in
    let b = λ (from : UsePath). local_target (leads top from) in
    map-flat_map id_text a paths ∙ flat_map_by (needed_texts i.top) (needed_texts top) (λ from. local_by (leads i.top from) (leads top from) (leads_same i.top top own other from)) paths ∙ sym (map-flat_map id_text b paths)

abbrev row_name : Row → List ℕ
row_name row = row.name

module _ (is js : List Item) (t : AreTwins is js) where
  rows_named : map row_name (map item_row is) ≡ map row_name (map item_row js)
  rows_named = map_map row_name item_row is ∙ twins_make item_name (λ i own. refl) is js t ∙ sym (map_map row_name item_row js)

  needs_onward : NeedsAll (map item_row js) (map item_row is)
  needs_onward p k id e =
      let x = map_at item_row is p e.0 e.1 in
      let there = ap (λ (row : Row). slice_get row.needs k) x.2 ∙ e.2 in
      let y = twin_at is js t p x.0 x.1 in
      let needs = needs_same x.0 y.0 (t.left p x.0 x.1) y.1 in
      let other = matched id_text id_text (needed_items (retop y.0 x.0)) (needed_items x.0) (sym needs) k id there in
      (k, other.0, (item_row (retop y.0 x.0), slice_get-map item_row js p ∙ ap (option_map item_row) y.2, other.1), other.2)

module _ (files others : List PackageFile) (a : AreAlike files others) where
  names_alike : map row_name (item_rows files) ≡ map row_name (item_rows others)
  names_alike = rows_named (all_items files) (all_items others) (items_twins files others a)

  onward_alike : NeedsAll (item_rows others) (item_rows files)
  onward_alike = needs_onward (all_items files) (all_items others) (items_twins files others a)

  back_alike : NeedsAll (item_rows files) (item_rows others)
  back_alike = needs_onward (all_items others) (all_items files) (twins_back (all_items files) (all_items others) (items_twins files others a))

  pub edges_alike : HaveSameEdges (item_rows files) (item_rows others)
  edges_alike = record { names = names_alike; onward = onward_alike; back = back_alike }

  -- an order of the one is one of the other
  pub order_onward : (places : List ℕ) → IsOrder (item_rows files) places → IsOrder (item_rows others) places
  order_onward places order =
      let law = same_edges (item_rows files) (item_rows others) edges_alike in
      elim law.alike [
        | inl both ↦ (let it = both.1 in subst (λ (l : List ℕ). IsOrder (item_rows others) l) (sym (law.same places it.0 order it.1)) it.1)
        | inr both ↦ absurd ((one_answer (item_rows files)).never_both (places, order) both.0)
      ]

  -- an edge that is missing in the one is missing in the other
  pub missing_edge_onward : (as_stated : Id → Fault) (f : Fault) → IsMissingEdge as_stated (item_rows files) f → (g : Fault) × IsMissingEdge as_stated (item_rows others) g
  missing_edge_onward as_stated f h =
      let it = missing_onward (item_rows files) (item_rows others) names_alike onward_alike (h.0, h.1, h.2, h.3, h.4) in
      (as_stated it.2, (it.0, it.1, it.2, it.3, it.4, refl))

  -- and so is one that is on a cycle
  pub cyclic_edge_onward : (number : ℕ) (sort : List ℕ) (f : Fault) → IsCyclicEdge number sort (item_rows files) f → (g : Fault) × IsCyclicEdge number sort (item_rows others) g
  cyclic_edge_onward number sort f h =
      let it = cyclic_onward (item_rows files) (item_rows others) names_alike onward_alike (h.0, h.1, h.3, h.4, (h.6, (h.2, h.5, h.7))) in
      (cyclic_at number sort it.2, (it.0, it.1, it.4.1.0, it.2, it.3, it.4.1.1, it.4.0, it.4.1.2, refl))
