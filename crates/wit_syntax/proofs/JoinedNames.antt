-- A name that occurs twice at the top of a file without a `use` there is that of two items.
use Rattle.std.proofs.Common.{◌≡◌, suc, ◌+◌, List, [], ◌∷◌, refl, sym, ap, ◌∙◌, arith}
use Rattle.std.specs.Prelude.{map, Contains}
use Rattle.std.specs.List.{flat_map}
use Rattle.wit_type_tree.specs.declared.leaves.Id.{Id}
use Rattle.wit_tree.specs.declared.tree.AstItem.{AstItem}
use Rattle.wit_tree.specs.declared.tree.AstItem.TheVariants as ast
use Rattle.wit_tree.specs.declared.tree.PackageFile.{PackageFile}
use Rattle.wit_graph.proofs.Tables.{matched}
use Rattle.wit_syntax.specs.Fault.{Fault, item_twice, top_twice}
use Rattle.wit_syntax.specs.Source.{TopName, top_name, top_names, Item, item_name, declared_items, file_items, all_items, about, top_text}
use Rattle.wit_syntax.specs.Bodies.{IsSecond}
use Rattle.wit_syntax.specs.Splitting.{file_declarations, declarations}
use Rattle.wit_syntax.proofs.Found.{contains_at, at_contains}
use Rattle.wit_syntax.proofs.JoinedLists.{flat_map_from}
use Rattle.wit_syntax.proofs.JoinedTargets.{id_text}
use Rattle.wit_syntax.proofs.JoinedItems.{retop, AreTwins, twin_at}
use Rattle.wit_syntax.proofs.JoinedFiles.{HasNoUse, no_use_in_file}

no_use_after : (a : AstItem) (ds : List AstItem) → HasNoUse (a ∷ ds) → HasNoUse ds
no_use_after a ds none u among = (let it = at_contains ds (ast.Use u) among in none u (contains_at (a ∷ ds) (suc it.0) (ast.Use u) it.1))

-- the names at the top of such a file are those of its items
abbrev top_id : TopName → Id
top_id t = t.id

tops_of_items : (top : List TopName) (ds : List AstItem) → HasNoUse ds → map top_id (map top_name ds) ≡ map (λ (i : Item). (about i.declared).id) (flat_map (declared_items top) ds)
tops_of_items top [] none = refl
tops_of_items top (ast.Interface i ∷ ds) none = ap (λ (l : List Id). i.name ∷ l) (tops_of_items top ds (no_use_after (ast.Interface i) ds none))
tops_of_items top (ast.World w ∷ ds) none = ap (λ (l : List Id). w.name ∷ l) (tops_of_items top ds (no_use_after (ast.World w) ds none))
tops_of_items top (ast.Use u ∷ ds) none = absurd (none u (contains_at (ast.Use u ∷ ds) 0 (ast.Use u) refl))

pub top_repeated : (files : List PackageFile) (file : PackageFile) (f : Fault) → HasNoUse (declarations files) → Contains files file → IsSecond top_text (λ (n : TopName). top_twice n.id) (top_names file) f → (g : Fault) × IsSecond item_name (λ (i : Item). item_twice (about i.declared).id) (all_items files) g
top_repeated files file f none is h =
    let r = h.1 in
    let same : map top_id (top_names file) ≡ map (λ (i : Item). (about i.declared).id) (file_items file) = tops_of_items (top_names file) (file_declarations file) (no_use_in_file files none file is) in
    let x = matched (λ (i : Item). (about i.declared).id) top_id (file_items file) (top_names file) (sym same) r.0 r.3 r.4 in
    let y = matched (λ (i : Item). (about i.declared).id) top_id (file_items file) (top_names file) (sym same) r.1 h.0 r.5 in
    let place = at_contains files file is in
    let from = flat_map_from file_items files place.0 file place.1 in
    let before = r.2 in (
      item_twice (about y.0.declared).id,
      (
        y.0,
        (
          from.0 + r.0,
          from.0 + r.1,
          omega (arith, before),
          x.0,
          from.1 r.0 x.0 x.1,
          from.1 r.1 y.0 y.1,
          ap id_text x.2 ∙ r.6 ∙ sym (ap id_text y.2),
        ),
        refl,
      ),
    )

-- an item whose name occurs twice among items is one whose name does among their twins
pub repeated_onward : (is js : List Item) (f : Fault) → AreTwins is js → IsSecond item_name (λ (i : Item). item_twice (about i.declared).id) is f → IsSecond item_name (λ (i : Item). item_twice (about i.declared).id) js f
repeated_onward is js f t h =
    let r = h.1 in
    let x = twin_at is js t r.0 r.3 r.4 in
    let y = twin_at is js t r.1 h.0 r.5 in (
      retop y.0 h.0,
      (r.0, r.1, r.2, retop x.0 r.3, x.2, y.2, r.6),
      h.2,
    )
