-- The first faults of the names, the tops and the uses of alike files.
use Rattle.std.proofs.Common.{◌≡◌, ℕ, Bool, true, false, cond, List, [], ◌∷◌, Option, Some, None, is_none, refl, ap, ap₂, ◌∙◌, ◌++◌, codes}
use Rattle.wit_walk.proofs.Common.{AllZip, AstItem, Attribute, Fault, Foreign, ForeignVisit, Id, Item, Local, Missing, PackageFile, Span, Target, TopName, ToplevelUse, Use, UsePath, about, all_items, all_uses_fault, bytes_eq, fault, fault_in, file_fault, file_items, files_fault, find, first_in, first_repeat, foreign_visits, is_world_at, item_name, item_named, item_names_fault, item_twice, item_uses_fault, item_word, leads, lost_fault, missing_at, needed_paths, option_or, path_fault, path_id, paths_fault, reached_fault, repeat_of, stability_fault, top_fault, top_names, top_names_fault, top_text, top_twice, tops_fault, unnamed_fault}
use Rattle.wit_syntax.proofs.Common.{all_uses}
use Rattle.wit_tree.specs.declared.tree.AstItem.TheVariants as ast
use Rattle.wit_tree.specs.declared.tree.UsePath.TheVariants as path
use Rattle.wit_grammar.specs.Trees.{TopUse}
use Rattle.wit_grammar.specs.Seen.{see_attribute, see_top_use}
use Rattle.wit_first.specs.UseFaults.{use_fault}
use Rattle.wit_alike.proofs.Lists.{Both, zip_after, zip_any, zip_find, zip_first, zip_of}
use Rattle.wit_alike.proofs.Leaves.{SameId, SameAttributes, by_name, same_metadata, same_stability, same_text}
use Rattle.wit_alike.proofs.Paths.{SamePath, SameTarget, SameTop, SameAst, path_of, same_leads, same_path_id}
use Rattle.wit_alike.proofs.Items.{SameFile, SameItem, same_all_items, same_file_items, same_item_id, same_item_name, same_item_named, same_top_names}
use Rattle.wit_alike.proofs.Foreign.{SameUse, SameVisit, same_item_uses, same_visits, same_world_at, use_attributes, use_from}
use Rattle.wit_alike.proofs.Scopes.{same_needed_paths}

-- ---- items that repeat
module _ {A : Type 0} (R : A → A → Type 0) (key other : A → List ℕ) (made also : A → Fault) (keys : (x y : A) → R x y → key x ≡ other y) (faults : (x y : A) → R x y → made x ≡ also y) where
  pub zip_repeat : (before others : List A) (x y : A) → AllZip R before others → R x y → repeat_of key made before x ≡ repeat_of other also others y
  zip_repeat before others x y h same =
      ap₂ (λ (there : Bool) (f : Fault). cond there (Some f) None)
      (zip_any R (λ (z : A). bytes_eq (key z) (key x)) (λ (z : A). bytes_eq (other z) (other y)) (λ z w one. ap₂ bytes_eq (keys z w one) (keys x y same)) before others h) (faults x y same)

  pub zip_first_repeat : (xs ys : List A) → AllZip R xs ys → first_repeat key made xs ≡ first_repeat other also ys
  zip_first_repeat xs ys h = zip_after R (repeat_of key made) (repeat_of other also) zip_repeat [] xs [] ys tt h

pub same_missing : (number : ℕ) (sort : List ℕ) (a b : Id) → SameId a b → missing_at number sort a ≡ missing_at number sort b
same_missing number sort a b h = by_name (λ (text : List ℕ) (span : Span). record { rule = number; span = span; says = Missing text sort None }) a b h

module _ (files others : List PackageFile) (h : AllZip SameFile files others) where
  pub same_item_names : item_names_fault files ≡ item_names_fault others
  same_item_names =
      zip_first_repeat SameItem item_name item_name (λ (i : Item). item_twice (about i.declared).id) (λ (i : Item). item_twice (about i.declared).id) same_item_name
      (λ i j same. by_name (λ (text : List ℕ) (span : Span). fault_in 5 span (codes "duplicate item named `" ++ (text ++ codes "`"))) (about i.declared).id (about j.declared).id (same_item_id i j same)) (all_items files) (all_items others) (same_all_items files others h)

  pub same_visits_fault : first_in (λ (v : ForeignVisit). stability_fault v.attributes) (foreign_visits files) ≡ first_in (λ (v : ForeignVisit). stability_fault v.attributes) (foreign_visits others)
  same_visits_fault = zip_first SameVisit (λ (v : ForeignVisit). stability_fault v.attributes) (λ (v : ForeignVisit). stability_fault v.attributes) (λ v w same. same_stability v.attributes w.attributes same.attributes) (foreign_visits files) (foreign_visits others) (same_visits files others h)

same_top_fault : (f g : PackageFile) → SameFile f g → top_names_fault f ≡ top_names_fault g
same_top_fault f g h =
    zip_first_repeat SameTop top_text top_text (λ (n : TopName). top_twice n.id) (λ (n : TopName). top_twice n.id) (λ t u same. same_text t.id u.id same.0)
    (λ t u same. by_name (λ (text : List ℕ) (span : Span). fault_in 6 span (codes "duplicate name `" ++ (text ++ codes "` in this file"))) t.id u.id same.0) (top_names f) (top_names g) (same_top_names f g h)

-- ---- paths
gone : (number : ℕ) (a b : Id) (o p : Option Item) → Both SameItem o p → SameId a b → cond (is_none o) (Some (missing_at number item_word a)) None ≡ cond (is_none p) (Some (missing_at number item_word b)) None
gone number a b None None h same = ap Some (same_missing number item_word a b same)
gone number a b None (Some j) h same = absurd h
gone number a b (Some i) None h same = absurd h
gone number a b (Some i) (Some j) h same = refl

module _ (is js : List Item) (items : AllZip SameItem is js) where
  pub same_lost : (t u : Target) → SameTarget t u → lost_fault is t ≡ lost_fault js u
  same_lost (Local a) (Local b) h = gone 7 a b (item_named is a.name.now) (item_named js b.name.now) (same_item_named is js a.name.now b.name.now items (same_text a b h)) h
  same_lost (Foreign p a) (Foreign q b) h = refl
  same_lost t u h = absurd h

  same_unless : (o p : Option TopName) (f g : Option Fault) → Both SameTop o p → f ≡ g → cond (is_none o) f None ≡ cond (is_none p) g None
  same_unless None None f g h e = e
  same_unless None (Some u) f g h e = absurd h
  same_unless (Some t) None f g h e = absurd h
  same_unless (Some t) (Some u) f g h e = refl

  same_unnamed : (top other : List TopName) → AllZip SameTop top other → (a b : UsePath) → SamePath a b → unnamed_fault is top a ≡ unnamed_fault js other b
  same_unnamed top other tops (path.Id a) (path.Id b) h =
      same_unless (find (λ (t : TopName). bytes_eq (top_text t) a.name.now) top) (find (λ (t : TopName). bytes_eq (top_text t) b.name.now) other) (lost_fault is (Local a)) (lost_fault js (Local b))
      (zip_find SameTop (λ (t : TopName). bytes_eq (top_text t) a.name.now) (λ (t : TopName). bytes_eq (top_text t) b.name.now) (λ t u same. ap₂ bytes_eq (same_text t.id u.id same.0) (same_text a b h)) top other tops) (same_lost (Local a) (Local b) h)
  same_unnamed top other tops (path.Package p a) (path.Package q b) h = refl
  same_unnamed top other tops a b h = absurd h

  same_paths_fault : (i j : Item) → SameItem i j → paths_fault is i ≡ paths_fault js j
  same_paths_fault i j h = zip_first SamePath (unnamed_fault is i.top) (unnamed_fault js j.top) (same_unnamed i.top j.top h.0) (needed_paths i) (needed_paths j) (same_needed_paths i j h)

  same_file_fault : (f g : PackageFile) → SameFile f g → file_fault is f ≡ file_fault js g
  same_file_fault f g h = ap₂ option_or (same_top_fault f g h) (zip_first SameItem (paths_fault is) (paths_fault js) same_paths_fault (file_items f) (file_items g) (same_file_items f g h))

  -- ---- tops of files
  same_attributed : (before others : List Attribute) (s r : Span) (f g : Option Fault) → SameAttributes before others → s ≡ r → f ≡ g → option_or (first_in (λ (a : Attribute). Some (fault 9 s)) before) f ≡ option_or (first_in (λ (a : Attribute). Some (fault 9 r)) others) g
  same_attributed [] [] s r f g h e same = same
  same_attributed [] (b ∷ others) s r f g h e same = absurd h
  same_attributed (a ∷ before) [] s r f g h e same = absurd h
  same_attributed (a ∷ before) (b ∷ others) s r f g h e same = ap (λ (at : Span). Some (fault 9 at)) e

  same_top_use : (u t : ToplevelUse) → see_top_use u ≡ see_top_use t → top_fault is (ast.Use u) ≡ top_fault js (ast.Use t)
  same_top_use u t h =
      same_attributed u.attributes.items t.attributes.items u.span t.span (lost_fault is (leads [] u.item)) (lost_fault js (leads [] t.item)) (zip_of see_attribute u.attributes.items t.attributes.items (ap (λ (x : TopUse). x.attributes) h)) (ap (λ (x : TopUse). x.span) h)
      (same_lost (leads [] u.item) (leads [] t.item) (same_leads [] [] u.item t.item tt (path_of u.item t.item (ap (λ (x : TopUse). x.item) h))))

  same_top : (a b : AstItem) → SameAst a b → top_fault is a ≡ top_fault js b
  same_top (ast.Interface i) (ast.Interface j) h = refl
  same_top (ast.World w) (ast.World v) h = refl
  same_top (ast.Use u) (ast.Use t) h = same_top_use u t h
  same_top a b h = absurd h

  same_file_tops : (f g : PackageFile) → SameFile f g → first_in (top_fault is) f.decl_list.items.items ≡ first_in (top_fault js) g.decl_list.items.items
  same_file_tops f g h = zip_first SameAst (top_fault is) (top_fault js) same_top f.decl_list.items.items g.decl_list.items.items h.1

-- ---- uses
same_reached : (o p : Option Bool) (a b : Id) (f g : Option Fault) → o ≡ p → SameId a b → f ≡ g → reached_fault o a f None ≡ reached_fault p b g None
same_reached o p a b f g e h same = ap (λ (x : Option Bool). reached_fault x a f None) e ∙ by_reach p
  where
    by_reach : (p : Option Bool) → reached_fault p a f None ≡ reached_fault p b g None
    by_reach None = same
    by_reach (Some true) = ap Some (by_name (λ (text : List ℕ) (span : Span). fault_in 10 span (codes "name `" ++ (text ++ codes "` is defined as a world, not an interface"))) a b h)
    by_reach (Some false) = refl

module _ (files others : List PackageFile) (h : AllZip SameFile files others) where
  pub same_files_fault : files_fault files ≡ files_fault others
  same_files_fault = zip_first SameFile (file_fault (all_items files)) (file_fault (all_items others)) (same_file_fault (all_items files) (all_items others) (same_all_items files others h)) files others h

  pub same_tops_fault : tops_fault files ≡ tops_fault others
  same_tops_fault = zip_first SameFile (λ (file : PackageFile). first_in (top_fault (all_items files)) file.decl_list.items.items) (λ (file : PackageFile). first_in (top_fault (all_items others)) file.decl_list.items.items) (same_file_tops (all_items files) (all_items others) (same_all_items files others h)) files others h

  same_path_fault : (top other : List TopName) → AllZip SameTop top other → (a b : UsePath) → SamePath a b → path_fault files top a None ≡ path_fault others other b None
  same_path_fault top other tops a b same =
      let to = same_leads top other a b tops same in
      same_reached (is_world_at files (leads top a)) (is_world_at others (leads other b)) (path_id a) (path_id b) (lost_fault (all_items files) (leads top a)) (lost_fault (all_items others) (leads other b))
      (same_world_at files others h (leads top a) (leads other b) to) (same_path_id a b same) (same_lost (all_items files) (all_items others) (same_all_items files others h) (leads top a) (leads other b) to)

  same_use_fault : (top other : List TopName) → AllZip SameTop top other → (u t : Use) → SameUse u t → use_fault files top u ≡ use_fault others other t
  same_use_fault top other tops u t same = ap₂ option_or (same_metadata u.attributes.items t.attributes.items (use_attributes u t same)) (same_path_fault top other tops u.from t.from (use_from u t same))

  same_item_uses_fault : (i j : Item) → SameItem i j → item_uses_fault files i ≡ item_uses_fault others j
  same_item_uses_fault i j same = zip_first SameUse (use_fault files i.top) (use_fault others j.top) (same_use_fault i.top j.top same.0) (all_uses i) (all_uses j) (same_item_uses i j same)

  pub same_all_uses : all_uses_fault files ≡ all_uses_fault others
  same_all_uses = zip_first SameItem (item_uses_fault files) (item_uses_fault others) same_item_uses_fault (all_items files) (all_items others) (same_all_items files others h)
