-- The first fault of the names of files is a broken rule; and where there is none, no rule about them is broken.
use Rattle.std.proofs.Common.{◌≡◌, ◌≢◌, ℕ, List, [], ◌∷◌, Option, Some, None, inl, inr, refl, ap, ◌∙◌, is_none, ◌⊎◌, sym}
use Rattle.wit_syntax.proofs.Common.{AstItem, Attribute, AttributedUse, Contains, DuplicateTopName, Fault, Foreign, ForeignVisit, Id, IsBrokenItems, IsBrokenStability, IsWrongTop, Item, Local, LostUse, MissingItem, PackageFile, Span, Target, TopName, UsePath, all_items, at_contains, bytes_eq, contains_at, fault, file_items, find, find_some, flat_map_has, if◌then◌else◌, item_name, item_named, item_row, item_row_at, item_word, leads, local_target, map, map_at, missing_at, name_itself, needed_paths, none-some, none_if, option_map_or, option_or, place_of, place_of-Some, slice_get, top_text}
use Rattle.wit_tree.specs.declared.tree.UsePath.TheVariants as path
use Rattle.wit_tree.specs.declared.tree.AstItem.TheVariants as ast
use Rattle.wit_first.specs.AttributeFaults.{stability_fault}
use Rattle.wit_first.specs.First.{first_in}
use Rattle.wit_first.specs.FileFaults.{lost_fault, paths_fault, unnamed_fault, top_fault, tops_fault, file_fault, files_fault}
use Rattle.wit_first.specs.NameFaults.{top_names_fault}
use Rattle.wit_first.specs.Laws.{Agrees}
use Rattle.wit_first.proofs.Bridge.{in_agrees, in_only, in_some, stability_agrees, or_some, top_names_agree}

-- before a path with a package
pub visits_agree : (visits : List ForeignVisit) → Agrees (first_in (λ (v : ForeignVisit). stability_fault v.attributes) visits) (λ f. (v : ForeignVisit) × Contains visits v × IsBrokenStability v.attributes f)
visits_agree visits = in_agrees (λ (v : ForeignVisit). stability_fault v.attributes) (λ (v : ForeignVisit). IsBrokenStability v.attributes) visits (λ v. stability_agrees v.attributes)

-- at a path that leads to a name which is no item's
pub record IsLost (all : List Item) (to : Target) (f : Fault) : Type 0 where
  pub id : Id
  pub local : to ≡ Local id
  pub missing : item_named all id.name.now ≡ None
  pub is : f ≡ missing_at 7 item_word id

lost_by : (all : List Item) (id : Id) (f : Fault) (o : Option Item) → item_named all id.name.now ≡ o → lost_fault all (Local id) ≡ Some f → IsLost all (Local id) f
lost_by all id f None none h = (let same : Some (missing_at 7 item_word id) ≡ Some f = rw none at h in record { id = id; local = refl; missing = none; is = (let is : f ≡ missing_at 7 item_word id = cc in is) })
lost_by all id f (Some i) some h = (let wrong : None ≡ Some f = rw some at h in let g : ⊥ = cc in absurd g)

lost_broken : (all : List Item) (to : Target) (f : Fault) → lost_fault all to ≡ Some f → IsLost all to f
lost_broken all (Local id) f h = lost_by all id f (item_named all id.name.now) refl h
lost_broken all (Foreign p id) f h = absurd (let g : ⊥ = cc in g)

lost_unbroken : (all : List Item) (to : Target) → lost_fault all to ≡ None → (f : Fault) → IsLost all to f → ⊥
lost_unbroken all (Local id) none f lost =
    let local : Local id ≡ Local lost.id = lost.local in
    let same : id ≡ lost.id = cc in
    let missing : item_named all id.name.now ≡ None = ap (λ (i : Id). item_named all i.name.now) same ∙ lost.missing in
    let wrong : Some (missing_at 7 item_word id) ≡ None = rw missing at none in
    (let g : ⊥ = cc in g)
lost_unbroken all (Foreign p id) none f lost =
    let local : Foreign p id ≡ Local lost.id = lost.local in
    (let g : ⊥ = cc in g)

-- at a name that is none
pub lost_at : (all : List Item) (id : Id) → item_named all id.name.now ≡ None → lost_fault all (Local id) ≡ Some (missing_at 7 item_word id)
lost_at all id missing = rw missing refl

pub lost_agrees : (all : List Item) (to : Target) → Agrees (lost_fault all to) (IsLost all to)
lost_agrees all to = record { broken = lost_broken all to; unbroken = lost_unbroken all to }

-- at a path that is no name at the top of its file
unnamed_by : (all : List Item) (id : Id) (f : Fault) (o : Option TopName) → (if is_none o then lost_fault all (Local id) else None) ≡ Some f → IsLost all (option_map_or (λ (t : TopName). t.target) o (Local id)) f
unnamed_by all id f None h = lost_broken all (Local id) f h
unnamed_by all id f (Some t) h = absurd (let g : ⊥ = cc in g)

pub unnamed_broken : (all : List Item) (top : List TopName) (from : UsePath) (f : Fault) → unnamed_fault all top from ≡ Some f → IsLost all (leads top from) f
unnamed_broken all top (path.Id id) f h = unnamed_by all id f (find (λ t. bytes_eq (top_text t) id.name.now) top) h
unnamed_broken all top (path.Package p id) f h = absurd (let g : ⊥ = cc in g)

-- at a `use` at the top of a file
use_broken : (xs : List Attribute) (span : Span) (lost : Option Fault) (f : Fault) → option_or (first_in (λ (a : Attribute). Some (fault 9 span)) xs) lost ≡ Some f → ((xs ≢ []) × (f ≡ fault 9 span)) ⊎ (lost ≡ Some f)
use_broken [] span lost f h = inr h
use_broken (a ∷ xs) span lost f h = inl ((λ none. (let g : ⊥ = cc in g)), (let same : Some (fault 9 span) ≡ Some f = h in let is : f ≡ fault 9 span = cc in is))

use_right : (xs : List Attribute) (span : Span) (lost : Option Fault) → option_or (first_in (λ (a : Attribute). Some (fault 9 span)) xs) lost ≡ None → (xs ≡ []) × (lost ≡ None)
use_right [] span lost h = (refl, h)
use_right (a ∷ xs) span lost h = absurd (let g : ⊥ = cc in g)

top_broken : (all : List Item) (ds : List AstItem) (i : ℕ) (d : AstItem) (f : Fault) → slice_get ds i ≡ Some d → top_fault all d ≡ Some f → IsWrongTop all ds f
top_broken all ds i (ast.Use u) f at h = elim (use_broken u.attributes.items u.span (lost_fault all (leads [] u.item)) f h) [
  | inl own ↦ AttributedUse u (contains_at ds i (ast.Use u) at) own.0 own.1
  | inr far ↦ (let it = lost_broken all (leads [] u.item) f far in LostUse u (contains_at ds i (ast.Use u) at) it.id it.local it.missing it.is)
]
top_broken all ds i (ast.Interface x) f at h = absurd (let g : ⊥ = cc in g)
top_broken all ds i (ast.World x) f at h = absurd (let g : ⊥ = cc in g)

top_unbroken : (all : List Item) (ds : List AstItem) → first_in (top_fault all) ds ≡ None → (f : Fault) → IsWrongTop all ds f → ⊥
top_unbroken all ds none f (AttributedUse u among some says) =
    let k = at_contains ds (ast.Use u) among in
    some (use_right u.attributes.items u.span (lost_fault all (leads [] u.item)) (in_only (top_fault all) ds none k.0 (ast.Use u) k.1)).0
top_unbroken all ds none f (LostUse u among id local missing says) =
    let k = at_contains ds (ast.Use u) among in
    let both = use_right u.attributes.items u.span (lost_fault all (leads [] u.item)) (in_only (top_fault all) ds none k.0 (ast.Use u) k.1) in
    lost_unbroken all (leads [] u.item) both.1 f (record { id = id; local = local; missing = missing; is = says })

pub file_tops_agree : (all : List Item) (file : PackageFile) → Agrees (first_in (top_fault all) file.decl_list.items.items) (IsWrongTop all file.decl_list.items.items)
file_tops_agree all file = record {
  broken = λ f h. (let ds = file.decl_list.items.items in let it = in_some (top_fault all) ds f h in top_broken all ds it.0 it.1 f it.2 it.3);
  unbroken = top_unbroken all file.decl_list.items.items;
}

-- at the tops of files
pub tops_agree : (files : List PackageFile) → Agrees (tops_fault files) (λ f. (file : PackageFile) × Contains files file × IsWrongTop (all_items files) file.decl_list.items.items f)
tops_agree files = in_agrees (λ (file : PackageFile). first_in (top_fault (all_items files)) file.decl_list.items.items) (λ (file : PackageFile). IsWrongTop (all_items files) file.decl_list.items.items) files (file_tops_agree (all_items files))

-- a name that is no item's has no row
missing_row : (is : List Item) (name : List ℕ) → item_named is name ≡ None → place_of (map item_row is) name ≡ None
missing_row is name none = none_if (place_of (map item_row is) name) (λ b some. (
    let r = place_of-Some (map item_row is) name b some in
    let w = map_at item_row is b r.0 r.1 in
    let called : item_name w.0 ≡ name = ap (λ row. row.name) w.2 ∙ sym r.2 in
    let it = find_some (λ (i : Item). bytes_eq (item_name i) name) is b w.0 w.1 (ap (λ n. bytes_eq n name) called ∙ name_itself name) in
    none-some it.0 (sym none ∙ it.1)))

-- a path that leads to a name which is no item's is an edge to no row
lost_path : (files : List PackageFile) (p : ℕ) (w : Item) (k : ℕ) (path : UsePath) (f : Fault) → slice_get (all_items files) p ≡ Some w → slice_get (needed_paths w) k ≡ Some path → IsLost (all_items files) (leads w.top path) f → IsBrokenItems files f
lost_path files p w k path f at there lost =
    let edges : UsePath → List Id = λ path. local_target (leads w.top path) in
    let e = flat_map_has edges (needed_paths w) k 0 path lost.id there (ap (λ (t : Target). slice_get (local_target t) 0) lost.local) in
    MissingItem (p, e.0, lost.id, (item_row w, item_row_at files p w at, e.1), missing_row (all_items files) lost.id.name.now lost.missing, lost.is)

-- the first fault of a file, and of files, is a broken rule
file_broken : (files : List PackageFile) (i : ℕ) (file : PackageFile) (f : Fault) → slice_get files i ≡ Some file → file_fault (all_items files) file ≡ Some f → IsBrokenItems files f
file_broken files i file f at h =
    let all = all_items files in
    elim (or_some (top_names_fault file) (first_in (paths_fault all) (file_items file)) f h) [
      | inl top ↦ DuplicateTopName file (contains_at files i file at) ((top_names_agree file).broken f top)
      | inr far ↦ (
          let own = in_some (paths_fault all) (file_items file) f far.1 in
          let it = in_some (unnamed_fault all own.1.top) (needed_paths own.1) f own.3 in
          let p = flat_map_has file_items files i own.0 file own.1 at own.2 in
          lost_path files p.0 own.1 it.0 it.1 f p.1 it.2 (unnamed_broken all own.1.top it.1 f it.3))
    ]

pub files_broken : (files : List PackageFile) (f : Fault) → files_fault files ≡ Some f → IsBrokenItems files f
files_broken files f h = let it = in_some (file_fault (all_items files)) files f h in file_broken files it.0 it.1 f it.2 it.3
