-- Files without a `use` at the top, and files with the same declarations: their items and their visits.
use Rattle.std.proofs.Common.{◌≡◌, ℕ, zero, suc, List, [], ◌∷◌, Option, Some, None, refl, sym, ap, ◌∙◌, subst}
use Rattle.std.specs.Prelude.{slice_get, map, Contains}
use Rattle.std.specs.List.{flat_map, cons_option}
use Rattle.std.proofs.lemmas.List.{append-nil}
use Rattle.wit_tree.specs.declared.tree.AstItem.{AstItem}
use Rattle.wit_tree.specs.declared.tree.AstItem.TheVariants as ast
use Rattle.wit_tree.specs.declared.tree.PackageFile.{PackageFile}
use Rattle.wit_tree.specs.declared.tree.PackageName.{PackageName as Header}
use Rattle.wit_tree.specs.declared.tree.ToplevelUse.{ToplevelUse}
use Rattle.wit_syntax.specs.Source.{TopName, top_name, top_names, Local, Declared, TheInterface, TheWorld, Item, declared_items, file_items, all_items}
use Rattle.wit_syntax.specs.Foreign.{declaration_visits, foreign_visits}
use Rattle.wit_syntax.specs.Broken.{headers}
use Rattle.wit_syntax.specs.Splitting.{file_declarations, declarations, IsJoined, declared_of}
use Rattle.wit_syntax.proofs.Lists.{map_at, flat_map_at}
use Rattle.wit_syntax.proofs.Found.{contains_at}
use Rattle.wit_syntax.proofs.JoinedLists.{flat_map_by, map-flat_map, flat_map-flat_map, among_flat_map}
use Rattle.wit_syntax.proofs.JoinedTargets.{AreThemselves}
use Rattle.wit_syntax.proofs.JoinedItems.{ArePlain, AreTwins}

-- no `use` is among declarations
abbrev pub HasNoUse : List AstItem → Type 0
HasNoUse ds = (u : ToplevelUse) → Contains ds (ast.Use u) → ⊥

-- files without a `use` at the top, some of which has a header
pub record ArePlainFiles (files : List PackageFile) : Type 0 where
  pub no_use : HasNoUse (declarations files)
  pub file : PackageFile
  pub place : ℕ
  pub at : slice_get files place ≡ Some file
  pub header : Header
  pub headed : file.package_id ≡ Some header

-- such files that declare the same
pub record AreAlike (files others : List PackageFile) : Type 0 where
  pub left : ArePlainFiles files
  pub right : ArePlainFiles others
  pub same : declarations files ≡ declarations others

pub alike_back : (files others : List PackageFile) → AreAlike files others → AreAlike others files
alike_back files others a = record { left = a.right; right = a.left; same = sym a.same }

pub no_use_in_file : (files : List PackageFile) → HasNoUse (declarations files) → (file : PackageFile) → Contains files file → HasNoUse (file_declarations file)
no_use_in_file files none file is u among = none u (among_flat_map file_declarations files file (ast.Use u) is among)

-- a name at the top of such a file means itself
name_itself : (a : AstItem) (t : TopName) → top_name a ≡ t → ((u : ToplevelUse) → a ≡ ast.Use u → ⊥) → t.target ≡ Local t.id
name_itself (ast.Interface i) t is other = subst (λ (x : TopName). x.target ≡ Local x.id) is refl
name_itself (ast.World w) t is other = subst (λ (x : TopName). x.target ≡ Local x.id) is refl
name_itself (ast.Use u) t is other = absurd (other u refl)

names_themselves : (ds : List AstItem) → HasNoUse ds → AreThemselves (map top_name ds)
names_themselves ds none k t at =
    let it = map_at top_name ds k t at in
    name_itself it.0 t it.2 (λ u same. none u (contains_at ds k (ast.Use u) (it.1 ∙ ap Some same)))

-- the item of a declaration has the names at the top of its file
items_top : (top : List TopName) (a : AstItem) (j : ℕ) (i : Item) → slice_get (declared_items top a) j ≡ Some i → i.top ≡ top
items_top top (ast.Interface x) zero i at = ap (λ (v : Item). v.top) (let same : i ≡ record { top = top; declared = TheInterface x } = cc in same)
items_top top (ast.Interface x) (suc j) i at = absurd (let f : ⊥ = cc in f)
items_top top (ast.World w) zero i at = ap (λ (v : Item). v.top) (let same : i ≡ record { top = top; declared = TheWorld w } = cc in same)
items_top top (ast.World w) (suc j) i at = absurd (let f : ⊥ = cc in f)
items_top top (ast.Use u) j i at = absurd (let f : ⊥ = cc in f)

pub plain_items : (files : List PackageFile) → HasNoUse (declarations files) → ArePlain (all_items files)
plain_items files none k i at =
    let file = flat_map_at file_items files k i at in
    let item = flat_map_at (declared_items (top_names file.1)) (file_declarations file.1) file.3.0 i file.3.1 in
    let own = names_themselves (file_declarations file.1) (no_use_in_file files none file.1 (contains_at files file.0 file.1 file.2)) in
    subst AreThemselves (sym (items_top (top_names file.1) item.1 item.3.0 i item.3.1)) own

-- what a declaration declares
abbrev declares : AstItem → List Declared
declares (ast.Interface i) = TheInterface i ∷ []
declares (ast.World w) = TheWorld w ∷ []
declares (ast.Use u) = []

one_declares : (top : List TopName) (a : AstItem) → map declared_of (declared_items top a) ≡ declares a
one_declares top (ast.Interface i) = refl
one_declares top (ast.World w) = refl
one_declares top (ast.Use u) = refl

file_declares : (f : PackageFile) → map declared_of (file_items f) ≡ flat_map declares (file_declarations f)
file_declares f = map-flat_map declared_of (declared_items (top_names f)) (file_declarations f) ∙ flat_map_by (λ (a : AstItem). map declared_of (declared_items (top_names f) a)) declares (one_declares (top_names f)) (file_declarations f)

-- the items of files are what their declarations declare, and so are their visits
items_declared : (files : List PackageFile) → map declared_of (all_items files) ≡ flat_map declares (declarations files)
items_declared files = map-flat_map declared_of file_items files ∙ flat_map_by (λ (f : PackageFile). map declared_of (file_items f)) (λ (f : PackageFile). flat_map declares (file_declarations f)) file_declares files ∙ sym (flat_map-flat_map declares file_declarations files)

visits_declared : (files : List PackageFile) → foreign_visits files ≡ flat_map declaration_visits (declarations files)
visits_declared files = sym (flat_map-flat_map declaration_visits file_declarations files)

module _ (files others : List PackageFile) (a : AreAlike files others) where
  pub items_twins : AreTwins (all_items files) (all_items others)
  items_twins = record {
    left = plain_items files a.left.no_use;
    right = plain_items others a.right.no_use;
    same = items_declared files ∙ ap (flat_map declares) a.same ∙ sym (items_declared others);
  }

  pub visits_same : foreign_visits files ≡ foreign_visits others
  visits_same = visits_declared files ∙ ap (flat_map declaration_visits) a.same ∙ sym (visits_declared others)

-- a header that is stated is in a file
abbrev OccursInFile : List PackageFile → Header → Type 0
OccursInFile files header = (k : ℕ) × (f : PackageFile) × (slice_get files k ≡ Some f) × (f.package_id ≡ Some header)

first_header : (f : PackageFile) (files : List PackageFile) (header : Header) (rest : List Header) (o : Option Header) → (headers files ≡ header ∷ rest → OccursInFile files header) → f.package_id ≡ o → cons_option o (headers files) ≡ header ∷ rest → OccursInFile (f ∷ files) header
first_header f files header rest None later own is = (let it = later is in (suc it.0, it.1, it.2, it.3))
first_header f files header rest (Some h) later own is =
    let same : h ≡ header = cc in
    (0, f, refl, own ∙ ap Some same)

header_at : (files : List PackageFile) (header : Header) (rest : List Header) → headers files ≡ header ∷ rest → OccursInFile files header
header_at [] header rest is = absurd (let f : ⊥ = cc in f)
header_at (f ∷ files) header rest is = first_header f files header rest f.package_id (header_at files header rest) refl is

-- files and the one that they come to are such files
pub joined_alike : (files : List PackageFile) (one : PackageFile) → IsJoined files one → AreAlike files (one ∷ [])
joined_alike files one j =
    let at = header_at files j.header [] j.one_header in
    let same : declarations files ≡ declarations (one ∷ []) = sym j.own_declarations ∙ sym (append-nil (file_declarations one)) in
    record {
      left = record { no_use = j.no_use; file = at.1; place = at.0; at = at.2; header = j.header; headed = at.3 };
      right = record { no_use = subst HasNoUse same j.no_use; file = one; place = 0; at = refl; header = j.header; headed = j.own_header };
      same = same;
    }
