-- Where paths lead in files in which each name at the top means itself: where they say.
use Rattle.std.proofs.Common.{◌≡◌, ℕ, List, [], ◌∷◌, Option, Some, None, refl, sym, ap, ◌∙◌, subst}
use Rattle.std.specs.Prelude.{slice_get, map, find}
use Rattle.std.specs.Option.{option_map_or}
use Rattle.std.specs.Str.{bytes_eq}
use Rattle.wit_type_tree.specs.declared.leaves.Id.{Id}
use Rattle.wit_tree.specs.declared.tree.UsePath.{UsePath}
use Rattle.wit_tree.specs.declared.tree.UsePath.TheVariants as path
use Rattle.wit_syntax.specs.Address.{InterfaceNamed, WorldNamed}
use Rattle.wit_syntax.specs.Source.{TopName, Target, Local, Foreign, leads, path_scope, target_scope, top_text}
use Rattle.wit_syntax.specs.ScopeTables.{local_target}
use Rattle.wit_syntax.proofs.Names.{name_equal}
use Rattle.wit_syntax.proofs.Found.{find_at, find_passes}

-- names at the top of a file that mean themselves
abbrev pub AreThemselves : List TopName → Type 0
AreThemselves top = (k : ℕ) (t : TopName) → slice_get top k ≡ Some t → t.target ≡ Local t.id

-- two targets are one, wherever the name of an item of the package is written
abbrev pub IsSameTarget : Target → Target → Type 0
IsSameTarget (Local a) (Local b) = a.name.now ≡ b.name.now
IsSameTarget (Foreign p a) (Foreign q b) = (p ≡ q) × (a ≡ b)
IsSameTarget (Local a) (Foreign q b) = ⊥
IsSameTarget (Foreign p a) (Local b) = ⊥

found_itself : (top : List TopName) (id : Id) (o : Option TopName) → AreThemselves top → find (λ (each : TopName). bytes_eq (top_text each) id.name.now) top ≡ o → (other : Id) × (option_map_or (λ (t : TopName). t.target) o (Local id) ≡ Local other) × (other.name.now ≡ id.name.now)
found_itself top id None own is = (id, refl, refl)
found_itself top id (Some t) own is =
    let test = λ (u : TopName). bytes_eq (top_text u) id.name.now in
    let it = find_at test top t is in
    (t.id, own it.0 t it.1, name_equal t.id.name.now id.name.now (find_passes test top t is))

-- a name leads to the item of it
pub leads_itself : (top : List TopName) → AreThemselves top → (id : Id) → (other : Id) × (leads top (path.Id id) ≡ Local other) × (other.name.now ≡ id.name.now)
leads_itself top own id = found_itself top id (find (λ (each : TopName). bytes_eq (top_text each) id.name.now) top) own refl

-- so a path leads to the same in two such files
pub leads_same : (a b : List TopName) → AreThemselves a → AreThemselves b → (from : UsePath) → IsSameTarget (leads a from) (leads b from)
leads_same a b own other (path.Id id) =
    let x = leads_itself a own id in
    let y = leads_itself b other id in
    let same : IsSameTarget (Local x.0) (Local y.0) = x.2 ∙ sym y.2 in
    subst (λ t. IsSameTarget t (leads b (path.Id id))) (sym x.1) (subst (λ t. IsSameTarget (Local x.0) t) (sym y.1) same)
leads_same a b own other (path.Package p id) = (refl, refl)

-- the scope that is used there, and the one that is included, are the same
pub used_by : (t u : Target) → IsSameTarget t u → target_scope InterfaceNamed t ≡ target_scope InterfaceNamed u
used_by (Local a) (Local b) same = ap InterfaceNamed same
used_by (Foreign p a) (Foreign q b) same = ap (λ x. target_scope InterfaceNamed (Foreign x a)) same.0 ∙ ap (λ x. target_scope InterfaceNamed (Foreign q x)) same.1
used_by (Local a) (Foreign q b) same = absurd same
used_by (Foreign p a) (Local b) same = absurd same

pub included_by : (t u : Target) → IsSameTarget t u → target_scope WorldNamed t ≡ target_scope WorldNamed u
included_by (Local a) (Local b) same = ap WorldNamed same
included_by (Foreign p a) (Foreign q b) same = ap (λ x. target_scope WorldNamed (Foreign x a)) same.0 ∙ ap (λ x. target_scope WorldNamed (Foreign q x)) same.1
included_by (Local a) (Foreign q b) same = absurd same
included_by (Foreign p a) (Local b) same = absurd same

-- and so is the name of an item of the package
abbrev pub id_text : Id → List ℕ
id_text id = id.name.now

pub local_by : (t u : Target) → IsSameTarget t u → map id_text (local_target t) ≡ map id_text (local_target u)
local_by (Local a) (Local b) same = ap (λ n. n ∷ []) same
local_by (Foreign p a) (Foreign q b) same = refl
local_by (Local a) (Foreign q b) same = absurd same
local_by (Foreign p a) (Local b) same = absurd same

-- a target that is a name is one too where it is the same as another
pub local_from : (t u : Target) (id : Id) → IsSameTarget t u → t ≡ Local id → (other : Id) × (u ≡ Local other) × (other.name.now ≡ id.name.now)
local_from (Local a) (Local b) id same is = (b, refl, sym same ∙ (let one : a ≡ id = cc in ap id_text one))
local_from (Foreign p a) (Foreign q b) id same is = absurd (let f : ⊥ = cc in f)
local_from (Local a) (Foreign q b) id same is = absurd same
local_from (Foreign p a) (Local b) id same is = absurd same

-- what does not ask where a path leads but for the scope there is the same in two such files
module _ (a b : List TopName) (own : AreThemselves a) (other : AreThemselves b) where
  pub used_same : (from : UsePath) → path_scope a from ≡ path_scope b from
  used_same from = used_by (leads a from) (leads b from) (leads_same a b own other from)

  pub included_same : (from : UsePath) → target_scope WorldNamed (leads a from) ≡ target_scope WorldNamed (leads b from)
  included_same from = included_by (leads a from) (leads b from) (leads_same a b own other from)
