-- Where each type is at its place, its tree is the same at every depth.
use Rattle.std.proofs.Common.{◌≡◌, ℕ, zero, suc, List, [], ◌∷◌, map, Some, refl, sym, ap, ◌∙◌}
use Rattle.wit_arena.proofs.Names.{Address, AreAt, AreDistinct, AreMetadata, Decls, Def, Form, IsAt, IsKeyed, Key, PackageFile, ScopeName, Shape, Shapes, TypeDef, TypeOwner, Unnamed, UnresolvedPackage, Whole, about_name, entry_head, expr_of, exprs_of, found_by, kind_of, local_name, meaning, name_exprs, named_node, node_map, owner_of, package_tree, scope, slice_get, source_tree, unwrap_or}
use Rattle.wit_syntax.proofs.Common.{placed}
use Rattle.wit_syntax.specs.Source.{head}
use Rattle.wit_types.specs.declared.types.«Type».{«Type» as Ty}
use Rattle.wit_types.specs.declared.types.«Type».TheVariants as type
use Rattle.wit_syntax.specs.Shape as shape
use Rattle.wit_arena.proofs.OneKind.{primitive_node, all_at_untaken}
use Rattle.wit_arena.proofs.Shape.{entry_of_key}

-- the one name of a scope that goes by a name is found
pub meaning_found : (xs : List ScopeName) (k : ℕ) (x : ScopeName) (name : List ℕ) → AreDistinct xs → slice_get xs k ≡ Some x → local_name x ≡ name → meaning xs name ≡ Some x
meaning_found xs k x name distinct at same = found_by local_name xs k x name distinct at same

-- a scope, and whose it is in a package
pub record IsScope (files : List PackageFile) (decls : Decls) (p : UnresolvedPackage) (s : Address) : Type 0 where
  pub distinct : AreDistinct (scope files s)
  pub whose : TypeOwner
  pub own : decls s ≡ (scope files s, whose)
  pub called : owner_of p whose ≡ Some s

module _ (files : List PackageFile) (decls : Decls) (ks : List Key) (p : UnresolvedPackage) (m : IsKeyed decls ks p.types) (scopes : (j : ℕ) (s : Address) (name : List ℕ) → slice_get ks j ≡ Some (Def s name) → IsScope files decls p s) where
  abbrev Agree : ℕ → Type 0
  Agree n = (s : Address) (x : Shape) (ty : Ty) → IsAt ks (expr_of s x) ty → package_tree p n ty ≡ source_tree files n (s, x)

  parts_agree : (n : ℕ) → Agree n → (s : Address) (xs : Shapes) (ts : List Ty) → AreAt ks (exprs_of s xs) ts → map (package_tree p n) ts ≡ map (source_tree files n) (placed s xs)
  parts_agree n agree s shape.End [] h = refl
  parts_agree n agree s (shape.More x xs) (t ∷ ts) h = let first = agree s x t h.0 in let rest = parts_agree n agree s xs ts h.1 in cc
  parts_agree n agree s _ ts h = absurd h

  -- the heads agree
  head_agrees : (s : Address) (called : List ℕ) (x : ScopeName) (e : TypeDef) → local_name x ≡ called → e.span ≡ (about_name x).span → owner_of p e.owner ≡ Some s → AreMetadata (about_name x).metadata e.docs e.stability e.external_id → entry_head p called e ≡ head s x
  head_agrees s called x e name span own as_stated =
      cc (own, name, span, as_stated.docs, as_stated.stability, as_stated.external_id)

  name_agrees : (n : ℕ) → Agree n → (s : Address) (name : List ℕ) (i : ℕ) → slice_get ks i ≡ Some (Def s name) → package_tree p (suc n) (type.Id i) ≡ node_map (source_tree files n) (named_node s (meaning (scope files s) name))
  name_agrees n agree s name i there =
      let e = entry_of_key decls ks p.types m i (Def s name) there in
      let it = m.each i (Def s name) e.0 there e.1 in
      let here = scopes i s name there in
      let x = it.1 in
      let at : slice_get (scope files s) it.0 ≡ Some x = ap (λ (d : List ScopeName × TypeOwner). slice_get d.0 it.0) (sym here.own) ∙ it.2 in
      let own : owner_of p e.0.owner ≡ Some s = ap (owner_of p) (it.6 ∙ ap (λ (d : List ScopeName × TypeOwner). d.1) here.own) ∙ here.called in
      let parts = all_at_untaken i ks (name_exprs s x) (kind_of e.0.kind).1 it.8 in
      let inner = parts_agree n agree (unwrap_or (about_name x).from s) (about_name x).body.parts (kind_of e.0.kind).1 parts in
      let found = meaning_found (scope files s) it.0 x name here.distinct at it.3 in
      let heads = head_agrees s name x e.0 it.3 it.5 own it.9 in
      rw (e.1, it.4, heads, it.7, inner, found) refl

  whole_agrees : (n : ℕ) → Agree n → (s : Address) (form : Form) (parts : Shapes) (i : ℕ) → slice_get ks i ≡ Some (Whole form (exprs_of s parts)) → package_tree p (suc n) (type.Id i) ≡ node_map (source_tree files n) (Unnamed form (placed s parts))
  whole_agrees n agree s form parts i there =
      let e = entry_of_key decls ks p.types m i (Whole form (exprs_of s parts)) there in
      let it = m.each i (Whole form (exprs_of s parts)) e.0 there e.1 in
      let inner = parts_agree n agree s parts (kind_of e.0.kind).1 (all_at_untaken i ks (exprs_of s parts) (kind_of e.0.kind).1 it.3) in
      rw (e.1, it.0, it.2, inner) refl

  pub same_tree : (n : ℕ) → Agree n
  same_tree zero s x ty h = refl
  same_tree (suc n) s (shape.Prim x) ty h = ap (package_tree p (suc n)) h ∙ (ap (node_map (package_tree p n)) (primitive_node p x))
  same_tree (suc n) s (shape.Word id) ty h = ap (package_tree p (suc n)) h.1 ∙ name_agrees n (same_tree n) s id.name.now h.0 h.2
  same_tree (suc n) s (shape.Of span form parts) ty h = ap (package_tree p (suc n)) h.1 ∙ whole_agrees n (same_tree n) s form parts h.0 h.2
