-- Where each type is at its place, so do those below it, by one path.
use Rattle.std.proofs.Common.{◌≡◌, ℕ, suc, List, [], ◌∷◌, Option, Some, None, inl, inr, refl, sym, ap, ◌∙◌, subst}
use Rattle.wit_arena.proofs.Names.{Address, AreAt, Decls, Def, Exprs, Form, Id, IsAt, Key, LiesBelow, Nothing, Occurrence, PackageFile, Place, ScopeName, Shape, Shapes, Span, TypeDef, UnresolvedPackage, Whole, about_name, all_seen, entry_node, expr_of, exprs_of, keys, kind_of, local_name, meaning, name_exprs, named_node, node_parts, option_map_or, package_node, scope, seen, slice_get, source_node, unwrap_or}
use Rattle.wit_syntax.proofs.Common.{placed}
use Rattle.wit_types.specs.declared.types.«Type».{«Type» as Ty}
use Rattle.wit_types.specs.declared.types.«Type».TheVariants as type
use Rattle.wit_syntax.specs.Shape as shape
use Rattle.wit_arena.proofs.OneKind.{primitive_node, all_at_untaken}
use Rattle.wit_arena.proofs.Occurrence.{Has, has_either}
use Rattle.wit_arena.proofs.Shape.{entry_of_key}
use Rattle.wit_arena.proofs.Depth.{meaning_found}
use Rattle.wit_arena.proofs.Parts.{part_type}
use Rattle.wit_arena.proofs.Resolving.{keyed_in, DoneScope, IsPresent}
use Rattle.wit_arena.proofs.PackageIfDone.{entry_of, parts_at}

-- an entry has the parts of its kind
entry_parts : (p : UnresolvedPackage) (name : Option (List ℕ)) (e : TypeDef) → node_parts (entry_node p name e) ≡ (kind_of e.kind).1
entry_parts p None e = refl
entry_parts p (Some name) e = refl

pub type_parts : (p : UnresolvedPackage) (i : ℕ) (e : TypeDef) → slice_get p.types i ≡ Some e → node_parts (package_node p (type.Id i)) ≡ (kind_of e.kind).1
type_parts p i e at = ap (λ (o : Option TypeDef). node_parts (option_map_or (λ (e : TypeDef). entry_node p e.name e) o Nothing)) at ∙ entry_parts p e.name e

module _ (files : List PackageFile) (decls : Decls) (written : List Occurrence) (cs : List DoneScope) (p : UnresolvedPackage) (d : IsPresent files decls written cs p.types) where
  abbrev ks : List Key
  ks = keys d.seen

  -- the parts of a written type are these of a scope, and the parts of its type are at their places
  pub record HasParts (x : Place) (t : Ty) : Type 0 where
    pub scope : Address
    pub parts : Shapes
    pub source : node_parts (source_node files x) ≡ placed scope parts
    pub are : AreAt ks (exprs_of scope parts) (node_parts (package_node p t))

  -- what a name of a scope means there
  pub means : (t : ℕ) (c : DoneScope) (k : ℕ) (x : ScopeName) (name : List ℕ) → slice_get cs t ≡ Some c → slice_get c.names k ≡ Some x → local_name x ≡ name → meaning (scope files c.address) name ≡ Some x
  means t c k x name at among called =
      let turn = (d.each t c at).turn in
      let q = turn.among k x among in
      meaning_found (scope files c.address) q.0 x name turn.distinct q.1 called

  name_has_parts : (s : Address) (id : Id) (i : ℕ) → slice_get ks i ≡ Some (Def s id.name.now) → HasParts (s, shape.Word id) (type.Id i)
  name_has_parts s id i here =
      let it = d.before i s id.name.now here in
      let c = it.resolved_scope in
      let x = it.x in
      let q = (d.each it.place c it.at).turn.among it.index x it.among in
      let there : slice_get ks i ≡ Some (Def c.address (local_name x)) = here ∙ ap (λ (z : Address). Some (Def z id.name.now)) (sym it.scope) ∙ ap (λ (n : List ℕ). Some (Def c.address n)) (sym it.called) in
      let e = entry_of files decls written cs p.types d i c.address (local_name x) there in
      let parts : AreAt ks (name_exprs s x) (kind_of e.0.kind).1 = subst (λ (z : Address). AreAt ks (name_exprs z x) (kind_of e.0.kind).1) it.scope (parts_at files decls written cs p.types d it.place c q.0 x i e.0 it.at q.1 there e.1) in
      let found : meaning (scope files s) id.name.now ≡ Some x = ap (λ (z : Address). meaning (scope files z) id.name.now) (sym it.scope) ∙ means it.place c it.index x id.name.now it.at it.among it.called in
      record {
        scope = unwrap_or (about_name x).from s;
        parts = (about_name x).body.parts;
        source = ap (λ (o : Option ScopeName). node_parts (named_node s o)) found;
        are = subst (AreAt ks (name_exprs s x)) (sym (type_parts p i e.0 e.1)) parts;
      }

  whole_parts : (s : Address) (span : Span) (form : Form) (parts : Shapes) (t : Ty) → IsAt ks (expr_of s (shape.Of span form parts)) t → AreAt ks (exprs_of s parts) (node_parts (package_node p t))
  whole_parts s span form parts t h =
      let k = Whole form (exprs_of s parts) in
      let e = entry_of_key decls ks p.types (keyed_in d) h.0 k h.2 in
      let it = (keyed_in d).each h.0 k e.0 h.2 e.1 in
      subst (AreAt ks (exprs_of s parts)) (sym (ap (λ (u : Ty). node_parts (package_node p u)) h.1 ∙ type_parts p h.0 e.0 e.1)) (all_at_untaken h.0 ks (exprs_of s parts) (kind_of e.0.kind).1 it.3)

  pub has_parts : (s : Address) (x : Shape) (t : Ty) → IsAt ks (expr_of s x) t → HasParts (s, x) t
  has_parts s (shape.Prim q) t h = record {
    scope = s;
    parts = shape.End;
    source = refl;
    are = subst (AreAt ks (exprs_of s shape.End)) (sym (ap (λ (u : Ty). node_parts (package_node p u)) h ∙ ap node_parts (primitive_node p q))) tt;
  }
  has_parts s (shape.Word id) t h = subst (HasParts (s, shape.Word id)) (sym h.1) (name_has_parts s id h.0 h.2)
  has_parts s (shape.Of span form parts) t h = record {
    scope = s;
    parts = parts;
    source = refl;
    are = whole_parts s span form parts t h;
  }

  -- what is below a written type has the type that is so below its type
  pub below_at : (path : List ℕ) (x y : Place) (t u : Ty) → IsAt ks (expr_of x.0 x.1) t → LiesBelow (source_node files) x path y → LiesBelow (package_node p) t path u → IsAt ks (expr_of y.0 y.1) u
  below_at [] x y t u h below is = subst (λ (z : Place). IsAt ks (expr_of z.0 z.1) u) below (subst (IsAt ks (expr_of x.0 x.1)) is h)
  below_at (k ∷ path) x y t u h below is =
      let q = has_parts x.0 x.1 t h in
      let at = ap (λ (l : List Place). slice_get l k) (sym q.source) ∙ below.1 in
      below_at path below.0 y is.0 u (part_type ks q.scope q.parts (node_parts (package_node p t)) k below.0 is.0 q.are at is.1) below.2 is.2

  -- below a written type a type is written whose type is the entry at a place
  pub record LeadsTo (x : Place) (t : Ty) (j : ℕ) : Type 0 where
    pub inner : Place
    pub path : List ℕ
    pub below : LiesBelow (source_node files) x path inner
    pub is : LiesBelow (package_node p) t path (type.Id j)

  -- so it is below one of these
  pub record OneLeadsTo (xs : List Place) (ts : List Ty) (j : ℕ) : Type 0 where
    pub number : ℕ
    pub x : Place
    pub t : Ty
    pub source : slice_get xs number ≡ Some x
    pub present : slice_get ts number ≡ Some t
    pub leads : LeadsTo x t j

  -- a part leads where its whole does
  pub whole_leads : (x : Place) (t : Ty) (j : ℕ) → OneLeadsTo (node_parts (source_node files x)) (node_parts (package_node p t)) j → LeadsTo x t j
  whole_leads x t j h = record {
    inner = h.leads.inner;
    path = h.number ∷ h.leads.path;
    below = (h.x, h.source, h.leads.below);
    is = (h.t, h.present, h.leads.is);
  }

  -- a written type leads to each unnamed one in it
  mutual
    pub leads : (s : Address) (x : Shape) (t : Ty) (j : ℕ) (form : Form) (parts : Exprs) → IsAt ks (expr_of s x) t → slice_get ks j ≡ Some (Whole form parts) → Has (seen (expr_of s x)) (Whole form parts) → LeadsTo (s, x) t j
    leads s (shape.Of span own xs) t j form parts at there has = elim (has_either (all_seen (exprs_of s xs)) (Whole own (exprs_of s xs) ∷ []) (Whole form parts) has) [
      | inl inner ↦ whole_leads (s, shape.Of span own xs) t j (all_lead s xs (node_parts (package_node p t)) j form parts (whole_parts s span own xs t at) there inner)
      | inr last ↦ elim last [
        | inl here ↦ record { inner = (s, shape.Of span own xs); path = []; below = refl; is = at.1 ∙ ap type.Id (d.occurrence.once.differ at.0 j (Whole form parts) (at.2 ∙ ap Some here) there) }
        | inr none ↦ absurd none
      ]
    ]
    leads s _ t j form parts at there has = absurd has

    pub all_lead : (s : Address) (xs : Shapes) (ts : List Ty) (j : ℕ) (form : Form) (parts : Exprs) → AreAt ks (exprs_of s xs) ts → slice_get ks j ≡ Some (Whole form parts) → Has (all_seen (exprs_of s xs)) (Whole form parts) → OneLeadsTo (placed s xs) ts j
    all_lead s shape.End ts j form parts at there has = absurd has
    all_lead s (shape.More x xs) (t ∷ ts) j form parts at there has = elim (has_either (seen (expr_of s x)) (all_seen (exprs_of s xs)) (Whole form parts) has) [
      | inl first ↦ record { number = 0; x = (s, x); t = t; source = refl; present = refl; leads = leads s x t j form parts at.0 there first }
      | inr rest ↦ (let it = all_lead s xs ts j form parts at.1 there rest in record { number = suc it.number; x = it.x; t = it.t; source = it.source; present = it.present; leads = it.leads })
    ]
    all_lead s (shape.More x xs) [] j form parts at there has = absurd at
