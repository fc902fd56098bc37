-- The types of unknown form are exactly the start of the arena: one for each name that is used from another package.
use Rattle.std.proofs.Common.{◌≡◌, ◌↔◌, ℕ, ◌<◌, true, false, List, [], ◌++◌, length, Option, Some, None, inl, inr, refl, sym, ap, ◌∙◌, subst, arith}
use Rattle.wit_arena.proofs.Names.{Address, Attribute, Collects, Decls, Def, Defined, ForeignName, ForeignNamed, ForeignUse, Id, IsAnonymousForm, Item, Key, Occurrence, PackageFile, ScopeName, TypeDef, TypeOwner, UnknownForm, Used, Whole, about_name, all_scopes, at_within, cases_Bool, first_foreign_uses, firsts_at, foreign_use_occurrence, foreign_uses, is_foreign, item_at, keys, kind_of, local_name, map, option_map, option_map_or, same_foreign_use, scope, scope_names, slice_get, slice_get-map, slice_get_within}
use Rattle.wit_arena.proofs.OneKind.{Extended, key_extended}
use Rattle.wit_arena.proofs.Shape.{key_of}
use Rattle.wit_arena.proofs.Forms.{body_known}
use Rattle.wit_arena.proofs.Resolving.{keyed_in, DoneScope, IsPresent}
use Rattle.wit_arena.proofs.Itemizing.{own_names}
use Rattle.wit_arena.proofs.ForeignUses.{foreign_use_key, keys-foreign_uses, foreign_uses_seen, used_at, used_name_at}
use Rattle.wit_arena.proofs.Occurrence.{collects_longer}

-- where these occur first, the keys begin with each of them where it is first used
pub foreign_uses_prefix : (files : List PackageFile) (rest seen : List Occurrence) → Collects [] (map foreign_use_occurrence (foreign_uses files) ++ rest) seen → Extended (map foreign_use_key (first_foreign_uses files)) (keys seen)
foreign_uses_prefix files rest seen h = subst (λ (ks : List Key). Extended ks (keys seen)) (keys-foreign_uses (first_foreign_uses files)) (collects_longer (map foreign_use_occurrence (foreign_uses files)) rest [] (map foreign_use_occurrence (first_foreign_uses files)) seen (foreign_uses_seen files) h)

-- a name of another package's scope is taken
foreign_name : (files : List PackageFile) (s : Address) (k : ℕ) (x : ScopeName) → is_foreign s ≡ true → slice_get (scope files s) k ≡ Some x → (j : ℕ) × (t : ForeignUse) × (slice_get (first_foreign_uses files) j ≡ Some t) × (t.from ≡ s) × (x ≡ ForeignName t.attributes t.id)
foreign_name files (ForeignNamed p name) k x foreign at = used_name_at files (ForeignNamed p name) k x at
foreign_name files _ k x foreign at = absurd (let f : ⊥ = cc in f)

-- a name of a declared item is not
own_in : (w : Option Item) (k : ℕ) (attributes : List Attribute) (id : Id) → slice_get (option_map_or scope_names w []) k ≡ Some (ForeignName attributes id) → ⊥
own_in None k attributes id at = let f : ⊥ = cc in f
own_in (Some w) k attributes id at = own_names w k attributes id at

own_name : (files : List PackageFile) (s : Address) (k : ℕ) (attributes : List Attribute) (id : Id) → is_foreign s ≡ false → slice_get (scope files s) k ≡ Some (ForeignName attributes id) → ⊥
own_name files (ForeignNamed p name) k attributes id own at = cc
own_name files s k attributes id own at = own_in (item_at (all_scopes files) s) k attributes id at

-- only what is taken has an unknown form
unknown_used : (x : ScopeName) → (about_name x).body.form ≡ UnknownForm → (attributes : List Attribute) × (id : Id) × (x ≡ ForeignName attributes id)
unknown_used (Used from attributes n) h = absurd (let f : ⊥ = cc in f)
unknown_used (Defined d) h = absurd (body_known d.body h)
unknown_used (ForeignName attributes id) h = (attributes, id, refl)

module _ (files : List PackageFile) (decls : Decls) (written : List Occurrence) (cs : List DoneScope) (es : List TypeDef) (d : IsPresent files decls written cs es) (prefix : Extended (map foreign_use_key (first_foreign_uses files)) (keys d.seen)) (formed : (j : ℕ) (e : TypeDef) → slice_get es j ≡ Some e → e.name ≡ None → IsAnonymousForm (kind_of e.kind).0) where
  abbrev ts : List ForeignUse
  ts = first_foreign_uses files

  -- the entry of a name that occurred has the form of a name of its scope
  name_at : (i : ℕ) (s : Address) (name : List ℕ) (e : TypeDef) → slice_get (keys d.seen) i ≡ Some (Def s name) → slice_get es i ≡ Some e → (k : ℕ) × (x : ScopeName) × (slice_get (scope files s) k ≡ Some x) × ((kind_of e.kind).0 ≡ (about_name x).body.form) × (local_name x ≡ name)
  name_at i s name e here there =
      let of = d.before i s name here in
      let c = of.resolved_scope in
      let own : slice_get (keys d.seen) i ≡ Some (Def c.address name) = here ∙ ap (λ (z : Address). Some (Def z name)) (sym of.scope) in
      let it = (keyed_in d).each i (Def c.address name) e own there in
      (it.0, it.1, ap (λ (z : Address). slice_get (scope files z) it.0) (sym of.scope) ∙ ap (λ (d : List ScopeName × TypeOwner). slice_get d.0 it.0) (sym (d.own of.place c of.at)) ∙ it.2, it.7, it.3)

  -- and has an unknown form there
  prefix_unknown : (j : ℕ) (t : ForeignUse) (e : TypeDef) → slice_get ts j ≡ Some t → slice_get es j ≡ Some e → (kind_of e.kind).0 ≡ UnknownForm
  prefix_unknown j t e at there =
      let x = name_at j t.from t.id.name.now e (key_extended prefix j (foreign_use_key t) (slice_get-map foreign_use_key ts j ∙ ap (option_map foreign_use_key) at)) there in
      let y = foreign_name files t.from x.0 x.1 (let k = firsts_at same_foreign_use (foreign_uses files) j t at in (used_at files k.0 t k.1).foreign) x.2 in
      x.3 ∙ ap (λ (x : ScopeName). (about_name x).body.form) y.4

  -- a name of another package's scope comes first
  foreign_prefix : (i : ℕ) (s : Address) (name : List ℕ) (k : ℕ) (x : ScopeName) → slice_get (keys d.seen) i ≡ Some (Def s name) → is_foreign s ≡ true → slice_get (scope files s) k ≡ Some x → local_name x ≡ name → i < length ts
  foreign_prefix i s name k x here foreign at called =
      let y = foreign_name files s k x foreign at in
      let key : foreign_use_key y.1 ≡ Def s name = ap (λ (z : Address). Def z y.1.id.name.now) y.3 ∙ ap (Def s) (sym (ap local_name y.4) ∙ called) in
      let same = d.occurrence.once.differ i y.0 (Def s name) here ((key_extended prefix y.0 (foreign_use_key y.1) (slice_get-map foreign_use_key ts y.0 ∙ ap (option_map foreign_use_key) y.2)) ∙ ap Some key) in
      let lt = slice_get_within ts y.0 y.1 y.2 in
      omega arith

  -- what has an unknown form comes first
  unknown_at : (i : ℕ) (k : Key) (e : TypeDef) → slice_get (keys d.seen) i ≡ Some k → slice_get es i ≡ Some e → (kind_of e.kind).0 ≡ UnknownForm → i < length ts
  unknown_at i (Def s name) e here there unknown =
      let x = name_at i s name e here there in
      elim (cases_Bool (is_foreign s)) [
        | inl foreign ↦ foreign_prefix i s name x.0 x.1 here foreign x.2 x.4
        | inr own ↦ absurd (let t = unknown_used x.1 (sym x.3 ∙ unknown) in own_name files s x.0 t.0 t.1 own (x.2 ∙ ap Some t.2))
      ]
  unknown_at i (Whole form parts) e here there unknown = absurd (subst IsAnonymousForm unknown (formed i e there ((keyed_in d).each i (Whole form parts) e here there).0))

  -- so these are the prefix
  pub unknown_prefix : (i : ℕ) (e : TypeDef) → slice_get es i ≡ Some e → ((kind_of e.kind).0 ≡ UnknownForm) ↔ (i < length ts)
  unknown_prefix i e at = (
    λ unknown. (let k = key_of decls (keys d.seen) es (keyed_in d) i e at in unknown_at i k.0 e k.1 at unknown),
    λ lt. (let t = at_within ts i lt in prefix_unknown i t.0 e t.1 at),
  )
