-- Where names end: entries of the arena end where the trees of their names do.
use Rattle.std.proofs.Common.{◌≡◌, ℕ, zero, suc, ◌<◌, List, [], ◌∷◌, ◌++◌, length, Option, Some, None, ◌⊎◌, inl, inr, refl, sym, ap, ◌∙◌, subst, arith}
use Rattle.wit_arena.proofs.Names.{Address, AliasForm, AreAt, AreDistinct, AtForeign, AtResource, Decls, Def, Defined, Elsewhere, EndsAt, EntryEnd, ForeignName, Form, Id, IsKeyed, IsOccurrence, IsOther, IsResource, IsUnknown, Key, Neither, None', Occurrence, PackageFile, Plain, Primitive, ResourceForm, ScopeName, Shape, Shapes, TypeBody, TypeDef, TypeOwner, UnknownForm, Used, Word, about_name, at_prefix, at_within, body_of, drop, entry_end, exprs_of, found_end, keys, length-map, kind_end, kind_of, length-take-le, local_name, meaning, meant_end, name_exprs, named_end, part_end, primitive_type, scope, shape_end, slice_get, slice_get_within, take, take-append-drop, take-append-le, unwrap_or, «Type» as Written}
use Rattle.wit_syntax.proofs.Common.{End, More, Prim, one}
use Rattle.wit_type_tree.specs.declared.types.Primitive.TheVariants as primitive
use Rattle.wit_type_tree.specs.declared.types.«Type».TheVariants as written
use Rattle.wit_types.specs.declared.types.«Type».{«Type» as Ty}
use Rattle.wit_types.specs.declared.types.«Type».TheVariants as type
use Rattle.wit_arena.proofs.Parts.{HasPart}
use Rattle.wit_arena.proofs.OneKind.{all_at_untaken, same_some}
use Rattle.wit_arena.proofs.Placing.{keyed_by}
use Rattle.wit_arena.proofs.Shape.{entry_of_key, backward}
use Rattle.wit_arena.proofs.Depth.{meaning_found}

-- two ways to say where something ends never differ
abbrev Agreeing : {X : Type 0} → (X → Option End) → (X → Option End) → Type 0
Agreeing {X} f g = (x : X) (a b : End) → f x ≡ Some a → g x ≡ Some b → a ≡ b

named_one : (f g : Shape → Option End) → Agreeing f g → (s : Address) (name : List ℕ) (form : Form) (xs : Shapes) (a b : End) → named_end f s name form xs ≡ Some a → named_end g s name form xs ≡ Some b → a ≡ b
named_one f g agree s name AliasForm (More x xs) a b h k = agree x a b h k
named_one f g agree s name _ xs a b h k = cc

meant_one : (f g : Address → Shape → Option End) → ((s : Address) → Agreeing (f s) (g s)) → (s : Address) (x : Option ScopeName) (a b : End) → meant_end f s x ≡ Some a → meant_end g s x ≡ Some b → a ≡ b
meant_one f g agree s None a b h k = absurd (let f : ⊥ = cc in f)
meant_one f g agree s (Some x) a b h k = named_one (f (unwrap_or (about_name x).from s)) (g (unwrap_or (about_name x).from s)) (agree (unwrap_or (about_name x).from s)) s (local_name x) (about_name x).body.form (about_name x).body.parts a b h k

-- where a written type ends does not depend on the number of steps
shape_one : (files : List PackageFile) (n m : ℕ) (s : Address) → Agreeing (shape_end files n s) (shape_end files m s)
shape_one files (suc n) (suc m) s (Word id) a b h k = meant_one (shape_end files n) (shape_end files m) (shape_one files n m) s (meaning (scope files s) id.name.now) a b h k
shape_one files (suc n) (suc m) s _ a b h k = cc
shape_one files n m s x a b h k = absurd (let f : ⊥ = cc in f)

-- a name has one end
pub ends_one : (files : List PackageFile) (s : Address) (id : Id) (a b : End) → EndsAt files s id a → EndsAt files s id b → a ≡ b
ends_one files s id a b p q = shape_one files p.0 q.0 s (Word id) a b p.1 q.1

-- so it does in a grown arena
pub entry_end-same : (n : ℕ) (es more : List TypeDef) (i : ℕ) → i < length es → entry_end n (es ++ more) i ≡ entry_end n es i
entry_end-same zero es more i lt = refl
entry_end-same (suc n) es more i lt =
    let before : take i (es ++ more) ≡ take i es = take-append-le i es more (omega arith) in
    let x = at_within es i lt in
    let here : slice_get (es ++ more) i ≡ slice_get es i = at_prefix es more i x.0 x.1 ∙ sym x.1 in
    ap (λ (l : List TypeDef). found_end (entry_end n l) i (slice_get (es ++ more) i)) before ∙ ap (found_end (entry_end n (take i es)) i) here

-- what ends at a resource or at an unknown type is in the arena
found_within : (f : ℕ → Option EntryEnd) (i : ℕ) (o : Option TypeDef) (e : EntryEnd) → (e ≡ IsOther → ⊥) → found_end f i o ≡ Some e → (x : TypeDef) × (o ≡ Some x)
found_within f i None e known h = absurd (known (let same : e ≡ IsOther = cc in same))
found_within f i (Some x) e known h = (x, refl)

pub entry_end-within : (n : ℕ) (es : List TypeDef) (i : ℕ) (e : EntryEnd) → (e ≡ IsOther → ⊥) → entry_end n es i ≡ Some e → i < length es
entry_end-within zero es i e known h = absurd (let f : ⊥ = cc in f)
entry_end-within (suc n) es i e known h =
    let x = found_within (entry_end n (take i es)) i (slice_get es i) e known h in
    slice_get_within es i x.0 x.1

pub entry_end-more : (n : ℕ) (es more : List TypeDef) (i : ℕ) (e : EntryEnd) → (e ≡ IsOther → ⊥) → entry_end n es i ≡ Some e → entry_end n (es ++ more) i ≡ Some e
entry_end-more n es more i e known h = entry_end-same n es more i (entry_end-within n es i e known h) ∙ h

-- another word for a type has one part, a primitive or a name
abbrev IsWord : Shapes → Type 0
IsWord xs = ((p : Primitive) × (xs ≡ one (Prim p))) ⊎ ((id : Id) × (xs ≡ one (Word id)))

alias_written : (t : Written) → (body_of (Plain t)).form ≡ AliasForm → IsWord (body_of (Plain t)).parts
alias_written (written.Primitive span p) h = inl (p, refl)
alias_written (written.Name id) h = inr (id, refl)
alias_written (written.Result span Neither) h = cc
alias_written (written.Future' span None') h = cc
alias_written (written.Stream' span None') h = cc
alias_written _ h = cc

alias_defined : (b : TypeBody) → (body_of b).form ≡ AliasForm → IsWord (body_of b).parts
alias_defined (Plain t) h = alias_written t h
alias_defined _ h = absurd (let f : ⊥ = cc in f)

alias_named : (x : ScopeName) → (about_name x).body.form ≡ AliasForm → IsWord (about_name x).body.parts
alias_named (Used from attributes n) h = inr (n.name, refl)
alias_named (Defined d) h = alias_defined d.body h
alias_named (ForeignName attributes id) h = absurd (let f : ⊥ = cc in f)

-- a primitive is no entry
part_primitive : (f : ℕ → Option EntryEnd) (p : Primitive) (ts : List Ty) → part_end f (primitive_type p ∷ ts) ≡ Some IsOther
part_primitive f primitive.Bool ts = refl
part_primitive f p ts = refl

-- what the end of an entry says of the name that the entry is of
abbrev pub EndIs : List PackageFile → List Key → Address → Id → EntryEnd → Type 0
EndIs files ks s id IsResource = EndsAt files s id AtResource
EndIs files ks s id (IsUnknown place) = (t : Address) × (name : List ℕ) × (slice_get ks place ≡ Some (Def t name)) × EndsAt files s id (AtForeign t name)
EndIs files ks s id IsOther = EndsAt files s id Elsewhere

-- a name, and what it means in its scope
record Means (files : List PackageFile) (s : Address) (id : Id) (x : ScopeName) : Type 0 where
  found : meaning (scope files s) id.name.now ≡ Some x

-- where a name of a scope ends, in so many steps after it
abbrev ends_in : List PackageFile → ℕ → Address → ScopeName → Form → Shapes → Option End
ends_in files n s x form xs = named_end (shape_end files n (unwrap_or (about_name x).from s)) s (local_name x) form xs

-- it ends by its form
ends_formed : (files : List PackageFile) (s : Address) (id : Id) (x : ScopeName) (form : Form) (end : End) → Means files s id x → form ≡ (about_name x).body.form → ends_in files zero s x form (about_name x).body.parts ≡ Some end → EndsAt files s id end
ends_formed files s id x form end means same is = (suc zero, ap (meant_end (shape_end files zero) s) means.found ∙ (ap (λ (f : Form). ends_in files zero s x f (about_name x).body.parts) (sym same) ∙ is))

-- another word for what its one part is
ends_part : (files : List PackageFile) (s : Address) (id : Id) (x : ScopeName) (y : Shapes) (n : ℕ) (end : End) → Means files s id x → AliasForm ≡ (about_name x).body.form → (about_name x).body.parts ≡ y → ends_in files n s x AliasForm y ≡ Some end → EndsAt files s id end
ends_part files s id x y n end means same parts is = (suc n, ap (meant_end (shape_end files n) s) means.found ∙ ap (λ (f : Form). ends_in files n s x f (about_name x).body.parts) (sym same) ∙ ap (ends_in files n s x AliasForm) parts ∙ is)

end_through : (files : List PackageFile) (ks : List Key) (s : Address) (id : Id) (x : ScopeName) (word : Id) (e : EntryEnd) → Means files s id x → AliasForm ≡ (about_name x).body.form → (about_name x).body.parts ≡ one (Word word) → EndIs files ks (unwrap_or (about_name x).from s) word e → EndIs files ks s id e
end_through files ks s id x word IsResource means same parts h = ends_part files s id x (one (Word word)) h.0 AtResource means same parts h.1
end_through files ks s id x word (IsUnknown place) means same parts h = (h.0, h.1, h.2, (ends_part files s id x (one (Word word)) h.3.0 (AtForeign h.0 h.1) means same parts h.3.1))
end_through files ks s id x word IsOther means same parts h = ends_part files s id x (one (Word word)) h.0 Elsewhere means same parts h.1

-- an end that is found by the parts of an entry is found where each of them is
part_by : (f g : ℕ → Option EntryEnd) (parts : List Ty) (e : EntryEnd) → ((j : ℕ) → HasPart parts (type.Id j) → f j ≡ Some e → g j ≡ Some e) → part_end f parts ≡ Some e → part_end g parts ≡ Some e
part_by f g (type.Id j ∷ parts) e by h = by j (inl refl) h
part_by f g parts e by h = h

kind_by : (f g : ℕ → Option EntryEnd) (i : ℕ) (form : Form) (parts : List Ty) (e : EntryEnd) → ((j : ℕ) → HasPart parts (type.Id j) → f j ≡ Some e → g j ≡ Some e) → kind_end f i form parts ≡ Some e → kind_end g i form parts ≡ Some e
kind_by f g i AliasForm parts e by h = part_by f g parts e by h
kind_by f g i _ parts e by h = h

-- the declarations of a scope are those of its names, and no two of these are one
pub record IsDeclared (files : List PackageFile) (decls : Decls) (s : Address) : Type 0 where
  pub distinct : AreDistinct (scope files s)
  pub whose : TypeOwner
  pub own : decls s ≡ (scope files s, whose)

module _ (files : List PackageFile) (decls : Decls) (ms : List Occurrence) (es : List TypeDef) (o : IsOccurrence decls ms es) (scopes : (j : ℕ) (s : Address) (name : List ℕ) → slice_get (keys ms) j ≡ Some (Def s name) → IsDeclared files decls s) where
  abbrev ks : List Key
  ks = keys ms

  m : IsKeyed decls ks es
  m = keyed_by o (λ j s name at. subst (λ (d : List ScopeName × TypeOwner). AreDistinct d.0) (sym (scopes j s name at).own) (scopes j s name at).distinct)

  -- in so many steps, an entry says where its name ends
  abbrev Stated : ℕ → Type 0
  Stated n = (i : ℕ) (s : Address) (id : Id) (e : EntryEnd) → slice_get ks i ≡ Some (Def s id.name.now) → entry_end n es i ≡ Some e → EndIs files ks s id e

  -- the one part of another word for a type is a primitive
  end_primitive : (n : ℕ) (s : Address) (id : Id) (x : ScopeName) (p : Primitive) (parts : List Ty) (e : EntryEnd) → Means files s id x → AliasForm ≡ (about_name x).body.form → (about_name x).body.parts ≡ one (Prim p) → AreAt ks (exprs_of (unwrap_or (about_name x).from s) (one (Prim p))) parts → part_end (entry_end n es) parts ≡ Some e → EndIs files ks s id e
  end_primitive n s id x p [] e means same word at is = absurd at
  end_primitive n s id x p (t ∷ ts) e means same word at is =
      let other : Some IsOther ≡ Some e = sym (part_primitive (entry_end n es) p ts) ∙ ap (λ (u : Ty). part_end (entry_end n es) (u ∷ ts)) (sym at.0) ∙ is in
      subst (EndIs files ks s id) (same_some other) (ends_part files s id x (one (Prim p)) (suc zero) Elsewhere means same word refl)

  -- or a name
  end_word : (n : ℕ) → Stated n → (s : Address) (id : Id) (x : ScopeName) (word : Id) (parts : List Ty) (e : EntryEnd) → Means files s id x → AliasForm ≡ (about_name x).body.form → (about_name x).body.parts ≡ one (Word word) → AreAt ks (exprs_of (unwrap_or (about_name x).from s) (one (Word word))) parts → part_end (entry_end n es) parts ≡ Some e → EndIs files ks s id e
  end_word n as_stated s id x word [] e means same is_word at is = absurd at
  end_word n as_stated s id x word (t ∷ ts) e means same is_word at is =
      let there : entry_end n es at.0.0 ≡ Some e = ap (λ (u : Ty). part_end (entry_end n es) (u ∷ ts)) (sym at.0.1) ∙ is in
      end_through files ks s id x word e means same is_word (as_stated at.0.0 (unwrap_or (about_name x).from s) word e at.0.2 there)

  end_alias : (n : ℕ) → Stated n → (s : Address) (id : Id) (x : ScopeName) (parts : List Ty) (e : EntryEnd) → Means files s id x → AliasForm ≡ (about_name x).body.form → AreAt ks (name_exprs s x) parts → part_end (entry_end n es) parts ≡ Some e → EndIs files ks s id e
  end_alias n as_stated s id x parts e means same at is = elim (alias_named x (sym same)) [
    | inl p ↦ end_primitive n s id x p.0 parts e means same p.1 (subst (λ (xs : Shapes). AreAt ks (exprs_of (unwrap_or (about_name x).from s) xs) parts) p.1 at) is
    | inr w ↦ end_word n as_stated s id x w.0 parts e means same w.1 (subst (λ (xs : Shapes). AreAt ks (exprs_of (unwrap_or (about_name x).from s) xs) parts) w.1 at) is
  ]

  -- a name of another package
  end_unknown : (i : ℕ) (s : Address) (id : Id) (x : ScopeName) (e : EntryEnd) → Means files s id x → UnknownForm ≡ (about_name x).body.form → local_name x ≡ id.name.now → slice_get ks i ≡ Some (Def s id.name.now) → Some (IsUnknown i) ≡ Some e → EndIs files ks s id e
  end_unknown i s id x e means same called at is =
      let foreign : Some (AtForeign s (local_name x)) ≡ Some (AtForeign s id.name.now) = ap (λ (n : List ℕ). Some (AtForeign s n)) called in
      subst (EndIs files ks s id) (same_some is) (s, id.name.now, at, ends_formed files s id x UnknownForm (AtForeign s id.name.now) means same foreign)

  end_formed : (n : ℕ) → Stated n → (i : ℕ) (s : Address) (id : Id) (x : ScopeName) (form : Form) (parts : List Ty) (e : EntryEnd) → Means files s id x → form ≡ (about_name x).body.form → local_name x ≡ id.name.now → AreAt ks (name_exprs s x) parts → slice_get ks i ≡ Some (Def s id.name.now) → kind_end (entry_end n es) i form parts ≡ Some e → EndIs files ks s id e
  end_formed n as_stated i s id x AliasForm parts e means same called at key is = end_alias n as_stated s id x parts e means same at is
  end_formed n as_stated i s id x ResourceForm parts e means same called at key is = subst (EndIs files ks s id) (same_some is) (ends_formed files s id x ResourceForm AtResource means same refl)
  end_formed n as_stated i s id x UnknownForm parts e means same called at key is = end_unknown i s id x e means same called key is
  end_formed n as_stated i s id x form parts e means same called at key is = subst (EndIs files ks s id) (same_some is) (ends_formed files s id x form Elsewhere means same refl)

  -- an entry ends where it does by those that come before another one after it
  end_before : (n i j : ℕ) (e : EntryEnd) → i < length es → j < i → entry_end n (take i es) j ≡ Some e → entry_end n es j ≡ Some e
  end_before n i j e within below there =
      let long : length (take i es) ≡ i = length-take-le i es (omega arith) in
      subst (λ (l : List TypeDef). entry_end n l j ≡ Some e) (take-append-drop i es) (entry_end-same n (take i es) (drop i es) j (omega arith) ∙ there)

  -- an entry of a name ends where the name does
  pub end_source : (n : ℕ) (i : ℕ) (s : Address) (id : Id) (e : EntryEnd) → slice_get ks i ≡ Some (Def s id.name.now) → entry_end n es i ≡ Some e → EndIs files ks s id e
  end_source zero i s id e at is = absurd (let f : ⊥ = cc in f)
  end_source (suc n) i s id e at is =
      let entry = entry_of_key decls ks es m i (Def s id.name.now) at in
      let it = m.each i (Def s id.name.now) entry.0 at entry.1 in
      let here = scopes i s id.name.now at in
      let x = it.1 in
      let there : slice_get (scope files s) it.0 ≡ Some x = ap (λ (d : List ScopeName × TypeOwner). slice_get d.0 it.0) (sym here.own) ∙ it.2 in
      let parts = all_at_untaken i ks (name_exprs s x) (kind_of entry.0.kind).1 it.8 in
      let means : Means files s id x = record { found = meaning_found (scope files s) it.0 x id.name.now here.distinct there it.3 } in
      let before : kind_end (entry_end n (take i es)) i (kind_of entry.0.kind).0 (kind_of entry.0.kind).1 ≡ Some e = ap (found_end (entry_end n (take i es)) i) (sym entry.1) ∙ is in
      let one : kind_end (entry_end n es) i (kind_of entry.0.kind).0 (kind_of entry.0.kind).1 ≡ Some e = kind_by (entry_end n (take i es)) (entry_end n es) i (kind_of entry.0.kind).0 (kind_of entry.0.kind).1 e (λ j has there. end_before n i j e (slice_get_within es i entry.0 entry.1) (backward decls ks es m i entry.0 (type.Id j) (record { is = entry.1 }) has) there) before in
      end_formed n (end_source n) i s id x (kind_of entry.0.kind).0 (kind_of entry.0.kind).1 e means it.7 it.3 parts at one

-- an entry of a name ends where the name does, also once the arena has grown
pub end_source-more : (files : List PackageFile) (decls : Decls) (ms : List Occurrence) (es more : List TypeDef) (m : IsOccurrence decls ms es) → ((j : ℕ) (s : Address) (name : List ℕ) → slice_get (keys ms) j ≡ Some (Def s name) → IsDeclared files decls s) → (n i : ℕ) (s : Address) (id : Id) (e : EntryEnd) → slice_get (keys ms) i ≡ Some (Def s id.name.now) → entry_end n (es ++ more) i ≡ Some e → EndIs files (keys ms) s id e
end_source-more files decls ms es more m scopes n i s id e at is =
    let lt : i < length es = (let within = slice_get_within (keys ms) i (Def s id.name.now) at in let count = m.count ∙ sym (length-map ms (λ (o : Occurrence). o.key)) in omega arith) in
    end_source files decls ms es m scopes n i s id e at (sym (entry_end-same n es more i lt) ∙ is)
