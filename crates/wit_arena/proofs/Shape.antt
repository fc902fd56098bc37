-- Types refer backwards, and unnamed ones are one where they are equal.
use Rattle.std.proofs.Common.{◌≡◌, ℕ, List, [], ◌∷◌, take, Some, None, inl, inr, sym, ap, ◌∙◌, subst, arith}
use Rattle.wit_arena.proofs.Names.{AreAt, At, Decls, Def, End, Expr, Exprs, IsAt, IsBelow, IsEntry, IsKeyed, Key, More, Of, Prim, TypeDef, TypeDefKind, Use, Whole, at_take, at_within, kind_of, name_exprs, slice_get, slice_get_within}
use Rattle.wit_types.specs.declared.types.«Type».{«Type» as Ty}
use Rattle.wit_arena.proofs.Parts.{HasPart}
use Rattle.wit_arena.proofs.OneKind.{primitive_below, all_at_untaken, all_at_injective}

module _ (decls : Decls) (ks : List Key) (es : List TypeDef) (m : IsKeyed decls ks es) where
  -- the key of an entry, and the entry of a key
  pub key_of : (i : ℕ) (e : TypeDef) → slice_get es i ≡ Some e → (k : Key) × (slice_get ks i ≡ Some k)
  key_of i e at = let lt = slice_get_within es i e at in let count = m.count in at_within ks i (omega arith)

  pub entry_of_key : (i : ℕ) (k : Key) → slice_get ks i ≡ Some k → (e : TypeDef) × (slice_get es i ≡ Some e)
  entry_of_key i k at = let lt = slice_get_within ks i k at in let count = m.count in at_within es i (omega arith)

  below_one : (n : ℕ) (x : Expr) (t : Ty) → IsAt (take n ks) x t → IsBelow n t
  below_one n (Prim p) t h = subst (IsBelow n) (sym h) (primitive_below n p)
  below_one n (Use s name) t h = rw h.1 ((at_take ks n h.0 (Def s name) h.2).1)
  below_one n (Of form parts) t h = rw h.1 ((at_take ks n h.0 (Whole form parts) h.2).1)

  below_all : (n : ℕ) (xs : Exprs) (ts : List Ty) (part : Ty) → AreAt (take n ks) xs ts → HasPart ts part → IsBelow n part
  below_all n End [] part h has = absurd has
  below_all n (More x xs) (t ∷ ts) part h has = elim has [ inl here ↦ subst (IsBelow n) here (below_one n x t h.0) | inr rest ↦ below_all n xs ts part h.1 rest ]
  below_all n _ ts part h has = absurd h

  below_entry : (i : ℕ) (k : Key) (e : TypeDef) (part : Ty) → IsEntry decls (take i ks) k e → HasPart (kind_of e.kind).1 part → IsBelow i part
  below_entry i (Def s name) e part it has = below_all i (name_exprs s it.1) (kind_of e.kind).1 part it.8 has
  below_entry i (Whole form parts) e part it has = below_all i parts (kind_of e.kind).1 part it.3 has

  pub backward : (i : ℕ) (e : TypeDef) (part : Ty) → At es i e → HasPart (kind_of e.kind).1 part → IsBelow i part
  backward i e part at has = let k = key_of i e at.is in below_entry i k.0 e part (m.each i k.0 e k.1 at.is) has

  same_whole : (i j : ℕ) (k l : Key) (e f : TypeDef) → IsEntry decls (take i ks) k e → IsEntry decls (take j ks) l f → e.name ≡ None → f.name ≡ None → e.kind ≡ f.kind → k ≡ l
  same_whole i j (Def s name) l e f p q noe nof same = absurd (let named = p.4 in let f : ⊥ = cc in f)
  same_whole i j (Whole form parts) (Def s name) e f p q noe nof same = absurd (let named = q.4 in let f : ⊥ = cc in f)
  same_whole i j (Whole form parts) (Whole form' parts') e f p q noe nof same =
      let forms : form ≡ form' = sym p.2 ∙ ap (λ (k : TypeDefKind). (kind_of k).0) same ∙ q.2 in
      let there = subst (λ (k : TypeDefKind). AreAt ks parts (kind_of k).1) same (all_at_untaken i ks parts (kind_of e.kind).1 p.3) in
      let inner = all_at_injective ks parts parts' (kind_of f.kind).1 there (all_at_untaken j ks parts' (kind_of f.kind).1 q.3) in
      ap (λ f. Whole f parts) forms ∙ ap (Whole form') inner

  pub interned : (i j : ℕ) (e f : TypeDef) → At es i e → At es j f → e.name ≡ None → f.name ≡ None → e.kind ≡ f.kind → i ≡ j
  interned i j e f ati atj noe nof same =
      let k = key_of i e ati.is in
      let l = key_of j f atj.is in
      let keys = same_whole i j k.0 l.0 e f (m.each i k.0 e k.1 ati.is) (m.each j l.0 f l.1 atj.is) noe nof same in
      m.once.differ i j k.0 k.1 (l.1 ∙ ap Some (sym keys))
