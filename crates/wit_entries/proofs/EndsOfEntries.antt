-- Arenas beside which it is stated where each entry ends, and one entry more.
use Rattle.std.proofs.Common.{◌≡◌, ℕ, suc, List, [], ◌∷◌, ◌++◌, length, take, Option, Some, None, inl, inr, refl, sym, ap, ◌∙◌, subst, length-append, arith}
use Rattle.wit_arena.proofs.Common.{EntryEnd, IsOther, TypeDef, TypeDefKind, at_either, at_seam, at_within, entry_end, entry_end-same, found_end, kind_end, kind_of, slice_get, slice_get_within, take-append_seam}
use Rattle.wit_types.specs.declared.types.«Type».TheVariants as type
use Rattle.wit_types.specs.declared.types.TypeDefKind.TheVariants as kind
use Rattle.wit_types.specs.declared.types.Handle.TheVariants as handle
use Rattle.wit_entries.specs.declared.ends.End.{End}
use Rattle.wit_entries.specs.EntryFaults.{end_in, end_means, EndsNext, AreAsStated}
use Rattle.wit_entries.proofs.Ending.{found_in}

-- where the last entry ends
last_end : (n : ℕ) (es : List TypeDef) (e : TypeDef) → entry_end (suc n) (es ++ e ∷ []) (length es) ≡ kind_end (entry_end n es) (length es) (kind_of e.kind).0 (kind_of e.kind).1
last_end n es e = ap (λ (l : List TypeDef). found_end (entry_end n l) (length es) (slice_get (es ++ e ∷ []) (length es))) (take-append_seam es (e ∷ [])) ∙ ap (found_end (entry_end n es) (length es)) (at_seam es e)

abbrev pub ends_by : ℕ → List TypeDef → TypeDefKind → Option EntryEnd
ends_by n es k = kind_end (entry_end n es) (length es) (kind_of k).0 (kind_of k).1

ends_kind : (es : List TypeDef) (k : TypeDefKind) (x : End) → EndsNext es k x → (n : ℕ) × (ends_by n es k ≡ Some (end_means x))
ends_kind es kind.Resource x h = (1, ap (λ (y : End). Some (end_means y)) (sym h))
ends_kind es kind.Unknown x h = (1, ap (λ (y : End). Some (end_means y)) (sym h))
ends_kind es (kind.Handle (handle.Own r)) x h = (1, ap (λ (y : End). Some (end_means y)) (sym h))
ends_kind es (kind.Handle (handle.Borrow r)) x h = (1, ap (λ (y : End). Some (end_means y)) (sym h))
ends_kind es (kind.Type_ (type.Id i)) x h = (suc (suc i), h)
ends_kind es (kind.Type_ t) x h = (1, ap (λ (y : End). Some (end_means y)) (sym h))
ends_kind es k x h = (1, ap (λ (y : End). Some (end_means y)) (sym h))

pub ends_last : (es : List TypeDef) (e : TypeDef) (x : End) → EndsNext es e.kind x → end_in (es ++ e ∷ []) (length es) ≡ Some (end_means x)
ends_last es e x h =
    let it = ends_kind es e.kind x h in
    found_in (suc it.0) (es ++ e ∷ []) (length es) (end_means x) (last_end it.0 es e ∙ it.1)

-- one entry more
pub stated_more : (ends : List End) (es : List TypeDef) (e : TypeDef) (x : End) → AreAsStated ends es → end_in (es ++ e ∷ []) (length es) ≡ Some (end_means x) → AreAsStated (ends ++ x ∷ []) (es ++ e ∷ [])
stated_more ends es e x as_stated last = record {
  count = (let a = length-append ends (x ∷ []) in let b = length-append es (e ∷ []) in let c = as_stated.count in omega arith);
  each = λ i y at. elim (at_either ends x i y at) [
    | inl there ↦ (
        let lt = slice_get_within ends i y there in
        let count = as_stated.count in
        entry_end-same (suc (suc i)) es (e ∷ []) i (omega arith) ∙ as_stated.each i y there)
    | inr here ↦ (
        let place : length es ≡ i = sym (here.0 ∙ as_stated.count) in
        subst (λ (j : ℕ). end_in (es ++ e ∷ []) j ≡ Some (end_means y)) place (subst (λ (z : End). end_in (es ++ e ∷ []) (length es) ≡ Some (end_means z)) (sym here.1) last))
  ];
}

-- nothing is at a place past the last one
pub past_other : (ends : List End) (es : List TypeDef) (i : ℕ) → AreAsStated ends es → slice_get ends i ≡ None → end_in es i ≡ Some IsOther
past_other ends es i as_stated none = by (slice_get es i) refl
  where
    by : (o : Option TypeDef) → slice_get es i ≡ o → end_in es i ≡ Some IsOther
    by None is = ap (found_end (entry_end (suc i) (take i es)) i) is
    by (Some x) is = absurd (
        let lt = slice_get_within es i x is in
        let count = as_stated.count in
        let there = at_within ends i (omega arith) in
        let wrong : None ≡ Some there.0 = sym none ∙ there.1 in
        let f : ⊥ = cc in
        f)
