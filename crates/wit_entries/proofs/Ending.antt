-- In how many steps it is found where an entry ends.
use Rattle.std.proofs.Common.{◌≡◌, ℕ, zero, suc, ◌≤◌, List, [], ◌∷◌, Option, Some, None, refl, sym, ap, ◌∙◌, arith}
use Rattle.wit_arena.proofs.Common.{AliasForm, EntryEnd, Form, TypeDef, at_take, entry_end, found_end, kind_end, kind_of, part_end, slice_get, take}
use Rattle.wit_types.specs.declared.types.«Type».{«Type» as Ty}
use Rattle.wit_types.specs.declared.types.«Type».TheVariants as type
use Rattle.wit_entries.specs.EntryFaults.{end_in}

-- what one way to say ends finds, another one finds that says all that the first does
part_found : (f g : ℕ → Option EntryEnd) (parts : List Ty) (e : EntryEnd) → ((j : ℕ) → f j ≡ Some e → g j ≡ Some e) → part_end f parts ≡ Some e → part_end g parts ≡ Some e
part_found f g [] e by h = h
part_found f g (type.Id j ∷ parts) e by h = by j h
part_found f g (_ ∷ parts) e by h = h

kind_found : (f g : ℕ → Option EntryEnd) (i : ℕ) (form : Form) (parts : List Ty) (e : EntryEnd) → ((j : ℕ) → f j ≡ Some e → g j ≡ Some e) → kind_end f i form parts ≡ Some e → kind_end g i form parts ≡ Some e
kind_found f g i AliasForm parts e by h = part_found f g parts e by h
kind_found f g i _ parts e by h = h

end_found : (f g : ℕ → Option EntryEnd) (i : ℕ) (o : Option TypeDef) (e : EntryEnd) → ((j : ℕ) → f j ≡ Some e → g j ≡ Some e) → found_end f i o ≡ Some e → found_end g i o ≡ Some e
end_found f g i None e by h = h
end_found f g i (Some x) e by h = kind_found f g i (kind_of x.kind).0 (kind_of x.kind).1 e by h

-- an end that is found in some steps is found in more
more_steps : (n m : ℕ) (es : List TypeDef) (i : ℕ) (e : EntryEnd) → n ≤ m → entry_end n es i ≡ Some e → entry_end m es i ≡ Some e
more_steps zero m es i e le h = absurd (let f : ⊥ = cc in f)
more_steps (suc n) zero es i e le h = absurd (let f : ⊥ = omega arith in f)
more_steps (suc n) (suc m) es i e le h = end_found (entry_end n (take i es)) (entry_end m (take i es)) i (slice_get es i) e (λ j there. more_steps n m (take i es) j e (omega arith) there) h

-- of those that come before an entry, each is found in as many steps as places are before it, and one more
found_before : (es : List TypeDef) (i j : ℕ) (e : EntryEnd) (o : Option TypeDef) → slice_get (take i es) j ≡ o → end_in (take i es) j ≡ Some e → entry_end (suc i) (take i es) j ≡ Some e
found_before es i j e None none h =
    let some : found_end (entry_end i (take j (take i es))) j (slice_get (take i es) j) ≡ found_end (entry_end i (take j (take i es))) j None = ap (found_end (entry_end i (take j (take i es))) j) none in
    let other : found_end (entry_end (suc j) (take j (take i es))) j (slice_get (take i es) j) ≡ found_end (entry_end (suc j) (take j (take i es))) j None = ap (found_end (entry_end (suc j) (take j (take i es))) j) none in
    some ∙ sym other ∙ h
found_before es i j e (Some x) at h =
    let lt = (at_take es i j x at).1 in
    more_steps (suc (suc j)) (suc i) (take i es) j e (omega arith) h

-- the end of an entry that is found at all is found in two steps more than places are before it
pub found_in : (n : ℕ) (es : List TypeDef) (i : ℕ) (e : EntryEnd) → entry_end n es i ≡ Some e → end_in es i ≡ Some e
found_in zero es i e h = absurd (let f : ⊥ = cc in f)
found_in (suc n) es i e h = end_found (entry_end n (take i es)) (entry_end (suc i) (take i es)) i (slice_get es i) e (λ j there. found_before es i j e (slice_get (take i es) j) refl (found_in n (take i es) j e there)) h
