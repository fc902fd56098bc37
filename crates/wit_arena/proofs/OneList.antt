-- Lists that agree at each place are one list.
use Rattle.std.proofs.Common.{◌≡◌, ℕ, List, [], ◌∷◌, ◌++◌, length, Some, refl, sym, ap, ◌∙◌, arith, append_assoc}
use Rattle.wit_arena.proofs.Names.{slice_get, take, take_seam}

-- what comes after a prefix is at its length
at_next : {X : Type 0} (prefix xs : List X) (x : X) → slice_get (prefix ++ x ∷ xs) (length prefix) ≡ Some x
at_next [] xs x = refl
at_next (y ∷ prefix) xs x = at_next prefix xs x

-- lists that agree at each place where all before it agrees, after a prefix that they share
same_after : {X : Type 0} (es fs prefix xs ys : List X) → es ≡ prefix ++ xs → fs ≡ prefix ++ ys → length xs ≡ length ys → ((k : ℕ) (x y : X) → take k es ≡ take k fs → slice_get es k ≡ Some x → slice_get fs k ≡ Some y → x ≡ y) → es ≡ fs
same_after es fs prefix [] [] a b count h = a ∙ sym b
same_after es fs prefix (x ∷ xs) (y ∷ ys) a b count h =
    let k = length prefix in
    let prefixes : take k es ≡ take k fs = ap (take k) a ∙ take_seam prefix (x ∷ xs) ∙ sym (ap (take k) b ∙ take_seam prefix (y ∷ ys)) in
    let here : x ≡ y = h k x y prefixes (ap (λ l. slice_get l k) a ∙ at_next prefix xs x) (ap (λ l. slice_get l k) b ∙ at_next prefix ys y) in
    same_after es fs (prefix ++ x ∷ []) xs ys (a ∙ sym (append_assoc prefix (x ∷ []) xs)) (b ∙ ap (λ z. prefix ++ z ∷ ys) (sym here) ∙ sym (append_assoc prefix (x ∷ []) ys)) (omega (arith, count)) h
same_after es fs prefix xs ys a b count h = absurd (let f : ⊥ = cc in f)

-- lists of one length are one where they agree at each place, or at each where all before it agrees
pub same_by_prefixes : {X : Type 0} (es fs : List X) → length es ≡ length fs → ((k : ℕ) (x y : X) → take k es ≡ take k fs → slice_get es k ≡ Some x → slice_get fs k ≡ Some y → x ≡ y) → es ≡ fs
same_by_prefixes es fs count h = same_after es fs [] es fs refl refl count h
