-- The types of parts, by their places.
use Rattle.std.proofs.Common.{◌≡◌, ℕ, zero, suc, [], ◌∷◌, List, Some, All, subst, ◌⊎◌, inl, inr, refl}
use Rattle.wit_arena.proofs.Names.{Address, All-cons, All-nil, AreAt, IsAt, Key, Place, Shapes, expr_of, exprs_of, slice_get}
use Rattle.wit_syntax.proofs.Common.{More, placed}
use Rattle.wit_syntax.specs.Shape.{End}
use Rattle.wit_types.specs.declared.types.«Type».{«Type» as Ty}
use Rattle.wit_arena.proofs.OneKind.{same_some}

-- a type is one of these
abbrev pub HasPart : List Ty → Ty → Type 0
HasPart [] part = ⊥
HasPart (t ∷ ts) part = (t ≡ part) ⊎ HasPart ts part

-- what holds of each that is one of these holds of all of them
pub all_parts : (P : Ty → Type 0) (ts : List Ty) → ((part : Ty) → HasPart ts part → P part) → All P ts
all_parts P [] h = All-nil P
all_parts P (t ∷ ts) h = All-cons P t ts (h t (inl refl)) (all_parts P ts (λ part has. h part (inr has)))

-- a part and its type
pub part_type : (ks : List Key) (s : Address) (xs : Shapes) (ts : List Ty) (j : ℕ) (x : Place) (t : Ty) → AreAt ks (exprs_of s xs) ts → slice_get (placed s xs) j ≡ Some x → slice_get ts j ≡ Some t → IsAt ks (expr_of x.0 x.1) t
part_type ks s End ts j x t h place at = absurd (let f : ⊥ = cc in f)
part_type ks s (More y ys) [] j x t h place at = absurd h
part_type ks s (More y ys) (u ∷ us) zero x t h place at = subst (λ (z : Place). IsAt ks (expr_of z.0 z.1) t) (same_some place) (subst (IsAt ks (expr_of s y)) (same_some at) h.0)
part_type ks s (More y ys) (u ∷ us) (suc j) x t h place at = part_type ks s ys us j x t h.1 place at
