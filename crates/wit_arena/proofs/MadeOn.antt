-- Functions of a package that are on a side.
use Rattle.std.proofs.Common.{◌≡◌, ℕ, zero, suc, Bool, true, false, List, [], ◌∷◌, Some, inl, inr, refl, sym, ap, ◌∙◌}
use Rattle.wit_arena.proofs.Names.{Function, SourceFunction, WorldSide, after_one, cases_Bool, cond-false, cond-true, if◌then◌else◌, role_side, same_side, same_side-equal, side_itself, slice_get}

-- those functions of a package that are on a side, where these are the written ones
abbrev pub made_on : WorldSide → List SourceFunction → List Function → List Function
made_on side [] fs = []
made_on side (fn ∷ fns) [] = []
made_on side (fn ∷ fns) (f ∷ fs) = if same_side side (role_side fn.role) then f ∷ made_on side fns fs else made_on side fns fs

-- whether a written function is on a side
abbrev pub members_on : WorldSide → SourceFunction → Bool
members_on side fn = same_side side (role_side fn.role)

pub present_there : (side : WorldSide) (fn : SourceFunction) → role_side fn.role ≡ side → members_on side fn ≡ true
present_there side fn is = ap (same_side side) is ∙ side_itself side

-- one function more, that is there or not
pub made_on-here : (side : WorldSide) (fn : SourceFunction) (fns : List SourceFunction) (f : Function) (fs : List Function) → members_on side fn ≡ true → made_on side (fn ∷ fns) (f ∷ fs) ≡ f ∷ made_on side fns fs
made_on-here side fn fns f fs hit = cond-true (members_on side fn) (f ∷ made_on side fns fs) (made_on side fns fs) hit

pub made_on-past : (side : WorldSide) (fn : SourceFunction) (fns : List SourceFunction) (f : Function) (fs : List Function) → members_on side fn ≡ false → made_on side (fn ∷ fns) (f ∷ fs) ≡ made_on side fns fs
made_on-past side fn fns f fs miss = cond-false (members_on side fn) (f ∷ made_on side fns fs) (made_on side fns fs) miss

-- a function is on its side
pub made_on_has : (side : WorldSide) (fns : List SourceFunction) (fs : List Function) (k : ℕ) (fn : SourceFunction) (f : Function) → slice_get fns k ≡ Some fn → slice_get fs k ≡ Some f → role_side fn.role ≡ side → (j : ℕ) × (slice_get (made_on side fns fs) j ≡ Some f)
made_on_has side [] fs k fn f at there is = absurd (let wrong : ⊥ = cc in wrong)
made_on_has side (x ∷ fns) [] k fn f at there is = absurd (let wrong : ⊥ = cc in wrong)
made_on_has side (x ∷ fns) (g ∷ fs) zero fn f at there is =
    let same : x ≡ fn = cc in
    let hit : members_on side x ≡ true = ap (members_on side) same ∙ present_there side fn is in
    (0, ap (λ l. slice_get l 0) (made_on-here side x fns g fs hit) ∙ there)
made_on_has side (x ∷ fns) (g ∷ fs) (suc k) fn f at there is =
    let it = made_on_has side fns fs k fn f at there is in
    elim (cases_Bool (members_on side x)) [
      | inl hit ↦ (suc it.0, ap (λ l. slice_get l (suc it.0)) (made_on-here side x fns g fs hit) ∙ it.1)
      | inr miss ↦ (it.0, ap (λ l. slice_get l it.0) (made_on-past side x fns g fs miss) ∙ it.1)
    ]

-- what is on a side is made of a written one that does
pub made_on_pair : (side : WorldSide) (fns : List SourceFunction) (fs : List Function) (k : ℕ) (f : Function) → slice_get (made_on side fns fs) k ≡ Some f → (j : ℕ) × (fn : SourceFunction) × (slice_get fns j ≡ Some fn) × (slice_get fs j ≡ Some f) × (role_side fn.role ≡ side)
made_on_pair side [] fs k f at = absurd (let wrong : ⊥ = cc in wrong)
made_on_pair side (x ∷ fns) [] k f at = absurd (let wrong : ⊥ = cc in wrong)
made_on_pair side (x ∷ fns) (g ∷ fs) k f at = elim (cases_Bool (members_on side x)) [
  | inl hit ↦ elim (after_one g (made_on side fns fs) k f (sym (ap (λ l. slice_get l k) (made_on-here side x fns g fs hit)) ∙ at)) [
    | inl here ↦ (0, x, refl, ap Some here, sym (same_side-equal side (role_side x.role) hit))
    | inr rest ↦ (let it = made_on_pair side fns fs rest.0 f rest.1 in (suc it.0, it.1, it.2, it.3, it.4))
  ]
  | inr miss ↦ (let it = made_on_pair side fns fs k f (sym (ap (λ l. slice_get l k) (made_on-past side x fns g fs miss)) ∙ at) in (suc it.0, it.1, it.2, it.3, it.4))
]
