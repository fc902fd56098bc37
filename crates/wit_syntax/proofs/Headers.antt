-- The last header of files.
use Rattle.std.specs.Prelude.{slice_get}
use Rattle.std.proofs.Common.{◌≡◌, ℕ, zero, suc, ◌⊎◌, inl, inr, Bool, true, false, IsTrue, List, [], ◌∷◌, ◌++◌, Option, Some, None, refl, sym, ap, ◌∙◌}
use Rattle.wit_values.specs.declared.span.Span.{Span}
use Rattle.wit_tree.specs.declared.tree.PackageName.{PackageName as Header}
use Rattle.wit_tree.specs.declared.tree.PackageFile.{PackageFile}
use Rattle.std.specs.Option.{option_or}
use Rattle.wit_syntax.specs.Broken.{last_header}

option_or-assoc : (a b c : Option Header) → option_or (option_or a b) c ≡ option_or a (option_or b c)
option_or-assoc None b c = refl
option_or-assoc (Some h) b c = refl

pub option_or-none : (a : Option Header) → option_or a None ≡ a
option_or-none None = refl
option_or-none (Some h) = refl

header_cases : (o : Option Header) → (o ≡ None) ⊎ ((h : Header) × (o ≡ Some h))
header_cases None = inl refl
header_cases (Some h) = inr (h, refl)

-- one file more
pub last_header-append : (fs : List PackageFile) (f : PackageFile) → last_header (fs ++ f ∷ []) ≡ option_or f.package_id (last_header fs)
last_header-append [] f = sym (option_or-none f.package_id)
last_header-append (g ∷ fs) f = ap (λ h. option_or h g.package_id) (last_header-append fs f) ∙ option_or-assoc f.package_id (last_header fs) g.package_id

pub not_both : (b : Bool) → IsTrue b → b ≡ false → ⊥
not_both true h k = let f : ⊥ = cc in f
not_both false h k = let f : ⊥ = cc in f

-- where no header is the last one, no file has one
pub no_header : (fs : List PackageFile) → last_header fs ≡ None → (i : ℕ) (f : PackageFile) → slice_get fs i ≡ Some f → f.package_id ≡ None
no_header [] e i f at = absurd (let wrong : ⊥ = cc in wrong)
no_header (g ∷ fs) e i f at = elim (header_cases (last_header fs)) [
  | inl none ↦ first g fs (sym (ap (λ o. option_or o g.package_id) none) ∙ e) (λ j h. no_header fs none j f h) i at
  | inr some ↦ absurd (let wrong : Some some.0 ≡ None = sym (ap (λ o. option_or o g.package_id) some.1) ∙ e in let x : ⊥ = cc in x)
]
  where
    first : (g : PackageFile) (fs : List PackageFile) → g.package_id ≡ None → ((j : ℕ) → slice_get fs j ≡ Some f → f.package_id ≡ None) → (i : ℕ) → slice_get (g ∷ fs) i ≡ Some f → f.package_id ≡ None
    first g fs own rest zero at = (let same : g ≡ f = cc in ap (λ (x : PackageFile). x.package_id) (sym same) ∙ own)
    first g fs own rest (suc i) at = rest i at

abbrev ends : ℕ → ℕ → Span
ends m n = record { start = m; end = n }

pub span_of_ends : (s : Span) (a b : ℕ) → s.start ≡ a → s.end ≡ b → s ≡ record { start = a; end = b }
span_of_ends s a b start end = ap (λ (n : ℕ). ends n s.end) start ∙ ap (λ (n : ℕ). ends a n) end
