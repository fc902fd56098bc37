-- The place of the last file that has a header, one file more.
use Rattle.std.proofs.Common.{◌≡◌, ℕ, true, false, List, [], ◌∷◌, ◌++◌, length, Option, Some, None, inl, inr, refl, sym, ap, ◌∙◌}
use Rattle.wit_items.proofs.Common.{PackageFile, at_either, at_prefix, at_seam, is_some, last_header, last_header-append, option_and_then, option_cases, option_or, slice_get}
use Rattle.wit_tree.specs.declared.tree.PackageName.{PackageName as Header}
use Rattle.wit_items.specs.ItemPaths.{header_at}

abbrev of_file : Option PackageFile → Option Header
of_file o = option_and_then (λ (f : PackageFile). f.package_id) o

pub some_is : (o : Option Header) → is_some o ≡ true → (h : Header) × (o ≡ Some h)
some_is None h = absurd (let f : ⊥ = cc in f)
some_is (Some x) h = (x, refl)

pub none_is : (o : Option Header) → is_some o ≡ false → o ≡ None
none_is None h = refl
none_is (Some x) h = absurd (let f : ⊥ = cc in f)

-- it has one: it is the last
pub header_more : (fs : List PackageFile) (f : PackageFile) (h : Header) → f.package_id ≡ Some h → header_at (fs ++ f ∷ []) (length fs) ≡ last_header (fs ++ f ∷ [])
header_more fs f h own = ap of_file (at_seam fs f) ∙ own ∙ sym (last_header-append fs f ∙ ap (λ o. option_or o (last_header fs)) own)

-- it has none: the last stays
pub header_kept : (fs : List PackageFile) (f : PackageFile) (last : ℕ) → f.package_id ≡ None → header_at fs last ≡ last_header fs → header_at (fs ++ f ∷ []) last ≡ last_header (fs ++ f ∷ [])
header_kept fs f last own is =
    let goal : last_header (fs ++ f ∷ []) ≡ last_header fs = last_header-append fs f ∙ ap (λ o. option_or o (last_header fs)) own in
    option_cases (slice_get fs last) (header_at (fs ++ f ∷ []) last ≡ last_header (fs ++ f ∷ []))
    (λ g at. ap of_file (at_prefix fs (f ∷ []) last g at) ∙ sym (ap of_file at) ∙ is ∙ sym goal)
    (λ none. option_cases (slice_get (fs ++ f ∷ []) last) (header_at (fs ++ f ∷ []) last ≡ last_header (fs ++ f ∷ []))
    (λ g at. elim (at_either fs f last g at) [
      | inl old ↦ cc (sym none ∙ old)
      | inr new ↦ ap of_file at ∙ ap (λ (x : PackageFile). x.package_id) new.1 ∙ own ∙ sym (ap of_file none) ∙ is ∙ sym goal
    ])
    (λ free. ap of_file free ∙ sym (ap of_file none) ∙ is ∙ sym goal))
