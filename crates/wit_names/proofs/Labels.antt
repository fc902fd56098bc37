-- What a label is, seen as a mangled name: it is one, and its folded key is the label in lower case.
use Rattle.std.proofs.Common.{subst, if◌then◌else◌, ◌≡◌, ℕ, ◌==◌, Bool, not, true, false, List, [], ◌∷◌, length, refl, ap, sym, ◌∙◌, arith}
use Rattle.std.specs.Char.{is_ascii_alphabetic, to_ascii_lowercase}
use Rattle.std.specs.Cmp.Lexicographic.{pointwise}
use Rattle.std.specs.List.{list_all, prefix_len}
use Rattle.std.specs.Prelude.{Option, None, codes, is_some, nat_eq, unwrap_or}
use Rattle.std.proofs.lemmas.Bool.{and_parts, ne_eqb}
use Rattle.std.proofs.lemmas.List.Folds.{list_all-map}
use Rattle.std.proofs.Math.Seq.{take-length}
use Rattle.wit_names.proofs.LabelBytes.{lowercase_other, no_dot-lower_label}
use Rattle.wit_names.specs.Label.{fragments, is_fragment, is_label, starts_with_letter}
use Rattle.wit_names.specs.Mangled.{is_mangled, member_of, owner_of}
use Rattle.wit_names.specs.Folded.{folded_key, lower_case, single, single_if_bare}
use Rattle.wit_names.specs.Prefix.{rest_after}

-- a label is a mangled name
pub is_mangled-label : (t : List ℕ) → is_label t ≡ true → is_mangled t ≡ true
is_mangled-label t h = rw h refl

-- a text without the byte has all of itself before the first such byte
pub prefix_len_all : (p : ℕ → Bool) (xs : List ℕ) → list_all p xs ≡ true → prefix_len p xs ≡ length xs
prefix_len_all p [] h = refl
prefix_len_all p (x ∷ xs) h =
    let as_stated = and_parts (p x) (list_all p xs) h in
    rw (as_stated.0, prefix_len_all p xs as_stated.1) (omega arith)

-- a text with no dot is its own owner
single-no_dot : (u : List ℕ) → list_all (λ b. not (b == 46)) u ≡ true → single u ≡ u
single-no_dot u h =
    let prefix : owner_of u ≡ u = rw (prefix_len_all (λ b. not (b == 46)) u h) (take-length u) in
    by (pointwise nat_eq (owner_of u) (member_of u)) prefix where
      by : (v : Bool) → owner_of u ≡ u → (if v then owner_of u else u) ≡ u
      by true e = e
      by false e = refl

-- a text without a prefix keeps all of itself
without_kind-none : (u : List ℕ) (method static : Option (List ℕ)) → method ≡ None → static ≡ None → unwrap_or method (unwrap_or static u) ≡ u
without_kind-none u method static e f = rw (e, f) refl

single_if_bare-none : (u : List ℕ) (bracket : Option (List ℕ)) → bracket ≡ None → single u ≡ u → (if is_some bracket then u else single u) ≡ u
single_if_bare-none u bracket e same = rw e same

-- a letter in lower case opens no bracket
no_bracket : (b : ℕ) → is_ascii_alphabetic b ≡ true → (91 == to_ascii_lowercase b) ≡ false
no_bracket b h = ne_eqb 91 (to_ascii_lowercase b) (λ e.
    let bracket : b ≡ 91 = lowercase_other b 91 (omega arith) (sym e) in
    let as_stated : false ≡ true = subst (λ (k : ℕ). is_ascii_alphabetic k ≡ true) bracket h in
    cc)

-- the folded key of a label is the label in lower case
pub folded_key-label : (t : List ℕ) → is_label t ≡ true → folded_key t ≡ lower_case t
folded_key-label [] h = refl
folded_key-label (b ∷ t) h =
    let u : List ℕ = lower_case (b ∷ t) in
    let as_stated = and_parts (starts_with_letter (b ∷ t)) (list_all is_fragment (fragments (b ∷ t))) h in
    let bare : (91 == to_ascii_lowercase b) ≡ false = no_bracket b as_stated.0 in
    let method : rest_after (codes "[method]") u ≡ None = rw bare refl in
    let static : rest_after (codes "[static]") u ≡ None = rw bare refl in
    let bracket : rest_after (codes "[") u ≡ None = rw bare refl in
    let alone : single u ≡ u = single-no_dot u (list_all-map (λ b. not (b == 46)) to_ascii_lowercase (b ∷ t) ∙ no_dot-lower_label (b ∷ t) h) in
    ap single_if_bare (without_kind-none u _ _ method static) ∙ single_if_bare-none u _ bracket alone
