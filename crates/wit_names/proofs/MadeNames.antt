-- Names made of labels: each is a mangled name, and a setter's getter is the name made likewise.
use Rattle.std.proofs.Common.{◌≡◌, ℕ, ◌==◌, ◌++◌, ◌||◌, Bool, not, true, false, List, [], ◌∷◌, length, refl, arith}
use Rattle.std.specs.Prelude.{codes}
use Rattle.std.specs.List.{list_all, prefix_len}
use Rattle.std.proofs.lemmas.Bool.{and_from, and_parts}
use Rattle.std.proofs.Math.Seq.{take-append_seam, drop-append-add}
use Rattle.wit_names.proofs.LabelBytes.{no_dot-label}
use Rattle.wit_names.specs.Label.{is_label}
use Rattle.wit_names.specs.Mangled.{is_dotted, is_mangled, member_of, owner_of}
use Rattle.wit_names.specs.Setter.{is_setter}

-- `r.f` of two labels
prefix_len-dot : (r f : List ℕ) → list_all (λ b. not (b == 46)) r ≡ true → prefix_len (λ b. not (b == 46)) (r ++ (46 ∷ f)) ≡ length r
prefix_len-dot [] f h = refl
prefix_len-dot (b ∷ r) f h =
    let as_stated = and_parts (not (b == 46)) (list_all (λ b. not (b == 46)) r) h in
    rw (as_stated.0, prefix_len-dot r f as_stated.1) (omega arith)

owner_of-dotted : (r f : List ℕ) → is_label r ≡ true → owner_of (r ++ (46 ∷ f)) ≡ r
owner_of-dotted r f h = rw (prefix_len-dot r f (no_dot-label r h)) (take-append_seam r (46 ∷ f))

member_of-dotted : (r f : List ℕ) → is_label r ≡ true → member_of (r ++ (46 ∷ f)) ≡ f
member_of-dotted r f h = rw (prefix_len-dot r f (no_dot-label r h)) (drop-append-add r (46 ∷ f) 1)

pub is_dotted-labels : (r f : List ℕ) → is_label r ≡ true → is_label f ≡ true → is_dotted (r ++ (46 ∷ f)) ≡ true
is_dotted-labels r f hr hf = rw (owner_of-dotted r f hr, member_of-dotted r f hr) (and_from _ _ hr hf)

-- a second test that passes, whatever the first says
or_true : (b : Bool) → (b || true) ≡ true
or_true true = refl
or_true false = refl

or_false_true : (b : Bool) → (b || false || true) ≡ true
or_false_true true = refl
or_false_true false = refl

-- mangled names
pub is_mangled-get : (f : List ℕ) → is_label f ≡ true → is_mangled (codes "[get]" ++ f) ≡ true
is_mangled-get f h = rw h refl

pub is_mangled-set : (f : List ℕ) → is_label f ≡ true → is_mangled (codes "[set]" ++ f) ≡ true
is_mangled-set f h = rw h refl

pub is_mangled-constructor : (r : List ℕ) → is_label r ≡ true → is_mangled (codes "[constructor]" ++ r) ≡ true
is_mangled-constructor r h = rw h refl

pub is_mangled-method : (text : List ℕ) → is_dotted text ≡ true → is_mangled (codes "[method]" ++ text) ≡ true
is_mangled-method text h = rw h refl

pub is_mangled-method_get : (text : List ℕ) → is_dotted text ≡ true → is_mangled (codes "[method][get]" ++ text) ≡ true
is_mangled-method_get text h = rw (h, or_true (is_dotted (codes "[get]" ++ text))) refl

pub is_mangled-method_set : (text : List ℕ) → is_dotted text ≡ true → is_mangled (codes "[method][set]" ++ text) ≡ true
is_mangled-method_set text h = rw (h, or_false_true (is_dotted (codes "[set]" ++ text))) refl

pub is_mangled-static : (text : List ℕ) → is_dotted text ≡ true → is_mangled (codes "[static]" ++ text) ≡ true
is_mangled-static text h = rw h refl

pub is_mangled-static_get : (text : List ℕ) → is_dotted text ≡ true → is_mangled (codes "[static][get]" ++ text) ≡ true
is_mangled-static_get text h = rw (h, or_true (is_dotted (codes "[get]" ++ text))) refl

pub is_mangled-static_set : (text : List ℕ) → is_dotted text ≡ true → is_mangled (codes "[static][set]" ++ text) ≡ true
is_mangled-static_set text h = rw (h, or_false_true (is_dotted (codes "[set]" ++ text))) refl

-- setters
pub is_setter-set : (f : List ℕ) → is_label f ≡ true → is_setter (codes "[set]" ++ f) ≡ true
is_setter-set f h = rw h refl

pub is_setter-method : (text : List ℕ) → is_dotted text ≡ true → is_setter (codes "[method][set]" ++ text) ≡ true
is_setter-method text h = rw h refl

pub is_setter-static : (text : List ℕ) → is_dotted text ≡ true → is_setter (codes "[static][set]" ++ text) ≡ true
is_setter-static text h = rw h refl
