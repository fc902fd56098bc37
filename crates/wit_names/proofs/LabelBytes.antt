-- The bytes of a label: letters, digits and dashes, and so never a dot.
use Rattle.std.proofs.Common.{subst, ◌≡◌, ℕ, ◌<◌, ◌==◌, ◌&&◌, Bool, not, true, false, List, [], ◌∷◌, length, refl, arith}
use Rattle.std.specs.Char.{is_ascii_alphanumeric, to_ascii_lowercase}
use Rattle.std.specs.List.{list_all, onto_first}
use Rattle.std.proofs.lemmas.Bool.{and_from, and_parts, eqb-true}
use Rattle.std.proofs.lemmas.Bool.Decides.{nat_tests}
use Rattle.wit_names.specs.Label.{fragments, is_fragment, is_label, is_of_one_case, starts_with_letter}

-- a fragment has letters and digits alone
alphanumeric-fragment : (part : List ℕ) → is_fragment part ≡ true → list_all is_ascii_alphanumeric part ≡ true
alphanumeric-fragment part h =
    let whole = and_parts (not (length part == 0) && list_all is_ascii_alphanumeric part) (is_of_one_case part) h in
    (and_parts (not (length part == 0)) (list_all is_ascii_alphanumeric part) whole.0).1

-- so have all fragments of a list
alphanumeric-fragments : (parts : List (List ℕ)) → list_all is_fragment parts ≡ true → list_all (list_all is_ascii_alphanumeric) parts ≡ true
alphanumeric-fragments [] h = refl
alphanumeric-fragments (part ∷ parts) h =
    let as_stated = and_parts (is_fragment part) (list_all is_fragment parts) h in
    and_from _ _ (alphanumeric-fragment part as_stated.0) (alphanumeric-fragments parts as_stated.1)

-- where all bytes of the parts pass with one more at the prefix, that one passes, and so do the others
onto_first_parts : (test : ℕ → Bool) (b : ℕ) (parts : List (List ℕ)) → list_all (list_all test) (onto_first b parts) ≡ true → (test b ≡ true) × (list_all (list_all test) parts ≡ true)
onto_first_parts test b [] h = ((and_parts (test b) true (and_parts (test b && true) true h).0).0, refl)
onto_first_parts test b (part ∷ parts) h =
    let whole = and_parts (test b && list_all test part) (list_all (list_all test) parts) h in
    let first = and_parts (test b) (list_all test part) whole.0 in
    (first.0, and_from _ _ first.1 whole.1)

-- a test that letters, digits and the dash pass
pub record PassesNameBytes (test : ℕ → Bool) : Type 0 where
  pub alphanumeric : (b : ℕ) → is_ascii_alphanumeric b ≡ true → test b ≡ true
  pub dash : test 45 ≡ true

-- each byte of a text with such fragments passes it
list_all-fragments : (test : ℕ → Bool) → PassesNameBytes test → (t : List ℕ) → list_all (list_all is_ascii_alphanumeric) (fragments t) ≡ true → list_all test t ≡ true
list_all-fragments test p [] h = refl
list_all-fragments test p (b ∷ t) h = by (b == 45) refl (list_all-fragments test p t) where
  by : (v : Bool) → (b == 45) ≡ v → (list_all (list_all is_ascii_alphanumeric) (fragments t) ≡ true → list_all test t ≡ true) → list_all test (b ∷ t) ≡ true
  by true e rest =
      let dash : b ≡ 45 = eqb-true _ _ e in
      let here : test b ≡ true = rw dash p.dash in
      and_from _ _ here (rest (rw e at h))
  by false e rest =
      let as_stated = onto_first_parts is_ascii_alphanumeric b (fragments t) (rw e at h) in
      and_from _ _ (p.alphanumeric b as_stated.0) (rest as_stated.1)

-- each byte of a label passes it
pub list_all-label : (test : ℕ → Bool) → PassesNameBytes test → (t : List ℕ) → is_label t ≡ true → list_all test t ≡ true
list_all-label test p t h =
    let as_stated = and_parts (starts_with_letter t) (list_all is_fragment (fragments t)) h in
    list_all-fragments test p t (alphanumeric-fragments (fragments t) as_stated.1)

-- a byte that lower case turns into one before `a` is that one
pub lowercase_other : (b c : ℕ) → c < 97 → to_ascii_lowercase b ≡ c → b ≡ c
lowercase_other b c low e = grind (arith, nat_tests)

-- no byte of a label is a dot, and none is in lower case
pub no_dot-label : (t : List ℕ) → is_label t ≡ true → list_all (λ b. not (b == 46)) t ≡ true
no_dot-label = list_all-label (λ b. not (b == 46)) (record { alphanumeric = other; dash = refl }) where
  other : (b : ℕ) → is_ascii_alphanumeric b ≡ true → not (b == 46) ≡ true
  other b h = by (b == 46) refl where
    by : (v : Bool) → (b == 46) ≡ v → not v ≡ true
    by false e = refl
    by true e =
        let as_stated : false ≡ true = subst (λ (k : ℕ). is_ascii_alphanumeric k ≡ true) (eqb-true _ _ e) h in
        cc

pub no_dot-lower_label : (t : List ℕ) → is_label t ≡ true → list_all (λ b. not (to_ascii_lowercase b == 46)) t ≡ true
no_dot-lower_label = list_all-label (λ b. not (to_ascii_lowercase b == 46)) (record { alphanumeric = other; dash = refl }) where
  other : (b : ℕ) → is_ascii_alphanumeric b ≡ true → not (to_ascii_lowercase b == 46) ≡ true
  other b h = by (to_ascii_lowercase b == 46) refl where
    by : (v : Bool) → (to_ascii_lowercase b == 46) ≡ v → not v ≡ true
    by false e = refl
    by true e =
        let dot : b ≡ 46 = lowercase_other b 46 (omega arith) (eqb-true _ _ e) in
        let as_stated : false ≡ true = subst (λ (k : ℕ). is_ascii_alphanumeric k ≡ true) dot h in
        cc
