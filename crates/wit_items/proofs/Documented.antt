-- Headers that have docs, one header more, and the first of them.
use Rattle.std.proofs.Common.{◌≡◌, Bool, true, false, not, ℕ, zero, suc, ◌+◌, List, [], ◌∷◌, ◌++◌, length, Option, Some, None, Bor, inl, inr, refl, sym, ap, ◌∙◌, arith}
use Rattle.wit_arena.proofs.Common.{Fault, IsDocumented, IsSecondDocs, PackageFile, at_contains, cases_Bool, cons_option, contains_at, fault, headers, if◌then◌else◌, ne_eqb, option_to_list, slice_get, ◌&&◌, ◌==◌, ◌||◌}
use Rattle.wit_tree.specs.declared.tree.PackageName.{PackageName as Header}
use Rattle.wit_first.specs.HeaderFaults.{is_documented, have_docs, second_docs_fault}
use Rattle.wit_first.specs.Laws.{Agrees}

cons_option-append : (o : Option Header) (xs ys : List Header) → cons_option o (xs ++ ys) ≡ cons_option o xs ++ ys
cons_option-append None xs ys = refl
cons_option-append (Some h) xs ys = refl

cons_option-one : (o : Option Header) → cons_option o [] ≡ option_to_list o
cons_option-one None = refl
cons_option-one (Some h) = refl

-- the headers of files, one file more
pub headers-append : (fs : List PackageFile) (f : PackageFile) → headers (fs ++ f ∷ []) ≡ headers fs ++ option_to_list f.package_id
headers-append [] f = cons_option-one f.package_id
headers-append (g ∷ fs) f = ap (cons_option g.package_id) (headers-append fs f) ∙ cons_option-append g.package_id (headers fs) (option_to_list f.package_id)

or_assoc : (a b c : Bool) → (a || b) || c ≡ a || (b || c)
or_assoc true b c = refl
or_assoc false b c = refl

or_true : (b : Bool) → b || true ≡ true
or_true true = refl
or_true false = refl

or_false : (b : Bool) → b || false ≡ b
or_false true = refl
or_false false = refl

-- headers have docs where those in front have, or those after
have_docs-append : (xs ys : List Header) → have_docs (xs ++ ys) ≡ have_docs xs || have_docs ys
have_docs-append [] ys = refl
have_docs-append (x ∷ xs) ys = ap (λ (b : Bool). is_documented x || b) (have_docs-append xs ys) ∙ sym (or_assoc (is_documented x) (have_docs xs) (have_docs ys))

-- once some have docs, more have
pub docs_kept : (hs ys : List Header) (b : Bool) → b ≡ have_docs hs → b ≡ true → true ≡ have_docs (hs ++ ys)
docs_kept hs ys b same holds = sym (have_docs-append hs ys ∙ ap (λ (a : Bool). a || have_docs ys) (sym same ∙ holds))

-- where none has, one more does if it has
pub docs_own : (hs : List Header) (h : Header) (b : Bool) → b ≡ have_docs hs → b ≡ false → is_documented h ≡ have_docs (hs ++ h ∷ [])
docs_own hs h b same fails = sym (have_docs-append hs (h ∷ []) ∙ ap (λ (a : Bool). a || have_docs (h ∷ [])) (sym same ∙ fails) ∙ or_false (is_documented h))

pub docs_none : (hs : List Header) (b : Bool) → b ≡ have_docs hs → b ≡ false → false ≡ have_docs (hs ++ [])
docs_none hs b same fails = sym (have_docs-append hs [] ∙ ap (λ (a : Bool). a || have_docs []) (sym same ∙ fails))

filled : {X : Type 0} (x : X) (xs : List X) → (length (x ∷ xs) == 0) ≡ false
filled x xs = ne_eqb (length (x ∷ xs)) 0 (λ none. absurd (omega (arith, none)))

-- what a test for docs says
pub documented_is : (h : Header) → is_documented h ≡ true → IsDocumented h
documented_is h holds = λ empty. (
    let wrong : true ≡ false = sym holds ∙ ap (λ (l : List (Bor (List ℕ))). not (length l == 0)) empty in
    let f : ⊥ = cc in
    f)

documented_from : (h : Header) → IsDocumented h → is_documented h ≡ true
documented_from h d = some h.docs.docs.items d
  where
    some : {X : Type 0} (xs : List X) → (xs ≡ [] → ⊥) → not (length xs == 0) ≡ true
    some [] d = absurd (d refl)
    some (x ∷ xs) d = ap not (filled x xs)

-- where headers have docs, one of them has
documented_one : (hs : List Header) → have_docs hs ≡ true → (i : ℕ) × (h : Header) × (slice_get hs i ≡ Some h) × IsDocumented h
documented_one [] holds = absurd (let f : ⊥ = cc in f)
documented_one (h ∷ hs) holds = elim (cases_Bool (is_documented h)) [
  | inl own ↦ (0, h, refl, documented_is h own)
  | inr other ↦ (let it = documented_one hs (sym (ap (λ (b : Bool). b || have_docs hs) other) ∙ holds) in (suc it.0, it.1, it.2, it.3))
]

documented_at : (hs : List Header) (i : ℕ) (h : Header) → slice_get hs i ≡ Some h → IsDocumented h → have_docs hs ≡ true
documented_at [] i h at d = absurd (let f : ⊥ = cc in f)
documented_at (x ∷ hs) zero h at d = (let same : x ≡ h = cc in ap (λ (y : Header). is_documented y || have_docs hs) same ∙ ap (λ (b : Bool). b || have_docs hs) (documented_from h d))
documented_at (x ∷ hs) (suc i) h at d = ap (λ (b : Bool). is_documented x || b) (documented_at hs i h at d) ∙ or_true (is_documented x)

-- a header with docs after others
pub second_here : (hs : List Header) (own : Header) → have_docs hs ≡ true → is_documented own ≡ true → second_docs_fault hs (Some own) ≡ Some (fault 2 own.docs.span)
second_here hs own some documented = ap2 (have_docs hs) (is_documented own) some documented
  where
    ap2 : (a b : Bool) → a ≡ true → b ≡ true → (if a && b then Some (fault 2 own.docs.span) else None) ≡ Some (fault 2 own.docs.span)
    ap2 true true x y = refl
    ap2 true false x y = absurd (let f : ⊥ = cc in f)
    ap2 false b x y = absurd (let f : ⊥ = cc in f)

-- one without docs, or after others without
pub second_none : (hs : List Header) (own : Header) → is_documented own ≡ false → second_docs_fault hs (Some own) ≡ None
second_none hs own bare = by (have_docs hs) (is_documented own) bare
  where
    by : (a b : Bool) → b ≡ false → (if a && b then Some (fault 2 own.docs.span) else None) ≡ None
    by true true x = absurd (let f : ⊥ = cc in f)
    by true false x = refl
    by false b x = refl

pub none_second : (hs : List Header) (current : Option Header) → have_docs hs ≡ false → second_docs_fault hs current ≡ None
none_second hs None bare = refl
none_second hs (Some own) bare = by (have_docs hs) (is_documented own) bare
  where
    by : (a b : Bool) → a ≡ false → (if a && b then Some (fault 2 own.docs.span) else None) ≡ None
    by true b x = absurd (let f : ⊥ = cc in f)
    by false b x = refl

-- the first fault of docs is that of a second header that has them
docs_broken : (hs : List Header) (current : Option Header) (f : Fault) → second_docs_fault hs current ≡ Some f → IsSecondDocs hs current f
docs_broken hs None f h = absurd (let g : ⊥ = cc in g)
docs_broken hs (Some own) f h = by (have_docs hs) (is_documented own) refl refl h
  where
    by : (a b : Bool) → have_docs hs ≡ a → is_documented own ≡ b → (if a && b then Some (fault 2 own.docs.span) else None) ≡ Some f → IsSecondDocs hs (Some own) f
    by true true some documented h = (
        let it = documented_one hs some in
        let same : Some (fault 2 own.docs.span) ≡ Some f = h in
        record { own = own; now = refl; documented = documented_is own documented; before = it.1; among = contains_at hs it.0 it.1 it.2; documented_before = it.3; is = (let is : f ≡ fault 2 own.docs.span = cc in is) })
    by true false some documented h = absurd (let wrong : None ≡ Some f = h in let g : ⊥ = cc in g)
    by false b some documented h = absurd (let wrong : None ≡ Some f = h in let g : ⊥ = cc in g)

docs_unbroken : (hs : List Header) (current : Option Header) → second_docs_fault hs current ≡ None → (f : Fault) → IsSecondDocs hs current f → ⊥
docs_unbroken hs current none f h =
    let k = at_contains hs h.before h.among in
    let there = ap (second_docs_fault hs) h.now ∙ second_here hs h.own (documented_at hs k.0 h.before k.1 h.documented_before) (documented_from h.own h.documented) in
    let wrong : None ≡ Some (fault 2 h.own.docs.span) = sym none ∙ there in
    (let g : ⊥ = cc in g)

pub docs_agree : (hs : List Header) (current : Option Header) → Agrees (second_docs_fault hs current) (IsSecondDocs hs current)
docs_agree hs current = record { broken = docs_broken hs current; unbroken = docs_unbroken hs current }
