-- How often a place is in a set of places.
use Rattle.std.proofs.Common.{◌≡◌, ◌≢◌, ℕ, suc, ◌+◌, ◌<◌, ◌≤◌, List, [], ◌∷◌, length, get_or, set, arith, sym, ◌∙◌, ap, refl, subst, inl, inr, cond, nat_eq, nat_lt, All, Option, Some, None, IfSome, IfNone, Result, Ok, Err, OnOk, OnErr}
use Rattle.std.specs.Ordering.{nat_cmp, match_ordering}
use Rattle.std.specs.declared.cmp.Ordering.{Ordering}
use Rattle.std.specs.declared.cmp.Ordering.TheVariants.{Less, Equal, Greater}
use Rattle.std.specs.BTreeSet.{insert_key}
use Rattle.std.proofs.lemmas.Bool.Decides.{nat_tests}
use Rattle.std.proofs.lemmas.Bool.{cases_eq, cases_lt, cond-true, cond-false, lt-ltb, le-ltb}
use Rattle.std.proofs.lemmas.List.{length-set, get_or-set_other}
use Rattle.wit_order.specs.Heap.{times}
use Rattle.wit_order.proofs.Counts.{one, one_same, one_other, times-cons}

-- what occurs, occurs somewhere
times_some : (q : ℕ) (xs : List ℕ) → 0 < times q xs → (k : ℕ) × (k < length xs) × (get_or xs k 0 ≡ q)
times_some q [] h = absurd (omega (arith, h))
times_some q (x ∷ xs) h = elim (cases_eq x q) [
  | inl e ↦ (0, omega arith, e)
  | inr ne ↦ let r = times_some q xs (omega (arith, h, times-cons q x xs, one_other x q ne)) in (suc r.0, omega (arith, r.1), r.2)
]

same_from_cmp : (x y : ℕ) → nat_cmp x y ≡ Equal → x ≡ y
same_from_cmp x y h = grind (arith, nat_tests)

less_from_cmp : (x y : ℕ) → nat_cmp x y ≡ Less → x ≤ y
less_from_cmp x y h = grind (arith, nat_tests)

-- a new place comes in once
pub times_insert : (q u : ℕ) (ks : List ℕ) → times u ks ≡ 0 → times q (insert_key nat_cmp ks u) ≡ one u q + times q ks
times_insert q u [] fresh = times-cons q u []
times_insert q u (x ∷ xs) fresh = by (nat_cmp u x) refl (λ h. times_insert q u xs h)
  where
    by : (r : Ordering) → nat_cmp u x ≡ r → (times u xs ≡ 0 → times q (insert_key nat_cmp xs u) ≡ one u q + times q xs)
        → times q (match_ordering r (u ∷ x ∷ xs) (x ∷ xs) (x ∷ insert_key nat_cmp xs u)) ≡ one u q + times q (x ∷ xs)
    by Less e rest = times-cons q u (x ∷ xs)
    by Equal e rest = absurd (omega (arith, fresh, times-cons u x xs, one_same x u (sym (same_from_cmp u x e))))
    by Greater e rest =
        let more = rest (omega (arith, fresh, times-cons u x xs)) in
        omega (arith, times-cons q x (insert_key nat_cmp xs u), times-cons q x xs, more)

-- the first is no larger than what is in the set
pub least_key : (k q : ℕ) (old new : List ℕ) → old ≡ k ∷ new → All (λ x. nat_cmp k x ≡ Less) new → 0 < times q old → k ≤ q
least_key k q old new e all h = elim (cases_eq k q) [
  | inl same ↦ omega (arith, same)
  | inr ne ↦
      let t : times q old ≡ one k q + times q new = ap (times q) e ∙ times-cons q k new in
      let f = times_some q new (omega (arith, h, t, one_other k q ne)) in
      subst (λ n. k ≤ n) f.2 (less_from_cmp k (get_or new f.0 0) (all f.0 0 f.1))
]

-- what a set of places below n keeps when one is taken out, or put in
pub below_used : (r : Option ℕ) (old new : List ℕ) (n : ℕ) → IfSome r (λ k. old ≡ k ∷ new) → IfNone r (new ≡ old) → ((q : ℕ) → 0 < times q old → q < n) → (q : ℕ) → 0 < times q new → q < n
below_used None old new n some none below q h = below q (omega (arith, h, ap (times q) none))
below_used (Some k) old new n some none below q h = below q (omega (arith, h, ap (times q) some, times-cons q k new))

pub below_put : {A B : Type 0} (r : Result A B) (old new : List ℕ) (u n : ℕ) → OnOk r (new ≡ insert_key nat_cmp old u) → OnErr r (new ≡ old) → times u old ≡ 0 → u < n
    → ((q : ℕ) → 0 < times q old → q < n) → (q : ℕ) → 0 < times q new → q < n
below_put (Ok x) old new u n put kept fresh less below q h = elim (cases_eq u q) [
  | inl e ↦ omega (arith, e, less)
  | inr ne ↦ below q (omega (arith, h, ap (times q) put, times_insert q u old fresh, one_other u q ne))
]
below_put (Err x) old new u n put kept fresh less below q h = below q (omega (arith, h, ap (times q) kept))

-- 1 where a place from next on, below n, has the count 0
abbrev pub ahead : ℕ → ℕ → ℕ → ℕ → ℕ
ahead q next n count = cond (nat_lt q next) 0 (cond (nat_lt q n) (cond (nat_eq count 0) 1 0) 0)

ahead_after : (q next n count : ℕ) → q < next → ahead q next n count ≡ 0
ahead_after q next n count h = cond-true (nat_lt q next) 0 (cond (nat_lt q n) (cond (nat_eq count 0) 1 0) 0) (lt-ltb q next h)

ahead_here : (q next n count : ℕ) → next ≤ q → q < n → ahead q next n count ≡ one count 0
ahead_here q next n count h l = cond-false (nat_lt q next) 0 (cond (nat_lt q n) (cond (nat_eq count 0) 1 0) 0) (le-ltb q next h) ∙ cond-true (nat_lt q n) (cond (nat_eq count 0) 1 0) 0 (lt-ltb q n l)

ahead_past : (q next n count : ℕ) → next ≤ q → n ≤ q → ahead q next n count ≡ 0
ahead_past q next n count h l = cond-false (nat_lt q next) 0 (cond (nat_lt q n) (cond (nat_eq count 0) 1 0) 0) (le-ltb q next h) ∙ cond-false (nat_lt q n) (cond (nat_eq count 0) 1 0) 0 (le-ltb q n l)

-- where each place from next on has a count, none is ahead
pub none_ahead : (next : ℕ) (counts : List ℕ) → ((q : ℕ) → next ≤ q → q < length counts → get_or counts q 0 ≢ 0) → (q : ℕ) → ahead q next (length counts) (get_or counts q 0) ≡ 0
none_ahead next counts some q = elim (cases_lt q next) [
  | inl l ↦ ahead_after q next (length counts) (get_or counts q 0) l
  | inr g ↦ elim (cases_lt q (length counts)) [
    | inl l ↦ ahead_here q next (length counts) (get_or counts q 0) g l ∙ one_other (get_or counts q 0) 0 (some q g l)
    | inr past ↦ ahead_past q next (length counts) (get_or counts q 0) g past
  ]
]

-- the first place ahead is the least
pub first_ahead : (p next : ℕ) (counts : List ℕ) → ((q : ℕ) → next ≤ q → q < p → get_or counts q 0 ≢ 0) → (q : ℕ) → 0 < ahead q next (length counts) (get_or counts q 0) → p ≤ q
first_ahead p next counts some q h = elim (cases_lt q p) [
  | inr g ↦ g
  | inl l ↦ elim (cases_lt q next) [
    | inl before ↦ absurd (omega (arith, h, ahead_after q next (length counts) (get_or counts q 0) before))
    | inr g ↦ elim (cases_lt q (length counts)) [
      | inl inside ↦ absurd (omega (arith, h, ahead_here q next (length counts) (get_or counts q 0) g inside, one_other (get_or counts q 0) 0 (some q g l)))
      | inr past ↦ absurd (omega (arith, h, ahead_past q next (length counts) (get_or counts q 0) g past))
    ]
  ]
]

-- the first of the set is less than all that is ahead
pub passed_least : (k q next n count : ℕ) (old new : List ℕ) → old ≡ k ∷ new → All (λ x. nat_cmp k x ≡ Less) new → ((q : ℕ) → 0 < times q old → q < next)
    → 0 < times q old + ahead q next n count → k ≤ q
passed_least k q next n count old new e all below h = elim (cases_lt q next) [
  | inl l ↦ least_key k q old new e all (omega (arith, h, ahead_after q next n count l))
  | inr g ↦ omega (arith, g, below k (omega (arith, ap (times k) e, times-cons k k new, one_same k k refl)))
]

-- a count after next changes nothing ahead
pub ahead_set : (q u v next : ℕ) (counts : List ℕ) → u < next → ahead q next (length (set counts u v)) (get_or (set counts u v) q 0) ≡ ahead q next (length counts) (get_or counts q 0)
ahead_set q u v next counts h = elim (cases_lt q next) [
  | inl l ↦ ahead_after q next _ (get_or (set counts u v) q 0) l ∙ sym (ahead_after q next (length counts) (get_or counts q 0) l)
  | inr g ↦ ap (λ n. ahead q next n (get_or (set counts u v) q 0)) (length-set counts u v) ∙ ap (ahead q next (length counts)) (get_or-set_other counts u q v 0 (λ e. absurd (omega (arith, e, g, h))))
]
