-- The orders of two rows and of three, of which at most one needs another one.
use Rattle.std.proofs.Common.{◌≡◌, ◌≢◌, ℕ, zero, suc, ◌<◌, ◌≤◌, List, [], ◌∷◌, length, Some, IsSome, get_or, refl, sym, ap, ◌∙◌, subst, arith}
use Rattle.wit_arena.proofs.Common.{Id, IsBefore, IsEdge, IsGreedy, IsOrder, Leads, Row, greedy_least, greedy_sorted, slice_get, target}

abbrev pub two : List ℕ → List ℕ → Id → List Row
two a b id = record { name = a; needs = id ∷ [] } ∷ record { name = b; needs = [] } ∷ []

abbrev pub three : List ℕ → List ℕ → List ℕ → Id → List Row
three a b c id = record { name = a; needs = id ∷ [] } ∷ record { name = b; needs = [] } ∷ record { name = c; needs = [] } ∷ []

abbrev pub turned : List ℕ
turned = 1 ∷ 0 ∷ []

abbrev pub turned_three : List ℕ
turned_three = 1 ∷ 2 ∷ 0 ∷ []

-- the only name that a row needs
needs_one : (rs : List Row) (i k : ℕ) (x : Id) (row : Row) (id : Id) → slice_get rs i ≡ Some row → row.needs ≡ id ∷ [] → IsEdge rs i k x → x ≡ id
needs_one rs i k x row id at needs e =
    let both : Some e.0 ≡ Some row = sym e.1 ∙ at in
    let same : e.0 ≡ row = cc in
    let there : slice_get (id ∷ []) k ≡ Some x = ap (λ (l : List Id). slice_get l k) (sym (ap (λ (r : Row). r.needs) same ∙ needs)) ∙ e.2 in
    only k there
  where
    only : (k : ℕ) → slice_get (id ∷ []) k ≡ Some x → x ≡ id
    only zero h = cc
    only (suc k) h = absurd (let f : ⊥ = cc in f)

needs_none : (rs : List Row) (i k : ℕ) (x : Id) (row : Row) → slice_get rs i ≡ Some row → row.needs ≡ [] → IsEdge rs i k x → ⊥
needs_none rs i k x row at needs e =
    let both : Some e.0 ≡ Some row = sym e.1 ∙ at in
    let same : e.0 ≡ row = cc in
    let there : slice_get [] k ≡ Some x = ap (λ (l : List Id). slice_get l k) (sym (ap (λ (r : Row). r.needs) same ∙ needs)) ∙ e.2 in
    cc

leads_one : (rs : List Row) (i b p : ℕ) (row : Row) (id : Id) → slice_get rs i ≡ Some row → row.needs ≡ id ∷ [] → target rs id ≡ Some b → Leads rs i p → p ≡ b
leads_one rs i b p row id at needs to h =
    let same = needs_one rs i h.0 h.1 row id at needs h.2 in
    let both : Some p ≡ Some b = sym h.3 ∙ ap (target rs) same ∙ to in
    cc

leads_none : (rs : List Row) (i p : ℕ) (row : Row) → slice_get rs i ≡ Some row → row.needs ≡ [] → Leads rs i p → ⊥
leads_none rs i p row at needs h = needs_none rs i h.0 h.1 row at needs h.2

-- of two places, the first of which needs the other one, the other one comes first
two_greedy : (leads : ℕ → ℕ → Type 0) → leads 0 1 → ((p : ℕ) → leads 0 p → p ≡ 1) → ((p : ℕ) → leads 1 p → ⊥) → IsGreedy leads 2 turned
two_greedy leads edge first second = record { within = within; once = once; after = after; least = least }
  where
    within : (i : ℕ) → i < 2 → get_or turned i 0 < 2
    within zero h = omega arith
    within (suc zero) h = omega arith
    within (suc (suc i)) h = absurd (omega arith)

    once : (i j : ℕ) → i < j → j < 2 → get_or turned i 0 ≢ get_or turned j 0
    once zero zero h k = absurd (omega arith)
    once zero (suc zero) h k = λ same. omega arith
    once (suc i) (suc zero) h k = absurd (omega arith)
    once (suc i) zero h k = absurd (omega arith)
    once i (suc (suc j)) h k = absurd (omega arith)

    after : (i p : ℕ) → i < 2 → leads (get_or turned i 0) p → IsBefore turned i p
    after zero p h l = absurd (second p l)
    after (suc zero) p h l = record { index = 0; below = omega arith; is = sym (first p l) }
    after (suc (suc i)) p h l = absurd (omega arith)

    least : (i q : ℕ) → i < 2 → q < 2 → (IsBefore turned i q → ⊥) → ((w : ℕ) → leads q w → IsBefore turned i w) → get_or turned i 0 ≤ q
    least zero zero h k fresh ready = absurd (let b = (ready 1 edge).below in omega arith)
    least zero (suc q) h k fresh ready = omega arith
    least (suc zero) q h k fresh ready = omega arith
    least (suc (suc i)) q h k fresh ready = absurd (omega arith)

-- of three, the first of which needs the last, the second comes first, and then the last
three_greedy : (leads : ℕ → ℕ → Type 0) → leads 0 2 → ((p : ℕ) → leads 0 p → p ≡ 2) → ((p : ℕ) → leads 1 p → ⊥) → ((p : ℕ) → leads 2 p → ⊥) → IsGreedy leads 3 turned_three
three_greedy leads edge first second last = record { within = within; once = once; after = after; least = least }
  where
    within : (i : ℕ) → i < 3 → get_or turned_three i 0 < 3
    within zero h = omega arith
    within (suc zero) h = omega arith
    within (suc (suc zero)) h = omega arith
    within (suc (suc (suc i))) h = absurd (omega arith)

    once : (i j : ℕ) → i < j → j < 3 → get_or turned_three i 0 ≢ get_or turned_three j 0
    once i zero h k = absurd (omega arith)
    once zero (suc zero) h k = λ same. omega arith
    once (suc i) (suc zero) h k = absurd (omega arith)
    once zero (suc (suc zero)) h k = λ same. omega arith
    once (suc zero) (suc (suc zero)) h k = λ same. omega arith
    once (suc (suc i)) (suc (suc zero)) h k = absurd (omega arith)
    once i (suc (suc (suc j))) h k = absurd (omega arith)

    after : (i p : ℕ) → i < 3 → leads (get_or turned_three i 0) p → IsBefore turned_three i p
    after zero p h l = absurd (second p l)
    after (suc zero) p h l = absurd (last p l)
    after (suc (suc zero)) p h l = record { index = 1; below = omega arith; is = sym (first p l) }
    after (suc (suc (suc i))) p h l = absurd (omega arith)

    -- before the index 1 is the place 1 alone
    only_one : (i : ℕ) → i < 1 → get_or turned_three i 0 ≡ 1
    only_one zero h = refl
    only_one (suc i) h = absurd (omega arith)

    least : (i q : ℕ) → i < 3 → q < 3 → (IsBefore turned_three i q → ⊥) → ((w : ℕ) → leads q w → IsBefore turned_three i w) → get_or turned_three i 0 ≤ q
    least zero zero h k fresh ready = absurd (let b = (ready 2 edge).below in omega arith)
    least zero (suc q) h k fresh ready = omega arith
    least (suc zero) zero h k fresh ready = absurd (
        let b = ready 2 edge in
        let two : 2 ≡ 1 = sym b.is ∙ only_one b.index b.below in
        omega arith)
    least (suc zero) (suc zero) h k fresh ready = absurd (fresh (record { index = 0; below = omega arith; is = refl }))
    least (suc zero) (suc (suc q)) h k fresh ready = omega arith
    least (suc (suc zero)) q h k fresh ready = omega arith
    least (suc (suc (suc i))) q h k fresh ready = absurd (omega arith)

order_of : (rs : List Row) (n : ℕ) (places : List ℕ) → length rs ≡ n → length places ≡ n → ((i k : ℕ) (id : Id) → IsEdge rs i k id → IsSome (target rs id)) → IsGreedy (Leads rs) n places → IsOrder rs places
order_of rs n places rows long complete g = record {
  complete = complete;
  sorted = rw rows (greedy_sorted (Leads rs) n places g long);
  least = rw rows (greedy_least (Leads rs) n places g long);
}

-- what the first row needs has a place, and no other row needs anything
complete_of : (rs : List Row) (b i k : ℕ) (x : Id) (row : Row) (id : Id) → slice_get rs i ≡ Some row → row.needs ≡ id ∷ [] → target rs id ≡ Some b → IsEdge rs i k x → IsSome (target rs x)
complete_of rs b i k x row id at needs to e = subst (λ (o : Id). IsSome (target rs o)) (sym (needs_one rs i k x row id at needs e)) (rw to refl)

pub two_order : (a b : List ℕ) (id : Id) → target (two a b id) id ≡ Some 1 → IsOrder (two a b id) turned
two_order a b id to = order_of (two a b id) 2 turned refl refl complete (two_greedy (Leads (two a b id)) (0, id, (record { name = a; needs = id ∷ [] }, refl, refl), to) (λ p h. leads_one (two a b id) 0 1 p (record { name = a; needs = id ∷ [] }) id refl refl to h) (λ p h. leads_none (two a b id) 1 p (record { name = b; needs = [] }) refl refl h))
  where
    complete : (i k : ℕ) (x : Id) → IsEdge (two a b id) i k x → IsSome (target (two a b id) x)
    complete zero k x e = complete_of (two a b id) 1 0 k x (record { name = a; needs = id ∷ [] }) id refl refl to e
    complete (suc zero) k x e = absurd (needs_none (two a b id) 1 k x (record { name = b; needs = [] }) refl refl e)
    complete (suc (suc i)) k x e = absurd (let row = e.1 in cc)

pub three_order : (a b c : List ℕ) (id : Id) → target (three a b c id) id ≡ Some 2 → IsOrder (three a b c id) turned_three
three_order a b c id to = order_of (three a b c id) 3 turned_three refl refl complete (three_greedy (Leads (three a b c id)) (0, id, (record { name = a; needs = id ∷ [] }, refl, refl), to) (λ p h. leads_one (three a b c id) 0 2 p (record { name = a; needs = id ∷ [] }) id refl refl to h) (λ p h. leads_none (three a b c id) 1 p (record { name = b; needs = [] }) refl refl h) (λ p h. leads_none (three a b c id) 2 p (record { name = c; needs = [] }) refl refl h))
  where
    complete : (i k : ℕ) (x : Id) → IsEdge (three a b c id) i k x → IsSome (target (three a b c id) x)
    complete zero k x e = complete_of (three a b c id) 2 0 k x (record { name = a; needs = id ∷ [] }) id refl refl to e
    complete (suc zero) k x e = absurd (needs_none (three a b c id) 1 k x (record { name = b; needs = [] }) refl refl e)
    complete (suc (suc zero)) k x e = absurd (needs_none (three a b c id) 2 k x (record { name = c; needs = [] }) refl refl e)
    complete (suc (suc (suc i))) k x e = absurd (let row = e.1 in cc)

-- of two that need nothing, the first comes first
abbrev pub apart : List ℕ → List ℕ → List Row
apart a b = record { name = a; needs = [] } ∷ record { name = b; needs = [] } ∷ []

abbrev pub straight : List ℕ
straight = 0 ∷ 1 ∷ []

apart_greedy : (leads : ℕ → ℕ → Type 0) → ((p q : ℕ) → leads p q → ⊥) → IsGreedy leads 2 straight
apart_greedy leads none = record { within = within; once = once; after = λ i p h l. absurd (none (get_or straight i 0) p l); least = least }
  where
    within : (i : ℕ) → i < 2 → get_or straight i 0 < 2
    within zero h = omega arith
    within (suc zero) h = omega arith
    within (suc (suc i)) h = absurd (omega arith)

    once : (i j : ℕ) → i < j → j < 2 → get_or straight i 0 ≢ get_or straight j 0
    once i zero h k = absurd (omega arith)
    once zero (suc zero) h k = λ same. omega arith
    once (suc i) (suc zero) h k = absurd (omega arith)
    once i (suc (suc j)) h k = absurd (omega arith)

    least : (i q : ℕ) → i < 2 → q < 2 → (IsBefore straight i q → ⊥) → ((w : ℕ) → leads q w → IsBefore straight i w) → get_or straight i 0 ≤ q
    least zero q h k fresh ready = omega arith
    least (suc zero) zero h k fresh ready = absurd (fresh (record { index = 0; below = omega arith; is = refl }))
    least (suc zero) (suc q) h k fresh ready = omega arith
    least (suc (suc i)) q h k fresh ready = absurd (omega arith)

pub apart_order : (a b : List ℕ) → IsOrder (apart a b) straight
apart_order a b = order_of (apart a b) 2 straight refl refl (λ i k x e. absurd (no_edge i k x e)) (apart_greedy (Leads (apart a b)) (λ p q h. no_edge p h.0 h.1 h.2))
  where
    no_edge : (i k : ℕ) (x : Id) → IsEdge (apart a b) i k x → ⊥
    no_edge zero k x e = needs_none (apart a b) 0 k x (record { name = a; needs = [] }) refl refl e
    no_edge (suc zero) k x e = needs_none (apart a b) 1 k x (record { name = b; needs = [] }) refl refl e
    no_edge (suc (suc i)) k x e = let row = e.1 in let f : ⊥ = cc in f

-- of three, the middle one of which needs the last, the first comes first, and then the last
abbrev pub middle : List ℕ → List ℕ → List ℕ → Id → List Row
middle a b c id = record { name = a; needs = [] } ∷ record { name = b; needs = id ∷ [] } ∷ record { name = c; needs = [] } ∷ []

abbrev pub turned_end : List ℕ
turned_end = 0 ∷ 2 ∷ 1 ∷ []

middle_greedy : (leads : ℕ → ℕ → Type 0) → leads 1 2 → ((p : ℕ) → leads 0 p → ⊥) → ((p : ℕ) → leads 1 p → p ≡ 2) → ((p : ℕ) → leads 2 p → ⊥) → IsGreedy leads 3 turned_end
middle_greedy leads edge first second last = record { within = within; once = once; after = after; least = least }
  where
    within : (i : ℕ) → i < 3 → get_or turned_end i 0 < 3
    within zero h = omega arith
    within (suc zero) h = omega arith
    within (suc (suc zero)) h = omega arith
    within (suc (suc (suc i))) h = absurd (omega arith)

    once : (i j : ℕ) → i < j → j < 3 → get_or turned_end i 0 ≢ get_or turned_end j 0
    once i zero h k = absurd (omega arith)
    once zero (suc zero) h k = λ same. omega arith
    once (suc i) (suc zero) h k = absurd (omega arith)
    once zero (suc (suc zero)) h k = λ same. omega arith
    once (suc zero) (suc (suc zero)) h k = λ same. omega arith
    once (suc (suc i)) (suc (suc zero)) h k = absurd (omega arith)
    once i (suc (suc (suc j))) h k = absurd (omega arith)

    after : (i p : ℕ) → i < 3 → leads (get_or turned_end i 0) p → IsBefore turned_end i p
    after zero p h l = absurd (first p l)
    after (suc zero) p h l = absurd (last p l)
    after (suc (suc zero)) p h l = record { index = 1; below = omega arith; is = sym (second p l) }
    after (suc (suc (suc i))) p h l = absurd (omega arith)

    -- before the index 1 is the place 0 alone
    only_zero : (i : ℕ) → i < 1 → get_or turned_end i 0 ≡ 0
    only_zero zero h = refl
    only_zero (suc i) h = absurd (omega arith)

    least : (i q : ℕ) → i < 3 → q < 3 → (IsBefore turned_end i q → ⊥) → ((w : ℕ) → leads q w → IsBefore turned_end i w) → get_or turned_end i 0 ≤ q
    least zero q h k fresh ready = omega arith
    least (suc zero) zero h k fresh ready = absurd (fresh (record { index = 0; below = omega arith; is = refl }))
    least (suc zero) (suc zero) h k fresh ready = absurd (
        let b = ready 2 edge in
        let two : 2 ≡ 0 = sym b.is ∙ only_zero b.index b.below in
        omega arith)
    least (suc zero) (suc (suc q)) h k fresh ready = omega arith
    least (suc (suc zero)) zero h k fresh ready = absurd (fresh (record { index = 0; below = omega arith; is = refl }))
    least (suc (suc zero)) (suc q) h k fresh ready = omega arith
    least (suc (suc (suc i))) q h k fresh ready = absurd (omega arith)

pub middle_order : (a b c : List ℕ) (id : Id) → target (middle a b c id) id ≡ Some 2 → IsOrder (middle a b c id) turned_end
middle_order a b c id to = order_of (middle a b c id) 3 turned_end refl refl complete (middle_greedy (Leads (middle a b c id)) (0, id, (record { name = b; needs = id ∷ [] }, refl, refl), to) (λ p h. leads_none (middle a b c id) 0 p (record { name = a; needs = [] }) refl refl h) (λ p h. leads_one (middle a b c id) 1 2 p (record { name = b; needs = id ∷ [] }) id refl refl to h) (λ p h. leads_none (middle a b c id) 2 p (record { name = c; needs = [] }) refl refl h))
  where
    complete : (i k : ℕ) (x : Id) → IsEdge (middle a b c id) i k x → IsSome (target (middle a b c id) x)
    complete zero k x e = absurd (needs_none (middle a b c id) 0 k x (record { name = a; needs = [] }) refl refl e)
    complete (suc zero) k x e = complete_of (middle a b c id) 2 1 k x (record { name = b; needs = id ∷ [] }) id refl refl to e
    complete (suc (suc zero)) k x e = absurd (needs_none (middle a b c id) 2 k x (record { name = c; needs = [] }) refl refl e)
    complete (suc (suc (suc i))) k x e = absurd (let row = e.1 in cc)
