-- What comes before the arenas, with one item more, and with one name more.
use Rattle.std.proofs.Common.{◌≡◌, ℕ, zero, suc, ◌+◌, ◌<◌, Bool, true, false, not, cond, if◌then◌else◌, List, [], ◌∷◌, ◌++◌, length, Some, None, inl, inr, nat_eq, refl, sym, ap, ◌∙◌, subst, arith, append_assoc, add-zero}
use Rattle.wit_items.proofs.Common.{Address, AllDiffer, AstItem, ForeignUse, ForeignVisit, Names, after_one, append-nil, at_prefix, cases_Bool, differ_at, filter, filter-append, insert_entry, kept_at, lookup, map, name_itself, pointwise, same_address, same_address-equal, same_address-from, same_address-itself, same_item, slice_get, slice_get_within, slice_set, visited, position_or_len}
use Rattle.wit_arena.proofs.OneMade.{map_same}
use Rattle.wit_model.specs.declared.ast_item.AstItem.TheVariants as entry
use Rattle.wit_front.specs.ForeignPrefix.{interfaces_among, worlds_among, entries_after, used_from}

-- one is moved from what comes before to what is counted
move : (n m : ℕ) → suc n + m ≡ n + suc m
move n m = omega arith

-- how many interfaces come before what comes next, and how many worlds
next-interfaces : (i : ℕ) (u : ForeignVisit) (us : List ForeignVisit) → (if u.wants_world then i else suc i) + length (interfaces_among us) ≡ i + length (interfaces_among (u ∷ us))
next-interfaces i u us = elim (cases_Bool u.wants_world) [
  | inl hit ↦ rw hit refl
  | inr miss ↦ rw miss (move i (length (interfaces_among us)))
]

next-worlds : (w : ℕ) (u : ForeignVisit) (us : List ForeignVisit) → (if u.wants_world then suc w else w) + length (worlds_among us) ≡ w + length (worlds_among (u ∷ us))
next-worlds w u us = elim (cases_Bool u.wants_world) [
  | inl hit ↦ rw hit (move w (length (worlds_among us)))
  | inr miss ↦ rw miss refl
]

-- the entry of one item more
pub entries-more : (i w : ℕ) (vs : List ForeignVisit) (v : ForeignVisit) → entries_after i w (vs ++ v ∷ []) ≡ entries_after i w vs ++ (if v.wants_world then entry.World (w + length (worlds_among vs)) else entry.Interface (i + length (interfaces_among vs))) ∷ []
entries-more i w [] v = ap (λ (n : ℕ). (if v.wants_world then entry.World w else entry.Interface n) ∷ []) (sym (add-zero i)) ∙ ap (λ (n : ℕ). (if v.wants_world then entry.World n else entry.Interface (i + 0)) ∷ []) (sym (add-zero w))
entries-more i w (u ∷ us) v =
    let j = if u.wants_world then i else suc i in
    let x = if u.wants_world then suc w else w in
    ap (λ (l : List AstItem). (if u.wants_world then entry.World w else entry.Interface i) ∷ l) (entries-more j x us v ∙ ap (λ (n : ℕ). entries_after j x us ++ (if v.wants_world then entry.World (x + length (worlds_among us)) else entry.Interface n) ∷ []) (next-interfaces i u us) ∙ ap (λ (n : ℕ). entries_after j x us ++ (if v.wants_world then entry.World n else entry.Interface (i + length (interfaces_among (u ∷ us)))) ∷ []) (next-worlds w u us))

-- one interface more
pub interfaces-more : (vs : List ForeignVisit) (v : ForeignVisit) → v.wants_world ≡ false → interfaces_among (vs ++ v ∷ []) ≡ interfaces_among vs ++ v ∷ []
interfaces-more vs v h = filter-append (λ (u : ForeignVisit). not u.wants_world) vs (v ∷ []) ∙ ap (λ (b : Bool). interfaces_among vs ++ cond (not b) (v ∷ []) []) h

-- a world is no interface more
pub interfaces-same : (vs : List ForeignVisit) (v : ForeignVisit) → v.wants_world ≡ true → interfaces_among (vs ++ v ∷ []) ≡ interfaces_among vs
interfaces-same vs v h = filter-append (λ (u : ForeignVisit). not u.wants_world) vs (v ∷ []) ∙ ap (λ (b : Bool). interfaces_among vs ++ cond (not b) (v ∷ []) []) h ∙ append-nil (interfaces_among vs)

-- one world more
pub worlds-more : (vs : List ForeignVisit) (v : ForeignVisit) → v.wants_world ≡ true → worlds_among (vs ++ v ∷ []) ≡ worlds_among vs ++ v ∷ []
worlds-more vs v h = filter-append (λ (v : ForeignVisit). v.wants_world) vs (v ∷ []) ∙ ap (λ (b : Bool). worlds_among vs ++ cond b (v ∷ []) []) h

-- an interface is no world more
pub worlds-same : (vs : List ForeignVisit) (v : ForeignVisit) → v.wants_world ≡ false → worlds_among (vs ++ v ∷ []) ≡ worlds_among vs
worlds-same vs v h = filter-append (λ (v : ForeignVisit). v.wants_world) vs (v ∷ []) ∙ ap (λ (b : Bool). worlds_among vs ++ cond b (v ∷ []) []) h ∙ append-nil (worlds_among vs)

-- what is used from a scope, with one name more
pub in_use-more : (n : ℕ) (s : Address) (ts : List ForeignUse) (t : ForeignUse) → used_from n s (ts ++ t ∷ []) ≡ used_from n s ts ++ (if same_address t.from s then (t.id.name.now, n + length ts) ∷ [] else [])
in_use-more n s [] t = ap (λ (k : ℕ). if same_address t.from s then (t.id.name.now, k) ∷ [] else []) (sym (add-zero n))
in_use-more n s (u ∷ ts) t =
    let count : suc n + length ts ≡ n + suc (length ts) = move n (length ts) in
    let rest : used_from (suc n) s (ts ++ t ∷ []) ≡ used_from (suc n) s ts ++ (if same_address t.from s then (t.id.name.now, n + suc (length ts)) ∷ [] else []) = in_use-more (suc n) s ts t ∙ ap (λ (k : ℕ). used_from (suc n) s ts ++ (if same_address t.from s then (t.id.name.now, k) ∷ [] else [])) count in
    elim (cases_Bool (same_address u.from s)) [
      | inl hit ↦ rw hit (ap (λ (l : Names). (u.id.name.now, n) ∷ l) rest)
      | inr miss ↦ rw miss rest
    ]

-- the names that are used from a scope
pub names-used_from : (n : ℕ) (s : Address) (ts : List ForeignUse) → map (λ p. p.0) (used_from n s ts) ≡ map (λ t. t.id.name.now) (filter (λ t. same_address t.from s) ts)
names-used_from n s [] = refl
names-used_from n s (t ∷ ts) =
    let rest = names-used_from (suc n) s ts in
    elim (cases_Bool (same_address t.from s)) [
      | inl hit ↦ rw hit (ap (λ (l : List (List ℕ)). t.id.name.now ∷ l) rest)
      | inr miss ↦ rw miss rest
    ]

-- what is used from a scope at a place among uses
pub record IsUsedThere (s : Address) (ts : List ForeignUse) (q : List ℕ) (j : ℕ) : Type 0 where
  pub t : ForeignUse
  pub at : slice_get ts j ≡ Some t
  pub from : t.from ≡ s
  pub name : t.id.name.now ≡ q

-- where a name that is used from a scope is used
pub used_from-at : (n : ℕ) (s : Address) (ts : List ForeignUse) (k : ℕ) (q : List ℕ) (id : ℕ) → slice_get (used_from n s ts) k ≡ Some (q, id) → (j : ℕ) × (id ≡ n + j) × IsUsedThere s ts q j
used_from-at n s [] k q id h = absurd (let f : ⊥ = cc in f)
used_from-at n s (t ∷ ts) k q id h = elim (cases_Bool (same_address t.from s)) [
  | inl hit ↦ elim (after_one (t.id.name.now, n) (used_from (suc n) s ts) k (q, id) (rw hit at h)) [
    | inl here ↦ (0, sym (ap (λ (p : List ℕ × ℕ). p.1) here) ∙ sym (add-zero n), record { t = t; at = refl; from = same_address-equal t.from s hit; name = ap (λ (p : List ℕ × ℕ). p.0) here })
    | inr rest ↦ later (used_from-at (suc n) s ts rest.0 q id rest.1)
  ]
  | inr miss ↦ later (used_from-at (suc n) s ts k q id (rw miss at h))
]
  where
    later : (j : ℕ) × (id ≡ suc n + j) × IsUsedThere s ts q j → (j : ℕ) × (id ≡ n + j) × IsUsedThere s (t ∷ ts) q j
    later it = (suc it.0, it.1 ∙ move n it.0, record { t = it.2.t; at = it.2.at; from = it.2.from; name = it.2.name })

-- a name that is used from a scope is among its names
pub used_from-has : (n : ℕ) (s : Address) (ts : List ForeignUse) (j : ℕ) (t : ForeignUse) → slice_get ts j ≡ Some t → t.from ≡ s → lookup (pointwise nat_eq t.id.name.now) (used_from n s ts) ≡ None → ⊥
used_from-has n s [] j t at from none = let f : ⊥ = cc in f
used_from-has n s (u ∷ ts) zero t at from none =
    let here : u ≡ t = cc in
    let hit : same_address u.from s ≡ true = same_address-from u.from s (ap (λ (x : ForeignUse). x.from) here ∙ from) in
    let name : pointwise nat_eq t.id.name.now u.id.name.now ≡ true = ap (λ (x : ForeignUse). pointwise nat_eq t.id.name.now x.id.name.now) here ∙ name_itself t.id.name.now in
    let found : lookup (pointwise nat_eq t.id.name.now) ((u.id.name.now, n) ∷ used_from (suc n) s ts) ≡ None = rw hit at none in
    let wrong : Some n ≡ None = rw name at found in
    let f : ⊥ = cc in f
used_from-has n s (u ∷ ts) (suc j) t at from none = elim (cases_Bool (same_address u.from s)) [
  | inl hit ↦ (
      let found : lookup (pointwise nat_eq t.id.name.now) ((u.id.name.now, n) ∷ used_from (suc n) s ts) ≡ None = rw hit at none in
      elim (cases_Bool (pointwise nat_eq t.id.name.now u.id.name.now)) [
        | inl same ↦ (let wrong : Some n ≡ None = rw same at found in let f : ⊥ = cc in f)
        | inr other ↦ used_from-has (suc n) s ts j t at from (rw other at found)
      ])
  | inr miss ↦ used_from-has (suc n) s ts j t at from (rw miss at none)
]

-- a name that is not there goes last
pub insert_entry-last : (es : Names) (k : List ℕ) (v : ℕ) → lookup (pointwise nat_eq k) es ≡ None → insert_entry (pointwise nat_eq) es k v ≡ es ++ (k, v) ∷ []
insert_entry-last [] k v none = refl
insert_entry-last (e ∷ es) k v none = elim (cases_Bool (pointwise nat_eq k e.0)) [
  | inl hit ↦ absurd (let wrong : Some e.1 ≡ None = rw hit at none in let f : ⊥ = cc in f)
  | inr miss ↦ (let rest = rw miss at none in rw miss (ap (λ (l : Names). e ∷ l) (insert_entry-last es k v rest)))
]

-- one of a list that is stated anew, where the others stay as they are stated
pub slice_set-map : {X Y : Type 0} (f g : X → Y) (xs : List X) (i : ℕ) (x : X) → slice_get xs i ≡ Some x → ((j : ℕ) (y : X) → slice_get xs j ≡ Some y → (j ≡ i → ⊥) → f y ≡ g y) → slice_set (map f xs) i (g x) ≡ map g xs
slice_set-map f g [] i x at others = absurd (let f : ⊥ = cc in f)
slice_set-map {X} {Y} f g (z ∷ xs) zero x at others =
    let here : z ≡ x = cc in
    ap (λ (y : X). g y ∷ map f xs) (sym here) ∙ ap (λ (l : List Y). g z ∷ l) (map_same f g xs (λ j y there. others (suc j) y there (λ wrong. (let f : ⊥ = omega arith in f))))
slice_set-map {X} {Y} f g (z ∷ xs) (suc i) x at others = ap (λ (w : Y). w ∷ slice_set (map f xs) i (g x)) (others 0 z refl (λ wrong. (let f : ⊥ = omega arith in f))) ∙ ap (λ (l : List Y). g z ∷ l) (slice_set-map f g xs i x at (λ j y there other. others (suc j) y there (λ same. other (omega arith))))

-- none of these is the item
abbrev pub IsNoneOf : List ForeignVisit → ForeignVisit → Type 0
IsNoneOf us v = (i : ℕ) (u : ForeignVisit) → slice_get us i ≡ Some u → same_item u v ≡ false

-- the place of an item after others
foreign_place-seam : (us : List ForeignVisit) (v : ForeignVisit) (vs : List ForeignVisit) → IsNoneOf us v → position_or_len (λ (y : ForeignVisit). same_item y v) (us ++ v ∷ vs) ≡ length us
foreign_place-seam [] v vs none = (let same : same_item v v ≡ true = same_address-itself (visited v) in rw same refl)
foreign_place-seam (u ∷ us) v vs none = (let other = none 0 u refl in rw other (ap (λ (n : ℕ). 1 + n) (foreign_place-seam us v vs (λ i x at. none (suc i) x at)) ∙ (omega arith)))

-- the entry of an item among others
abbrev pub entry_among : List ForeignVisit → ForeignVisit → AstItem
entry_among vs v = if v.wants_world then entry.World (position_or_len (λ (y : ForeignVisit). same_item y v) (worlds_among vs)) else entry.Interface (position_or_len (λ (y : ForeignVisit). same_item y v) (interfaces_among vs))

module _ (us : List ForeignVisit) (v : ForeignVisit) (vs : List ForeignVisit) (differ : AllDiffer (map visited (us ++ v ∷ vs))) where
  -- no item before it is it
  none_before : (test : ForeignVisit → Bool) → IsNoneOf (filter test us) v
  none_before test i u at = elim (cases_Bool (same_item u v)) [
    | inl same ↦ absurd (
        let p = kept_at test us i u at in
        let place : p.0 ≡ length us = differ_at visited (us ++ v ∷ vs) differ p.0 (length us) u v (at_prefix us (v ∷ vs) p.0 u p.1) (at_after us) (same_address-equal (visited u) (visited v) same) in
        let within : p.0 < length us = slice_get_within us p.0 u p.1 in
        let f : ⊥ = omega arith in
        f)
    | inr other ↦ other
  ]
    where
      at_after : (us : List ForeignVisit) → slice_get (us ++ v ∷ vs) (length us) ≡ Some v
      at_after [] = refl
      at_after (u ∷ us) = at_after us

  -- its entry, after those before it
  entry_among-seam : (if v.wants_world then entry.World (length (worlds_among us)) else entry.Interface (length (interfaces_among us))) ≡ entry_among (us ++ v ∷ vs) v
  entry_among-seam =
      let i = length (interfaces_among us) in
      let w = length (worlds_among us) in
      let all = us ++ v ∷ vs in
      elim (cases_Bool v.wants_world) [
        | inl hit ↦ (
            let whole : worlds_among all ≡ worlds_among us ++ v ∷ worlds_among vs = filter-append (λ (v : ForeignVisit). v.wants_world) us (v ∷ vs) ∙ ap (λ (b : Bool). worlds_among us ++ cond b (v ∷ worlds_among vs) (worlds_among vs)) hit in
            let place : position_or_len (λ (y : ForeignVisit). same_item y v) (worlds_among all) ≡ w = ap (λ (l : List ForeignVisit). position_or_len (λ (y : ForeignVisit). same_item y v) l) whole ∙ foreign_place-seam (worlds_among us) v (worlds_among vs) (none_before (λ (v : ForeignVisit). v.wants_world)) in
            ap (λ (b : Bool). if b then entry.World w else entry.Interface i) hit ∙ ap entry.World (sym place) ∙ sym (ap (λ (b : Bool). if b then entry.World (position_or_len (λ (y : ForeignVisit). same_item y v) (worlds_among all)) else entry.Interface (position_or_len (λ (y : ForeignVisit). same_item y v) (interfaces_among all))) hit))
        | inr miss ↦ (
            let test = λ (u : ForeignVisit). not u.wants_world in
            let whole : interfaces_among all ≡ interfaces_among us ++ v ∷ interfaces_among vs = filter-append test us (v ∷ vs) ∙ ap (λ (b : Bool). interfaces_among us ++ cond (not b) (v ∷ interfaces_among vs) (interfaces_among vs)) miss in
            let place : position_or_len (λ (y : ForeignVisit). same_item y v) (interfaces_among all) ≡ i = ap (λ (l : List ForeignVisit). position_or_len (λ (y : ForeignVisit). same_item y v) l) whole ∙ foreign_place-seam (interfaces_among us) v (interfaces_among vs) (none_before test) in
            ap (λ (b : Bool). if b then entry.World w else entry.Interface i) miss ∙ ap entry.Interface (sym place) ∙ sym (ap (λ (b : Bool). if b then entry.World (position_or_len (λ (y : ForeignVisit). same_item y v) (worlds_among all)) else entry.Interface (position_or_len (λ (y : ForeignVisit). same_item y v) (interfaces_among all))) miss))
      ]

-- how many there are, with one more
length-more : (vs : List ForeignVisit) (v : ForeignVisit) → length (vs ++ v ∷ []) ≡ suc (length vs)
length-more [] v = refl
length-more (u ∷ vs) v = ap suc (length-more vs v)

-- the entries of items after others
entries-among : (us vs : List ForeignVisit) → AllDiffer (map visited (us ++ vs)) → entries_after (length (interfaces_among us)) (length (worlds_among us)) vs ≡ map (entry_among (us ++ vs)) vs
entries-among us [] differ = refl
entries-among us (v ∷ vs) differ =
    let one : us ++ v ∷ vs ≡ (us ++ v ∷ []) ++ vs = sym (append_assoc us (v ∷ []) vs) in
    let rest = entries-among (us ++ v ∷ []) vs (subst (λ (l : List ForeignVisit). AllDiffer (map visited l)) one differ) in
    let i = length (interfaces_among us) in
    let w = length (worlds_among us) in
    let is : length (interfaces_among (us ++ v ∷ [])) ≡ (if v.wants_world then i else suc i) = elim (cases_Bool v.wants_world) [
      | inl hit ↦ ap length (interfaces-same us v hit) ∙ sym (ap (λ (b : Bool). if b then i else suc i) hit)
      | inr miss ↦ ap length (interfaces-more us v miss) ∙ length-more (interfaces_among us) v ∙ sym (ap (λ (b : Bool). if b then i else suc i) miss)
    ] in
    let ws : length (worlds_among (us ++ v ∷ [])) ≡ (if v.wants_world then suc w else w) = elim (cases_Bool v.wants_world) [
      | inl hit ↦ ap length (worlds-more us v hit) ∙ length-more (worlds_among us) v ∙ sym (ap (λ (b : Bool). if b then suc w else w) hit)
      | inr miss ↦ ap length (worlds-same us v miss) ∙ sym (ap (λ (b : Bool). if b then suc w else w) miss)
    ] in
    ap (λ (x : AstItem). x ∷ entries_after (if v.wants_world then i else suc i) (if v.wants_world then suc w else w) vs) (entry_among-seam us v vs differ)
    ∙ ap (λ (l : List AstItem). entry_among (us ++ v ∷ vs) v ∷ l) (ap (λ (n : ℕ). entries_after n (if v.wants_world then suc w else w) vs) (sym is) ∙ ap (λ (n : ℕ). entries_after (length (interfaces_among (us ++ v ∷ []))) n vs) (sym ws) ∙ rest ∙ ap (λ (l : List ForeignVisit). map (entry_among l) vs) (sym one))

-- the entries of items, no two of which are one
pub entries_after-among : (vs : List ForeignVisit) → AllDiffer (map visited vs) → entries_after 0 0 vs ≡ map (entry_among vs) vs
entries_after-among vs differ = entries-among [] vs differ
