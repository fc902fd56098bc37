-- All names of files that end somewhere end there in one number of steps.
use Rattle.std.proofs.Common.{◌≡◌, ◌⊎◌, ◌+◌, ◌≤◌, ◌<◌, ℕ, zero, suc, Bool, true, false, List, [], ◌∷◌, length, Option, Some, None, inl, inr, refl, sym, ap, ◌∙◌, subst, Contains, arith}
use Rattle.wit_syntax.proofs.Common.{Address, Attribute, End, ForeignName, ForeignNamed, ForeignUse, Id, InlineAt, InterfaceNamed, Item, Of, PackageFile, Prim, ScopeName, Shape, Word, WorldNamed, about_name, address, all_scopes, at_contains, bytes_eq, cases_Bool, cases_lt, cond-false, cond-true, contains_at, filter, find_among, find_at, find_passes, first_foreign_uses, flat_map, flat_map_has, item_at, local_name, map, map_at, meaning, meant_end, option_map, option_map_or, same_address, same_address-equal, scope, scope_names, shape_end, slice_get, slice_get-map, unwrap_or}
use Rattle.std.specs.Prelude.{is_some}
use Rattle.wit_walk.proofs.ScopesLegal.{meant_more, steps_more}
use Rattle.wit_syntax.proofs.JoinedLegal.{named_by}

-- what two tests keep of a list, where each that passes the one passes the other
module _ {X : Type 0} (p q : X → Bool) (more : (x : X) → p x ≡ true → q x ≡ true) where
  abbrev AreSame : List X → Type 0
  AreSame xs = (k : ℕ) (x : X) → slice_get xs k ≡ Some x → p x ≡ q x

  abbrev kept : (X → Bool) → List X → ℕ
  kept test xs = length (filter test xs)

  hit_more : (test : X → Bool) (x : X) (xs : List X) → test x ≡ true → kept test (x ∷ xs) ≡ suc (kept test xs)
  hit_more test x xs hit = ap length (cond-true (test x) (x ∷ filter test xs) (filter test xs) hit)

  miss_same : (test : X → Bool) (x : X) (xs : List X) → test x ≡ false → kept test (x ∷ xs) ≡ kept test xs
  miss_same test x xs miss = ap length (cond-false (test x) (x ∷ filter test xs) (filter test xs) miss)

  same_more : (x : X) (xs : List X) → p x ≡ q x → AreSame xs → AreSame (x ∷ xs)
  same_more x xs here rest zero y at = (let same : x ≡ y = cc in subst (λ (z : X). p z ≡ q z) same here)
  same_more x xs here rest (suc k) y at = rest k y at

  kept_past : (xs : List X) → kept p xs ≤ kept q xs
  kept_past [] = omega arith
  kept_past (x ∷ xs) =
      let rest = kept_past xs in
      elim (cases_Bool (p x)) [
        | inl hit ↦ (let one = hit_more p x xs hit in let other = hit_more q x xs (more x hit) in omega (arith, rest, one, other))
        | inr miss ↦ elim (cases_Bool (q x)) [
          | inl hit ↦ (let one = miss_same p x xs miss in let other = hit_more q x xs hit in omega (arith, rest, one, other))
          | inr far ↦ (let one = miss_same p x xs miss in let other = miss_same q x xs far in omega (arith, rest, one, other))
        ]
      ]

  -- they keep the same, or the other keeps more
  pub same_or_more : (xs : List X) → AreSame xs ⊎ (kept p xs < kept q xs)
  same_or_more [] = inl (λ k x at. absurd (let f : ⊥ = cc in f))
  same_or_more (x ∷ xs) = elim (cases_Bool (p x)) [
    | inl hit ↦ (
        let one = hit_more p x xs hit in
        let other = hit_more q x xs (more x hit) in
        elim (same_or_more xs) [
          | inl same ↦ inl (same_more x xs (hit ∙ sym (more x hit)) same)
          | inr lt ↦ inr (omega (arith, lt, one, other))
        ])
    | inr miss ↦ elim (cases_Bool (q x)) [
      | inl hit ↦ (let one = miss_same p x xs miss in let other = hit_more q x xs hit in let rest = kept_past xs in inr (omega (arith, rest, one, other)))
      | inr far ↦ (
          let one = miss_same p x xs miss in
          let other = miss_same q x xs far in
          elim (same_or_more xs) [
            | inl same ↦ inl (same_more x xs (miss ∙ sym far) same)
            | inr lt ↦ inr (omega (arith, lt, one, other))
          ])
    ]
  ]

kept_within : {X : Type 0} (test : X → Bool) (xs : List X) → length (filter test xs) ≤ length xs
kept_within test [] = omega arith
kept_within test (x ∷ xs) =
    let rest = kept_within test xs in
    elim (cases_Bool (test x)) [
      | inl hit ↦ (let one = ap length (cond-true (test x) (x ∷ filter test xs) (filter test xs) hit) in omega (arith, rest, one))
      | inr miss ↦ (let one = ap length (cond-false (test x) (x ∷ filter test xs) (filter test xs) miss) in omega (arith, rest, one))
    ]

-- of tests, one a number, where each keeps what the one before it keeps: one keeps the same as the next one
module _ {X : Type 0} (test : ℕ → X → Bool) (more : (n : ℕ) (x : X) → test n x ≡ true → test (suc n) x ≡ true) (xs : List X) where
  abbrev IsSteady : ℕ → Type 0
  IsSteady n = (k : ℕ) (x : X) → slice_get xs k ≡ Some x → test n x ≡ test (suc n) x

  steady_from : (m n : ℕ) → length xs ≤ length (filter (test n) xs) + m → (k : ℕ) × IsSteady k
  steady_from zero n h = elim (same_or_more (test n) (test (suc n)) (more n) xs) [
    | inl same ↦ (n, same)
    | inr lt ↦ absurd (let within = kept_within (test (suc n)) xs in let f : ⊥ = omega (arith, h, lt, within) in f)
  ]
  steady_from (suc m) n h = elim (same_or_more (test n) (test (suc n)) (more n) xs) [
    | inl same ↦ (n, same)
    | inr lt ↦ steady_from m (suc n) (omega (arith, h, lt))
  ]

  steady : (k : ℕ) × IsSteady k
  steady = steady_from (length xs) 0 (omega arith)

-- two ends, where the first one is the second one if it is there
some_more : (o p : Option End) → ((e : End) → o ≡ Some e → p ≡ Some e) → is_some o ≡ true → is_some p ≡ true
some_more None p more h = absurd (let f : ⊥ = cc in f)
some_more (Some e) p more h = ap (λ (q : Option End). is_some q) (more e refl)

same_end : (o p : Option End) → ((e : End) → o ≡ Some e → p ≡ Some e) → is_some o ≡ is_some p → o ≡ p
same_end (Some e) p more same = sym (more e refl)
same_end None None more same = refl
same_end None (Some e) more same = absurd (let f : ⊥ = cc in f)

-- a name of a scope, and which scope that is
record Node : Type 0 where
  at : Address
  name : ScopeName

abbrev node : Address → ScopeName → Node
node s x = record { at = s; name = x }

meant_by : (f g : Address → Shape → Option End) → ((s : Address) (x : Shape) → f s x ≡ g s x) → (s : Address) (m : Option ScopeName) → meant_end f s m ≡ meant_end g s m
meant_by f g same s None = refl
meant_by f g same s (Some x) = named_by (f (unwrap_or (about_name x).from s)) (g (unwrap_or (about_name x).from s)) (same (unwrap_or (about_name x).from s)) s (local_name x) (about_name x).body.form (about_name x).body.parts

module _ (files : List PackageFile) where
  abbrev ends : ℕ → Address → Shape → Option End
  ends n = shape_end files n

  -- the names of all scopes of this package
  abbrev item_nodes : Item → List Node
  item_nodes i = map (node (address i)) (scope_names i)

  abbrev nodes : List Node
  nodes = flat_map item_nodes (all_scopes files)

  abbrev node_end : ℕ → Node → Option End
  node_end n v = meant_end (ends n) v.at (Some v.name)

  node_more : (n : ℕ) (v : Node) (e : End) → node_end n v ≡ Some e → node_end (suc n) v ≡ Some e
  node_more n v e h = meant_more files e (ends n) (ends (suc n)) (λ t x. steps_more files e n (suc n) (omega arith) t x) v.at (Some v.name) h

  abbrev has_end : ℕ → Node → Bool
  has_end n v = is_some (node_end n v)

  -- a name of a scope is one of those, or one of another package
  abbrev IsNode : Address → ScopeName → Type 0
  IsNode s x = Contains nodes (node s x) ⊎ ((attributes : List Attribute) × (id : Id) × (ForeignName attributes id ≡ x))

  node_of : (s : Address) (x : ScopeName) (o : Option Item) → item_at (all_scopes files) s ≡ o → Contains (option_map_or scope_names o []) x → IsNode s x
  node_of s x None at h = absurd (let k = at_contains [] x h in let wrong = k.1 in let f : ⊥ = cc in f)
  node_of s x (Some i) at h =
      let test = λ (v : Item). same_address (address v) s in
      let t = find_at test (all_scopes files) i at in
      let same = same_address-equal (address i) s (find_passes test (all_scopes files) i at) in
      let k = at_contains (scope_names i) x h in
      let own : slice_get (item_nodes i) k.0 ≡ Some (node (address i) x) = slice_get-map (node (address i)) (scope_names i) k.0 ∙ ap (option_map (node (address i))) k.1 in
      let it = flat_map_has item_nodes (all_scopes files) t.0 k.0 i (node (address i) x) t.1 own in
      inl (subst (λ (r : Address). Contains nodes (node r x)) same (contains_at nodes it.0 (node (address i) x) it.1))

  is_node : (s : Address) (x : ScopeName) → Contains (scope files s) x → IsNode s x
  is_node (InterfaceNamed name) x h = node_of (InterfaceNamed name) x (item_at (all_scopes files) (InterfaceNamed name)) refl h
  is_node (WorldNamed name) x h = node_of (WorldNamed name) x (item_at (all_scopes files) (WorldNamed name)) refl h
  is_node (InlineAt world side place) x h = node_of (InlineAt world side place) x (item_at (all_scopes files) (InlineAt world side place)) refl h
  is_node (ForeignNamed p name) x h =
      let s = ForeignNamed p name in
      let k = at_contains (scope files s) x h in
      let t = map_at (λ (t : ForeignUse). ForeignName t.attributes t.id) (filter (λ (t : ForeignUse). same_address t.from s) (first_foreign_uses files)) k.0 x k.1 in
      inr (t.0.attributes, t.0.id, t.2)

  foreign_same : (n m : ℕ) (s : Address) (attributes : List Attribute) (id : Id) → node_end n (node s (ForeignName attributes id)) ≡ node_end m (node s (ForeignName attributes id))
  foreign_same n m s attributes id = refl

  -- from some number of steps on, one step more changes nothing
  module _ (k : ℕ) (same : (j : ℕ) (v : Node) → slice_get nodes j ≡ Some v → has_end k v ≡ has_end (suc k) v) where
    node_same : (s : Address) (x : ScopeName) → IsNode s x → node_end k (node s x) ≡ node_end (suc k) (node s x)
    node_same s x (inl among) = (let j = at_contains nodes (node s x) among in same_end (node_end k (node s x)) (node_end (suc k) (node s x)) (node_more k (node s x)) (same j.0 (node s x) j.1))
    node_same s x (inr (attributes, id, is)) = subst (λ (y : ScopeName). node_end k (node s y) ≡ node_end (suc k) (node s y)) is (foreign_same k (suc k) s attributes id)

    meant_same : (s : Address) (name : List ℕ) (m : Option ScopeName) → meaning (scope files s) name ≡ m → meant_end (ends k) s m ≡ meant_end (ends (suc k)) s m
    meant_same s name None is = refl
    meant_same s name (Some x) is = node_same s x (is_node s x (find_among (λ (y : ScopeName). bytes_eq (local_name y) name) (scope files s) x is))

    first_same : (s : Address) (x : Shape) → ends (suc k) s x ≡ ends (suc (suc k)) s x
    first_same s (Word id) = meant_same s id.name.now (meaning (scope files s) id.name.now) refl
    first_same s (Prim p) = refl
    first_same s (Of span form parts) = refl

    next_same : (m : ℕ) → suc k ≤ m → (s : Address) (x : Shape) → ends m s x ≡ ends (suc m) s x
    next_same zero le s x = absurd (let f : ⊥ = omega (arith, le) in f)
    next_same (suc m) le s x = elim (cases_lt k m) [
      | inl lt ↦ by_step m (next_same m lt) s x
      | inr ge ↦ (let is : k ≡ m = omega (arith, le, ge) in subst (λ (n : ℕ). ends (suc n) s x ≡ ends (suc (suc n)) s x) is (first_same s x))
    ]
      where
        by_step : (m : ℕ) → ((s : Address) (x : Shape) → ends m s x ≡ ends (suc m) s x) → (s : Address) (x : Shape) → ends (suc m) s x ≡ ends (suc (suc m)) s x
        by_step m before s (Word id) = meant_by (ends m) (ends (suc m)) before s (meaning (scope files s) id.name.now)
        by_step m before s (Prim p) = refl
        by_step m before s (Of span form parts) = refl

    all_same : (m : ℕ) → suc k ≤ m → (s : Address) (x : Shape) → ends (suc k) s x ≡ ends m s x
    all_same zero le s x = absurd (let f : ⊥ = omega (arith, le) in f)
    all_same (suc m) le s x = elim (cases_lt k m) [
      | inl lt ↦ all_same m lt s x ∙ next_same m lt s x
      | inr ge ↦ (let is : k ≡ m = omega (arith, le, ge) in ap (λ (n : ℕ). ends (suc n) s x) is)
    ]

  pub enough : (k : ℕ) × ((m : ℕ) → k ≤ m → (s : Address) (x : Shape) → shape_end files k s x ≡ shape_end files m s x)
  enough =
      let it = steady has_end (λ n v h. some_more (node_end n v) (node_end (suc n) v) (node_more n v) h) nodes in
      (suc it.0, all_same it.0 it.1)
