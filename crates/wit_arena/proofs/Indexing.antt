-- Interfaces and worlds and their places by name, one more.
use Rattle.std.proofs.Common.{◌≡◌, ℕ, zero, suc, ◌≤◌, true, false, cond, List, [], ◌∷◌, ◌++◌, length, Some, IsSome, nat_eq, inl, inr, refl, sym, ap, ◌∙◌, subst, arith}
use Rattle.wit_arena.proofs.Names.{Address, Interface, InterfaceNamed, IsNameIndex, Names, ResolvedScope, World, WorldNamed, at_either, at_prefix, at_seam, env_of, insert_entry, interfaces_at, is_foreign, length-map, lookup-insert_entry, map, map-append, map_map, name_cases, name_itself, pointwise, resolved_scope, resolved_scope_at, resolved_scopes, slice_get, unwrap_or, worlds_at}
use Rattle.wit_arena.proofs.OneKind.{same_some}

-- what a name finds once another one was put into the table, and what that one finds
found_other : (by_name : Names) (name : List ℕ) (place : ℕ) (n : List ℕ) → pointwise nat_eq n name ≡ false → env_of (insert_entry (pointwise nat_eq) by_name name place) n ≡ env_of by_name n
found_other by_name name place n other = lookup-insert_entry by_name name n place ∙ ap (λ b. cond b (Some place) (env_of by_name n)) other

found_itself : (by_name : Names) (name : List ℕ) (place : ℕ) (n : List ℕ) → n ≡ name → env_of (insert_entry (pointwise nat_eq) by_name name place) n ≡ Some place
found_itself by_name name place n same = lookup-insert_entry by_name name n place ∙ ap (λ b. cond b (Some place) (env_of by_name n)) (ap (λ m. pointwise nat_eq m name) same ∙ name_itself name)

-- one address more, after the others
index_more : (called : List ℕ → Address) → ((a b : List ℕ) → called a ≡ called b → a ≡ b) → (ss : List Address) (by_name : Names) (name : List ℕ) → IsNameIndex called ss by_name → IsNameIndex called (ss ++ called name ∷ []) (insert_entry (pointwise nat_eq) by_name name (length ss))
index_more called one ss by_name name index = record {
  present = λ n t found. elim (name_cases n name) [
    | inl same ↦ (
        let at = same_some (sym found ∙ found_itself by_name name (length ss) n same) in
        ap (slice_get (ss ++ called name ∷ [])) at ∙ at_seam ss (called name) ∙ ap (λ m. Some (called m)) (sym same))
    | inr other ↦ at_prefix ss (called name ∷ []) t (called n) (index.present n t (sym (found_other by_name name (length ss) n other) ∙ found))
  ];
  has = λ t n at. elim (name_cases n name) [
    | inl same ↦ subst IsSome (sym (found_itself by_name name (length ss) n same)) refl
    | inr other ↦ elim (at_either ss (called name) t (called n) at) [
      | inl old ↦ subst IsSome (sym (found_other by_name name (length ss) n other)) (index.has t n old)
      | inr new ↦ cc (one n name new.1, name_itself name, other)
    ]
  ];
}

-- what is of other packages has no place by name
pub index_prefix : (called : List ℕ → Address) → ((name : List ℕ) → is_foreign (called name) ≡ false) → (ss : List Address) → ((t : ℕ) (s : Address) → slice_get ss t ≡ Some s → is_foreign s ≡ true) → IsNameIndex called ss []
index_prefix called own ss foreign = record {
  present = λ n t found. absurd (let f : ⊥ = cc in f);
  has = λ t n at. cc (foreign t (called n) at, own n);
}

-- interfaces after those of other packages
pub resolved_scopes-append : (ss : List Address) (prefix is : List Interface) → length prefix ≡ length ss → resolved_scopes ss (prefix ++ is) ≡ resolved_scopes ss prefix ++ map resolved_scope is
resolved_scopes-append [] [] is count = refl
resolved_scopes-append (s ∷ ss) (i ∷ prefix) is count = ap (λ l. resolved_scope_at s i ∷ l) (resolved_scopes-append ss prefix is (omega arith))
resolved_scopes-append ss prefix is count = absurd (omega arith)

resolved_scopes-more : (ss : List Address) (is : List Interface) (i : Interface) → length ss ≤ length is → resolved_scopes ss (is ++ i ∷ []) ≡ resolved_scopes ss is ++ resolved_scope i ∷ []
resolved_scopes-more [] is i enough = map-append resolved_scope is (i ∷ [])
resolved_scopes-more (s ∷ ss) [] i enough = absurd (let f : ⊥ = omega arith in f)
resolved_scopes-more (s ∷ ss) (j ∷ is) i enough = ap (λ l. resolved_scope_at s j ∷ l) (resolved_scopes-more ss is i (omega arith))

length-resolved_scopes : (ss : List Address) (is : List Interface) → length ss ≤ length is → length (resolved_scopes ss is) ≡ length is
length-resolved_scopes [] is enough = length-map is resolved_scope
length-resolved_scopes (s ∷ ss) [] enough = absurd (let f : ⊥ = omega arith in f)
length-resolved_scopes (s ∷ ss) (i ∷ is) enough = ap suc (length-resolved_scopes ss is (omega arith))

-- the addresses of interfaces: those of other packages, and then by their names
pub interfaces_at-append : (ss : List Address) (prefix is : List Interface) → length prefix ≡ length ss → interfaces_at ss (prefix ++ is) ≡ ss ++ map (λ (i : Interface). (resolved_scope i).address) is
interfaces_at-append [] [] is count = map_map (λ (c : ResolvedScope). c.address) resolved_scope is
interfaces_at-append (s ∷ ss) (i ∷ prefix) is count = ap (λ l. s ∷ l) (interfaces_at-append ss prefix is (omega arith))
interfaces_at-append ss prefix is count = absurd (omega arith)

-- the interface of a resolved scope in front, and its address
pub prefix_resolved_scope : (ss : List Address) (prefix : List Interface) (t : ℕ) (c : ResolvedScope) → length prefix ≡ length ss → slice_get (resolved_scopes ss prefix) t ≡ Some c → (s : Address) × (i : Interface) × (slice_get ss t ≡ Some s) × (slice_get prefix t ≡ Some i) × (c ≡ resolved_scope_at s i)
prefix_resolved_scope [] [] t c count at = absurd (let f : ⊥ = cc in f)
prefix_resolved_scope (s ∷ ss) (i ∷ prefix) zero c count at = (s, i, refl, refl, (let same : c ≡ resolved_scope_at s i = cc in same))
prefix_resolved_scope (s ∷ ss) (i ∷ prefix) (suc t) c count at = prefix_resolved_scope ss prefix t c (omega arith) at
prefix_resolved_scope ss prefix t c count at = absurd (omega arith)

-- one interface more, after those of other packages
pub index_interface : (ss : List Address) (is : List Interface) (by_name : Names) (i : Interface) (name : List ℕ) → length ss ≤ length is → IsNameIndex InterfaceNamed (interfaces_at ss is) by_name → i.name ≡ Some name → IsNameIndex InterfaceNamed (interfaces_at ss (is ++ i ∷ [])) (insert_entry (pointwise nat_eq) by_name name (length is))
index_interface ss is by_name i name enough index called =
    let here = λ (c : ResolvedScope). c.address in
    let more = index_more InterfaceNamed (λ a b same. (let it : a ≡ b = cc in it)) (interfaces_at ss is) by_name name index in
    let all : interfaces_at ss (is ++ i ∷ []) ≡ interfaces_at ss is ++ InterfaceNamed name ∷ [] = ap (map here) (resolved_scopes-more ss is i enough) ∙ map-append here (resolved_scopes ss is) (resolved_scope i ∷ []) ∙ ap (λ s. interfaces_at ss is ++ s ∷ []) (ap (λ n. InterfaceNamed (unwrap_or n [])) called) in
    let long : length (interfaces_at ss is) ≡ length is = length-map (resolved_scopes ss is) here ∙ length-resolved_scopes ss is enough in
    subst (λ (n : ℕ). IsNameIndex InterfaceNamed (interfaces_at ss (is ++ i ∷ [])) (insert_entry (pointwise nat_eq) by_name name n)) long (subst (λ (l : List Address). IsNameIndex InterfaceNamed l (insert_entry (pointwise nat_eq) by_name name (length (interfaces_at ss is)))) (sym all) more)

-- worlds after those of other packages
pub worlds_at-append : (ss : List Address) (prefix ws : List World) → length prefix ≡ length ss → worlds_at ss (prefix ++ ws) ≡ ss ++ map (λ (w : World). WorldNamed w.name) ws
worlds_at-append [] [] ws count = refl
worlds_at-append (s ∷ ss) (w ∷ prefix) ws count = ap (λ l. s ∷ l) (worlds_at-append ss prefix ws (omega arith))
worlds_at-append ss prefix ws count = absurd (omega arith)

worlds_at-more : (ss : List Address) (ws : List World) (w : World) → length ss ≤ length ws → worlds_at ss (ws ++ w ∷ []) ≡ worlds_at ss ws ++ WorldNamed w.name ∷ []
worlds_at-more [] ws w enough = map-append (λ (x : World). WorldNamed x.name) ws (w ∷ [])
worlds_at-more (s ∷ ss) [] w enough = absurd (let f : ⊥ = omega arith in f)
worlds_at-more (s ∷ ss) (v ∷ ws) w enough = ap (λ l. s ∷ l) (worlds_at-more ss ws w (omega arith))

length-worlds_at : (ss : List Address) (ws : List World) → length ss ≤ length ws → length (worlds_at ss ws) ≡ length ws
length-worlds_at [] ws enough = length-map ws (λ (x : World). WorldNamed x.name)
length-worlds_at (s ∷ ss) [] enough = absurd (let f : ⊥ = omega arith in f)
length-worlds_at (s ∷ ss) (w ∷ ws) enough = ap suc (length-worlds_at ss ws (omega arith))

-- one world more, after those of other packages
pub index_world : (ss : List Address) (ws : List World) (by_name : Names) (w : World) (name : List ℕ) → length ss ≤ length ws → IsNameIndex WorldNamed (worlds_at ss ws) by_name → w.name ≡ name → IsNameIndex WorldNamed (worlds_at ss (ws ++ w ∷ [])) (insert_entry (pointwise nat_eq) by_name name (length ws))
index_world ss ws by_name w name enough index called =
    let more = index_more WorldNamed (λ a b same. (let it : a ≡ b = cc in it)) (worlds_at ss ws) by_name name index in
    subst (λ (n : ℕ). IsNameIndex WorldNamed (worlds_at ss (ws ++ w ∷ [])) (insert_entry (pointwise nat_eq) by_name name n)) (length-worlds_at ss ws enough) (subst (λ (l : List Address). IsNameIndex WorldNamed l (insert_entry (pointwise nat_eq) by_name name (length (worlds_at ss ws)))) (sym (worlds_at-more ss ws w enough ∙ ap (λ n. worlds_at ss ws ++ WorldNamed n ∷ []) called)) more)
