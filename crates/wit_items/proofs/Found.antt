-- Items of an arena that are found by their names, with one more, and the scopes of interfaces and the addresses of worlds.
use Rattle.std.proofs.Common.{◌≡◌, ◌<◌, ◌≤◌, ℕ, zero, suc, true, cond, List, [], ◌∷◌, ◌++◌, length, Result, Ok, Err, Option, Some, inl, inr, refl, sym, ap, ◌∙◌, subst, nat_eq, arith}
use Rattle.wit_arena.proofs.Common.{Address, Interface, InterfaceNamed, Names, OnErr, OnOk, PackageFile, World, WorldNamed, at_prefix, at_seam, env_of, insert_entry, length-append, lookup-insert_entry, name_cases, name_itself, option_and_then, option_map, pointwise, resolved_scope, resolved_scope_at, resolved_scopes, slice_get, slice_get-map, slice_get_within, unwrap_or, worlds_at}
use Rattle.wit_items.specs.ItemPaths.{AreFound, prefix_of}
use Rattle.wit_items.specs.BorrowedItems.{others_of}
use Rattle.wit_items.specs.ResolvedInterfaces.{source_place}
use Rattle.wit_items.specs.declared.interfaces.Interfaces.{Interfaces}
use Rattle.wit_scopes.specs.BorrowedNames.{IsPlaced}
use Rattle.wit_scopes.specs.declared.scope_name.Source.{Source}
use Rattle.wit_scopes.specs.declared.scope_name.Source.TheVariants as source

module _ {X : Type 0} (called : X → Option (List ℕ)) where
  -- what is at a place, where that has a name
  pub named_at : (xs : List X) (t : ℕ) (name : List ℕ) → option_and_then called (slice_get xs t) ≡ Some name → (x : X) × (slice_get xs t ≡ Some x) × (called x ≡ Some name)
  named_at [] t name at = absurd (let f : ⊥ = cc in f)
  named_at (x ∷ xs) zero name at = (x, refl, at)
  named_at (x ∷ xs) (suc t) name at = named_at xs t name at

  -- it is there among more
  at_more : (xs more : List X) (t : ℕ) (name : List ℕ) → option_and_then called (slice_get xs t) ≡ Some name → option_and_then called (slice_get (xs ++ more) t) ≡ Some name
  at_more xs more t name at =
      let x = named_at xs t name at in
      ap (option_and_then called) (at_prefix xs more t x.0 x.1) ∙ x.2

  -- no name, nothing found
  pub found_none : (count : ℕ) (xs : List X) (by_name : Names) → by_name ≡ [] → AreFound called count xs by_name
  found_none count xs by_name none = subst (AreFound called count xs) (sym none) (λ n t here. absurd (let f : ⊥ = cc in f))

  -- more of them, and no more names
  pub found_wider : (count : ℕ) (xs more : List X) (by_name : Names) → AreFound called count xs by_name → AreFound called count (xs ++ more) by_name
  found_wider count xs more by_name found = λ n t here. ((found n t here).0, at_more xs more t n (found n t here).1)

  -- one more, and its name
  found_more : (count : ℕ) (xs : List X) (by_name : Names) (x : X) (name : List ℕ) → count ≤ length xs → AreFound called count xs by_name → called x ≡ Some name → AreFound called count (xs ++ x ∷ []) (insert_entry (pointwise nat_eq) by_name name (length xs))
  found_more count xs by_name x name enough found is = λ n t here.
      let said : cond (pointwise nat_eq n name) (Some (length xs)) (env_of by_name n) ≡ Some t = sym (lookup-insert_entry by_name name n (length xs)) ∙ here in
      elim (name_cases n name) [
        | inl same ↦ (
            let hit : pointwise nat_eq n name ≡ true = ap (λ m. pointwise nat_eq m name) same ∙ name_itself name in
            let both : Some (length xs) ≡ Some t = sym (ap (λ b. cond b (Some (length xs)) (env_of by_name n)) hit) ∙ said in
            let at : length xs ≡ t = cc in
            let last : option_and_then called (slice_get (xs ++ x ∷ []) (length xs)) ≡ Some n = ap (option_and_then called) (at_seam xs x) ∙ is ∙ ap Some (sym same) in
            (subst (λ (k : ℕ). count ≤ k) at enough, subst (λ (k : ℕ). option_and_then called (slice_get (xs ++ x ∷ []) k) ≡ Some n) at last))
        | inr other ↦ (
            let was = found n t (sym (ap (λ b. cond b (Some (length xs)) (env_of by_name n)) other) ∙ said) in
            (was.0, at_more xs (x ∷ []) t n was.1))
      ]

  -- one more, where its name may have been refused
  pub found_put : {Y E : Type 0} (r : Result Y E) (count : ℕ) (xs : List X) (by_name now : Names) (x : X) (name : List ℕ) → count ≤ length xs → AreFound called count xs by_name → called x ≡ Some name → OnOk r (now ≡ insert_entry (pointwise nat_eq) by_name name (length xs)) → OnErr r (now ≡ by_name) → AreFound called count (xs ++ x ∷ []) now
  found_put (Ok y) count xs by_name now x name enough found is put kept = subst (AreFound called count (xs ++ x ∷ [])) (sym put) (found_more count xs by_name x name enough found is)
  found_put (Err e) count xs by_name now x name enough found is put kept = subst (AreFound called count (xs ++ x ∷ [])) (sym kept) (found_wider count xs (x ∷ []) by_name found)

-- more of them
pub prefix_wider : {X : Type 0} (count : ℕ) (xs more : List X) → count ≤ length xs → count ≤ length (xs ++ more)
prefix_wider count xs more enough = omega (arith, length-append xs more)

-- the scope of an interface that is after those at these addresses
pub found_resolved_scope : (ss : List Address) (is : List Interface) (t : ℕ) (name : List ℕ) → length ss ≤ t → option_and_then (λ (i : Interface). i.name) (slice_get is t) ≡ Some name → (i : Interface) × (slice_get is t ≡ Some i) × (slice_get (resolved_scopes ss is) t ≡ Some (resolved_scope_at (InterfaceNamed name) i))
found_resolved_scope [] is t name enough at =
    let i = named_at (λ (i : Interface). i.name) is t name at in
    (i.0, i.1, slice_get-map resolved_scope is t ∙ ap (option_map resolved_scope) i.1 ∙ ap (λ (n : Option (List ℕ)). Some (resolved_scope_at (InterfaceNamed (unwrap_or n [])) i.0)) i.2)
found_resolved_scope (s ∷ ss) [] t name enough at = absurd (let f : ⊥ = cc in f)
found_resolved_scope (s ∷ ss) (j ∷ is) zero name enough at = absurd (let f : ⊥ = omega arith in f)
found_resolved_scope (s ∷ ss) (j ∷ is) (suc t) name enough at = found_resolved_scope ss is t name (omega arith) at

-- the address of a world that is after those at these addresses
found_place : (ss : List Address) (ws : List World) (t : ℕ) (name : List ℕ) → length ss ≤ t → option_and_then (λ (w : World). Some w.name) (slice_get ws t) ≡ Some name → slice_get (worlds_at ss ws) t ≡ Some (WorldNamed name)
found_place [] ws t name enough at =
    let w = named_at (λ (w : World). Some w.name) ws t name at in
    slice_get-map (λ (x : World). WorldNamed x.name) ws t ∙ ap (option_map (λ (x : World). WorldNamed x.name)) w.1 ∙ ap (option_map WorldNamed) w.2
found_place (s ∷ ss) [] t name enough at = absurd (let f : ⊥ = cc in f)
found_place (s ∷ ss) (w ∷ ws) zero name enough at = absurd (let f : ⊥ = omega arith in f)
found_place (s ∷ ss) (w ∷ ws) (suc t) name enough at = found_place ss ws t name (omega arith) at

-- who is found has its address after those of other packages
pub worlds_found : (files : List PackageFile) (ws : List World) (by_name : Names) → AreFound (λ (w : World). Some w.name) (length (others_of files)) ws by_name → (name : List ℕ) (t : ℕ) → env_of by_name name ≡ Some t → slice_get (worlds_at (others_of files) ws) t ≡ Some (WorldNamed name)
worlds_found files ws by_name found name t here =
    let says = found name t here in
    found_place (others_of files) ws t name says.0 says.1

-- an interface that goes by a name is one of all
pub named_within : (count : ℕ) (is : List Interface) (by_name : Names) (name : List ℕ) (t : ℕ) → AreFound (λ (i : Interface). i.name) count is by_name → env_of by_name name ≡ Some t → t < length is
named_within count is by_name name t found here =
    let i = named_at (λ (i : Interface). i.name) is t name (found name t here).1 in
    slice_get_within is t i.0 i.1

-- so is one of another package
pub prefix_within : (ss : List Address) (is : List Interface) (t : ℕ) (s : Address) → length ss ≤ length is → slice_get ss t ≡ Some s → t < length is
prefix_within ss is t s enough at =
    let lt = slice_get_within ss t s at in
    omega arith

-- so is one that is borrowed, if it is resolved
pub source_within : (is : Interfaces) (s : Source) (id : ℕ) → IsPlaced (prefix_of is.files) s → source_place is.by_name s ≡ Some id → id < length is.arena
source_within is (source.Declared path) id placed at = named_within (length (prefix_of is.files)) is.arena is.by_name path.name.now id is.found at
source_within is (source.Foreign place of name) id placed at =
    let same : place ≡ id = cc in
    subst (λ (k : ℕ). k < length is.arena) same (prefix_within (prefix_of is.files) is.arena place _ is.prefix placed)
