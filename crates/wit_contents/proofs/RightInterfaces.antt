-- The walk's fault of each interface is what is found of it, where its uses are as walked and the walk's test of names in handles is right, as it is once those before it are resolved.
use Rattle.std.proofs.Common.{◌≡◌, ◌⊎◌, ◌++◌, ℕ, false, List, map, take, Option, Some, Contains, inl, inr, sym, ap, ◌∙◌, subst, not, length, None}
use Rattle.wit_contents.proofs.Names.{Address, AllDiffer, AreNamesPlaced, AreUsableUses, Attribute, Borrowed, EndsInTurn, Fault, Id, Interface, InterfaceNamed, Interfaces, IsForeignUse, IsLent, IsNameIndex, IsOutcome, IsResolvedUse, IsRightOf, Item as BorrowedItem, ItemScope, Known, Outcome, PackageFile, ResolvedScope, Row, ScopeName, TypeDef, UseName, Used, UsedName, address, all_items, are_interfaces, are_worlds, contains_at, contents_fault, earliest, flat_map, handle_fault, in_order, interface_fault, interfaces_at, interfaces_sort, is_world, item_name, kept_early, name_view, names_of, option_map, own_use, prefix_of, resolved_scopes, resolved_scopes_of, rows_of, scope_faults, scope_names, slice_get, slice_get-map, source_view, use_view, used, used_before, uses_viewed, worlds_sort, IsReady, IsRight, Making, distinct_items, item_view, uses_usable}
use Rattle.wit_arena.proofs.Common.{Item}
use Rattle.wit_walk.proofs.Common.{used_at}
use Rattle.wit_types.specs.declared.types.TypeOwner.TheVariants as owner
use Rattle.wit_items.proofs.Common.{ordered_fault}
use Rattle.wit_scopes.proofs.Placed.{uses_placed}
use Rattle.wit_contents.proofs.Ends.{interface_ends}
use Rattle.wit_contents.proofs.Walked.{AreAsWalked, interface_walked}
use Rattle.wit_contents.proofs.PathsWalked.{uses_as_walked}
use Rattle.wit_contents.specs.Making.{IsBegun}
use Rattle.wit_contents.proofs.ResolvedItems.{HasInterfaces, IsAt, interfaces_in, next_kept, worlds_in}

-- a borrowed name that is used is among those of its scope, and placed where they are
pub borrowed_uses : (names : List Borrowed) (xs : List ScopeName) → map name_view names ≡ xs → (k : ℕ) (u : UsedName) → slice_get (flat_map own_use names) k ≡ Some u → Contains xs (use_view u)
borrowed_uses names xs same k u at =
    let seen : slice_get (used (map name_view names)) k ≡ Some (use_view u) = ap (λ (l : List ScopeName). slice_get l k) (sym (uses_viewed names)) ∙ slice_get-map use_view (flat_map own_use names) k ∙ ap (option_map use_view) at in
    let p = used_at (map name_view names) k (use_view u) seen in
    subst (λ (l : List ScopeName). Contains l (use_view u)) same (contains_at (map name_view names) p.0 (use_view u) p.1)

module _ (files : List PackageFile) (known : Known) (outcomes : (rs : List Row) → IsOutcome rs (known.outcome rs)) (inside : Item → Option Fault) (is : Interfaces) (old : List TypeDef) (place : ℕ) (w : Item) (sort : is_world w ≡ false) (walked : (s : ItemScope) → IsLent s is.files w → AreAsWalked files is (flat_map own_use s.names.now)) (ends : EndsInTurn (resolved_scopes_of is) (owner.Interface place) old (scope_names w) (known.outcome (rows_of (scope_names w))) (handle_fault files known.steps (address w))) where
  abbrev handle : Id → Option Fault
  handle = handle_fault files known.steps (address w)

  abbrev outcome : Outcome
  outcome = known.outcome (rows_of (scope_names w))

  module _ (s : ItemScope) (lent : IsLent s is.files w) where
    right : IsOutcome (rows_of (names_of s)) outcome
    right = subst (λ (xs : List ScopeName). IsOutcome (rows_of xs) outcome) (sym lent.named) (outcomes (rows_of (scope_names w)))

    -- what is said by tables is said by files
    by_files : interface_fault is s outcome handle ≡ ordered_fault files known inside w
    by_files =
        ap (λ (v : Item). interface_fault is s outcome (handle_fault files known.steps (address v))) (sym lent.item)
        ∙ interface_walked files known.steps inside is s outcome (ap is_world lent.item ∙ sort) (lent.named ∙ ap scope_names (sym lent.item)) (walked s lent)
        ∙ ap (λ (v : Item). earliest (scope_faults files known.steps inside v outcome)) lent.item

  -- so a test by files is right of an interface
  pub right_interface : IsRightOf (ordered_fault files known inside) is old place w
  right_interface = record { outcome = outcome; handle = handle; right = outcomes (rows_of (scope_names w)); ends = ends; says = λ s lent. sym (by_files s lent) }

-- the interface that comes next
module _ (start : Making) (begun : IsBegun start) (items : List BorrowedItem) (places : List ℕ) (r : IsReady start.resolved.interfaces.files items places) (count : ℕ) (i : BorrowedItem) (x : IsAt start.resolved.interfaces.files places count i) (sort : is_world (item_view i) ≡ false) (now : Making) (h : HasInterfaces start.resolved.interfaces.files places start (interfaces_in start.resolved.interfaces.files (take count places)) now.resolved.interfaces now.growing) (known : Known) (right : IsRight start.resolved.interfaces.files known) where
  abbrev files : List PackageFile
  files = start.resolved.interfaces.files

  abbrev prefix : List Interface
  prefix = start.resolved.interfaces.arena

  abbrev is : Interfaces
  is = now.resolved.interfaces

  abbrev w : Item
  w = item_view i

  abbrev distinct : AllDiffer (map item_name (all_items files))
  distinct = distinct_items files r.unbroken

  abbrev uses : AreUsableUses files (all_items files)
  uses = uses_usable files r.uses

  abbrev vs : List Item
  vs = interfaces_in files (take count places)

  same_scopes : resolved_scopes_of is ≡ resolved_scopes (prefix_of files) (prefix ++ h.own)
  same_scopes = ap (λ (fs : List PackageFile). resolved_scopes (prefix_of fs) is.arena) h.same ∙ ap (resolved_scopes (prefix_of files)) h.arena

  -- what it uses from comes before it, or is of another package
  earlier : (from : Address) (attributes : List Attribute) (n : UseName) → Contains (scope_names w) (Used from attributes n) → IsResolvedUse files places r.order distinct vs from ⊎ IsForeignUse files from n
  earlier from attributes n among = elim (used_before files uses distinct places r.order count x.place w from attributes n sort x.next x.at among) [
    | inl b ↦ (
        let it = kept_early (λ (i : Item). not (is_world i)) (all_items files) places count b.index b.own.place b.own.item b.before b.at b.own.at (ap not b.own.sort) in
        inl (record { place = it.0; item = b.own.item; at = it.1; sort = b.own.sort; is = b.own.is }))
    | inr b ↦ inr b
  ]

  walked : (s : ItemScope) → IsLent s is.files w → AreAsWalked files is (flat_map own_use s.names.now)
  walked s lent =
      let placed : AreNamesPlaced (prefix_of files) s.names.now = subst (λ (fs : List PackageFile). AreNamesPlaced (prefix_of fs) s.names.now) h.same lent.placed in
      let indexed : IsNameIndex InterfaceNamed (interfaces_at (prefix_of files) (prefix ++ h.own)) is.by_name = subst (λ (cs : List ResolvedScope). IsNameIndex InterfaceNamed (map (λ (c : ResolvedScope). c.address) cs) is.by_name) same_scopes h.index in
      uses_as_walked files places r.order distinct uses start.growing.types prefix start.resolved.worlds begun.foreign vs now.growing.types h.own now.growing.required.items h.done is h.same h.arena indexed (flat_map own_use s.names.now) (uses_placed (prefix_of files) s.names.now placed) (λ k u at. earlier (source_view u.from) u.attributes.now u.name.now (borrowed_uses s.names.now (scope_names w) lent.named k u at))

  abbrev Ends : List ResolvedScope → List Interface → Type 0
  Ends cs l = EndsInTurn cs (owner.Interface (length l)) now.growing.types (scope_names w) (known.outcome (rows_of (scope_names w))) (handle_fault files known.steps (address w))

  ends : Ends (resolved_scopes_of is) is.arena
  ends = subst (Ends (resolved_scopes_of is)) (sym h.arena) (subst (λ (cs : List ResolvedScope). Ends cs (prefix ++ h.own)) (sym same_scopes)
      (interface_ends files (interfaces_in files places) (worlds_in files places) (interfaces_sort (in_order (all_items files) places)) (worlds_sort (in_order (all_items files) places)) (are_interfaces files places r.order distinct) (are_worlds files places r.order distinct) uses start.growing.types prefix start.resolved.worlds begun.foreign vs now.growing.types h.own now.growing.required.items w (next_kept (λ v. not (is_world v)) (all_items files) places count x.place w x.next x.at (ap not sort)) h.done (known.outcome (rows_of (scope_names w))) (right.outcomes (rows_of (scope_names w))) known.steps (right.enough (address w))))

  -- a test by files is right of it
  pub right_next : IsRightOf (contents_fault files known) is now.growing.types (length is.arena) w
  right_next = right_interface files known right.outcomes (ordered_fault files known (λ (v : Item). None)) is now.growing.types (length is.arena) w sort walked ends
