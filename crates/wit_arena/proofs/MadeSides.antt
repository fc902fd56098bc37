-- What is on a side of a world.
use Rattle.std.proofs.Common.{◌≡◌, ℕ, Bool, true, false, cond, List, [], ◌∷◌, Some, None, refl, ap, ◌∙◌, ◌++◌}
use Rattle.wit_arena.proofs.Names.{Address, Function, Item, SideFunction, SideInline, SideItem, SideLink, SourceFunction, TopName, WorldItem, WorldKey, WorldSide, address, cons_option, entries_on, flat_map, inline_entry, link_item, path_scope, put_on, role_side, same_side, scope_place, side_entries, Id, Link, Option, function_item, import_types, slice_get}
use Rattle.wit_model.specs.declared.world.WorldKey.TheVariants as key
use Rattle.wit_model.specs.declared.world.WorldItem.TheVariants as item

abbrev Entry : Type 0
Entry = WorldKey × WorldItem

-- These are on a side, where these are the written ones, and these functions were made; the interfaces of the package have these addresses,
-- and those that are written there have those.
abbrev pub AreSideItems : List Address → List TopName → WorldSide → List SideItem → List Function → List Address → List (WorldKey × WorldItem) → Type 0
AreSideItems interfaces top side [] fs ss xs = xs ≡ []
AreSideItems interfaces top side (SideFunction fn ∷ written) (f ∷ fs) ss xs = (rest : List (WorldKey × WorldItem)) × (xs ≡ put_on side (role_side fn.role) (function_item f) rest) × AreSideItems interfaces top side written fs ss rest
AreSideItems interfaces top side (SideLink link ∷ written) fs ss xs = (place : ℕ) × (rest : List (WorldKey × WorldItem)) × (slice_get interfaces place ≡ Some (path_scope top link.path)) × (xs ≡ put_on side link.side (link_item link place) rest) × AreSideItems interfaces top side written fs ss rest
AreSideItems interfaces top side (SideInline x name items ∷ written) fs (s ∷ ss) xs = (place : ℕ) × (rest : List (WorldKey × WorldItem)) × (slice_get interfaces place ≡ Some s) × (xs ≡ put_on side x.side (inline_entry x name place) rest) × AreSideItems interfaces top side written fs ss rest
AreSideItems interfaces top side written fs ss xs = ⊥

-- what is put on a side is kept of what is stated with its side
pub put_kept : (side own : WorldSide) (x : Entry) (xs : List Entry) → put_on side own x xs ≡ cons_option (cond (same_side side own) (Some x) None) xs
put_kept side own x xs = kept (same_side side own)
  where
    kept : (b : Bool) → cond b (x ∷ xs) xs ≡ cons_option (cond b (Some x) None) xs
    kept true = refl
    kept false = refl

-- nothing that is stated of a side is a name of a type
module _ (function : SourceFunction → Function) (ss : List Address) (top : List TopName) (side : WorldSide) where
  kept_nothing : (own : WorldSide) (x : Entry) (xs : List Entry) → import_types x ≡ [] → flat_map import_types xs ≡ [] → flat_map import_types (cons_option (cond (same_side side own) (Some x) None) xs) ≡ []
  kept_nothing own x xs none rest = elim (same_side side own) as (λ b. flat_map import_types (cons_option (cond b (Some x) None) xs) ≡ []) [ true ↦ ap (λ (l : List (List ℕ × ℕ)). l ++ flat_map import_types xs) none ∙ rest | false ↦ rest ]

  link_nothing : (name : Option Id) (l : Link) (place : ℕ) → l.name ≡ name → import_types (link_item l place) ≡ []
  link_nothing None l place is = rw is refl
  link_nothing (Some id) l place is = rw is refl

  pub entries_types : (written : List SideItem) (is : List Item) → flat_map import_types (entries_on side (side_entries function ss top written is)) ≡ []
  entries_types [] is = refl
  entries_types (SideFunction fn ∷ written) is = kept_nothing (role_side fn.role) (key.Name fn.name, item.Function (function fn)) (entries_on side (side_entries function ss top written is)) refl (entries_types written is)
  entries_types (SideLink link ∷ written) is = kept_nothing link.side (link_item link (scope_place ss (path_scope top link.path))) (entries_on side (side_entries function ss top written is)) (link_nothing link.name link (scope_place ss (path_scope top link.path)) refl) (entries_types written is)
  entries_types (SideInline x name items ∷ written) [] = entries_types written []
  entries_types (SideInline x name items ∷ written) (i ∷ is) = kept_nothing x.side (inline_entry x name (scope_place ss (address i))) (entries_on side (side_entries function ss top written is)) refl (entries_types written is)
