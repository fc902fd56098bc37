-- Names of scopes, and the interfaces of other packages at their places.
use Rattle.std.proofs.Common.{◌≡◌, List, [], ◌∷◌, ◌++◌, refl, inl, inr, sym, subst}
use Rattle.wit_arena.proofs.Common.{Address, All, All-push, InterfaceNamed, target_scope, All-nil, Exported, Imported, WorldSide, PackageFile, at_either}
use Rattle.wit_scopes.specs.declared.scope_name.Source.{Source}
use Rattle.wit_scopes.specs.BorrowedNames.{source_view, AreNamesPlaced}
use Rattle.wit_items.specs.ItemPaths.{source_target}
use Rattle.wit_items.specs.declared.items.Item.{Item}
use Rattle.wit_items.specs.BorrowedItems.{inside_of, ArePlacedInside, AreItemsOf, IsItemOf}
use Rattle.wit_scopes.specs.declared.scope_name.Source.TheVariants as source

pub no_names : (prefix : List Address) → AreNamesPlaced prefix []
no_names prefix = record { each = λ k x at. absurd (let f : ⊥ = cc in f) }

-- the scope of an interface that is borrowed is what it is looked for by
pub source_seen : (s : Source) → source_view s ≡ target_scope InterfaceNamed (source_target s)
source_seen (source.Declared id) = refl
source_seen (source.Foreign place of name) = refl

-- what holds of each of a list holds of one more
pub all_more : {X : Type 0} (P : X → Type 0) (xs ys : List X) (x : X) → ys ≡ xs ++ x ∷ [] → All P xs → P x → All P ys
all_more P xs ys x extended before one = rw extended (All-push P xs x before one)

-- Names of what is written in an item, and the interfaces of other packages at their places.
-- on either side
pub placed_inside : (prefix : List Address) (x : Item) → ArePlacedInside prefix x.imported.items → ArePlacedInside prefix x.exported.items → (side : WorldSide) → ArePlacedInside prefix (inside_of side x)
placed_inside prefix x imported exported Imported = imported
placed_inside prefix x imported exported Exported = exported

-- what holds of each of none
pub none_all : {X : Type 0} (P : X → Type 0) (xs : List X) → xs ≡ [] → All P xs
none_all P xs none = rw none (All-nil P)

-- Declared items that are borrowed with all their names, one more.
pub items_none : (files : List PackageFile) → AreItemsOf files []
items_none files = record { each = λ k i at. absurd (let f : ⊥ = cc in f) }

pub items_more : (files : List PackageFile) (items new : List Item) (x : Item) → new ≡ items ++ x ∷ [] → AreItemsOf files items → IsItemOf files x → AreItemsOf files new
items_more files items new x extended before one = rw extended (record {
  each = λ k i at. elim (at_either items x k i at) [
    | inl early ↦ before.each k i early
    | inr last ↦ subst (IsItemOf files) (sym last.1) one
  ];
})
