-- Worked rows about interfaces that a world imports and exports by their paths.
use Rattle.std.proofs.Common.{◌≡◌, ℕ, zero, suc, true, false, List, [], ◌∷◌, map, Option, Some, None, refl, sym, ap, ◌∙◌, subst, lit<, take, Contains}
use Rattle.wit_arena.proofs.Common.{AllDiffer, Attribute, CrossedTwice, Exported, ExternKind, Fault, FoldedTwice, Global, Id, Imported, InterfaceMetadata, InterfaceNamed, IsBroken, IsBrokenMetadata, IsBrokenSides, IsLinkedTwice, Item, Link, LinkedTwice, PackageFile, SideItem, SideLink, Span, TheWorld, ToplevelUse, WorldSide, at_contains, bytes_eq, called_key, codes, differ_none, fault_in, interface_attributes, items_on, no_crossed, no_fold, path_scope, side_called, side_items, slice_get, top_names, unbroken_metadata}
use Rattle.wit_syntax.proofs.Common.{Interface as WrittenInterface, World as WrittenWorld, WorldItem}
use denote.RawPtr.{Ptr}
use Rattle.wit_tree.specs.declared.tree.UsePath.TheVariants as path
use Rattle.wit_tree.specs.declared.tree.ExternKind.TheVariants as extern
use Rattle.wit_tree.specs.declared.tree.WorldItem.TheVariants as world_item
use Rattle.wit_tree.specs.declared.tree.AstItem.TheVariants as ast
use Rattle.wit_meaning_examples.proofs.Examples.{at, id, vec, no_comments, unstated, header}
use Rattle.wit_meaning_examples.proofs.SideExamples.{no_rows, none_among, attributes_of}

-- two that differ
pub two_differ : {X : Type 0} (x y : X) → (x ≡ y → ⊥) → AllDiffer (x ∷ y ∷ [])
two_differ x y apart = record { differ = differ }
  where
    differ : (i j : ℕ) (z : _) → slice_get (x ∷ y ∷ []) i ≡ Some z → slice_get (x ∷ y ∷ []) j ≡ Some z → i ≡ j
    differ zero zero z at_i at_j = refl
    differ zero (suc zero) z at_i at_j = absurd (apart (let same : x ≡ y = cc in same))
    differ (suc zero) zero z at_i at_j = absurd (apart (let same : x ≡ y = cc in same))
    differ (suc zero) (suc zero) z at_i at_j = refl
    differ zero (suc (suc j)) z at_i at_j = absurd (let f : ⊥ = cc in f)
    differ (suc zero) (suc (suc j)) z at_i at_j = absurd (let f : ⊥ = cc in f)
    differ (suc (suc i)) j z at_i at_j = absurd (let f : ⊥ = cc in f)

-- one that has a name is not alone by its path
named : (x y : Link) (name : Id) → Some (SideLink x) ≡ Some (SideLink y) → x.name ≡ Some name → y.name ≡ None → ⊥
named x y name same has none =
    let one : x ≡ y = cc in
    let wrong : Some name ≡ None = sym has ∙ ap (λ (l : Link). l.name) one ∙ none in
    let f : ⊥ = cc in
    f

module _ (ptr : Ptr) (alloc : Global) where
  abbrev i_at : Span → Id
  i_at span = id ptr alloc (codes "i") span refl

  -- package foo:foo; interface i {}
  abbrev i : WrittenInterface
  i = record { docs = no_comments ptr alloc; attributes = unstated ptr alloc; name = i_at (at 27 28); items = vec ptr alloc [] (lit< tt) }

  abbrev extern_part : WorldSide → ExternKind → WorldItem
  extern_part side kind = world_item.Extern (record { side = side; docs = no_comments ptr alloc; attributes = unstated ptr alloc; kind = kind })

  abbrev link : WorldSide → Option Id → Id → Link
  link side name to = record { side = side; name = name; path = path.Id to; docs = no_comments ptr alloc; attributes = [] }

  -- use i as j; world w { import i; import j; }
  module _ where
    abbrev j_at : Span → Id
    j_at span = id ptr alloc (codes "j") span refl

    abbrev alias : ToplevelUse
    alias = record { attributes = unstated ptr alloc; span = at 32 35; item = path.Id (i_at (at 36 37)); as_ = Some (j_at (at 41 42)) }

    abbrev w : WrittenWorld
    w = record { docs = no_comments ptr alloc; attributes = unstated ptr alloc; name = id ptr alloc (codes "w") (at 50 51) refl; items = vec ptr alloc (extern_part Imported (extern.Path (path.Id (i_at (at 61 62)))) ∷ extern_part Imported (extern.Path (path.Id (j_at (at 71 72)))) ∷ []) (lit< tt) }

    abbrev file : PackageFile
    file = record { package_id = Some (header ptr alloc); decl_list = record { items = vec ptr alloc (ast.Interface i ∷ ast.Use alias ∷ ast.World w ∷ []) (lit< tt) } }

    abbrev item : Item
    item = record { top = top_names file; declared = TheWorld w }

    -- j leads to i
    leads_to_i : path_scope item.top (path.Id (j_at (at 71 72))) ≡ InterfaceNamed (codes "i")
    leads_to_i = refl

    -- so it is imported twice
    twice_refused : IsBroken (file ∷ []) (fault_in 43 (at 71 72) (codes "interface cannot be imported more than once"))
    twice_refused = LinkedTwice item (1, lit< tt, refl) (Imported, 1, link Imported None (i_at (at 61 62)), link Imported None (j_at (at 71 72)), (0, lit< tt, refl), refl, refl, refl, refl, refl, refl)

  -- world w { import i; import a: i; import b: i; export i; }
  module _ where
    abbrev a_id : Id
    a_id = id ptr alloc (codes "a") (at 59 60) refl

    abbrev b_id : Id
    b_id = id ptr alloc (codes "b") (at 72 73) refl

    abbrev several : WrittenWorld
    several = record { docs = no_comments ptr alloc; attributes = unstated ptr alloc; name = id ptr alloc (codes "w") (at 38 39) refl; items = vec ptr alloc (extern_part Imported (extern.Path (path.Id (i_at (at 49 50)))) ∷ extern_part Imported (extern.NamedPath a_id (path.Id (i_at (at 62 63)))) ∷ extern_part Imported (extern.NamedPath b_id (path.Id (i_at (at 75 76)))) ∷ extern_part Exported (extern.Path (path.Id (i_at (at 85 86)))) ∷ []) (lit< tt) }

    abbrev several_file : PackageFile
    several_file = record { package_id = Some (header ptr alloc); decl_list = record { items = vec ptr alloc (ast.Interface i ∷ ast.World several ∷ []) (lit< tt) } }

    abbrev several_item : Item
    several_item = record { top = top_names several_file; declared = TheWorld several }

    abbrev items : List SideItem
    items = side_items several_item

    -- two have names, on one side
    keys : (side : WorldSide) → AllDiffer (map called_key (side_called side [] (items_on side items) []))
    keys Imported = two_differ (codes "a") (codes "b") (λ same. (let wrong : true ≡ false = ap (bytes_eq (codes "a")) same in let f : ⊥ = cc in f))
    keys Exported = differ_none

    -- and one has none on each
    bare_alone : (side : WorldSide) (place : ℕ) (earlier own : Link) → Contains (take place (items_on side items)) (SideLink earlier) → slice_get (items_on side items) place ≡ Some (SideLink own) → own.name ≡ None → ⊥
    bare_alone Imported zero earlier own among here bare = none_among (SideLink earlier) among
    bare_alone Imported (suc zero) earlier own among here bare = named (link Imported (Some a_id) (i_at (at 62 63))) own a_id here refl bare
    bare_alone Imported (suc (suc zero)) earlier own among here bare = named (link Imported (Some b_id) (i_at (at 75 76))) own b_id here refl bare
    bare_alone Imported (suc (suc (suc place))) earlier own among here bare = let f : ⊥ = cc in f
    bare_alone Exported zero earlier own among here bare = none_among (SideLink earlier) among
    bare_alone Exported (suc place) earlier own among here bare = let f : ⊥ = cc in f

    unstated_link : (k : ℕ) (x : SideItem) → slice_get items k ≡ Some x → interface_attributes x ≡ []
    unstated_link zero x here = attributes_of (SideLink (link Imported None (i_at (at 49 50)))) x here refl
    unstated_link (suc zero) x here = attributes_of (SideLink (link Imported (Some a_id) (i_at (at 62 63)))) x here refl
    unstated_link (suc (suc zero)) x here = attributes_of (SideLink (link Imported (Some b_id) (i_at (at 75 76)))) x here refl
    unstated_link (suc (suc (suc zero))) x here = attributes_of (SideLink (link Exported None (i_at (at 85 86)))) x here refl
    unstated_link (suc (suc (suc (suc k)))) x here = absurd (let f : ⊥ = cc in f)

    sides_pass : (f : Fault) → IsBrokenSides several_item f → ⊥
    sides_pass f (FoldedTwice h) = no_fold [] items [] f no_rows keys h
    sides_pass f (CrossedTwice h) = no_crossed [] items [] f no_rows keys h
    sides_pass f (InterfaceMetadata x among h) =
        let it = at_contains items x among in
        unbroken_metadata f (subst (λ (l : List Attribute). IsBrokenMetadata l f) (unstated_link it.0 x it.1) h)

    links_pass : (f : Fault) → IsLinkedTwice (several_file ∷ []) several_item f → ⊥
    links_pass f h = bare_alone h.0 h.1 h.2 h.3 h.4 h.5 h.7
