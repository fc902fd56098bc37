-- Worked rows in which a path means the first item of a name alone: what a later one has breaks no rule of used names, of handles or of paths.
use Rattle.std.proofs.Common.{◌≡◌, ℕ, ◌<◌, ◌^◌, zero, suc, Bool, true, false, List, [], ◌∷◌, length, Some, None, refl, sym, ap, ◌∙◌, lit<}
use Rattle.wit_syntax.proofs.Common.{AstItem, Interface, Use as WrittenUse, World, WorldItem}
use Rattle.wit_arena.proofs.Common.{Declared, Elsewhere, EndsAt, Exported, Fault, Global, Id, Imported, InterfaceItem as Part, InterfaceNamed, IsBroken, IsLinkedTwice, Item, Link, NamedFunc, PackageFile, Plain, Resource, ScopeName, SideLink, Span, TheInline, TheInterface, TheWorld, TopName, WorldSide, WorldUsed, about, about_name, address, all_items, codes, fault_in, is_world, is_world_at, item_name, item_named, items_on, leads, map, nat_eq, option_map, scope, scope_names, side_items, slice_get, top_names}
use Rattle.wit_syntax.specs.Broken.{Use}
use denote.RawPtr.{Ptr}
use Rattle.wit_type_tree.specs.declared.types.FuncForm.TheVariants as form
use Rattle.wit_type_tree.specs.declared.types.Primitive.TheVariants as primitive
use Rattle.wit_type_tree.specs.declared.types.«Type».TheVariants as written
use Rattle.wit_tree.specs.declared.tree.UsePath.TheVariants as path
use Rattle.wit_tree.specs.declared.tree.ExternKind.TheVariants as extern
use Rattle.wit_tree.specs.declared.tree.InterfaceItem.TheVariants as interface_item
use Rattle.wit_tree.specs.declared.tree.WorldItem.TheVariants as world_item
use Rattle.wit_tree.specs.declared.tree.AstItem.TheVariants as ast
use Rattle.wit_meaning_examples.proofs.Examples.{at, id, vec, no_comments, unstated, header}

-- whether the first of some spans starts there
abbrev starts_at : ℕ → List Span → Bool
starts_at start [] = false
starts_at start (s ∷ spans) = nat_eq s.start start

-- where the first item of a name is a world, no name is used from an interface of that name
world_hides : (files : List PackageFile) (name : List ℕ) → option_map is_world (item_named (all_items files) name) ≡ Some true → (target : Item) → InterfaceNamed name ≡ address target → item_named (all_items files) (item_name target) ≡ Some target → ⊥
world_hides files name world target here first = by target.top target.declared here first
  where
    by : (top : List TopName) (d : Declared) → InterfaceNamed name ≡ (about d).address → item_named (all_items files) (about d).id.name.now ≡ Some (record { top = top; declared = d }) → ⊥
    by top (TheInterface i) here first =
        let same : name ≡ i.name.name.now = cc in
        let wrong : Some true ≡ Some false = sym world ∙ ap (λ (n : List ℕ). option_map is_world (item_named (all_items files) n)) same ∙ ap (option_map is_world) first in
        let f : ⊥ = cc in
        f
    by top (TheWorld w) here first = let f : ⊥ = cc in f
    by top (TheInline outer place x own items) here first = let f : ⊥ = cc in f

module _ (ptr : Ptr) (alloc : Global) where
  abbrev x_at : Span → Id
  x_at span = id ptr alloc (codes "x") span refl

  abbrev v_at : Span → Id
  v_at span = id ptr alloc (codes "v") span refl

  abbrev t_at : Span → Id
  t_at span = id ptr alloc (codes "t") span refl

  abbrev interface : Id → (parts : List Part) → length parts < 2 ^ 63 → Interface
  interface name parts small = record { docs = no_comments ptr alloc; attributes = unstated ptr alloc; name = name; items = vec ptr alloc parts small }

  abbrev world : Id → (parts : List WorldItem) → length parts < 2 ^ 63 → World
  world name parts small = record { docs = no_comments ptr alloc; attributes = unstated ptr alloc; name = name; items = vec ptr alloc parts small }

  abbrev file_of : (declared : List AstItem) → length declared < 2 ^ 63 → PackageFile
  file_of declared small = record { package_id = Some (header ptr alloc); decl_list = record { items = vec ptr alloc declared small } }

  -- package foo:foo; world x {} interface x {} interface i { use x.{t}; }
  module _ where
    abbrev use_x : WrittenUse
    use_x = record { attributes = unstated ptr alloc; from = path.Id (x_at (at 61 62)); names = vec ptr alloc (record { name = t_at (at 64 65); as_ = None } ∷ []) (lit< tt) }

    abbrev i : Interface
    i = interface (id ptr alloc (codes "i") (at 53 54) refl) (interface_item.Use use_x ∷ []) (lit< tt)

    abbrev file : PackageFile
    file = file_of (ast.World (world (x_at (at 23 24)) [] (lit< tt)) ∷ ast.Interface (interface (x_at (at 38 39)) [] (lit< tt)) ∷ ast.Interface i ∷ []) (lit< tt)

    abbrev item : Item
    item = record { top = top_names file; declared = TheInterface i }

    -- i uses from a world
    used_refused : IsBroken (file ∷ []) (fault_in 10 (at 61 62) (codes "name `x` is defined as a world, not an interface"))
    used_refused = Use item (2, lit< tt, refl) (WorldUsed (path.Id (x_at (at 61 62))) (0, lit< tt, refl) refl refl)

    -- so the interface of that name lacks no name for it
    none_missing : (target : Item) → InterfaceNamed (codes "x") ≡ address target → item_named (all_items (file ∷ [])) (item_name target) ≡ Some target → ⊥
    none_missing target here first = world_hides (file ∷ []) (codes "x") refl target here first

  -- package foo:foo; interface x { type t = u8; } interface x { resource t; f: func(a: borrow<t>); }
  module _ where
    abbrev plain : Interface
    plain = interface (x_at (at 27 28)) (interface_item.TypeDef (record { docs = no_comments ptr alloc; attributes = unstated ptr alloc; name = t_at (at 36 37); body = Plain (written.Primitive (at 40 42) primitive.U8) }) ∷ []) (lit< tt)

    abbrev f : NamedFunc
    f = record {
      docs = no_comments ptr alloc;
      attributes = unstated ptr alloc;
      name = id ptr alloc (codes "f") (at 72 73) refl;
      func = record { span = at 75 79; form = form.Plain; params = vec ptr alloc (record { name = id ptr alloc (codes "a") (at 80 81) refl; ty = written.Borrow (at 83 89) (t_at (at 90 91)) } ∷ []) (lit< tt); result = None };
    }

    abbrev lender : Interface
    lender = interface (x_at (at 56 57)) (interface_item.TypeDef (record { docs = no_comments ptr alloc; attributes = unstated ptr alloc; name = t_at (at 69 70); body = Resource (vec ptr alloc [] (lit< tt)) }) ∷ interface_item.Func f ∷ []) (lit< tt)

    abbrev twins : PackageFile
    twins = file_of (ast.Interface plain ∷ ast.Interface lender ∷ []) (lit< tt)

    abbrev lender_item : Item
    lender_item = record { top = top_names twins; declared = TheInterface lender }

    -- at their address t is the first one's
    first_ends : EndsAt (twins ∷ []) (InterfaceNamed (codes "x")) (t_at (at 90 91)) Elsewhere
    first_ends = (2, refl)

    -- which is not the t of the second
    not_its : scope (twins ∷ []) (address lender_item) ≡ scope_names lender_item → ⊥
    not_its same =
        let spans : at 36 37 ∷ [] ≡ at 69 70 ∷ [] = ap (map (λ (x : ScopeName). (about_name x).span)) same in
        let wrong : true ≡ false = ap (λ (l : List Span). starts_at 36 l) spans in
        let g : ⊥ = cc in
        g

  -- package foo:foo; world v {} world w { import v; import v; }
  module _ where
    abbrev importing : Span → WorldItem
    importing span = world_item.Extern (record { side = Imported; docs = no_comments ptr alloc; attributes = unstated ptr alloc; kind = extern.Path (path.Id (v_at span)) })

    abbrev w : World
    w = world (id ptr alloc (codes "w") (at 34 35) refl) (importing (at 45 46) ∷ importing (at 55 56) ∷ []) (lit< tt)

    abbrev worlds : PackageFile
    worlds = file_of (ast.World (world (v_at (at 23 24)) [] (lit< tt)) ∷ ast.World w ∷ []) (lit< tt)

    abbrev w_item : Item
    w_item = record { top = top_names worlds; declared = TheWorld w }

    abbrev link : Span → Link
    link span = record { side = Imported; name = None; path = path.Id (v_at span); docs = no_comments ptr alloc; attributes = [] }

    -- w imports a world
    imported_refused : IsBroken (worlds ∷ []) (fault_in 10 (at 45 46) (codes "name `v` is defined as a world, not an interface"))
    imported_refused = Use w_item (1, lit< tt, refl) (WorldUsed (path.Id (v_at (at 45 46))) (0, lit< tt, refl) refl refl)

    -- so it imports no interface twice
    none_twice : (fault : Fault) → IsLinkedTwice (worlds ∷ []) w_item fault → ⊥
    none_twice fault h = by h.0 h.1 h.3 h.5 h.9
      where
        lost : (span : Span) (later : Link) → Some (SideLink (link span)) ≡ Some (SideLink later) → is_world_at (worlds ∷ []) (leads w_item.top later.path) ≡ Some false → ⊥
        lost span later same interface =
            let one : link span ≡ later = cc in
            let wrong : Some true ≡ Some false = ap (λ (l : Link). is_world_at (worlds ∷ []) (leads w_item.top l.path)) one ∙ interface in
            let g : ⊥ = cc in
            g

        by : (side : WorldSide) (place : ℕ) (later : Link) → slice_get (items_on side (side_items w_item)) place ≡ Some (SideLink later) → is_world_at (worlds ∷ []) (leads w_item.top later.path) ≡ Some false → ⊥
        by Imported zero later there interface = lost (at 45 46) later there interface
        by Imported (suc zero) later there interface = lost (at 55 56) later there interface
        by Imported (suc (suc place)) later there interface = let g : ⊥ = cc in g
        by Exported zero later there interface = let g : ⊥ = cc in g
        by Exported (suc place) later there interface = let g : ⊥ = cc in g
