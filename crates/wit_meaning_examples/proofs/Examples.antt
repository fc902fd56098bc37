-- Worked rows, computed by the definitions.
use Rattle.std.proofs.Common.{◌≡◌, ℕ, ◌<◌, ◌^◌, true, List, [], ◌∷◌, length, map, Some, None, zero, suc, inl, inr, refl, lit<, arith}
use Rattle.wit_arena.proofs.Common.{AliasForm, Attribute, Box, Collects, Cyclic, Def, Defined, Field as WrittenField, Global, Head, Headerless, Id, Interface, InterfaceNamed, IsBroken, IsCyclic, IsCyclicEdge, IsDuplicateName, IsMissing, IsMissingEdge, IsOrder, IsSecond, IsSeen, IsWrongTop, Item, Leads, Leaf, ListForm, Local, LostUse, Member, Missing, Named, Occurrence, PackageFile, Plain, Prim, ReachesCycle, Record, RecordForm, Row, ScopeName, Span, TheInterface, TopName, ToplevelUse, Tree, TypeDef, Unknown, Unnamed, UnresolvedPackage, UseName, Used, Vec, Whole, Word, all_items, codes, fault, fault_in, in_turn, is_label, item_rows, kind_of, last_header, lower_case, missing_type_at, no_docs, occurrences, one, package_tree, path_id, rows_of, scope_names, source_tree, top_names, top_text, top_twice, turned, type_word, «Type» as Written}
use Rattle.wit_types.specs.declared.types.Field.{Field}
use Rattle.wit_syntax.proofs.Common.{Interface as WrittenInterface, Use}
use denote.RawPtr.{Ptr}
use Rattle.wit_type_tree.specs.declared.leaves.Docs.{Docs as Comments}
use Rattle.wit_type_tree.specs.declared.types.Primitive.TheVariants as primitive
use Rattle.wit_type_tree.specs.declared.types.«Type».TheVariants as written
use Rattle.wit_type_tree.specs.declared.types.TypeDef.{TypeDef as Definition}
use Rattle.wit_tree.specs.declared.tree.UsePath.TheVariants as path
use Rattle.wit_tree.specs.declared.tree.InterfaceItem.TheVariants.{TypeDef as TypeItem, Use as UseItem}
use Rattle.wit_tree.specs.declared.tree.AstItem.TheVariants.{Interface as InterfaceItem, Use as ToplevelItem}
use Rattle.wit_tree.specs.declared.tree.PackageName.{PackageName as Header}
use Rattle.wit_types.specs.declared.types.«Type».{«Type» as Ty}
use Rattle.wit_types.specs.declared.types.«Type».TheVariants as type
use Rattle.wit_types.specs.declared.types.TypeDefKind.TheVariants as kind
use Rattle.wit_types.specs.declared.types.TypeOwner.TheVariants as owner
use Rattle.wit_meaning_examples.proofs.SmallOrders.{two, three, two_order, three_order}

folded_names : map lower_case (codes "P-q1" ∷ codes "p-Q1" ∷ []) ≡ (codes "p-q1" ∷ codes "p-q1" ∷ [])
folded_names = refl

abbrev pub at : ℕ → ℕ → Span
at from to = record { start = from; end = to }

-- wherever texts, boxes and vectors lie
module _ (ptr : Ptr) (alloc : Global) where
  abbrev pub id : (name : List ℕ) → Span → is_label name ≡ true → Id
  id name span h = record { name = record { ref_ptr = (0, 0); now = name }; span = span; label = h }

  abbrev pub vec : {X : Type 0} (xs : List X) → length xs < 2 ^ 63 → Vec X Global
  vec xs h = record { ptr = ptr; len = length xs; cap = length xs; alloc = alloc; items = xs; ok = (refl, omega arith); small = h }

  -- nothing is written in front
  abbrev pub no_comments : Comments
  no_comments = record { docs = vec [] (lit< tt); span = at 0 0 }

  abbrev pub unstated : Vec Attribute Global
  unstated = vec [] (lit< tt)

  abbrev box : Box (Unit {0}) Global
  box = record { ptr = ptr; alloc = alloc; value = tt }

  -- package foo:foo; interface i { record p { a: list<u8>, b: list<u8> } }
  abbrev pub header : Header
  header = record { docs = no_comments; span = at 8 15; namespace = id (codes "foo") (at 8 11) refl; name = id (codes "foo") (at 12 15) refl; version = None }

  abbrev list_at : Span → Span → Written
  list_at whole element = written.List' whole box (written.Primitive element primitive.U8)

  abbrev written_fields : List WrittenField
  written_fields = record { docs = no_comments; name = id (codes "a") (at 42 43) refl; ty = list_at (at 45 49) (at 50 52) } ∷ record { docs = no_comments; name = id (codes "b") (at 55 56) refl; ty = list_at (at 58 62) (at 63 65) } ∷ []

  abbrev p_id : Id
  p_id = id (codes "p") (at 38 39) refl

  abbrev pub p : Definition
  p = record { docs = no_comments; attributes = unstated; name = p_id; body = Record (at 38 39) (vec written_fields (lit< tt)) }

  abbrev i : WrittenInterface
  i = record { docs = no_comments; attributes = unstated; name = id (codes "i") (at 27 28) refl; items = vec (TypeItem p ∷ []) (lit< tt) }

  abbrev pub file : PackageFile
  file = record { package_id = Some header; decl_list = record { items = vec (InterfaceItem i ∷ []) (lit< tt) } }

  abbrev pub files : List PackageFile
  files = file ∷ []

  abbrev pub item : Item
  item = record { top = top_names file; declared = TheInterface i }

  abbrev members : List Member
  members = record { name = codes "a"; docs = no_docs; span = at 42 43 } ∷ record { name = codes "b"; docs = no_docs; span = at 55 56 } ∷ []

  abbrev p_head : Head
  p_head = record { owner = Some (InterfaceNamed (codes "i")); name = codes "p"; span = at 38 39; docs = no_docs; stability = Unknown; external_id = None }

  abbrev p_tree : Tree 3
  p_tree = Named p_head (RecordForm members) (Unnamed ListForm (Leaf type.U8 ∷ []) ∷ Unnamed ListForm (Leaf type.U8 ∷ []) ∷ [])

  header_of_files : last_header files ≡ Some header
  header_of_files = refl

  source : source_tree files 3 (InterfaceNamed (codes "i"), Word p_id) ≡ p_tree
  source = refl

  abbrev pub list_seen : Span → Occurrence
  list_seen span = record { key = Whole ListForm (one (Prim primitive.U8)); span = span; given = Unknown }

  abbrev pub p_seen : Occurrence
  p_seen = record { key = Def (InterfaceNamed (codes "i")) (codes "p"); span = at 38 39; given = Unknown }

  -- both lists occur before p, each at its own word
  seen : occurrences (map turned (record { item = item; order = 0 ∷ [] } ∷ [])) ≡ (list_seen (at 45 49) ∷ list_seen (at 58 62) ∷ p_seen ∷ [])
  seen = refl

  list_is_new : IsSeen [] (Whole ListForm (one (Prim primitive.U8))) → ⊥
  list_is_new (k, is) = let f : ⊥ = cc in f

  p_is_new : IsSeen (Whole ListForm (one (Prim primitive.U8)) ∷ []) (Def (InterfaceNamed (codes "i")) (codes "p")) → ⊥
  p_is_new (zero, is) = let f : ⊥ = cc in f
  p_is_new (suc k, is) = let f : ⊥ = cc in f

  -- the second list is the first one again
  seen_once : Collects [] (list_seen (at 45 49) ∷ list_seen (at 58 62) ∷ p_seen ∷ []) (list_seen (at 45 49) ∷ p_seen ∷ [])
  seen_once = inr (list_is_new, inl ((0, refl), inr (p_is_new, refl)))

  -- no name is written in p
  rows_of_p : rows_of (scope_names item) ≡ (record { name = codes "p"; needs = [] } ∷ [])
  rows_of_p = refl

  -- the arenas: one list, and p over it
  abbrev pub list_entry : TypeDef
  list_entry = record { name = None; kind = kind.List type.U8; owner = owner.None; docs = no_docs; stability = Unknown; span = at 45 49; external_id = None }

  abbrev fields : List Field
  fields = record { name = codes "a"; ty = type.Id 0; docs = no_docs; span = at 42 43 } ∷ record { name = codes "b"; ty = type.Id 0; docs = no_docs; span = at 55 56 } ∷ []

  abbrev pub p_entry : TypeDef
  p_entry = record { name = Some (codes "p"); kind = kind.Record (record { fields = fields }); owner = owner.Interface 0; docs = no_docs; stability = Unknown; span = at 38 39; external_id = None }

  abbrev pub i_entry : Interface
  i_entry = record { name = Some (codes "i"); types = (codes "p", 1) ∷ []; functions = []; docs = no_docs; stability = Unknown; «package» = None; span = at 27 28; clone_of = None }

  kinds : map kind_of (list_entry.kind ∷ p_entry.kind ∷ kind.Type_ (type.Id 1) ∷ [])
      ≡ ((ListForm, type.U8 ∷ []) ∷ (RecordForm members, type.Id 0 ∷ type.Id 0 ∷ []) ∷ (AliasForm, type.Id 1 ∷ []) ∷ [])
  kinds = refl

  -- a package of these arenas
  abbrev pub package_with : List Interface → List TypeDef → UnresolvedPackage
  package_with is es = record { docs = no_docs; name = record { namespace = codes "foo"; name = codes "foo"; version = None }; worlds = []; interfaces = is; types = es; foreign_deps = []; name_span = at 8 15; unknown_type_spans = []; foreign_dep_spans = []; required_resource_types = [] }

  arenas : package_tree (package_with (i_entry ∷ []) (list_entry ∷ p_entry ∷ [])) 3 (type.Id 1) ≡ p_tree
  arenas = refl

  -- interface i { type a = b; type b = a; }
  abbrev in_a : Id
  in_a = id (codes "b") (at 23 24) refl

  abbrev in_b : Id
  in_b = id (codes "a") (at 35 36) refl

  abbrev around : List Row
  around = record { name = codes "a"; needs = in_a ∷ [] } ∷ record { name = codes "b"; needs = in_b ∷ [] } ∷ []

  abbrev around_names : List ScopeName
  around_names = Defined (record { docs = no_comments; attributes = unstated; name = id (codes "a") (at 19 20) refl; body = Plain (written.Name in_a) }) ∷ Defined (record { docs = no_comments; attributes = unstated; name = id (codes "b") (at 31 32) refl; body = Plain (written.Name in_b) }) ∷ []

  rows_around : rows_of around_names ≡ around
  rows_around = refl

  a_to_b : Leads around 0 1
  a_to_b = (0, in_a, (record { name = codes "a"; needs = in_a ∷ [] }, refl, refl), refl)

  b_to_a : Leads around 1 0
  b_to_a = (0, in_b, (record { name = codes "b"; needs = in_b ∷ [] }, refl, refl), refl)

  a_reaches : ReachesCycle (Leads around) 0
  a_reaches = record { place = 0; before = 0; around = 1; there = refl; again = (1, (0, refl, a_to_b), b_to_a) }

  b_reaches : ReachesCycle (Leads around) 1
  b_reaches = record { place = 1; before = 0; around = 1; there = refl; again = (0, (1, refl, b_to_a), a_to_b) }

  -- both edges are refused
  a_cyclic : IsCyclic around 0 in_a
  a_cyclic = (a_reaches, (1, refl, b_reaches))

  b_cyclic : IsCyclic around 1 in_b
  b_cyclic = (b_reaches, (0, refl, a_reaches))

  a_refused : IsCyclicEdge 16 type_word (rows_of around_names) (record { rule = 16; span = at 23 24; says = Cyclic (codes "b") (codes "type") })
  a_refused = (0, 0, 1, in_a, (record { name = codes "a"; needs = in_a ∷ [] }, refl, refl), refl, a_reaches, b_reaches, refl)

  -- interface i { type t = u; }
  abbrev u : Id
  u = id (codes "u") (at 23 24) refl

  abbrev t_names : List ScopeName
  t_names = Defined (record { docs = no_comments; attributes = unstated; name = id (codes "t") (at 19 20) refl; body = Plain (written.Name u) }) ∷ []

  u_missing : IsMissing (rows_of t_names) 0 u
  u_missing = refl

  u_refused : IsMissingEdge missing_type_at (rows_of t_names) (record { rule = 15; span = at 23 24; says = Missing (codes "u") (codes "type") None })
  u_refused = (0, 0, u, (record { name = codes "t"; needs = u ∷ [] }, refl, refl), u_missing, refl)

  -- record { a: u8, A: u8 }
  abbrev twice : List WrittenField
  twice = record { docs = no_comments; name = id (codes "a") (at 9 10) refl; ty = written.Primitive (at 12 14) primitive.U8 } ∷ record { docs = no_comments; name = id (codes "A") (at 16 17) refl; ty = written.Primitive (at 19 21) primitive.U8 } ∷ []

  twice_refused : IsDuplicateName (map (λ x. x.name) twice) (fault_in 25 (at 16 17) (codes "field `A` conflicts with previous field `a`"))
  twice_refused = (codes "field `A` conflicts with previous field `a`", (id (codes "A") (at 16 17) refl, (0, 1, lit< tt, id (codes "a") (at 9 10) refl, refl, refl, refl), refl))

  -- no file has a header
  none_refused : IsBroken [] (fault 4 (at 0 0))
  none_refused = Headerless refl refl

  -- interface i { type b = list<t>; type t = u8; }
  abbrev in_list : Id
  in_list = id (codes "t") (at 28 29) refl

  abbrev list_names : List ScopeName
  list_names = Defined (record { docs = no_comments; attributes = unstated; name = id (codes "b") (at 19 20) refl; body = Plain (written.List' (at 23 27) box (written.Name in_list)) }) ∷ Defined (record { docs = no_comments; attributes = unstated; name = id (codes "t") (at 37 38) refl; body = Plain (written.Primitive (at 41 43) primitive.U8) }) ∷ []

  list_rows : rows_of list_names ≡ two (codes "b") (codes "t") in_list
  list_rows = refl

  -- t comes before b
  list_order : IsOrder (rows_of list_names) (1 ∷ 0 ∷ [])
  list_order = two_order (codes "b") (codes "t") in_list refl

  -- package foo:foo; interface i { type a = t; type b = u8; use x.{t}; } interface x { type t = u32; }
  module _ where
    abbrev of_a : Id
    of_a = id (codes "t") (at 40 41) refl

    abbrev pub a : Definition
    a = record { docs = no_comments; attributes = unstated; name = id (codes "a") (at 36 37) refl; body = Plain (written.Name of_a) }

    abbrev pub b : Definition
    b = record { docs = no_comments; attributes = unstated; name = id (codes "b") (at 48 49) refl; body = Plain (written.Primitive (at 52 54) primitive.U8) }

    abbrev path_x : Id
    path_x = id (codes "x") (at 60 61) refl

    abbrev pub used_t : UseName
    used_t = record { name = id (codes "t") (at 63 64) refl; as_ = None }

    abbrev use_t : Use
    use_t = record { attributes = unstated; from = path.Id path_x; names = vec (used_t ∷ []) (lit< tt) }

    abbrev pub t : Definition
    t = record { docs = no_comments; attributes = unstated; name = id (codes "t") (at 88 89) refl; body = Plain (written.Primitive (at 92 95) primitive.U32) }

    abbrev user : WrittenInterface
    user = record { docs = no_comments; attributes = unstated; name = id (codes "i") (at 27 28) refl; items = vec (TypeItem a ∷ TypeItem b ∷ UseItem use_t ∷ []) (lit< tt) }

    abbrev x : WrittenInterface
    x = record { docs = no_comments; attributes = unstated; name = id (codes "x") (at 79 80) refl; items = vec (TypeItem t ∷ []) (lit< tt) }

    abbrev pub used_file : PackageFile
    used_file = record { package_id = Some header; decl_list = record { items = vec (InterfaceItem user ∷ InterfaceItem x ∷ []) (lit< tt) } }

    abbrev pub used_files : List PackageFile
    used_files = used_file ∷ []

    abbrev pub user_item : Item
    user_item = record { top = top_names used_file; declared = TheInterface user }

    abbrev pub x_item : Item
    x_item = record { top = top_names used_file; declared = TheInterface x }

    -- the path leads to the declaration of x
    rows_of_items : item_rows used_files ≡ two (codes "i") (codes "x") x.name
    rows_of_items = refl

    -- x comes before i
    order_of_items : IsOrder (item_rows used_files) (1 ∷ 0 ∷ [])
    order_of_items = two_order (codes "i") (codes "x") x.name refl

    rows_of_user : rows_of (scope_names user_item) ≡ three (codes "a") (codes "b") (codes "t") of_a
    rows_of_user = refl

    order_of_user : IsOrder (rows_of (scope_names user_item)) (1 ∷ 2 ∷ 0 ∷ [])
    order_of_user = three_order (codes "a") (codes "b") (codes "t") of_a refl

    -- the used name comes first, and then the definitions in that order
    turns_of_user : in_turn (scope_names user_item) (1 ∷ 2 ∷ 0 ∷ []) ≡ (Used (InterfaceNamed (codes "x")) [] used_t ∷ Defined b ∷ Defined a ∷ [])
    turns_of_user = refl

    abbrev t_head : List ℕ → Span → Head
    t_head interface span = record { owner = Some (InterfaceNamed interface); name = codes "t"; span = span; docs = no_docs; stability = Unknown; external_id = None }

    -- i's t is another word for x's t
    tree_of_used : source_tree used_files 2 (InterfaceNamed (codes "i"), Word of_a) ≡ (Named (t_head (codes "i") (at 63 64)) AliasForm (Named (t_head (codes "x") (at 88 89)) AliasForm (tt ∷ []) ∷ []))
    tree_of_used = refl

    abbrev pub name_seen : List ℕ → List ℕ → Span → Occurrence
    name_seen interface name span = record { key = Def (InterfaceNamed interface) name; span = span; given = Unknown }

    -- x's t occurs before i's, which occurs before b and a
    seen_in_turn : occurrences (map turned (record { item = x_item; order = 0 ∷ [] } ∷ record { item = user_item; order = 1 ∷ 2 ∷ 0 ∷ [] } ∷ []))
        ≡ (name_seen (codes "x") (codes "t") (at 88 89) ∷ name_seen (codes "i") (codes "t") (at 63 64) ∷ name_seen (codes "i") (codes "b") (at 48 49) ∷ name_seen (codes "i") (codes "a") (at 36 37) ∷ [])
    seen_in_turn = refl

    abbrev entry : List ℕ → Ty → ℕ → Span → TypeDef
    entry name ty place span = record { name = Some name; kind = kind.Type_ ty; owner = owner.Interface place; docs = no_docs; stability = Unknown; span = span; external_id = None }

    abbrev interface : List ℕ → List (List ℕ × ℕ) → Span → Interface
    interface name types span = record { name = Some name; types = types; functions = []; docs = no_docs; stability = Unknown; «package» = None; span = span; clone_of = None }

    abbrev pub used_types : List TypeDef
    used_types = entry (codes "t") type.U32 0 (at 88 89) ∷ entry (codes "t") (type.Id 0) 1 (at 63 64) ∷ entry (codes "b") type.U8 1 (at 48 49) ∷ entry (codes "a") (type.Id 1) 1 (at 36 37) ∷ []

    abbrev pub used_interfaces : List Interface
    used_interfaces = interface (codes "x") ((codes "t", 0) ∷ []) (at 79 80) ∷ interface (codes "i") ((codes "t", 1) ∷ (codes "b", 2) ∷ (codes "a", 3) ∷ []) (at 27 28) ∷ []

    -- a is another word for i's t, down to the last level
    tree_of_a : package_tree (package_with used_interfaces used_types) 4 (type.Id 3) ≡ source_tree used_files 4 (InterfaceNamed (codes "i"), Word a.name)
    tree_of_a = refl

  -- package foo:foo; interface x { type t = u8; } interface z { type t = u16; }
  -- use z as x; interface i { use x.{t}; }
  module _ where
    abbrev x_here : WrittenInterface
    x_here = record { docs = no_comments; attributes = unstated; name = id (codes "x") (at 27 28) refl; items = vec (TypeItem (record { docs = no_comments; attributes = unstated; name = id (codes "t") (at 36 37) refl; body = Plain (written.Primitive (at 40 42) primitive.U8) }) ∷ []) (lit< tt) }

    abbrev z : WrittenInterface
    z = record { docs = no_comments; attributes = unstated; name = id (codes "z") (at 56 57) refl; items = vec (TypeItem (record { docs = no_comments; attributes = unstated; name = id (codes "t") (at 65 66) refl; body = Plain (written.Primitive (at 69 72) primitive.U16) }) ∷ []) (lit< tt) }

    abbrev alias : ToplevelUse
    alias = record { attributes = unstated; span = at 77 80; item = path.Id (id (codes "z") (at 81 82) refl); as_ = Some (id (codes "x") (at 86 87) refl) }

    abbrev t_of_x : UseName
    t_of_x = record { name = id (codes "t") (at 108 109) refl; as_ = None }

    abbrev i_of_x : WrittenInterface
    i_of_x = record { docs = no_comments; attributes = unstated; name = id (codes "i") (at 99 100) refl; items = vec (UseItem (record { attributes = unstated; from = path.Id (id (codes "x") (at 105 106) refl); names = vec (t_of_x ∷ []) (lit< tt) }) ∷ []) (lit< tt) }

    abbrev first_file : PackageFile
    first_file = record { package_id = Some header; decl_list = record { items = vec (InterfaceItem x_here ∷ InterfaceItem z ∷ []) (lit< tt) } }

    abbrev second_file : PackageFile
    second_file = record { package_id = None; decl_list = record { items = vec (ToplevelItem alias ∷ InterfaceItem i_of_x ∷ []) (lit< tt) } }

    abbrev two_files : List PackageFile
    two_files = first_file ∷ second_file ∷ []

    -- the path of i leads to z, by the path of the other name
    edges_of_i : item_rows two_files ≡ (record { name = codes "x"; needs = [] } ∷ record { name = codes "z"; needs = [] } ∷ record { name = codes "i"; needs = path_id alias.item ∷ [] } ∷ [])
    edges_of_i = refl

    -- so i's t is another word for z's t
    tree_of_alias : source_tree two_files 3 (InterfaceNamed (codes "i"), Word t_of_x.name)
        ≡ Named (record { owner = Some (InterfaceNamed (codes "i")); name = codes "t"; span = at 108 109; docs = no_docs; stability = Unknown; external_id = None }) AliasForm (Named (record { owner = Some (InterfaceNamed (codes "z")); name = codes "t"; span = at 65 66; docs = no_docs; stability = Unknown; external_id = None }) AliasForm (Leaf type.U16 ∷ []) ∷ [])
    tree_of_alias = refl

    -- use z as x; interface x {}
    twice_on_top : IsSecond top_text (λ (n : TopName). top_twice n.id) (record { id = id (codes "x") (at 9 10) refl; target = Local (id (codes "z") (at 4 5) refl) } ∷ record { id = id (codes "x") (at 22 23) refl; target = Local (id (codes "x") (at 22 23) refl) } ∷ []) (fault_in 6 (at 22 23) (codes "duplicate name `x` in this file"))
    twice_on_top = (record { id = id (codes "x") (at 22 23) refl; target = Local (id (codes "x") (at 22 23) refl) }, (0, 1, lit< tt, record { id = id (codes "x") (at 9 10) refl; target = Local (id (codes "z") (at 4 5) refl) }, refl, refl, refl), refl)

    -- use x as y; use y as z;
    abbrev of_an_alias : ToplevelUse
    of_an_alias = record { attributes = unstated; span = at 12 15; item = path.Id (id (codes "y") (at 16 17) refl); as_ = Some (id (codes "z") (at 21 22) refl) }

    original_missing : IsWrongTop (all_items two_files) (ToplevelItem alias ∷ ToplevelItem of_an_alias ∷ []) (record { rule = 7; span = at 16 17; says = Missing (codes "y") (codes "interface or world") None })
    original_missing = LostUse of_an_alias (1, lit< tt, refl) (id (codes "y") (at 16 17) refl) refl refl refl
