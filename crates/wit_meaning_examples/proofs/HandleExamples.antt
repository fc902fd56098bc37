-- Worked rows with handles: of a resource, of another word for it, of a name of another package, and of no resource.
use Rattle.std.proofs.Common.{◌≡◌, ℕ, ◌<◌, ◌^◌, zero, suc, Bool, true, false, List, [], ◌∷◌, length, map, Option, Some, None, inr, refl, ap, lit<}
use Rattle.wit_arena.proofs.Common.{Address, AreRequired, AtForeign, AtResource, Borrow, BorrowForm, Collects, Def, Elsewhere, EndsAt, ForeignNamed, Global, Handle, Id, InterfaceItem as Part, InterfaceNamed, IsAt, IsBroken, IsOther, IsResource, IsSeen, IsUnknown, Item, Key, More, NamedFunc, Occurrence, Ordered, PackageFile, Plain, Resource, Span, TheInterface, TypeDef, TypeDefKind, Unknown, Use, UseName, UsePath, Whole, all_occurrences, bytes_eq, codes, entry_end, expr_of, fault_in, no_docs, one, required_more, required_none, shape_of, top_names, turn_handles, turned, «Type» as Written}
use Rattle.wit_syntax.proofs.Common.{Interface, Param}
use denote.RawPtr.{Ptr}
use Rattle.wit_type_tree.specs.declared.types.Primitive.TheVariants as primitive
use Rattle.wit_type_tree.specs.declared.types.«Type».TheVariants as written
use Rattle.wit_type_tree.specs.declared.types.TypeDef.{TypeDef as Definition}
use Rattle.wit_type_tree.specs.declared.types.FuncForm.TheVariants as form
use Rattle.wit_tree.specs.declared.tree.UsePath.TheVariants as path
use Rattle.wit_tree.specs.declared.tree.InterfaceItem.TheVariants.{TypeDef as TypeItem, Use as UseItem, Func as FuncItem}
use Rattle.wit_tree.specs.declared.tree.AstItem.TheVariants.{Interface as InterfaceItem}
use Rattle.wit_types.specs.declared.types.«Type».TheVariants as type
use Rattle.wit_types.specs.declared.types.TypeDefKind.TheVariants as kind
use Rattle.wit_types.specs.declared.types.TypeOwner.TheVariants as owner
use Rattle.wit_meaning_examples.proofs.Examples.{at, id, vec, no_comments, unstated, header}

none_is_seen : {k : Key} → IsSeen [] k → ⊥
none_is_seen (k, is) = let f : ⊥ = cc in f

-- whether what occurs is about r
abbrev is_of_r : Option Key → Bool
is_of_r (Some (Def s name)) = bytes_eq name (codes "r")
is_of_r (Some (Whole form (More (Use s name) es))) = bytes_eq name (codes "r")
is_of_r _ = false

-- what means a name or for an unnamed type in these rows
abbrev pub in_i : Address
in_i = InterfaceNamed (codes "i")

abbrev pub name_seen : Address → List ℕ → Span → Occurrence
name_seen s name span = record { key = Def s name; span = span; given = Unknown }

abbrev pub borrow_seen : List ℕ → Span → Occurrence
borrow_seen name span = record { key = Whole BorrowForm (one (Use in_i name)); span = span; given = Unknown }

abbrev named : List ℕ → TypeDefKind → ℕ → Span → TypeDef
named name kind place span = record { name = Some name; kind = kind; owner = owner.Interface place; docs = no_docs; stability = Unknown; span = span; external_id = None }

abbrev borrowed : ℕ → Span → TypeDef
borrowed place span = record { name = None; kind = kind.Handle (Borrow place); owner = owner.None; docs = no_docs; stability = Unknown; span = span; external_id = None }

module _ (ptr : Ptr) (alloc : Global) where
  -- package foo:foo; interface i { .. }
  abbrev i_of : (parts : List Part) → length parts < 2 ^ 63 → Interface
  i_of parts small = record { docs = no_comments ptr alloc; attributes = unstated ptr alloc; name = id ptr alloc (codes "i") (at 27 28) refl; items = vec ptr alloc parts small }

  abbrev pub file_of : Interface → PackageFile
  file_of i = record { package_id = Some (header ptr alloc); decl_list = record { items = vec ptr alloc (InterfaceItem i ∷ []) (lit< tt) } }

  abbrev pub item_of : Interface → Item
  item_of i = record { top = top_names (file_of i); declared = TheInterface i }

  abbrev a_id : Span → Id
  a_id span = id ptr alloc (codes "a") span refl

  abbrev r_id : Span → Id
  r_id span = id ptr alloc (codes "r") span refl

  abbrev t_id : Span → Id
  t_id span = id ptr alloc (codes "t") span refl

  abbrev x_of : Span → Written → Param
  x_of span ty = record { name = id ptr alloc (codes "x") span refl; ty = ty }

  -- resource r; type a = r; f: func(x: borrow<r>, y: borrow<a>, z: own<a>);
  module _ where
    abbrev f : NamedFunc
    f = record {
      docs = no_comments ptr alloc;
      attributes = unstated ptr alloc;
      name = id ptr alloc (codes "f") (at 55 56) refl;
      func = record {
        span = at 58 62;
        form = form.Plain;
        params = vec ptr alloc (x_of (at 63 64) (written.Borrow (at 66 72) (r_id (at 73 74)))
            ∷ record { name = id ptr alloc (codes "y") (at 77 78) refl; ty = written.Borrow (at 80 86) (a_id (at 87 88)) }
            ∷ record { name = id ptr alloc (codes "z") (at 91 92) refl; ty = written.Own (at 94 97) (a_id (at 98 99)) }
            ∷ []) (lit< tt);
        result = None;
      };
    }

    abbrev r : Definition
    r = record { docs = no_comments ptr alloc; attributes = unstated ptr alloc; name = r_id (at 40 41); body = Resource (vec ptr alloc [] (lit< tt)) }

    abbrev a : Definition
    a = record { docs = no_comments ptr alloc; attributes = unstated ptr alloc; name = a_id (at 48 49); body = Plain (written.Name (r_id (at 52 53))) }

    abbrev i : Interface
    i = i_of (TypeItem r ∷ TypeItem a ∷ FuncItem f ∷ []) (lit< tt)

    abbrev files : List PackageFile
    files = file_of i ∷ []

    abbrev ordered : Ordered
    ordered = record { item = item_of i; order = 0 ∷ 1 ∷ [] }

    -- the two handles are two expressions
    abbrev seen : List Occurrence
    seen = name_seen in_i (codes "r") (at 40 41) ∷ name_seen in_i (codes "a") (at 48 49) ∷ borrow_seen (codes "r") (at 66 72) ∷ borrow_seen (codes "a") (at 80 86) ∷ []

    occurrences_of_files : all_occurrences files (turned ordered ∷ []) ≡ seen
    occurrences_of_files = refl

    abbrev ks : List Key
    ks = map (λ (m : Occurrence). m.key) seen

    a_is_new : IsSeen (Def in_i (codes "r") ∷ []) (Def in_i (codes "a")) → ⊥
    a_is_new (zero, is) = let wrong : true ≡ false = ap is_of_r is in let f : ⊥ = cc in f
    a_is_new (suc k, is) = let f : ⊥ = cc in f

    first_is_new : IsSeen (Def in_i (codes "r") ∷ Def in_i (codes "a") ∷ []) (Whole BorrowForm (one (Use in_i (codes "r")))) → ⊥
    first_is_new (zero, is) = let f : ⊥ = cc in f
    first_is_new (suc zero, is) = let f : ⊥ = cc in f
    first_is_new (suc (suc k), is) = let f : ⊥ = cc in f

    second_is_new : IsSeen (Def in_i (codes "r") ∷ Def in_i (codes "a") ∷ Whole BorrowForm (one (Use in_i (codes "r"))) ∷ []) (Whole BorrowForm (one (Use in_i (codes "a")))) → ⊥
    second_is_new (zero, is) = let f : ⊥ = cc in f
    second_is_new (suc zero, is) = let f : ⊥ = cc in f
    second_is_new (suc (suc zero), is) = let wrong : true ≡ false = ap is_of_r is in let f : ⊥ = cc in f
    second_is_new (suc (suc (suc k)), is) = let f : ⊥ = cc in f

    seen_once : Collects [] seen seen
    seen_once = inr (none_is_seen, inr (a_is_new, inr (first_is_new, inr (second_is_new, refl))))

    -- z has the type of a, which is another entry than r's
    type_of_z : IsAt ks (expr_of in_i (shape_of (written.Own (at 94 97) (a_id (at 98 99))))) (type.Id 1)
    type_of_z = (1, refl, refl)

    type_of_y : IsAt ks (expr_of in_i (shape_of (written.Borrow (at 80 86) (a_id (at 87 88))))) (type.Id 3)
    type_of_y = (3, refl, refl)

    abbrev types : List TypeDef
    types = named (codes "r") kind.Resource 0 (at 40 41) ∷ named (codes "a") (kind.Type_ (type.Id 0)) 0 (at 48 49) ∷ borrowed 0 (at 66 72) ∷ borrowed 1 (at 80 86) ∷ []

    -- a ends where r does, in the arena and in the files
    end_of_a : entry_end 2 types 1 ≡ Some IsResource
    end_of_a = refl

    a_ends : EndsAt files in_i (a_id (at 98 99)) AtResource
    a_ends = (2, refl)

    in_handles : turn_handles (turned ordered) ≡ ((in_i, r_id (at 73 74)) ∷ (in_i, a_id (at 87 88)) ∷ (in_i, a_id (at 98 99)) ∷ [])
    in_handles = refl

    -- nothing is required of other packages
    required : AreRequired files ks (turn_handles (turned ordered)) []
    required =
        let y : Address × Id = (in_i, a_id (at 87 88)) in
        let z : Address × Id = (in_i, a_id (at 98 99)) in
        required_more files ks (in_i, r_id (at 73 74)) None (y ∷ z ∷ []) [] (1, refl) (required_more files ks y None (z ∷ []) [] (2, refl) (required_more files ks z None [] [] (2, refl) (required_none files ks)))

  -- use a:b/c.{r}; f: func(x: borrow<r>);
  module _ where
    abbrev pub used_r : UseName
    used_r = record { name = r_id (at 42 43); as_ = None }

    abbrev path_c : UsePath
    path_c = path.Package (record { docs = no_comments ptr alloc; span = at 35 38; namespace = a_id (at 35 36); name = id ptr alloc (codes "b") (at 37 38) refl; version = None }) (id ptr alloc (codes "c") (at 39 40) refl)

    abbrev pub user : Interface
    user = i_of (UseItem (record { attributes = unstated ptr alloc; from = path_c; names = vec ptr alloc (used_r ∷ []) (lit< tt) }) ∷ FuncItem (record {
      docs = no_comments ptr alloc;
      attributes = unstated ptr alloc;
      name = id ptr alloc (codes "f") (at 46 47) refl;
      func = record { span = at 49 53; form = form.Plain; params = vec ptr alloc (x_of (at 54 55) (written.Borrow (at 57 63) (r_id (at 64 65))) ∷ []) (lit< tt); result = None };
    }) ∷ []) (lit< tt)

    abbrev pub user_files : List PackageFile
    user_files = file_of user ∷ []

    abbrev user_ordered : Ordered
    user_ordered = record { item = item_of user; order = 0 ∷ [] }

    abbrev pub in_c : Address
    in_c = ForeignNamed (record { namespace = codes "a"; name = codes "b"; version = None }) (codes "c")

    -- c's r occurs first, then i's, and then the handle
    user_occurrences : all_occurrences user_files (turned user_ordered ∷ []) ≡ (name_seen in_c (codes "r") (at 42 43) ∷ name_seen in_i (codes "r") (at 42 43) ∷ borrow_seen (codes "r") (at 57 63) ∷ [])
    user_occurrences = refl

    abbrev user_keys : List Key
    user_keys = Def in_c (codes "r") ∷ Def in_i (codes "r") ∷ Whole BorrowForm (one (Use in_i (codes "r"))) ∷ []

    abbrev pub user_types : List TypeDef
    user_types = named (codes "r") kind.Unknown 0 (at 42 43) ∷ named (codes "r") (kind.Type_ (type.Id 0)) 1 (at 42 43) ∷ borrowed 1 (at 57 63) ∷ []

    -- i's r ends at c's, in the arena and in the files
    end_of_used : entry_end 2 user_types 1 ≡ Some (IsUnknown 0)
    end_of_used = refl

    used_ends : EndsAt user_files in_i (r_id (at 64 65)) (AtForeign in_c (codes "r"))
    used_ends = (2, refl)

    -- so that entry is required to be a resource, where the name is written in the handle
    pub user_required : AreRequired user_files user_keys (turn_handles (turned user_ordered)) ((0, at 64 65) ∷ [])
    user_required = required_more user_files user_keys (in_i, r_id (at 64 65)) (Some (0, at 64 65)) [] [] (in_c, codes "r", used_ends, refl, refl) (required_none user_files user_keys)

  -- type t = u8; f: func(x: borrow<t>);
  module _ where
    abbrev lender : Interface
    lender = i_of (TypeItem (record { docs = no_comments ptr alloc; attributes = unstated ptr alloc; name = t_id (at 36 37); body = Plain (written.Primitive (at 40 42) primitive.U8) }) ∷ FuncItem (record {
      docs = no_comments ptr alloc;
      attributes = unstated ptr alloc;
      name = id ptr alloc (codes "f") (at 44 45) refl;
      func = record { span = at 47 51; form = form.Plain; params = vec ptr alloc (x_of (at 52 53) (written.Borrow (at 55 61) (t_id (at 62 63))) ∷ []) (lit< tt); result = None };
    }) ∷ []) (lit< tt)

    abbrev lender_types : List TypeDef
    lender_types = named (codes "t") (kind.Type_ type.U8) 0 (at 36 37) ∷ []

    end_of_lent : entry_end 1 lender_types 0 ≡ Some IsOther
    end_of_lent = refl

    lent_ends : EndsAt (file_of lender ∷ []) in_i (t_id (at 62 63)) Elsewhere
    lent_ends = (2, refl)

    lent_refused : IsBroken (file_of lender ∷ []) (fault_in 27 (at 62 63) (codes "type `t` used in a handle must be a resource"))
    lent_refused = Handle (item_of lender) (0, lit< tt, refl) refl (t_id (at 62 63), (0, lit< tt, refl), lent_ends, refl)
