-- What is resolved of items that are alike is alike: names and functions in turn, what occurs in them, and the names in their handles.
use Rattle.std.proofs.Common.{◌≡◌, ℕ, List, [], ◌∷◌, ◌++◌, map, ap, ap₂, sym, subst₂, ◌∙◌}
use Rattle.wit_arena.proofs.Common.{Address, AllZip, Both', Defined, Err', ForeignName, Id, Item, Neither, None', Occurrence, Ok', Row_of-Type, ScopeName, SideFunction, SideInline, SideItem, SideLink, Some', SourceFunction, Turned, Used, address, all_function_occurrences, all_handles, all_types, end_of-Type, flat_map, functions, handles, inline_items, interface_turn, interfaces_of, item_turns, more_of-Type, name_occurrences, name_types, names_in_turn, option_to_list, own_interfaces, row_handles, scope_names, side_items, turn_handles, turn_occurrences, turns_of_world, turns_on_sides, turns_walked, worlds_of, written_types, «Type» as Written}
use Rattle.wit_walk.proofs.Common.{Param}
use Rattle.wit_type_tree.specs.declared.types.«Type».TheVariants as written
use Rattle.wit_grammar.specs.Trees.{Definition, Function, Parameter}
use Rattle.wit_grammar.specs.Seen.{see_param, see_type}
use Rattle.wit_alike.proofs.Lists.{both_of, zip_append, zip_flat, zip_map, zip_of}
use Rattle.wit_alike.proofs.Leaves.{SameId}
use Rattle.wit_alike.proofs.Types.{SameType, SameRow, type_of}
use Rattle.wit_alike.proofs.Bodies.{body_same, same_body_types}
use Rattle.wit_alike.proofs.Items.{SameItem, SameName, same_item_address, same_scope_names}
use Rattle.wit_alike.proofs.Functions.{SameFunction, SameSide, same_functions, same_side_items}
use Rattle.wit_alike.proofs.Foreign.{same_inline_items}
use Rattle.wit_alike.proofs.Scopes.{same_in_turn, same_interfaces, same_worlds}
use Rattle.wit_alike.proofs.Walk.{flat_same}
use Rattle.wit_alike_packages.proofs.Occurrences.{same_function_occurrences, same_name_occurrences, zip_option}

-- ---- names in handles
mutual
  same_handles : (t u : Written) → SameType t u → AllZip SameId (handles t) (handles u)
  same_handles (written.Primitive s p) (written.Primitive t q) h = tt
  same_handles (written.Name a) (written.Name b) h = tt
  same_handles (written.List' s p t) (written.List' r q u) h = same_handles t u h.1
  same_handles (written.FixedLengthList' s p t n) (written.FixedLengthList' r q u m) h = same_handles t u h.1
  same_handles (written.Map' s p k q v) (written.Map' r o l n w) h = zip_append SameId (handles k) (handles v) (handles l) (handles w) (same_handles k l h.1) (same_handles v w h.2)
  same_handles (written.Option' s p t) (written.Option' r q u) h = same_handles t u h.1
  same_handles (written.Result s Neither) (written.Result r Neither) h = tt
  same_handles (written.Result s (Ok' p t)) (written.Result r (Ok' q u)) h = same_handles t u h.1
  same_handles (written.Result s (Err' p t)) (written.Result r (Err' q u)) h = same_handles t u h.1
  same_handles (written.Result s (Both' p t q u)) (written.Result r (Both' n v m w)) h = zip_append SameId (handles t) (handles u) (handles v) (handles w) (same_handles t v h.1.0) (same_handles u w h.1.1)
  same_handles (written.Result s of) (written.Result r other) h = absurd h.1
  same_handles (written.Tuple' s x ts) (written.Tuple' r y us) h = same_row_handles ts us h.1
  same_handles (written.Future' s None') (written.Future' r None') h = tt
  same_handles (written.Future' s (Some' p t)) (written.Future' r (Some' q u)) h = same_handles t u h.1
  same_handles (written.Future' s None') (written.Future' r (Some' q u)) h = absurd h.1
  same_handles (written.Future' s (Some' p t)) (written.Future' r None') h = absurd h.1
  same_handles (written.Stream' s None') (written.Stream' r None') h = tt
  same_handles (written.Stream' s (Some' p t)) (written.Stream' r (Some' q u)) h = same_handles t u h.1
  same_handles (written.Stream' s None') (written.Stream' r (Some' q u)) h = absurd h.1
  same_handles (written.Stream' s (Some' p t)) (written.Stream' r None') h = absurd h.1
  same_handles (written.Own s a) (written.Own r b) h = (h.1, tt)
  same_handles (written.Borrow s a) (written.Borrow r b) h = (h.1, tt)
  same_handles t u h = absurd h

  same_row_handles : {m n : _} (ts : Row_of-Type m) (us : Row_of-Type n) → SameRow ts us → AllZip SameId (row_handles ts) (row_handles us)
  same_row_handles end_of-Type end_of-Type h = tt
  same_row_handles (more_of-Type t ts) (more_of-Type u us) h = zip_append SameId (handles t) (row_handles ts) (handles u) (row_handles us) (same_handles t u h.0) (same_row_handles ts us h.1)
  same_row_handles ts us h = absurd h

same_all_handles : (ts us : List Written) → AllZip SameType ts us → AllZip SameId (all_handles ts) (all_handles us)
same_all_handles [] [] h = tt
same_all_handles [] (u ∷ us) h = absurd h
same_all_handles (t ∷ ts) [] h = absurd h
same_all_handles (t ∷ ts) (u ∷ us) h = zip_append SameId (handles t) (all_handles ts) (handles u) (all_handles us) (same_handles t u h.0) (same_all_handles ts us h.1)

-- the types that are written in names and functions
same_name_types : (x y : ScopeName) → SameName x y → AllZip SameType (name_types x) (name_types y)
same_name_types (Used s before n) (Used t others m) h = tt
same_name_types (Defined d) (Defined e) h = same_body_types d.body e.body (body_same d.body e.body (ap (λ (x : Definition). x.body) h))
same_name_types (ForeignName before a) (ForeignName others b) h = tt
same_name_types x y h = absurd h

same_written_types : (f g : SourceFunction) → SameFunction f g → AllZip SameType (written_types f) (written_types g)
same_written_types f g h =
    let Seen : Written → Written → Type 0 = λ t u. see_type t ≡ see_type u in
    let types = zip_map (λ (p q : Param). see_param p ≡ see_param q) SameType (λ (p : Param). p.ty) (λ (p : Param). p.ty) (λ p q same. type_of p.ty q.ty (ap (λ (x : Parameter). x.ty) same)) f.func.params.items g.func.params.items
    (zip_of see_param f.func.params.items g.func.params.items (ap (λ (x : Function). x.params) h.func)) in
    let returned = zip_option Seen f.func.result g.func.result (both_of see_type f.func.result g.func.result (ap (λ (x : Function). x.returned) h.func)) in
    zip_append SameType (map (λ (p : Param). p.ty) f.func.params.items) (option_to_list f.func.result) (map (λ (p : Param). p.ty) g.func.params.items) (option_to_list g.func.result) types
    (as_types (option_to_list f.func.result) (option_to_list g.func.result) returned)
  where
    as_types : (ts us : List Written) → AllZip (λ (t u : Written). see_type t ≡ see_type u) ts us → AllZip SameType ts us
    as_types [] [] k = tt
    as_types [] (u ∷ us) k = absurd k
    as_types (t ∷ ts) [] k = absurd k
    as_types (t ∷ ts) (u ∷ us) k = (type_of t u k.0, as_types ts us k.1)

same_all_types : (xs ys : List ScopeName) (fns gns : List SourceFunction) → AllZip SameName xs ys → AllZip SameFunction fns gns → AllZip SameType (all_types xs fns) (all_types ys gns)
same_all_types xs ys fns gns h k =
    zip_append SameType (flat_map name_types xs) (flat_map written_types fns) (flat_map name_types ys) (flat_map written_types gns)
    (zip_flat SameName SameType name_types name_types same_name_types xs ys h) (zip_flat SameFunction SameType written_types written_types same_written_types fns gns k)

-- ---- what is resolved in turn
pub record SameTurn (t u : Turned) : Type 0 where
  pub address : t.address ≡ u.address
  pub names : AllZip SameName t.names u.names
  pub functions : AllZip SameFunction t.functions u.functions

pub same_turn_occurrences : (t u : Turned) → SameTurn t u → turn_occurrences t ≡ turn_occurrences u
same_turn_occurrences t u h =
    ap (λ (s : Address). flat_map (name_occurrences s) t.names ++ all_function_occurrences s t.functions) h.address
    ∙ ap₂ (λ (l m : List Occurrence). l ++ m) (flat_same SameName (name_occurrences u.address) (same_name_occurrences u.address) t.names u.names h.names) (same_function_occurrences u.address t.functions u.functions h.functions)

abbrev pub SameHandle : Address × Id → Address × Id → Type 0
SameHandle h k = (h.0 ≡ k.0) × SameId h.1 k.1

pub same_turn_handles : (t u : Turned) → SameTurn t u → AllZip SameHandle (turn_handles t) (turn_handles u)
same_turn_handles t u h =
    zip_map SameId SameHandle (λ (id : Id). (t.address, id)) (λ (id : Id). (u.address, id)) (λ a b same. (h.address, same)) (all_handles (all_types t.names t.functions)) (all_handles (all_types u.names u.functions))
    (same_all_handles (all_types t.names t.functions) (all_types u.names u.functions) (same_all_types t.names u.names t.functions u.functions h.names h.functions))

module _ (order : Item → List ℕ) (by_address : (i j : Item) → address i ≡ address j → order i ≡ order j) where
  pub same_names_in_turn : (i j : Item) → SameItem i j → AllZip SameName (names_in_turn order i) (names_in_turn order j)
  same_names_in_turn i j h = same_in_turn (scope_names i) (scope_names j) (order i) (order j) (by_address i j (same_item_address i j h)) (same_scope_names i j h)

  same_interface_turn : (i j : Item) → SameItem i j → SameTurn (interface_turn order i) (interface_turn order j)
  same_interface_turn i j h = record { address = same_item_address i j h; names = same_names_in_turn i j h; functions = same_functions i j h }

  same_turns_on_sides : (s t : Address) → s ≡ t → (xs ys : List SideItem) → AllZip SameSide xs ys → (is js : List Item) → AllZip SameItem is js → AllZip SameTurn (turns_on_sides order s xs is) (turns_on_sides order t ys js)
  same_turns_on_sides s t e [] [] h is js items = tt
  same_turns_on_sides s t e [] (y ∷ ys) h is js items = absurd h
  same_turns_on_sides s t e (x ∷ xs) [] h is js items = absurd h
  same_turns_on_sides s t e (SideFunction f ∷ xs) (SideFunction g ∷ ys) h is js items = (record { address = e; names = tt; functions = (h.0, tt) }, same_turns_on_sides s t e xs ys h.1 is js items)
  same_turns_on_sides s t e (SideLink l ∷ xs) (SideLink k ∷ ys) h is js items = same_turns_on_sides s t e xs ys h.1 is js items
  same_turns_on_sides s t e (SideInline x n ps ∷ xs) (SideInline y m qs ∷ ys) h [] [] items = same_turns_on_sides s t e xs ys h.1 [] [] tt
  same_turns_on_sides s t e (SideInline x n ps ∷ xs) (SideInline y m qs ∷ ys) h [] (j ∷ js) items = absurd items
  same_turns_on_sides s t e (SideInline x n ps ∷ xs) (SideInline y m qs ∷ ys) h (i ∷ is) [] items = absurd items
  same_turns_on_sides s t e (SideInline x n ps ∷ xs) (SideInline y m qs ∷ ys) h (i ∷ is) (j ∷ js) items = (same_interface_turn i j items.0, same_turns_on_sides s t e xs ys h.1 is js items.1)
  same_turns_on_sides s t e (x ∷ xs) (y ∷ ys) h is js items = absurd h.0

  same_world_turns : (i j : Item) → SameItem i j → AllZip SameTurn (turns_of_world order i) (turns_of_world order j)
  same_world_turns i j h = subst₂ (AllZip SameTurn) (sym (turns_walked i order)) (sym (turns_walked j order)) (
    record { address = same_item_address i j h; names = same_names_in_turn i j h; functions = tt },
    same_turns_on_sides (address i) (address j) (same_item_address i j h) (side_items i) (side_items j) (same_side_items i j h) (inline_items i) (inline_items j) (same_inline_items i j h),
  )

  pub same_item_turns : (is js : List Item) → AllZip SameItem is js → AllZip SameTurn (item_turns order is) (item_turns order js)
  same_item_turns is js h =
      zip_append SameTurn (map (interface_turn order) (interfaces_of is)) (flat_map (turns_of_world order) (worlds_of is)) (map (interface_turn order) (interfaces_of js)) (flat_map (turns_of_world order) (worlds_of js))
      (zip_map SameItem SameTurn (interface_turn order) (interface_turn order) same_interface_turn (interfaces_of is) (interfaces_of js) (same_interfaces is js h))
      (zip_flat SameItem SameTurn (turns_of_world order) (turns_of_world order) same_world_turns (worlds_of is) (worlds_of js) (same_worlds is js h))

pub same_own_interfaces : (is js : List Item) → AllZip SameItem is js → AllZip SameItem (own_interfaces is) (own_interfaces js)
same_own_interfaces is js h =
    zip_append SameItem (interfaces_of is) (flat_map inline_items (worlds_of is)) (interfaces_of js) (flat_map inline_items (worlds_of js)) (same_interfaces is js h)
    (zip_flat SameItem SameItem inline_items inline_items same_inline_items (worlds_of is) (worlds_of js) (same_worlds is js h))
