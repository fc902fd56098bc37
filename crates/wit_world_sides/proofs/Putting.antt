-- What is put on a side of a world, one entry more: where keys differ it comes last.
use Rattle.std.proofs.Common.{◌≡◌, ◌⊎◌, ℕ, ◌<◌, ◌+◌, Bool, true, false, List, [], ◌∷◌, ◌++◌, length, Some, map, nat_eq, if◌then◌else◌, inl, inr, refl, sym, ap, ◌∙◌, arith, append_assoc, zero, suc, None, subst, Option, take}
use Rattle.wit_arena.proofs.Common.{AllDiffer, WorldKey, WorldSide, append-nil, at_back, at_prefix, cases_Bool, differ_at, eq-value as key_test, insert_entry, insert_entry-new, name_cases, put_on, same_side, slice_get, slice_get_within, ForeignName, Id, Names, ScopeName, SideItem, differ_by, differ_none, flat_map, flat_map-append, flat_map_has, folded_key, local_id, local_name, local_names, map-append, names_in, type_imports, Function, WorldItem, after_one, at_split, codes, cond-false, cond-true, function_item, function_of, types_stated, Called, Exported, Imported, Link, SideLink, item_side, items_on, link_item, link_key, map_map, names_on, option_map_or, Type_, at_take, key_at, map, pointwise, is_name, lookup, name_itself, option_to_list}
use Rattle.wit_world_sides.specs.Members.{Entry, inserted_on, key_places, item_word, AreKeyed, Puts, entry_sorted, entries_of}
use Rattle.wit_refusals.specs.NameScopes.{Name}
use Rattle.wit_signatures.specs.FunctionsOfScope.{name_of_id, name_key}
use Rattle.wit_externs.specs.Clash.{item_names, linked_on}
use Rattle.wit_walk.proofs.Common.{item_sorted, sort_among, sorted_name}
use Rattle.wit_sides.specs.SideNames.{defined_on}
use Rattle.wit_world_sides.specs.declared.members.Members.{Members}
use Rattle.wit_model.specs.declared.world.WorldKey.TheVariants as key
use Rattle.wit_model.specs.declared.world.WorldItem.TheVariants as item
use Rattle.wit_model.specs.ItemsOfWorlds.{name_of}

-- each function among these entries is at its name
abbrev pub AreCalled : List (WorldKey × WorldItem) → Type 0
AreCalled xs = (k : ℕ) (e : WorldKey × WorldItem) (f : Function) → slice_get xs k ≡ Some e → function_of e.1 ≡ Some f → e.0 ≡ key.Name f.name

abbrev pub key_of : Entry → WorldKey
key_of e = e.0

place_cases : (i j : ℕ) → (i ≡ j) ⊎ (nat_eq i j ≡ false)
place_cases i j = elim (cases_Bool (nat_eq i j)) [
  | inl same ↦ inl (grind (arith, same))
  | inr apart ↦ inr apart
]

-- a key is another one, or is stated from it
key_cases : (a b : WorldKey) → (a ≡ b) ⊎ (key_test.it a b ≡ false)
key_cases (key.Name a) (key.Name b) = elim (name_cases a b) [
  | inl same ↦ inl (ap key.Name same)
  | inr apart ↦ inr apart
]
key_cases (key.Name a) (key.Interface j) = inr refl
key_cases (key.Interface i) (key.Name b) = inr refl
key_cases (key.Interface i) (key.Interface j) = elim (place_cases i j) [
  | inl same ↦ inl (ap key.Interface same)
  | inr apart ↦ inr apart
]

-- no entry before one has its key
new_key : (prefix rest : List Entry) (x : Entry) → AllDiffer (map key_of (prefix ++ x ∷ rest)) → (i : ℕ) (e : Entry) → slice_get prefix i ≡ Some e → key_test.it x.0 e.0 ≡ false
new_key prefix rest x differ i e at = elim (key_cases x.0 e.0) [
  | inl same ↦ absurd (
      let one = differ_at key_of (prefix ++ x ∷ rest) differ i (length prefix + 0) e x (at_prefix prefix (x ∷ rest) i e at) (at_back prefix (x ∷ rest) 0 x refl) (sym same) in
      let lt : i < length prefix = slice_get_within prefix i e at in
      let f : ⊥ = omega arith in
      f)
  | inr apart ↦ apart
]

-- an entry is put on the side, or on the other one
pub put_next : (b : Bool) (prefix rest : List Entry) (x : Entry) → AllDiffer (map key_of (prefix ++ (if b then x ∷ rest else rest))) → (if b then insert_entry key_test.it prefix x.0 x.1 else prefix) ++ rest ≡ prefix ++ (if b then x ∷ rest else rest)
put_next true prefix rest x differ = ap (λ (l : List Entry). l ++ rest) (insert_entry-new key_test.it prefix x.0 x.1 (new_key prefix rest x differ)) ∙ append_assoc prefix (x ∷ []) rest
put_next false prefix rest x differ = refl

-- so it comes last there
pub put_one : (s own : WorldSide) (prefix : List Entry) (x : Entry) → AllDiffer (map key_of (prefix ++ put_on s own x [])) → inserted_on s own x prefix ≡ prefix ++ put_on s own x []
put_one s own prefix x differ = sym (append-nil (inserted_on s own x prefix)) ∙ put_next (same_side s own) prefix [] x differ

-- The keys of what a world has on a side differ, where its names do, and the places of interfaces without one.
-- the names and the places among the keys of entries
abbrev key_names : WorldKey → List (List ℕ)
key_names k = option_to_list (name_of k)

abbrev pub names_among : List Entry → List (List ℕ)
names_among es = flat_map key_names (map key_of es)

abbrev pub places_among : List Entry → List ℕ
places_among es = flat_map key_places (map key_of es)

-- where elements differ, those after the first do, and it is none of them
differ_tail : {X : Type 0} (x : X) (xs : List X) → AllDiffer (x ∷ xs) → AllDiffer xs
differ_tail x xs d = record { differ = λ i j y at_i at_j. (let same : suc i ≡ suc j = d.differ (suc i) (suc j) y at_i at_j in cc) }

differ_head : {X : Type 0} (x : X) (xs : List X) → AllDiffer (x ∷ xs) → (i : ℕ) → slice_get xs i ≡ Some x → ⊥
differ_head x xs d i at =
    let same : zero ≡ suc i = d.differ zero (suc i) x refl at in
    let f : ⊥ = cc in
    f

differ_prefix : {X : Type 0} (x : X) (xs : List X) → AllDiffer xs → ((i : ℕ) → slice_get xs i ≡ Some x → ⊥) → AllDiffer (x ∷ xs)
differ_prefix {X} x xs d new = record { differ = go }
  where
    go : (i j : ℕ) (y : X) → slice_get (x ∷ xs) i ≡ Some y → slice_get (x ∷ xs) j ≡ Some y → i ≡ j
    go zero zero y a b = refl
    go zero (suc j) y a b = absurd (new j (b ∙ sym a))
    go (suc i) zero y a b = absurd (new i (a ∙ sym b))
    go (suc i) (suc j) y a b = ap suc (d.differ i j y a b)

-- keys differ, where names do and places do
pub keys_apart : (ks : List WorldKey) → AllDiffer (flat_map key_names ks) → AllDiffer (flat_map key_places ks) → AllDiffer ks
keys_apart [] names places = differ_none
keys_apart (key.Name n ∷ ks) names places = differ_prefix (key.Name n) ks (keys_apart ks (differ_tail n (flat_map key_names ks) names) places) (λ i at. (
    let p = flat_map_has key_names ks i 0 (key.Name n) n at refl in
    differ_head n (flat_map key_names ks) names p.0 p.1))
keys_apart (key.Interface t ∷ ks) names places = differ_prefix (key.Interface t) ks (keys_apart ks names (differ_tail t (flat_map key_places ks) places)) (λ i at. (
    let p = flat_map_has key_places ks i 0 (key.Interface t) t at refl in
    differ_head t (flat_map key_places ks) places p.0 p.1))

-- where the folded keys of names differ, the names do
pub texts_differ : (names : List Name) → AllDiffer (map name_key names) → AllDiffer (map (λ (n : Name). n.0) names)
texts_differ names d = differ_by (λ (n : Name). n.0) names (λ i j x y at_x at_y same. differ_at name_key names d i j x y at_x at_y (ap folded_key same))

-- the names and the places of entries after others
pub names_both : (xs ys : List Entry) → names_among (xs ++ ys) ≡ names_among xs ++ names_among ys
names_both xs ys = ap (flat_map key_names) (map-append key_of xs ys) ∙ flat_map-append key_names (map key_of xs) (map key_of ys)

pub places_both : (xs ys : List Entry) → places_among (xs ++ ys) ≡ places_among xs ++ places_among ys
places_both xs ys = ap (flat_map key_places) (map-append key_of xs ys) ∙ flat_map-append key_places (map key_of xs) (map key_of ys)

-- those of one entry, or of none
pub entry_names : (b : Bool) (e : Entry) (x : SideItem) → key_names e.0 ≡ map (λ (n : Name). n.0) (item_names x) → names_among (if b then e ∷ [] else []) ≡ map (λ (n : Name). n.0) (flat_map item_names (if b then x ∷ [] else []))
entry_names true e x one = append-nil (key_names e.0) ∙ one ∙ ap (map (λ (n : Name). n.0)) (sym (append-nil (item_names x)))
entry_names false e x one = refl

pub entry_places : (b : Bool) (e : Entry) → places_among (if b then e ∷ [] else []) ≡ (if b then key_places e.0 else [])
entry_places true e = append-nil (key_places e.0)
entry_places false e = refl

-- nothing more
pub nothing_more : (b : Bool) (ids : List ℕ) → ids ≡ ids ++ (if b then [] else [])
nothing_more true ids = sym (append-nil ids)
nothing_more false ids = sym (append-nil ids)

-- the names of a scope as imports: their keys are names alone
pub type_names : (xs : List ScopeName) (types : Names) → names_in types ≡ local_names xs → names_among (type_imports xs types) ≡ map (λ (n : Name). n.0) (map name_of_id (map local_id xs))
type_names [] types listed = refl
type_names (x ∷ xs) [] listed = absurd (let f : ⊥ = cc in f)
type_names (x ∷ xs) (t ∷ ts) listed =
    let rest : names_in ts ≡ local_names xs = cc in
    ap (λ (l : List (List ℕ)). local_name x ∷ l) (type_names xs ts rest)

pub type_places : (xs : List ScopeName) (types : Names) → places_among (type_imports xs types) ≡ []
type_places [] types = refl
type_places (x ∷ xs) [] = refl
type_places (x ∷ xs) (t ∷ ts) = type_places xs ts

-- each list of ids is that of names
pub names_of : (ids : List Id) → (xs : List ScopeName) × (ids ≡ map local_id xs)
names_of [] = ([], refl)
names_of (id ∷ ids) = let rest = names_of ids in (ForeignName [] id ∷ rest.0, ap (λ l. id ∷ l) rest.1)

-- The functions that a world has on a side are at their names.
-- an entry is at its name, if it is a function
abbrev pub IsCalled : Entry → Type 0
IsCalled x = (f : Function) → function_of x.1 ≡ Some f → x.0 ≡ key.Name f.name

pub called_both : (xs ys : List Entry) → AreCalled xs → AreCalled ys → AreCalled (xs ++ ys)
called_both xs ys first second k e f at is = elim (at_split xs ys k e at) [
  | inl h ↦ first k e f h is
  | inr h ↦ second h.0 e f h.2 is
]

called_more : (x : Entry) (xs : List Entry) → IsCalled x → AreCalled xs → AreCalled (x ∷ xs)
called_more x xs own rest k e f at is = elim (after_one x xs k e at) [
  | inl here ↦ subst (λ (z : Entry). z.0 ≡ key.Name f.name) here (own f (ap (λ (z : Entry). function_of z.1) here ∙ is))
  | inr far ↦ rest far.0 e f far.1 is
]

pub called_put : (side own : WorldSide) (x : Entry) (xs : List Entry) → IsCalled x → AreCalled xs → AreCalled (put_on side own x xs)
called_put side own x xs one rest = elim (cases_Bool (same_side side own)) [
  | inl hit ↦ subst AreCalled (sym (cond-true (same_side side own) (x ∷ xs) xs hit)) (called_more x xs one rest)
  | inr miss ↦ subst AreCalled (sym (cond-false (same_side side own) (x ∷ xs) xs miss)) rest
]

pub function_called : (m : Function) → IsCalled (function_item m)
function_called m f is = let same : m ≡ f = cc in ap (λ (g : Function). key.Name g.name) same

pub types_called : (xs : List ScopeName) (types : Names) → AreCalled (type_imports xs types)
types_called xs types k e f at is = absurd (let wrong : None ≡ Some f = sym (types_stated xs types k e at) ∙ is in let g : ⊥ = cc in g)

pub none_called : AreCalled []
none_called k e f at is = absurd (let g : ⊥ = cc in g)

-- what the word for an interface means is no function
pub interface_none : (it : WorldItem) → item_word it ≡ codes "interface" → function_of it ≡ None
interface_none (item.Interface id stability external_id docs span) is = refl
interface_none (item.Function f) is = absurd (let wrong : 4 ≡ 9 = ap length is in let g : ⊥ = cc in g)
interface_none (item.Type_ id span) is = refl

-- an interface is no function
pub other_called : (x : Entry) → function_of x.1 ≡ None → IsCalled x
other_called x none f is = absurd (let wrong : None ≡ Some f = sym none ∙ is in let g : ⊥ = cc in g)

-- One more on a side of a world: where its name, or the place that it is, was not in use there, it comes last.
-- no key is twice on a side
pub keyed_differ : (m : Members) → AreKeyed m → (s : WorldSide) → AllDiffer (map key_of (entries_of s m.sides))
keyed_differ m keyed s = keys_apart (map key_of (entries_of s m.sides)) (subst AllDiffer (sym (keyed.names s)) (texts_differ (defined_on s m.in_use) (keyed.differ s))) (subst AllDiffer (sym (keyed.places s)) (keyed.apart s))

module _ (m m' : Members) (x : SideItem) (e : Entry) (keyed : AreKeyed m) (in_use : (s : WorldSide) → defined_on s m'.in_use ≡ defined_on s m.in_use ++ flat_map item_names (items_on s (x ∷ []))) (differ : (s : WorldSide) → AllDiffer (map name_key (defined_on s m'.in_use))) (linked : (s : WorldSide) → linked_on s m'.links ≡ linked_on s m.links ++ (if same_side s (item_side x) then key_places e.0 else [])) (apart : (s : WorldSide) → AllDiffer (linked_on s m'.links)) (names : key_names e.0 ≡ map (λ (n : Name). n.0) (item_names x)) (called : IsCalled e) (sorts : entry_sorted e ≡ item_sorted x) (inserted : (s : WorldSide) → entries_of s m'.sides ≡ inserted_on s (item_side x) e (entries_of s m.sides)) where
  names_then : (s : WorldSide) → names_among (entries_of s m.sides ++ put_on s (item_side x) e []) ≡ map (λ (n : Name). n.0) (defined_on s m'.in_use)
  names_then s =
      names_both (entries_of s m.sides) (put_on s (item_side x) e [])
      ∙ ap (λ (l : List (List ℕ)). l ++ names_among (put_on s (item_side x) e [])) (keyed.names s)
      ∙ ap (λ (l : List (List ℕ)). map (λ (n : Name). n.0) (defined_on s m.in_use) ++ l) (entry_names (same_side s (item_side x)) e x names)
      ∙ sym (map-append (λ (n : Name). n.0) (defined_on s m.in_use) (flat_map item_names (items_on s (x ∷ []))))
      ∙ ap (map (λ (n : Name). n.0)) (sym (in_use s))

  places_then : (s : WorldSide) → places_among (entries_of s m.sides ++ put_on s (item_side x) e []) ≡ linked_on s m'.links
  places_then s =
      places_both (entries_of s m.sides) (put_on s (item_side x) e [])
      ∙ ap (λ (l : List ℕ). l ++ places_among (put_on s (item_side x) e [])) (keyed.places s)
      ∙ ap (λ (l : List ℕ). linked_on s m.links ++ l) (entry_places (same_side s (item_side x)) e)
      ∙ sym (linked s)

  keys_then : (s : WorldSide) → AllDiffer (map key_of (entries_of s m.sides ++ put_on s (item_side x) e []))
  keys_then s = keys_apart (map key_of (entries_of s m.sides ++ put_on s (item_side x) e [])) (subst AllDiffer (sym (names_then s)) (texts_differ (defined_on s m'.in_use) (differ s))) (subst AllDiffer (sym (places_then s)) (apart s))

  put_then : (s : WorldSide) → entries_of s m'.sides ≡ entries_of s m.sides ++ put_on s (item_side x) e []
  put_then s = inserted s ∙ put_one s (item_side x) (entries_of s m.sides) e (keys_then s)

  pub puts : Puts m m' x e
  puts = record {
    in_use = in_use;
    linked = linked;
    put = put_then;
    sorted = sorts;
    keyed = record {
      names = λ s. ap names_among (put_then s) ∙ names_then s;
      places = λ s. ap places_among (put_then s) ∙ places_then s;
      differ = differ;
      apart = apart;
      called = λ s. subst AreCalled (sym (put_then s)) (called_both (entries_of s m.sides) (put_on s (item_side x) e []) (keyed.called s) (called_put s (item_side x) e [] called none_called));
    };
  }

-- an interface by its path, under its name or as itself
pub put_under : (m m' : Members) (link : Link) (own : Id) (id : ℕ) (item : WorldItem) → link.name ≡ Some own → item ≡ (link_item link id).1 → Puts m m' (SideLink link) (key.Name own.name.now, item) → Puts m m' (SideLink link) (link_item link id)
put_under m m' link own id item named is put =
    let entry : (key.Name own.name.now, item) ≡ link_item link id = ap (λ (n : Option Id). (link_key n id, item)) (sym named) ∙ ap (λ (i : WorldItem). (link_key link.name id, i)) is in
    subst (Puts m m' (SideLink link)) entry put

pub put_itself : (m m' : Members) (link : Link) (id : ℕ) (item : WorldItem) → link.name ≡ None → item ≡ (link_item link id).1 → Puts m m' (SideLink link) (key.Interface id, item) → Puts m m' (SideLink link) (link_item link id)
put_itself m m' link id item bare is put =
    let entry : (key.Interface id, item) ≡ link_item link id = ap (λ (n : Option Id). (link_key n id, item)) (sym bare) ∙ ap (λ (i : WorldItem). (link_key link.name id, i)) is in
    subst (Puts m m' (SideLink link)) entry put

abbrev called_by : Option Id → List Called
called_by o = option_map_or (λ (id : Id). (record { name = id.name.now; span = id.span; sort = codes "interface" } ∷ [])) o []

-- the names of a link
pub names_under : (link : Link) (own : Id) → link.name ≡ Some own → item_names (SideLink link) ≡ name_of_id own ∷ []
names_under link own named = ap (λ (n : Option Id). map (λ (c : Called). (c.name, c.span)) (called_by n)) named

pub names_itself : (link : Link) → link.name ≡ None → item_names (SideLink link) ≡ []
names_itself link bare = ap (λ (n : Option Id). map (λ (c : Called). (c.name, c.span)) (called_by n)) bare

-- and with the word for an interface
pub sorted_under : (link : Link) (own : Id) → link.name ≡ Some own → item_sorted (SideLink link) ≡ (own.name.now, codes "interface") ∷ []
sorted_under link own named = ap (λ (n : Option Id). map sorted_name (called_by n)) named

pub sorted_itself : (link : Link) → link.name ≡ None → item_sorted (SideLink link) ≡ []
sorted_itself link bare = ap (λ (n : Option Id). map sorted_name (called_by n)) bare

-- at first the names of a scope are there, as imports
begun : (m : Members) (xs : List ScopeName) (types : Names) (ids : List Id) → ids ≡ map local_id xs → names_in types ≡ local_names xs → m.sides.imports ≡ type_imports xs types → m.sides.exports ≡ [] → ((s : WorldSide) → defined_on s m.in_use ≡ names_on s (map name_of_id ids)) → ((s : WorldSide) → AllDiffer (map name_key (defined_on s m.in_use))) → ((s : WorldSide) → linked_on s m.links ≡ []) → AreKeyed m
begun m xs types ids are listed imports exports in_use differ linked = record {
  names = names;
  places = places;
  differ = differ;
  apart = λ s. subst AllDiffer (sym (linked s)) differ_none;
  called = called;
}
  where
    names : (s : WorldSide) → names_among (entries_of s m.sides) ≡ map (λ (n : Name). n.0) (defined_on s m.in_use)
    names Imported = ap names_among imports ∙ type_names xs types listed ∙ ap (λ (l : List Id). map (λ (n : Name). n.0) (map name_of_id l)) (sym are) ∙ ap (map (λ (n : Name). n.0)) (sym (in_use Imported))
    names Exported = ap names_among exports ∙ ap (map (λ (n : Name). n.0)) (sym (in_use Exported))

    places : (s : WorldSide) → places_among (entries_of s m.sides) ≡ linked_on s m.links
    places Imported = ap places_among imports ∙ type_places xs types ∙ sym (linked Imported)
    places Exported = ap places_among exports ∙ sym (linked Exported)

    called : (s : WorldSide) → AreCalled (entries_of s m.sides)
    called Imported = subst AreCalled (sym imports) (types_called xs types)
    called Exported = subst AreCalled (sym exports) none_called

-- so by their ids
pub begun_with : (m : Members) (types : Names) (ids : List Id) → names_in types ≡ map (λ id. id.name.now) ids → ((xs : List ScopeName) → ids ≡ map local_id xs → m.sides.imports ≡ type_imports xs types) → m.sides.exports ≡ [] → ((s : WorldSide) → defined_on s m.in_use ≡ names_on s (map name_of_id ids)) → ((s : WorldSide) → AllDiffer (map name_key (defined_on s m.in_use))) → ((s : WorldSide) → linked_on s m.links ≡ []) → AreKeyed m
begun_with m types ids listed imports exports in_use differ linked =
    let own = names_of ids in
    let texts : names_in types ≡ local_names own.0 = listed ∙ ap (map (λ (id : Id). id.name.now)) own.1 ∙ map_map (λ (id : Id). id.name.now) local_id own.0 in
    begun m own.0 types ids own.1 texts (imports own.0 own.1) exports in_use differ linked

-- Names of a scope as imports of a world, one more.
-- one name more, where it means something
imports_next : (xs : List ScopeName) (types : Names) (k : ℕ) (x : ScopeName) (t : List ℕ × ℕ) → slice_get xs k ≡ Some x → slice_get types k ≡ Some t → type_imports (take (suc k) xs) types ≡ type_imports (take k xs) types ++ (key.Name (local_name x), Type_ t.1 (local_id x).span) ∷ []
imports_next [] types k x t at there = absurd (let f : ⊥ = cc in f)
imports_next (y ∷ ys) [] k x t at there = absurd (let f : ⊥ = cc in f)
imports_next (y ∷ ys) (u ∷ us) zero x t at there =
    let one : y ≡ x = cc in
    let other : u ≡ t = cc in
    ap (λ (z : ScopeName). (key.Name (local_name z), Type_ u.1 (local_id z).span) ∷ []) one ∙ ap (λ (v : List ℕ × ℕ). (key.Name (local_name x), Type_ v.1 (local_id x).span) ∷ []) other
imports_next (y ∷ ys) (u ∷ us) (suc k) x t at there = ap (λ l. (key.Name (local_name y), Type_ u.1 (local_id y).span) ∷ l) (imports_next ys us k x t at there)

imports_ended : (xs : List ScopeName) (types : Names) (k : ℕ) → slice_get types k ≡ None → type_imports (take (suc k) xs) types ≡ type_imports (take k xs) types
imports_ended [] types zero none = refl
imports_ended [] types (suc k) none = refl
imports_ended (y ∷ ys) [] zero none = refl
imports_ended (y ∷ ys) [] (suc k) none = refl
imports_ended (y ∷ ys) (u ∷ us) zero none = absurd (let f : ⊥ = cc in f)
imports_ended (y ∷ ys) (u ∷ us) (suc k) none = ap (λ l. (key.Name (local_name y), Type_ u.1 (local_id y).span) ∷ l) (imports_ended ys us k none)

-- where it means nothing, there is no import more
pub imports_past : (xs : List ScopeName) (types : Names) (k : ℕ) → slice_get types k ≡ None → type_imports (take (k + 1) xs) types ≡ type_imports (take k xs) types
imports_past xs types k none =
    let next : k + 1 ≡ suc k = omega arith in
    ap (λ n. type_imports (take n xs) types) next ∙ imports_ended xs types k none

-- an import at a name that none of these has comes last
import_last : (xs : List ScopeName) (types : Names) (name : List ℕ) (item : WorldItem) → ((i : ℕ) (y : ScopeName) → slice_get xs i ≡ Some y → pointwise nat_eq name (local_name y) ≡ false) → insert_entry key_test.it (type_imports xs types) (key.Name name) item ≡ type_imports xs types ++ (key.Name name, item) ∷ []
import_last [] types name item other = refl
import_last (y ∷ ys) [] name item other = refl
import_last (y ∷ ys) (u ∷ us) name item other =
    rw (other 0 y refl) (ap (λ l. (key.Name (local_name y), Type_ u.1 (local_id y).span) ∷ l) (import_last ys us name item (λ i z at. other (suc i) z at)))

-- where names differ, none before one is the same
other_before : (xs : List ScopeName) (k : ℕ) (x : ScopeName) → AllDiffer (map local_name xs) → slice_get xs k ≡ Some x → (i : ℕ) (y : ScopeName) → slice_get (take k xs) i ≡ Some y → pointwise nat_eq (local_name x) (local_name y) ≡ false
other_before xs k x differ at i y there = elim (name_cases (local_name x) (local_name y)) [
  | inl same ↦ absurd (
      let prefix = at_take xs k i y there in
      let one = differ.differ i k (local_name x) (key_at local_name xs i y prefix.0 ∙ ap Some (sym same)) (key_at local_name xs k x at) in
      let lt : i < k = prefix.1 in
      let f : ⊥ = omega arith in
      f)
  | inr other ↦ other
]

-- the import of one name more
pub import_next : (xs : List ScopeName) (ids : List Id) (types : Names) (k : ℕ) (x : ScopeName) (t : List ℕ × ℕ) → ids ≡ map local_id xs → AllDiffer (map (λ (id : Id). id.name.now) ids) → slice_get xs k ≡ Some x → slice_get types k ≡ Some t → insert_entry key_test.it (type_imports (take k xs) types) (key.Name (local_name x)) (Type_ t.1 (local_id x).span) ≡ type_imports (take (k + 1) xs) types
import_next xs ids types k x t are differ at there =
    let next : k + 1 ≡ suc k = omega arith in
    let names : AllDiffer (map local_name xs) = subst AllDiffer (ap (map (λ (id : Id). id.name.now)) are ∙ map_map (λ (id : Id). id.name.now) local_id xs) differ in
    import_last (take k xs) types (local_name x) (Type_ t.1 (local_id x).span) (other_before xs k x names at) ∙ sym (ap (λ n. type_imports (take n xs) types) next ∙ imports_next xs types k x t at there)

-- The word for what has a name on a side of a world.
-- two names are not one, from either
apart : (a b : List ℕ) → pointwise nat_eq a b ≡ false → pointwise nat_eq b a ≡ false
apart a b miss = elim (name_cases b a) [
  | inl same ↦ absurd (let wrong : true ≡ false = sym (ap (pointwise nat_eq a) same ∙ name_itself a) ∙ miss in let f : ⊥ = cc in f)
  | inr other ↦ other
]

-- that of the first entry with the name
pub sort_lookup : (es : List Entry) (name : List ℕ) → sort_among (flat_map entry_sorted es) name ≡ option_map_or item_word (lookup (is_name name) es) (codes "func")
sort_lookup [] name = refl
sort_lookup ((key.Interface i, it) ∷ es) name = sort_lookup es name
sort_lookup ((key.Name own, it) ∷ es) name = elim (name_cases name own) [
  | inl same ↦ (
      let here : pointwise nat_eq name own ≡ true = ap (pointwise nat_eq name) (sym same) ∙ name_itself name in
      let there : pointwise nat_eq own name ≡ true = ap (λ (n : List ℕ). pointwise nat_eq n name) (sym same) ∙ name_itself name in
      rw (here, there) refl)
  | inr other ↦ rw (other, apart name own other) (sort_lookup es name)
]
