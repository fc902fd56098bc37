-- What the first fault of the names of a scope breaks, of the order of its definitions, of a definition, and of an include.
use Rattle.std.proofs.Common.{◌≡◌, ◌⊎◌, ℕ, Bool, true, false, List, [], ◌++◌, take, Option, Some, None, inl, inr, refl, sym, ap, ◌∙◌, Contains}
use Rattle.wit_syntax.proofs.Common.{Address, AllDiffer, AtForeign, AtResource, Body, Contains-append_left, Defined, DefinedTwice, Elsewhere, End, Fault, ForeignName, Handle, Id, Include, IncludeStability, InterfaceIncluded, IsBroken, IsCyclicEdge, IsMissingEdge, IsNoType, IsOrder, Item, MissingName, OfFunction, OfNothing, PackageFile, Part, Row, Scope, ScopeName, UseName, Used, Word, address, all_items, all_scopes, any_found, at_contains, at_part, body_types, bytes_eq, cases_Bool, contains_at, cyclic_at, defined, defined_at, find_at, find_passes, flat_map, flat_map_at, flat_map_has, function_used, functions, handles, if◌then◌else◌, include_path, includes, interface_there, is_none, is_world_at, item_at, item_name, item_types, leads, list_any, local_id, local_name, map, meaning, missing_at, name_equal, name_itself, name_twice, name_types, name_word, named_found, no_resource, option_map, option_map_or, option_or, part_includes, parts, path_id, same_address, same_address-equal, scope, scope_names, shape_end, shape_of, slice_get, slice_get-map, used, used_at, words, written_types, «Type» as Written}
use Rattle.wit_syntax.specs.Broken.{Metadata}
use Rattle.wit_type_tree.specs.declared.types.TypeDef.{TypeDef}
use Rattle.wit_first.specs.AttributeFaults.{metadata_fault, stability_fault}
use Rattle.wit_first.specs.First.{first_in, first_after, repeat_of}
use Rattle.wit_first.specs.ListFaults.{list_fault}
use Rattle.wit_first.specs.TypeFaults.{type_fault}
use Rattle.wit_first.proofs.Bridge.{after_some, in_some, list_agrees, metadata_agree, or_some, stability_agrees}
use Rattle.wit_first.proofs.First.{any_some}
use Rattle.wit_first.proofs.OrderFaults.{order_broken}
use Rattle.wit_first.proofs.Repeats.{repeat_second}
use Rattle.wit_walk.specs.Definitions.{definition_fault, end_fault, handle_fault}
use Rattle.wit_walk.specs.Names.{lost_use, name_fault, use_fault}
use Rattle.wit_walk.specs.Orders.{Outcome, InOrder, AtMissing, AtCycle, IsOutcome, order_fault, order_of}
use Rattle.wit_walk.specs.Paths.{include_fault, interface_fault}
use Rattle.wit_walk.proofs.FreeFunctions.{free_names, lost_listed, used_interface}
use Rattle.wit_walk.proofs.TypeFaults.{IsOf, handles_among, type_wrong}

pub same_fault : (f g : Fault) → Some g ≡ Some f → f ≡ g
same_fault f g h = cc

-- where a test decides whether there is a fault, or which
pub if_some : (b : Bool) (g f : Fault) → (if b then Some g else None) ≡ Some f → (b ≡ true) × (f ≡ g)
if_some true g f h = (refl, same_fault f g h)
if_some false g f h = absurd (let e : ⊥ = cc in e)

pub if_none : (b : Bool) (g : Fault) → (if b then Some g else None) ≡ None → b ≡ true → ⊥
if_none true g h is = (let e : ⊥ = cc in e)
if_none false g h is = (let e : ⊥ = cc in e)

pub if_true : (b : Bool) (g h : Fault) → b ≡ true → (if b then g else h) ≡ g
if_true true g h is = refl
if_true false g h is = absurd (let e : ⊥ = cc in e)

pub if_false : (b : Bool) (g h : Fault) → b ≡ false → (if b then g else h) ≡ h
if_false true g h is = absurd (let e : ⊥ = cc in e)
if_false false g h is = refl

-- a name that means nothing
pub unmeant : (m : Option ScopeName) (lost f : Fault) → (if is_none m then Some lost else None) ≡ Some f → (m ≡ None) × (f ≡ lost)
unmeant None lost f h = (refl, same_fault f lost h)
unmeant (Some x) lost f h = absurd (let g : ⊥ = cc in g)

no_type : (target : Item) (id : Id) (f : Fault) → f ≡ (if list_any (bytes_eq id.name.now) (free_names target) then function_used id else missing_at 12 name_word id) → IsNoType (Contains (free_names target) id.name.now) (function_used id) (missing_at 12 name_word id) f
no_type target id f is = elim (cases_Bool (list_any (bytes_eq id.name.now) (free_names target))) [
  | inl hit ↦ (
      let it = any_found (bytes_eq id.name.now) (free_names target) hit in
      let same = name_equal id.name.now it.1 it.3 in
      OfFunction (contains_at (free_names target) it.0 id.name.now (it.2 ∙ ap Some (sym same))) (is ∙ if_true (list_any (bytes_eq id.name.now) (free_names target)) (function_used id) (missing_at 12 name_word id) hit))
  | inr miss ↦ OfNothing (λ among. (
      let k = at_contains (free_names target) id.name.now among in
      let wrong : false ≡ true = sym miss ∙ any_some (bytes_eq id.name.now) (free_names target) k.0 id.name.now k.1 (name_itself id.name.now) in
      let g : ⊥ = cc in
      g)) (is ∙ if_false (list_any (bytes_eq id.name.now) (free_names target)) (function_used id) (missing_at 12 name_word id) miss)
]

-- a used name that means nothing in the interface of this package that it comes from
record IsLostUse (files : List PackageFile) (from : Address) (n : UseName) (f : Fault) : Type 0 where
  pub target : Item
  pub at : item_at (all_items files) from ≡ Some target
  pub missing : meaning (scope_names target) n.name.name.now ≡ None
  pub is : f ≡ lost_use target n.name

lost_by : (files : List PackageFile) (from : Address) (n : UseName) (f : Fault) (o : Option Item) → item_at (all_items files) from ≡ o → option_map_or (λ (target : Item). if is_none (meaning (scope_names target) n.name.name.now) then Some (lost_use target n.name) else None) o None ≡ Some f → IsLostUse files from n f
lost_by files from n f None at h = absurd (let g : ⊥ = cc in g)
lost_by files from n f (Some t) at h = let it = unmeant (meaning (scope_names t) n.name.name.now) (lost_use t n.name) f h in record { target = t; at = at; missing = it.0; is = it.1 }

-- the first fault of the order of a table
pub outcome_broken : (lost : Id → Fault) (number : ℕ) (sort : List ℕ) (rs : List Row) (o : Outcome) (f : Fault) → IsOutcome rs o → order_fault lost (cyclic_at number sort) o ≡ Some f → IsMissingEdge lost rs f ⊎ IsCyclicEdge number sort rs f
outcome_broken lost number sort rs (InOrder order) f x h = absurd (let g : ⊥ = cc in g)
outcome_broken lost number sort rs (AtMissing id) f x h = order_broken lost number sort rs f (inl (x.0, x.1, record { id = id; first = x.2 }, same_fault f (lost id) h))
outcome_broken lost number sort rs (AtCycle id) f x h = order_broken lost number sort rs f (inr (x.1, x.2, record { complete = x.0; id = id; first = x.3 }, same_fault f (cyclic_at number sort id) h))

pub outcome_order : (lost round : Id → Fault) (rs : List Row) (o : Outcome) → IsOutcome rs o → order_fault lost round o ≡ None → IsOrder rs (order_of o)
outcome_order lost round rs (InOrder order) x h = x
outcome_order lost round rs (AtMissing id) x h = absurd (let g : ⊥ = cc in g)
outcome_order lost round rs (AtCycle id) x h = absurd (let g : ⊥ = cc in g)

-- a name in a handle
end_wrong : (id : Id) (e : Option End) (f : Fault) → end_fault id e ≡ Some f → (e ≡ Some Elsewhere) × (f ≡ no_resource id)
end_wrong id None f h = absurd (let g : ⊥ = cc in g)
end_wrong id (Some AtResource) f h = absurd (let g : ⊥ = cc in g)
end_wrong id (Some (AtForeign s name)) f h = absurd (let g : ⊥ = cc in g)
end_wrong id (Some Elsewhere) f h = (refl, same_fault f (no_resource id) h)

-- an include
include_has : (ps : List Part) (n : Include) → Contains (flat_map part_includes ps) n → Contains (flat_map include_path ps) n.from
include_has ps n among =
    let k = at_contains (flat_map part_includes ps) n among in
    let p = flat_map_at part_includes ps k.0 n k.1 in
    let own : slice_get (include_path p.1) p.3.0 ≡ Some n.from = slice_get-map (λ (i : Include). i.from) (part_includes p.1) p.3.0 ∙ ap (option_map (λ (i : Include). i.from)) p.3.1 in
    let it = flat_map_has include_path ps p.0 p.3.0 p.1 n.from p.2 own in
    contains_at (flat_map include_path ps) it.0 n.from it.1

interface_wrong : (o : Option Bool) (id : Id) (f : Fault) → interface_fault o id ≡ Some f → (o ≡ Some false) × (f ≡ interface_there id)
interface_wrong None id f h = absurd (let g : ⊥ = cc in g)
interface_wrong (Some true) id f h = absurd (let g : ⊥ = cc in g)
interface_wrong (Some false) id f h = (refl, same_fault f (interface_there id) h)

pub includes_broken : (files : List PackageFile) (i : Item) → Contains (all_items files) i → (f : Fault) → first_in (include_fault files i.top) (includes i) ≡ Some f → IsBroken files f
includes_broken files i here f h =
    let it = in_some (include_fault files i.top) (includes i) f h in
    let n = it.1 in
    let among = contains_at (includes i) it.0 n it.2 in
    let there = is_world_at files (leads i.top n.from) in
    elim (or_some (stability_fault n.attributes.items) (interface_fault there (path_id n.from)) f it.3) [
      | inl own ↦ IncludeStability i here n among ((stability_agrees n.attributes.items).broken f own)
      | inr far ↦ (let wrong = interface_wrong there (path_id n.from) f far.1 in InterfaceIncluded i here n.from (include_has (parts i) n among) wrong.0 wrong.1)
    ]

-- a scope among all
module _ (files : List PackageFile) (i : Item) (among : Contains (all_scopes files) i) where
  abbrev xs : List ScopeName
  xs = scope_names i

  use_broken : AllDiffer (map item_name (all_items files)) → (x : ScopeName) (f : Fault) → Contains xs x → use_fault files x ≡ Some f → IsBroken files f
  use_broken d (Used from attributes n) f has h =
      let it = lost_by files from n f (item_at (all_items files) from) refl h in
      let test = λ (v : Item). same_address (address v) from in
      let t = find_at test (all_items files) it.target it.at in
      let same : address it.target ≡ from = same_address-equal (address it.target) from (find_passes test (all_items files) it.target it.at) in
      MissingName i among from attributes n has it.target (sym same) (named_found (all_items files) t.0 it.target d t.1) it.missing (no_type it.target n.name f (it.is ∙ sym (lost_listed it.target (used_interface i from attributes n has it.target same) n.name)))
  use_broken d (Defined def) f has h = absurd (let g : ⊥ = cc in g)
  use_broken d (ForeignName attributes id) f has h = absurd (let g : ⊥ = cc in g)

  pub names_broken : AllDiffer (map item_name (all_items files)) → (f : Fault) → first_after (name_fault files) [] (used xs ++ defined xs) ≡ Some f → IsBroken files f
  names_broken d f h =
      let it = after_some (name_fault files) [] (used xs ++ defined xs) f h in
      let x = it.1 in
      let has : Contains xs x = elim (at_part (used xs) (defined xs) it.0 x it.2) [
        | inl own ↦ (let p = used_at xs own.0 x own.1 in contains_at xs p.0 x p.1)
        | inr own ↦ (let p = defined_at xs own.0 x own.1 in contains_at xs p.0 x p.1)
      ] in
      elim (or_some (use_fault files x) (repeat_of local_name (λ (y : ScopeName). name_twice (local_id y)) (take it.0 (used xs ++ defined xs)) x) f it.3) [
        | inl own ↦ use_broken d x f has own
        | inr far ↦ Scope i among (DefinedTwice (repeat_second local_name (λ (y : ScopeName). name_twice (local_id y)) (used xs ++ defined xs) it.0 x f it.2 far.1))
      ]

  pub handle_broken : scope files (address i) ≡ xs → (n : ℕ) (t : Written) (f : Fault) → Contains (item_types i) t → IsOf (handles t) (words (shape_of t)) (handle_fault files n (address i)) f → IsBroken files f
  handle_broken meant n t f has h =
      let k = at_contains (item_types i) t has in
      let e = end_wrong h.id (shape_end files n (address i) (Word h.id)) f h.is in
      Handle i among meant (h.id, handles_among (item_types i) k.0 t k.1 h.id h.among, (n, e.0), e.1)

  -- a definition
  type_among : (d : TypeDef) (t : Written) → Contains xs (Defined d) → Contains (body_types d.body) t → Contains (item_types i) t
  type_among d t has inside =
      let p = at_contains xs (Defined d) has in
      let j = at_contains (body_types d.body) t inside in
      let it = flat_map_has name_types xs p.0 j.0 (Defined d) t p.1 j.1 in
      Contains-append_left (flat_map name_types xs) (flat_map written_types (functions i)) t (contains_at (flat_map name_types xs) it.0 t it.1)

  pub definition_broken : scope files (address i) ≡ xs → (n : ℕ) (x : ScopeName) (f : Fault) → Contains xs x → definition_fault (handle_fault files n (address i)) x ≡ Some f → IsBroken files f
  definition_broken meant n (Defined d) f has h =
      let types = first_in (type_fault (λ (id : Id). None) (handle_fault files n (address i))) (body_types d.body) in
      elim (or_some (metadata_fault d.attributes.items) (option_or (list_fault d.body) types) f h) [
        | inl metadata ↦ Scope i among (Metadata d has ((metadata_agree d.attributes.items).broken f metadata))
        | inr later ↦ elim (or_some (list_fault d.body) types f later.1) [
          | inl list ↦ Scope i among (Body d has (inl ((list_agrees d.body).broken f list)))
          | inr last ↦ (
              let it = in_some (type_fault (λ (id : Id). None) (handle_fault files n (address i))) (body_types d.body) f last.1 in
              let inside = contains_at (body_types d.body) it.0 it.1 it.2 in
              elim (type_wrong (λ (id : Id). None) (handle_fault files n (address i)) it.1 f it.3) [
                | inl broken ↦ Scope i among (Body d has (inr (it.1, inside, broken)))
                | inr name ↦ elim name [
                  | inl word ↦ absurd (let none : None ≡ Some f = word.is in let g : ⊥ = cc in g)
                  | inr handle ↦ handle_broken meant n it.1 f (type_among d it.1 has inside) handle
                ]
              ])
        ]
      ]
  definition_broken meant n (Used from attributes name) f has h = absurd (let g : ⊥ = cc in g)
  definition_broken meant n (ForeignName attributes id) f has h = absurd (let g : ⊥ = cc in g)
