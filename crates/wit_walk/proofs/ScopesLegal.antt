-- Where the walk finds nothing in the names and definitions of an item, no rule about them is broken.
use Rattle.std.proofs.Common.{◌≡◌, ◌≤◌, ℕ, zero, suc, List, [], ◌++◌, take, Option, Some, None, inl, inr, ap, ◌∙◌, subst, Contains, arith}
use Rattle.wit_syntax.proofs.Common.{Address, AliasForm, AllDiffer, Attribute, Contains-append_cases, Defined, Elsewhere, End, Fault, ForeignName, Form, Id, IsBrokenBody, IsBrokenMetadata, IsNoResource, IsOrder, IsSecond, Item, More, Of, PackageFile, Prim, ScopeName, Shape, Shapes, UseName, Used, Word, about_name, address, all_declared, all_items, at_contains, at_prefix, body_types, contains_at, defined, defined_has, first_named, flat_map, functions, handles, if◌then◌else◌, in_order, in_order_all, is_none, item_at, item_name, item_named, item_types, local_id, local_name, map, meaning, meant_end, name_twice, name_types, named_end, no_resource, option_map_or, option_or, rows_of, scope, scope_names, shape_end, slice_get, unwrap_or, used, used_has, written_types, «Type» as Written}
use Rattle.wit_syntax.specs.Shape.{End as NoShape}
use Rattle.wit_type_tree.specs.declared.types.TypeDef.{TypeDef}
use Rattle.wit_first.specs.AttributeFaults.{metadata_fault}
use Rattle.wit_first.specs.First.{first_in, first_after, repeat_of}
use Rattle.wit_first.specs.ListFaults.{list_fault}
use Rattle.wit_first.specs.TypeFaults.{type_fault}
use Rattle.wit_first.proofs.Bridge.{after_only, in_only, list_agrees, metadata_agree, or_none_both, repeat_agrees}
use Rattle.wit_first.proofs.Repeats.{after_kept}
use Rattle.wit_walk.specs.Definitions.{definition_fault, end_fault, handle_fault}
use Rattle.wit_walk.specs.Names.{lost_use, name_fault, use_fault}
use Rattle.wit_syntax.proofs.Common.{flat_has}
use Rattle.wit_walk.proofs.FunctionsLegal.{meant_none}
use Rattle.wit_walk.proofs.TypesLegal.{handles_at, handles_free, type_legal}

-- a name that ends somewhere in some steps ends there in more
module _ (files : List PackageFile) (e : End) where
  ends_more : (s : Address) (name : List ℕ) (one other : Shape → Option End) → ((x : Shape) → one x ≡ Some e → other x ≡ Some e) → (form : Form) (parts : Shapes) → named_end one s name form parts ≡ Some e → named_end other s name form parts ≡ Some e
  ends_more s name one other more AliasForm (More x xs) h = more x h
  ends_more s name one other more AliasForm NoShape h = h
  ends_more s name one other more form parts h = h

  pub meant_more : (one other : Address → Shape → Option End) → ((t : Address) (x : Shape) → one t x ≡ Some e → other t x ≡ Some e) → (s : Address) (m : Option ScopeName) → meant_end one s m ≡ Some e → meant_end other s m ≡ Some e
  meant_more one other more s None h = h
  meant_more one other more s (Some x) h = (let t = unwrap_or (about_name x).from s in ends_more s (local_name x) (one t) (other t) (more t) (about_name x).body.form (about_name x).body.parts h)

  pub steps_more : (n m : ℕ) → n ≤ m → (s : Address) (x : Shape) → shape_end files n s x ≡ Some e → shape_end files m s x ≡ Some e
  steps_more zero m le s x h = absurd (let f : ⊥ = cc in f)
  steps_more (suc n) zero le s x h = absurd (let f : ⊥ = omega (arith, le) in f)
  steps_more (suc n) (suc m) le s (Word id) h = meant_more (shape_end files n) (shape_end files m) (λ t x. steps_more n m (omega (arith, le)) t x) s (meaning (scope files s) id.name.now) h
  steps_more (suc n) (suc m) le s (Prim p) h = h
  steps_more (suc n) (suc m) le s (Of span form parts) h = h

-- a used name
module _ (files : List PackageFile) (i : Item) (none : first_after (name_fault files) [] (used (scope_names i) ++ defined (scope_names i)) ≡ None) where
  abbrev xs : List ScopeName
  xs = scope_names i

  abbrev as_stated : ScopeName → Fault
  as_stated x = name_twice (local_id x)

  use_none : (from : Address) (attributes : List Attribute) (n : UseName) → Contains xs (Used from attributes n) → use_fault files (Used from attributes n) ≡ None
  use_none from attributes n among =
      let p = at_contains xs (Used from attributes n) among in
      let k = used_has xs p.0 from attributes n p.1 in
      let at = at_prefix (used xs) (defined xs) k.0 (Used from attributes n) k.1 in
      (or_none_both (use_fault files (Used from attributes n)) (repeat_of local_name as_stated (take k.0 (used xs ++ defined xs)) (Used from attributes n)) (after_only (name_fault files) [] (used xs ++ defined xs) none k.0 (Used from attributes n) at)).0

  pub names_legal : AllDiffer (map item_name (all_items files)) → (from : Address) (attributes : List Attribute) (n : UseName) → Contains xs (Used from attributes n) → (target : Item) → from ≡ address target → item_named (all_items files) (item_name target) ≡ Some target → meaning (scope_names target) n.name.name.now ≡ None → ⊥
  names_legal differ from attributes n among target is found =
      let at : item_at (all_items files) from ≡ Some target = ap (item_at (all_items files)) is ∙ first_named (all_items files) target (all_declared files) differ found in
      meant_none (meaning (scope_names target) n.name.name.now) (lost_use target n.name) (subst (λ (o : Option Item). option_map_or (λ (t : Item). if is_none (meaning (scope_names t) n.name.name.now) then Some (lost_use t n.name) else None) o None ≡ None) at (use_none from attributes n among))

  -- no name repeats
  pub twice_legal : (f : Fault) → IsSecond local_name as_stated (used xs ++ defined xs) f → ⊥
  twice_legal = (repeat_agrees local_name as_stated (used xs ++ defined xs)).unbroken (after_kept (name_fault files) (repeat_of local_name as_stated) (λ before x own. (or_none_both (use_fault files x) (repeat_of local_name as_stated before x) own).1) [] (used xs ++ defined xs) none)

-- definitions, where this is the fault of a name in a handle
module _ (xs : List ScopeName) (order : List ℕ) (least : IsOrder (rows_of xs) order) (handle : Id → Option Fault) (none : first_in (definition_fault handle) (defined (in_order xs order)) ≡ None) where
  abbrev no_word : Id → Option Fault
  no_word id = None

  abbrev types_fault : TypeDef → Option Fault
  types_fault d = first_in (type_fault no_word handle) (body_types d.body)

  definition_none : (d : TypeDef) → Contains xs (Defined d) → (metadata_fault d.attributes.items ≡ None) × (list_fault d.body ≡ None) × (types_fault d ≡ None)
  definition_none d among =
      let p = at_contains xs (Defined d) among in
      let k = in_order_all xs order least p.0 (Defined d) p.1 in
      let j = defined_has (in_order xs order) k.0 d k.1 in
      let one = or_none_both (metadata_fault d.attributes.items) (option_or (list_fault d.body) (types_fault d)) (in_only (definition_fault handle) (defined (in_order xs order)) none j.0 (Defined d) j.1) in
      let two = or_none_both (list_fault d.body) (types_fault d) one.1 in
      (one.0, two.0, two.1)

  pub metadata_legal : (d : TypeDef) → Contains xs (Defined d) → (f : Fault) → IsBrokenMetadata d.attributes.items f → ⊥
  metadata_legal d among = (metadata_agree d.attributes.items).unbroken (definition_none d among).0

  written_none : (d : TypeDef) → Contains xs (Defined d) → (t : Written) → Contains (body_types d.body) t → type_fault no_word handle t ≡ None
  written_none d among t inside = (let k = at_contains (body_types d.body) t inside in in_only (type_fault no_word handle) (body_types d.body) (definition_none d among).2 k.0 t k.1)

  pub body_legal : (d : TypeDef) → Contains xs (Defined d) → (f : Fault) → IsBrokenBody d.body f → ⊥
  body_legal d among f broken = elim broken [
    | inl list ↦ (list_agrees d.body).unbroken (definition_none d among).1 f list
    | inr part ↦ type_legal no_word handle part.0 f part.2 (written_none d among part.0 part.1)
  ]

  -- a name in a handle in a definition
  name_handles : (x : ScopeName) → Contains xs x → (t : Written) (j : ℕ) → slice_get (name_types x) j ≡ Some t → (id : Id) → Contains (handles t) id → handle id ≡ None
  name_handles (Defined d) among t j at id h = handles_free no_word handle t (written_none d among t (contains_at (body_types d.body) j t at)) id h
  name_handles (Used from attributes n) among t j at id h = absurd (let f : ⊥ = cc in f)
  name_handles (ForeignName attributes name) among t j at id h = absurd (let f : ⊥ = cc in f)

  pub defined_handles : (t : Written) → Contains (flat_map name_types xs) t → (id : Id) → Contains (handles t) id → handle id ≡ None
  defined_handles t among id h = (let p = flat_has name_types xs t among in name_handles p.1 (contains_at xs p.0 p.1 p.2) t p.3.0 p.3.1 id h)

-- so each name in a handle of an item ends at a resource, where nothing is wrong with those in its functions
ends_none : (id : Id) (o : Option End) → end_fault id o ≡ None → o ≡ Some Elsewhere → ⊥
ends_none id o none is =
    let wrong : Some (no_resource id) ≡ None = subst (λ (p : Option End). end_fault id p ≡ None) is none in
    (let f : ⊥ = cc in f)

pub handle_legal : (files : List PackageFile) (i : Item) (n : ℕ) → ((t : Written) → Contains (flat_map name_types (scope_names i)) t → (id : Id) → Contains (handles t) id → handle_fault files n (address i) id ≡ None)
    → ((t : Written) → Contains (flat_map written_types (functions i)) t → (id : Id) → Contains (handles t) id → handle_fault files n (address i) id ≡ None)
    → (f : Fault) (h : IsNoResource files (address i) (item_types i) f) → h.2.0 ≤ n → ⊥
handle_legal files i n in_names in_functions f h le =
    let id = h.0 in
    let it = handles_at (item_types i) id h.1 in
    let t = it.1 in
    let right : handle_fault files n (address i) id ≡ None = elim (Contains-append_cases (flat_map name_types (scope_names i)) (flat_map written_types (functions i)) t (contains_at (item_types i) it.0 t it.2)) [
      | inl own ↦ in_names t own id it.3
      | inr far ↦ in_functions t far id it.3
    ] in
    ends_none id (shape_end files n (address i) (Word id)) right (steps_more files Elsewhere h.2.0 n le (address i) (Word id) h.2.1)
