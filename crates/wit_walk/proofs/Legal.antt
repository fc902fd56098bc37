-- Files in which the walk finds nothing break no rule; and in files that break none it finds nothing.
use Rattle.std.proofs.Common.{◌≡◌, ◌+◌, ◌≤◌, ℕ, false, not, List, [], ◌∷◌, ◌++◌, length, take, Option, Some, None, inl, inr, refl, sym, ap, ◌∙◌, Contains, arith}
use Rattle.wit_syntax.proofs.Common.{AllDiffer, Body, CyclicItem, CyclicType, DefinedTwice, DuplicateItem, DuplicateTopName, Extern, Fault, ForeignStability, Function, Handle, Headerless, Id, IncludeStability, InterfaceIncluded, InterfaceItem, IsBrokenItems, IsBrokenNames, IsBrokenScope, IsLegal, IsNoResource, IsOrder, Item, ItemStability, Items, LinkedTwice, MissingItem, MissingName, MissingType, Names, PackageFile, Row, Scope, Setter, SideFunction, SideInline, SideItem, Sides, TopUse, UseMetadata, about, address, all_items, all_scopes, at_contains, cases_Bool, cyclic_at, defined, fault, foreign_visits, functions, if◌then◌else◌, in_order, in_order_has, in_turn, includes, index_of, inline_interface, inline_items, inline_items_at, inlined, interfaces_of, interfaces_on, is_none, is_world, item_name, item_row, item_rows, item_types, item_word, kept_has, last_header, length-map, map, map_at, missing_at, missing_type_at, name_called, no_cyclic_edge, no_missing_edge, not_from_false, rows_of, scope_names, scopes_either, side_items, side_items_functions, slice_get, slice_get_within, type_word, used, worlds_of}
use Rattle.wit_syntax.specs.Broken.{Metadata, Use}
use Rattle.wit_tree.specs.declared.tree.PackageName.{PackageName as Header}
use Rattle.wit_first.specs.AttributeFaults.{external_fault, stability_fault}
use Rattle.wit_first.specs.First.{first_in, first_after}
use Rattle.wit_first.proofs.Bridge.{in_only, item_names_agree, item_names_differ, or_none_both, stability_agrees}
use Rattle.wit_first.proofs.FileFaults.{tops_agree, visits_agree}
use Rattle.wit_walk.specs.Definitions.{definition_fault, handle_fault}
use Rattle.wit_walk.specs.Members.{member_fault}
use Rattle.wit_walk.specs.Names.{name_fault, folded_fault}
use Rattle.wit_walk.specs.Orders.{Outcome, IsOutcome, order_of}
use Rattle.wit_walk.specs.Paths.{include_fault}
use Rattle.wit_walk.specs.Setters.{setters_fault}
use Rattle.wit_walk.specs.Walk.{Known, IsFaultless, ordered_fault, contents_fault, earliest, first_fault, scope_faults, walk_faults}
use Rattle.wit_walk.proofs.Broken.{first_broken}
use Rattle.wit_walk.proofs.FilesLegal.{include_legal, included_legal, paths_legal, tops_legal, use_legal}
use Rattle.wit_walk.proofs.MembersLegal.{functions_legal, item_none, link_reached, links_legal, sides_legal, signed_handles}
use Rattle.wit_walk.proofs.Outcomes.{outcome_of}
use Rattle.wit_walk.proofs.ScopeFaults.{outcome_order}
use Rattle.wit_walk.proofs.ScopesLegal.{body_legal, defined_handles, handle_legal, metadata_legal, names_legal, twice_legal}
use Rattle.wit_walk.proofs.SettersLegal.{setters_legal}

-- where the earliest of faults is none, none of them is one
abbrev AreNone : List (Option Fault) → Type 0
AreNone [] = Unit {0}
AreNone (o ∷ os) = (o ≡ None) × AreNone os

are_none : (faults : List (Option Fault)) → earliest faults ≡ None → AreNone faults
are_none [] none = tt
are_none (o ∷ os) none = let both = or_none_both o (earliest os) none in (both.0, are_none os both.1)

-- an item in which the walk finds nothing, step by step
record IsClear (files : List PackageFile) (n : ℕ) (i : Item) : Type 0 where
  inside : Item → Option Fault
  order : List ℕ
  stability : stability_fault (about i.declared).attributes ≡ None
  names : first_after (name_fault files) [] (used (scope_names i) ++ defined (scope_names i)) ≡ None
  least : IsOrder (rows_of (scope_names i)) order
  definitions : first_in (definition_fault (handle_fault files n (address i))) (defined (in_order (scope_names i) order)) ≡ None
  includes_none : first_in (include_fault files i.top) (includes i) ≡ None
  turned : first_after folded_fault [] (map name_called (in_turn (scope_names i) order)) ≡ None
  members : first_after (member_fault files n inside i order) [] (side_items i) ≡ None
  setters : setters_fault i ≡ None
  stable : (k : ℕ) (x : Extern) (name : Id) (items : List InterfaceItem) → slice_get (side_items i) k ≡ Some (SideInline x name items) → stability_fault x.attributes.items ≡ None

module _ (files : List PackageFile) (known : Known) (outcomes : (rs : List Row) → IsOutcome rs (known.outcome rs)) where
  abbrev IsStable : Item → Type 0
  IsStable i = (k : ℕ) (x : Extern) (name : Id) (items : List InterfaceItem) → slice_get (side_items i) k ≡ Some (SideInline x name items) → stability_fault x.attributes.items ≡ None

  clear : (inside : Item → Option Fault) (i : Item) → ordered_fault files known inside i ≡ None → IsStable i → IsClear files known.steps i
  clear inside i none stable =
      let outcome = known.outcome (rows_of (scope_names i)) in
      let all = are_none (scope_faults files known.steps inside i outcome) none in
      let least = outcome_order missing_type_at (cyclic_at 16 type_word) (rows_of (scope_names i)) outcome (outcomes (rows_of (scope_names i))) all.1.1.0 in
      record {
        inside = inside;
        order = order_of outcome;
        stability = all.0;
        names = all.1.0;
        least = least;
        definitions = all.1.1.1.0;
        includes_none = all.1.1.1.1.0;
        turned = all.1.1.1.1.1.0;
        members = all.1.1.1.1.1.1.0;
        setters = all.1.1.1.1.1.1.1.0;
        stable = stable;
      }

  -- nothing is written in an interface that is written in an item
  inline_stable : (i : Item) → is_world i ≡ false → IsStable i
  inline_stable i own k x name items at =
      let fn = map_at SideFunction (functions i) k (SideInline x name items) (ap (λ (l : List SideItem). slice_get l k) (sym (side_items_functions i own)) ∙ at) in
      let wrong : SideFunction fn.0 ≡ SideInline x name items = fn.2 in
      absurd (let f : ⊥ = cc in f)

  -- and of an item in which the walk finds nothing, it finds nothing in those that are written there
  module _ (i : Item) (none : contents_fault files known i ≡ None) where
    abbrev turns : List ℕ
    turns = order_of (known.outcome (rows_of (scope_names i)))

    inline_none : (k : ℕ) (x : Extern) (name : Id) (items : List InterfaceItem) → slice_get (side_items i) k ≡ Some (SideInline x name items) → ordered_fault files known (λ (v : Item). None) (inlined i (length (interfaces_on x.side (take k (side_items i)))) x name items) ≡ None
    inline_none k x name items at =
        let written = inlined i (length (interfaces_on x.side (take k (side_items i)))) x name items in
        let all = are_none (scope_faults files known.steps (ordered_fault files known (λ (v : Item). None)) i (known.outcome (rows_of (scope_names i)))) none in
        let own = item_none files known.steps (ordered_fault files known (λ (v : Item). None)) i turns all.1.1.1.1.1.1.0 k (SideInline x name items) at in
        in_only (ordered_fault files known (λ (v : Item). None)) (written ∷ []) (or_none_both (first_in (ordered_fault files known (λ (v : Item). None)) (written ∷ [])) (external_fault x.attributes.items) own).0 0 written refl

    declared_clear : IsClear files known.steps i
    declared_clear = clear (ordered_fault files known (λ (v : Item). None)) i none (λ k x name items at. (
        let written = inlined i (length (interfaces_on x.side (take k (side_items i)))) x name items in
        (are_none (scope_faults files known.steps (λ other. None) written (known.outcome (rows_of (scope_names written)))) (inline_none k x name items at)).0))

    inside_clear : (j : Item) → Contains (inline_items i) j → IsClear files known.steps j
    inside_clear j among =
        let k = at_contains (inline_items i) j among in
        let it = inline_items_at i k.0 j k.1 in
        let own : ordered_fault files known (λ (v : Item). None) j ≡ None = ap (ordered_fault files known (λ (v : Item). None)) (sym it.is) ∙ inline_none it.place it.x it.name it.items it.at in
        clear (λ other. None) j own (inline_stable j (inline_interface i k.0 j k.1))

-- files in which the walk finds nothing
module _ (files : List PackageFile) (known : Known) (outcomes : (rs : List Row) → IsOutcome rs (known.outcome rs)) (none : first_fault files known ≡ None) where
  abbrev order : List ℕ
  order = order_of (known.outcome (item_rows files))

  abbrev missing : Id → Fault
  missing = missing_at 7 item_word

  steps : AreNone (walk_faults files known (known.outcome (item_rows files)))
  steps = are_none (walk_faults files known (known.outcome (item_rows files))) none

  least : IsOrder (item_rows files) order
  least = outcome_order missing (cyclic_at 8 item_word) (item_rows files) (known.outcome (item_rows files)) (outcomes (item_rows files)) steps.1.1.1.1.0

  differ : AllDiffer (map item_name (all_items files))
  differ = item_names_differ files steps.1.1.0

  contents_none : (i : Item) → Contains (all_items files) i → contents_fault files known i ≡ None
  contents_none i here =
      let t = at_contains (all_items files) i here in
      let lt = slice_get_within (all_items files) t.0 i t.1 in
      let long = length-map (all_items files) item_row in
      let j = index_of (item_rows files) order t.0 least (omega (arith, lt, long)) in
      let m = in_order_has (all_items files) order j.0 t.0 i j.1 t.1 in
      let turns = in_order (all_items files) order in
      elim (cases_Bool (is_world i)) [
        | inl hit ↦ (let k = kept_has is_world turns m.0 i hit m.1 in in_only (contents_fault files known) (worlds_of turns) steps.1.1.1.1.1.1.1.1.0 k.0 i k.1)
        | inr miss ↦ (let k = kept_has (λ (w : Item). not (is_world w)) turns m.0 i (not_from_false (is_world i) miss) m.1 in in_only (contents_fault files known) (interfaces_of turns) steps.1.1.1.1.1.1.1.0 k.0 i k.1)
      ]

  scope_clear : (i : Item) → Contains (all_scopes files) i → IsClear files known.steps i
  scope_clear i among = elim (scopes_either files i among) [
    | inl here ↦ declared_clear files known outcomes i (contents_none i here)
    | inr it ↦ inside_clear files known outcomes it.0 (contents_none it.0 it.1) i it.2
  ]

  item_clear : (i : Item) → Contains (all_items files) i → IsClear files known.steps i
  item_clear i here = declared_clear files known outcomes i (contents_none i here)

  items_legal : (f : Fault) → IsBrokenItems files f → ⊥
  items_legal f broken = elim broken [
    | DuplicateItem h ↦ (item_names_agree files).unbroken steps.1.1.0 f h
    | DuplicateTopName file among h ↦ tops_legal files steps.1.1.1.0 file among f h
    | MissingItem h ↦ no_missing_edge missing (item_rows files) order f least h
    | CyclicItem h ↦ no_cyclic_edge 8 item_word (item_rows files) order f least h
  ]

  file_names_legal : (f : Fault) → IsBrokenNames files f → ⊥
  file_names_legal f broken = elim broken [
    | Items h ↦ items_legal f h
    | ForeignStability v among h ↦ (visits_agree (foreign_visits files)).unbroken steps.1.0 f (v, among, h)
    | TopUse file among h ↦ (tops_agree files).unbroken steps.1.1.1.1.1.0 f (file, among, h)
  ]

  scopes_legal : (i : Item) → Contains (all_scopes files) i → (f : Fault) → IsBrokenScope (scope_names i) (functions i) f → ⊥
  scopes_legal i among f broken =
      let it = scope_clear i among in
      let handle = handle_fault files known.steps (address i) in
      elim broken [
        | DefinedTwice h ↦ twice_legal files i it.names f h
        | MissingType h ↦ no_missing_edge missing_type_at (rows_of (scope_names i)) it.order f it.least h
        | CyclicType h ↦ no_cyclic_edge 16 type_word (rows_of (scope_names i)) it.order f it.least h
        | Metadata d has h ↦ metadata_legal (scope_names i) it.order it.least handle it.definitions d has f h
        | Body d has h ↦ body_legal (scope_names i) it.order it.least handle it.definitions d has f h
        | Function k fn at h ↦ functions_legal files known.steps it.inside i it.order it.members k fn at f h
      ]

  handles_legal : (i : Item) → Contains (all_scopes files) i → (f : Fault) (h : IsNoResource files (address i) (item_types i) f) → h.2.0 ≤ known.steps → ⊥
  handles_legal i among f h le =
      let it = scope_clear i among in
      handle_legal files i known.steps (defined_handles (scope_names i) it.order it.least (handle_fault files known.steps (address i)) it.definitions) (signed_handles files known.steps it.inside i it.order it.members) f h le

headed : (o : Option Header) → (if is_none o then Some (fault 4 (record { start = 0; end = 0 })) else None) ≡ None → o ≡ None → ⊥
headed None none is = (let f : ⊥ = cc in f)
headed (Some header) none is = (let f : ⊥ = cc in f)

-- in each number of steps from some on: a name in a handle may end only after more of them
module _ (files : List PackageFile) (it : IsFaultless files) where
  abbrev at : ℕ → Known
  at n = record { outcome = it.outcome; steps = n }

  none_at : (n : ℕ) → it.enough ≤ n → first_fault files (at n) ≡ None
  none_at n le = it.is n le

  right : first_fault files (at it.enough) ≡ None
  right = it.is it.enough (omega arith)

  handle_right : (i : Item) → Contains (all_scopes files) i → (f : Fault) → IsNoResource files (address i) (item_types i) f → ⊥
  handle_right i among f h = handles_legal files (at (it.enough + h.2.0)) it.outcomes (none_at (it.enough + h.2.0) (omega arith)) i among f h (omega arith)

  pub legal : IsLegal files
  legal f broken =
      let known = at it.enough in
      let steps = steps files known it.outcomes right in
      let clear = scope_clear files known it.outcomes right in
      let own = item_clear files known it.outcomes right in
      elim broken [
        | Headerless nothing says ↦ headed (last_header files) steps.0 nothing
        | Names h ↦ file_names_legal files known it.outcomes right f h
        | ItemStability i here h ↦ (stability_agrees (about i.declared).attributes).unbroken (own i here).stability f h
        | UseMetadata i here u among h ↦ use_legal files steps.1.1.1.1.1.1.0 i here u among f h
        | IncludeStability i here n among h ↦ include_legal files i (own i here).includes_none n among f h
        | Use i here h ↦ paths_legal files steps.1.1.1.1.1.1.0 i here (link_reached files known.steps (own i here).inside i (own i here).order (own i here).members) f h
        | InterfaceIncluded i here path among is says ↦ included_legal files i (own i here).includes_none path among is
        | MissingName i among from metadata n has target is found unmeant says ↦ names_legal files i (clear i among).names (differ files known it.outcomes right) from metadata n has target is found unmeant
        | Scope i among h ↦ scopes_legal files known it.outcomes right i among f h
        | Sides i among h ↦ sides_legal files known.steps (clear i among).inside i (clear i among).order (clear i among).members (clear i among).turned (clear i among).least (clear i among).stable f h
        | LinkedTwice i here h ↦ links_legal files known.steps (own i here).inside i (own i here).order (own i here).members f h
        | Handle i among meant h ↦ handle_right i among f h
        | Setter i among h ↦ setters_legal i (clear i among).setters f h
      ]

-- back: where no rule is broken, there is no first fault, which would be that of one
no_fault : (o : Option Fault) → ((f : Fault) → o ≡ Some f → ⊥) → o ≡ None
no_fault None none = refl
no_fault (Some f) none = absurd (none f refl)

pub faultless : (files : List PackageFile) → IsLegal files → IsFaultless files
faultless files legal =
    let outcome : List Row → Outcome = λ rs. (outcome_of rs).0 in
    let outcomes : (rs : List Row) → IsOutcome rs (outcome rs) = λ rs. (outcome_of rs).1 in
    record {
      outcome = outcome;
      outcomes = outcomes;
      enough = 0;
      is = λ steps le. no_fault (first_fault files (record { outcome = outcome; steps = steps })) (λ f h. legal f (first_broken files (record { outcome = outcome; steps = steps }) outcomes f h));
    }
