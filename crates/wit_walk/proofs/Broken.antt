-- The first fault of files is that of a broken rule.
use Rattle.std.proofs.Common.{◌≡◌, ◌<◌, ℕ, suc, Bool, false, not, List, [], ◌++◌, Option, Some, None, inl, inr, refl, sym, ap, ◌∙◌, subst, arith, ◌∷◌}
use Rattle.wit_syntax.proofs.Common.{AllDiffer, Attribute, CyclicItem, CyclicType, Declared, DuplicateItem, Fault, ForeignStability, ForeignVisit, Headerless, InterfaceMetadata, IsBroken, IsBrokenStability, IsOrder, Item, ItemStability, Items, MissingItem, MissingType, Names, PackageFile, Row, Scope, ScopeName, Setter, SideInline, Sides, TheInline, TheInterface, TheWorld, TopUse, about, address, all_declared, all_items, all_scopes, at_contains, contains_at, cyclic_at, defined, defined_at, fault, filter, foreign_visits, if◌then◌else◌, in_order, in_order_among, in_order_at, in_turn, includes, inline_items, inline_items_at, interfaces_of, is_none, is_world, item_at, item_name, item_row, item_rows, item_word, kept_at, last_header, length-map, map, missing_at, missing_type_at, name_called, named_found, option_map_or, option_or, order_within, rows_of, scope, scope_item_at, scope_names, scopes_declared, scopes_inline, side_items, slice_get, type_word, used, worlds_of}
use Rattle.wit_tree.specs.declared.tree.PackageName.{PackageName as Header}
use Rattle.wit_syntax.proofs.Setters.{includes_none}
use Rattle.wit_first.specs.AttributeFaults.{stability_fault}
use Rattle.wit_first.specs.FileFaults.{files_fault, tops_fault}
use Rattle.wit_first.specs.First.{first_in, first_after}
use Rattle.wit_first.specs.NameFaults.{item_names_fault}
use Rattle.wit_first.specs.UseFaults.{all_uses_fault}
use Rattle.wit_first.proofs.Bridge.{in_some, item_names_agree, item_names_differ, or_some, stability_agrees}
use Rattle.wit_first.proofs.FileFaults.{tops_agree, visits_agree, files_broken}
use Rattle.wit_walk.specs.Definitions.{definition_fault, handle_fault}
use Rattle.wit_walk.specs.Members.{member_fault}
use Rattle.wit_walk.specs.Names.{folded_fault, name_fault}
use Rattle.wit_walk.specs.Orders.{Outcome, IsOutcome, order_fault, order_of}
use Rattle.wit_walk.specs.Paths.{include_fault}
use Rattle.wit_walk.specs.Setters.{setters_fault}
use Rattle.wit_walk.specs.Walk.{Known, IsFirst, ordered_fault, contents_fault, first_fault}
use Rattle.wit_walk.proofs.FileFaults.{uses_broken}
use Rattle.wit_walk.proofs.MemberFaults.{IsScope, BreaksInside, members_broken, turned_broken}
use Rattle.wit_walk.proofs.ScopeFaults.{definition_broken, includes_broken, names_broken, outcome_broken, outcome_order, same_fault}
use Rattle.wit_walk.proofs.SetterFaults.{setter_alone}

-- attributes before an item that break a rule
abbrev BreaksBefore : List PackageFile → Item → Type 0
BreaksBefore files i = (f : Fault) → IsBrokenStability (about i.declared).attributes f → IsBroken files f

-- the first fault of a scope, one step after another
module _ (files : List PackageFile) (differ : AllDiffer (map item_name (all_items files))) (known : Known) (outcomes : (rs : List Row) → IsOutcome rs (known.outcome rs))
    (i : Item) (is : IsScope files i) (own : BreaksBefore files i) (inside : Item → Option Fault) (breaks : BreaksInside files i inside) (f : Fault) where
  abbrev xs : List ScopeName
  xs = scope_names i

  abbrev outcome : Outcome
  outcome = known.outcome (rows_of xs)

  abbrev order : List ℕ
  order = order_of outcome

  lost_order : order_fault missing_type_at (cyclic_at 16 type_word) outcome ≡ Some f → IsBroken files f
  lost_order h = elim (outcome_broken missing_type_at 16 type_word (rows_of xs) outcome f (outcomes (rows_of xs)) h) [
    | inl missing ↦ Scope i is.among (MissingType missing)
    | inr cyclic ↦ Scope i is.among (CyclicType cyclic)
  ]

  of_includes : first_in (include_fault files i.top) (includes i) ≡ Some f → IsBroken files f
  of_includes h = elim is.outer [
    | inl here ↦ includes_broken files i here f h
    | inr inner ↦ (
        let wrong : None ≡ Some f = ap (first_in (include_fault files i.top)) (sym (includes_none i inner)) ∙ h in
        absurd (let g : ⊥ = cc in g))
  ]

  of_definitions : IsOrder (rows_of xs) order → first_in (definition_fault (handle_fault files known.steps (address i))) (defined (in_order xs order)) ≡ Some f → IsBroken files f
  of_definitions least h =
      let it = in_some (definition_fault (handle_fault files known.steps (address i))) (defined (in_order xs order)) f h in
      let d = defined_at (in_order xs order) it.0 it.1 it.2 in
      let p = in_order_among xs order least d.0 it.1 d.1 in
      definition_broken files i is.among is.meant known.steps it.1 f (contains_at xs p.0 it.1 p.1) it.3

  -- what is looked for from each step on
  abbrev from8 : Option Fault
  from8 = option_or (setters_fault i) None

  abbrev from7 : Option Fault
  from7 = option_or (first_after (member_fault files known.steps inside i order) [] (side_items i)) from8

  abbrev from6 : Option Fault
  from6 = option_or (first_after folded_fault [] (map name_called (in_turn xs order))) from7

  abbrev from5 : Option Fault
  from5 = option_or (first_in (include_fault files i.top) (includes i)) from6

  abbrev from4 : Option Fault
  from4 = option_or (first_in (definition_fault (handle_fault files known.steps (address i))) (defined (in_order xs order))) from5

  abbrev from3 : Option Fault
  from3 = option_or (order_fault missing_type_at (cyclic_at 16 type_word) outcome) from4

  abbrev from2 : Option Fault
  from2 = option_or (first_after (name_fault files) [] (used xs ++ defined xs)) from3

  step8 : from8 ≡ Some f → IsBroken files f
  step8 h = elim (or_some (setters_fault i) None f h) [
    | inl it ↦ Setter i is.among (setter_alone i f it)
    | inr none ↦ absurd (let wrong : None ≡ Some f = none.1 in let g : ⊥ = cc in g)
  ]

  step6 : IsOrder (rows_of xs) order → from6 ≡ Some f → IsBroken files f
  step6 least h = elim (or_some (first_after folded_fault [] (map name_called (in_turn xs order))) from7 f h) [
    | inl it ↦ turned_broken files i is known.steps order least f it
    | inr h7 ↦ elim (or_some (first_after (member_fault files known.steps inside i order) [] (side_items i)) from8 f h7.1) [
      | inl it ↦ members_broken files i is known.steps order least inside breaks f it
      | inr h8 ↦ step8 h8.1
    ]
  ]

  step4 : IsOrder (rows_of xs) order → from4 ≡ Some f → IsBroken files f
  step4 least h = elim (or_some (first_in (definition_fault (handle_fault files known.steps (address i))) (defined (in_order xs order))) from5 f h) [
    | inl it ↦ of_definitions least it
    | inr h5 ↦ elim (or_some (first_in (include_fault files i.top) (includes i)) from6 f h5.1) [
      | inl it ↦ of_includes it
      | inr h6 ↦ step6 least h6.1
    ]
  ]

  step2 : from2 ≡ Some f → IsBroken files f
  step2 h = elim (or_some (first_after (name_fault files) [] (used xs ++ defined xs)) from3 f h) [
    | inl it ↦ names_broken files i is.among differ f it
    | inr h3 ↦ elim (or_some (order_fault missing_type_at (cyclic_at 16 type_word) outcome) from4 f h3.1) [
      | inl it ↦ lost_order it
      | inr h4 ↦ step4 (outcome_order missing_type_at (cyclic_at 16 type_word) (rows_of xs) outcome (outcomes (rows_of xs)) h4.0) h4.1
    ]
  ]

  scope_broken : ordered_fault files known inside i ≡ Some f → IsBroken files f
  scope_broken h = elim (or_some (stability_fault (about i.declared).attributes) from2 f h) [
    | inl it ↦ own f ((stability_agrees (about i.declared).attributes).broken f it)
    | inr h2 ↦ step2 h2.1
  ]

-- the names of an item are those of its address
own_scope : (files : List PackageFile) (i : Item) (d : Declared) → i.declared ≡ d → item_at (all_scopes files) (about d).address ≡ Some i → scope files (about d).address ≡ scope_names i
own_scope files i (TheInterface x) is at = ap (λ (o : Option Item). option_map_or scope_names o []) at
own_scope files i (TheWorld w) is at = ap (λ (o : Option Item). option_map_or scope_names o []) at
own_scope files i (TheInline world place x name items) is at = ap (λ (o : Option Item). option_map_or scope_names o []) at

module _ (files : List PackageFile) (differ : AllDiffer (map item_name (all_items files))) (known : Known) (outcomes : (rs : List Row) → IsOutcome rs (known.outcome rs)) where
  meant_at : (w : Item) (t j : ℕ) (i : Item) → slice_get (all_items files) t ≡ Some w → slice_get (w ∷ inline_items w) j ≡ Some i → scope files (address i) ≡ scope_names i
  meant_at w t j i at inside = own_scope files i i.declared refl (scope_item_at (all_items files) w j i (all_declared files) (named_found (all_items files) t w differ at) inside)

  nothing_inside : (i : Item) → BreaksInside files i (λ other. None)
  nothing_inside i j f among h = absurd (let g : ⊥ = cc in g)

  -- an interface that is written in an item
  inline_broken : (w : Item) (t : ℕ) → slice_get (all_items files) t ≡ Some w → BreaksInside files w (ordered_fault files known (λ (v : Item). None))
  inline_broken w t at i f inside h =
      let k = at_contains (inline_items w) i inside in
      let it = inline_items_at w k.0 i k.1 in
      let among = scopes_inline files w i (contains_at (all_items files) t w at) inside in
      let scope_of : IsScope files i = record { among = among; meant = meant_at w t (suc k.0) i at k.1; outer = inr (subst (λ (j : Item). is_world j ≡ false) it.is refl) } in
      let member = SideInline it.x it.name it.items in
      let attributes : (about i.declared).attributes ≡ it.x.attributes.items = subst (λ (j : Item). (about j.declared).attributes ≡ it.x.attributes.items) it.is refl in
      scope_broken files differ known outcomes i scope_of (λ g broken. (
      Sides w (scopes_declared files w (contains_at (all_items files) t w at)) (InterfaceMetadata member (contains_at (side_items w) it.place member it.at) (inl (subst (λ (l : List Attribute). IsBrokenStability l g) attributes broken))))) (λ other. None) (nothing_inside i) f h

  -- a declared item
  contents_broken : (t : ℕ) (i : Item) (f : Fault) → slice_get (all_items files) t ≡ Some i → contents_fault files known i ≡ Some f → IsBroken files f
  contents_broken t i f at h =
      let here = contains_at (all_items files) t i at in
      let scope_of : IsScope files i = record { among = scopes_declared files i here; meant = meant_at i t 0 i at refl; outer = inl here } in
      scope_broken files differ known outcomes i scope_of (λ g rule. ItemStability i here rule) (ordered_fault files known (λ (v : Item). None)) (inline_broken i t at) f h

  some_contents : (places : List ℕ) (test : Item → Bool) (f : Fault) → IsOrder (item_rows files) places → first_in (contents_fault files known) (filter test (in_order (all_items files) places)) ≡ Some f → IsBroken files f
  some_contents places test f least h =
      let it = in_some (contents_fault files known) (filter test (in_order (all_items files) places)) f h in
      let k = kept_at test (in_order (all_items files) places) it.0 it.1 it.2 in
      let p = in_order_at (all_items files) places k.0 it.1 (λ j q got. subst (λ (m : ℕ). q < m) (length-map (all_items files) item_row) (order_within (item_rows files) places least j q got)) k.1 in
      contents_broken p.0 it.1 f p.2 it.3

-- where no file has a header
headerless : (o : Option Header) (f : Fault) → (if is_none o then Some (fault 4 (record { start = 0; end = 0 })) else None) ≡ Some f → (o ≡ None) × (f ≡ fault 4 (record { start = 0; end = 0 }))
headerless None f h = (refl, same_fault f (fault 4 (record { start = 0; end = 0 })) h)
headerless (Some header) f h = absurd (let g : ⊥ = cc in g)

-- the first fault of files, one step after another
module _ (files : List PackageFile) (known : Known) (outcomes : (rs : List Row) → IsOutcome rs (known.outcome rs)) (f : Fault) where
  abbrev turns : Outcome
  turns = known.outcome (item_rows files)

  abbrev items : List Item
  items = in_order (all_items files) (order_of turns)

  abbrev rest9 : Option Fault
  rest9 = option_or (first_in (contents_fault files known) (worlds_of items)) None

  abbrev rest8 : Option Fault
  rest8 = option_or (first_in (contents_fault files known) (interfaces_of items)) rest9

  abbrev rest7 : Option Fault
  rest7 = option_or (all_uses_fault files) rest8

  abbrev rest6 : Option Fault
  rest6 = option_or (tops_fault files) rest7

  abbrev rest5 : Option Fault
  rest5 = option_or (order_fault (missing_at 7 item_word) (cyclic_at 8 item_word) turns) rest6

  abbrev rest4 : Option Fault
  rest4 = option_or (files_fault files) rest5

  abbrev rest3 : Option Fault
  rest3 = option_or (item_names_fault files) rest4

  abbrev rest2 : Option Fault
  rest2 = option_or (first_in (λ (v : ForeignVisit). stability_fault v.attributes) (foreign_visits files)) rest3

  stage8 : AllDiffer (map item_name (all_items files)) → IsOrder (item_rows files) (order_of turns) → rest8 ≡ Some f → IsBroken files f
  stage8 differ least h = elim (or_some (first_in (contents_fault files known) (interfaces_of items)) rest9 f h) [
    | inl it ↦ some_contents files differ known outcomes (order_of turns) (λ (i : Item). not (is_world i)) f least it
    | inr h9 ↦ elim (or_some (first_in (contents_fault files known) (worlds_of items)) None f h9.1) [
      | inl it ↦ some_contents files differ known outcomes (order_of turns) is_world f least it
      | inr none ↦ absurd (let wrong : None ≡ Some f = none.1 in let g : ⊥ = cc in g)
    ]
  ]

  stage6 : AllDiffer (map item_name (all_items files)) → IsOrder (item_rows files) (order_of turns) → rest6 ≡ Some f → IsBroken files f
  stage6 differ least h = elim (or_some (tops_fault files) rest7 f h) [
    | inl it ↦ (let top = (tops_agree files).broken f it in Names (TopUse top.0 top.1 top.2))
    | inr h7 ↦ elim (or_some (all_uses_fault files) rest8 f h7.1) [
      | inl it ↦ uses_broken files f it
      | inr h8 ↦ stage8 differ least h8.1
    ]
  ]

  stage4 : AllDiffer (map item_name (all_items files)) → rest4 ≡ Some f → IsBroken files f
  stage4 differ h = elim (or_some (files_fault files) rest5 f h) [
    | inl it ↦ Names (Items (files_broken files f it))
    | inr h5 ↦ elim (or_some (order_fault (missing_at 7 item_word) (cyclic_at 8 item_word) turns) rest6 f h5.1) [
      | inl it ↦ elim (outcome_broken (missing_at 7 item_word) 8 item_word (item_rows files) turns f (outcomes (item_rows files)) it) [
        | inl missing ↦ Names (Items (MissingItem missing))
        | inr cyclic ↦ Names (Items (CyclicItem cyclic))
      ]
      | inr h6 ↦ stage6 differ (outcome_order (missing_at 7 item_word) (cyclic_at 8 item_word) (item_rows files) turns (outcomes (item_rows files)) h6.0) h6.1
    ]
  ]

  stage2 : rest2 ≡ Some f → IsBroken files f
  stage2 h = elim (or_some (first_in (λ (v : ForeignVisit). stability_fault v.attributes) (foreign_visits files)) rest3 f h) [
    | inl it ↦ (let v = (visits_agree (foreign_visits files)).broken f it in Names (ForeignStability v.0 v.1 v.2))
    | inr h3 ↦ elim (or_some (item_names_fault files) rest4 f h3.1) [
      | inl it ↦ Names (Items (DuplicateItem ((item_names_agree files).broken f it)))
      | inr h4 ↦ stage4 (item_names_differ files h4.0) h4.1
    ]
  ]

  pub first_broken : first_fault files known ≡ Some f → IsBroken files f
  first_broken h = elim (or_some (if is_none (last_header files) then Some (fault 4 (record { start = 0; end = 0 })) else None) rest2 f h) [
    | inl it ↦ (let none = headerless (last_header files) f it in Headerless none.0 none.1)
    | inr h2 ↦ stage2 h2.1
  ]

pub broken : (files : List PackageFile) (f : Fault) → IsFirst files f → IsBroken files f
broken files f it = first_broken files (record { outcome = it.outcome; steps = it.enough }) it.outcomes f (it.is it.enough (omega arith))
