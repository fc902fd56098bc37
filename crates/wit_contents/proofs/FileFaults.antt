-- The first fault of files from a step of the walk on: of their names, of uses, and of what is in interfaces and worlds.
use Rattle.std.proofs.Common.{◌≡◌, ◌⊎◌, ℕ, List, Option, Some, None, inl, inr, sym, ap, ◌∙◌, drop, IfOk, OnOk}
use Rattle.wit_contents.proofs.Names.{AtCycle, AtMissing, Err, Fault, Finds, ForeignVisit, Id, InOrder, IsAllocationFailure, IsErrAnd, IsOrder, IsOutcome, IsRight, Known, Ok, Outcome, PackageFile, ParseError, Reports, Result, Row, all_items, all_uses_fault, contents_fault, cyclic_at, files_fault, first_in, foreign_visits, in_order, interfaces_of, item_names_fault, item_rows, item_word, missing_at, option_or, or_assoc, or_none, order_fault, order_of, outcome_one, reports_back, reports_prefix, reports_same, stability_fault, tops_fault, worlds_of, earliest}
use Rattle.wit_first.specs.OrderFaults.{IsNamesFault, IsOrderFault, IsOrderedFault, names_prefix}
use Rattle.wit_first.proofs.OrderFaults.{or_is, or_neither}
use Rattle.wit_walk.specs.Walk.{walk_faults}

-- the first fault of files after so many steps of the walk: after one there is a header, and after six there are names
abbrev pub fault_after : ℕ → List PackageFile → Known → Option Fault
fault_after n files known = earliest (drop n (walk_faults files known (known.outcome (item_rows files))))

-- the fault of the order of a table is that of its outcome
order_said : (lost round : Id → Fault) (rs : List Row) (o : Outcome) (first : Option Fault) → IsOutcome rs o → IsOrderFault lost round rs first → order_fault lost round o ≡ first
order_said lost round rs o None is h = ap (order_fault lost round) (outcome_one rs o (InOrder h.0) is h.1)
order_said lost round rs o (Some f) is h = elim h [
  | inl m ↦ ap (order_fault lost round) (outcome_one rs o (AtMissing m.2.id) is (m.0, m.1, m.2.first)) ∙ ap Some (sym m.3)
  | inr m ↦ ap (order_fault lost round) (outcome_one rs o (AtCycle m.2.id) is (m.2.complete, m.0, m.1, m.2.first)) ∙ ap Some (sym m.3)
]

-- a fault of what comes first, or none, before the rest
in_front : (a b c d e rest : Option Fault) → option_or (option_or a (option_or b c)) (option_or (option_or d e) rest) ≡ option_or a (option_or b (option_or c (option_or d (option_or e rest))))
in_front a b c d e rest = simp or_assoc

module _ (files : List PackageFile) (known : Known) (is : IsRight files known) where
  abbrev outcome : Outcome
  outcome = known.outcome (item_rows files)

  abbrev order : Option Fault
  order = order_fault (missing_at 7 item_word) (cyclic_at 8 item_word) outcome

  after_names : fault_after 1 files known ≡ option_or (names_prefix files) (option_or (option_or order (tops_fault files)) (fault_after 6 files known))
  after_names = sym (in_front (first_in (λ (v : ForeignVisit). stability_fault v.attributes) (foreign_visits files)) (item_names_fault files) (files_fault files) order (tops_fault files) (fault_after 6 files known))

  ordered_said : (first : Option Fault) → IsOrderedFault files first → option_or order (tops_fault files) ≡ first
  ordered_said first h = ap (λ (o : Option Fault). option_or o (tops_fault files)) (order_said (missing_at 7 item_word) (cyclic_at 8 item_word) (item_rows files) outcome h.0 (is.outcomes (item_rows files)) h.1) ∙ h.2

  -- names have a fault, which is the first of the files
  pub names_first : (f : Fault) → IsNamesFault files (Some f) → fault_after 1 files known ≡ Some f
  names_first f h = elim (or_is (IsOrderedFault files) (names_prefix files) f h) [
    | inl early ↦ after_names ∙ ap (λ (o : Option Fault). option_or o (option_or (option_or order (tops_fault files)) (fault_after 6 files known))) early
    | inr late ↦ (
        after_names
        ∙ ap (λ (o : Option Fault). option_or o (option_or (option_or order (tops_fault files)) (fault_after 6 files known))) late.0
        ∙ ap (λ (o : Option Fault). option_or o (fault_after 6 files known)) (ordered_said (Some f) late.1))
  ]

  -- or they have none, and then it comes after them
  pub names_none : IsNamesFault files None → fault_after 1 files known ≡ fault_after 6 files known
  names_none h =
      let none = or_neither (IsOrderedFault files) (names_prefix files) h in
      after_names
      ∙ ap (λ (o : Option Fault). option_or o (option_or (option_or order (tops_fault files)) (fault_after 6 files known))) none.0
      ∙ ap (λ (o : Option Fault). option_or o (fault_after 6 files known)) (ordered_said None none.1)

  -- items are in an order
  module _ (places : List ℕ) (least : IsOrder (item_rows files) places) where
    abbrev of_interfaces : Option Fault
    of_interfaces = first_in (contents_fault files known) (interfaces_of (in_order (all_items files) places))

    abbrev of_worlds : Option Fault
    of_worlds = first_in (contents_fault files known) (worlds_of (in_order (all_items files) places))

    after_uses : option_or (all_uses_fault files) (option_or of_interfaces of_worlds) ≡ fault_after 6 files known
    after_uses =
        let one : outcome ≡ InOrder places = outcome_one (item_rows files) outcome (InOrder places) (is.outcomes (item_rows files)) least in
        ap (λ (o : Option Fault). option_or (all_uses_fault files) (option_or of_interfaces o)) (sym (or_none of_worlds))
        ∙ ap (λ (o : Outcome). option_or (all_uses_fault files) (option_or (first_in (contents_fault files known) (interfaces_of (in_order (all_items files) (order_of o)))) (option_or (first_in (contents_fault files known) (worlds_of (in_order (all_items files) (order_of o)))) None))) (sym one)

    pub uses_reported : (e : ParseError) → Reports (all_uses_fault files) e → Reports (fault_after 6 files known) e
    uses_reported e h = reports_same after_uses (reports_prefix (option_or of_interfaces of_worlds) h)

    pub interfaces_reported : (e : ParseError) → all_uses_fault files ≡ None → Reports of_interfaces e → Reports (fault_after 6 files known) e
    interfaces_reported e none h = reports_same after_uses (reports_back none (reports_prefix of_worlds h))

    pub worlds_reported : (e : ParseError) → all_uses_fault files ≡ None → of_interfaces ≡ None → Reports of_worlds e → Reports (fault_after 6 files known) e
    worlds_reported e none before h = reports_same after_uses (reports_back none (reports_back before h))

    pub none_after : all_uses_fault files ≡ None → of_interfaces ≡ None → of_worlds ≡ None → fault_after 6 files known ≡ None
    none_after none before last =
        sym after_uses
        ∙ ap (λ (o : Option Fault). option_or o (option_or of_interfaces of_worlds)) none
        ∙ ap (λ (o : Option Fault). option_or o of_worlds) before
        ∙ last

-- what a call finds that failed to allocate
pub memory_found : {T : Type 0} (first : Option Fault) (r : Result T ParseError) → IsErrAnd r IsAllocationFailure → Finds first r
memory_found first (Ok x) h = absurd h
memory_found first (Err e) h = inl h

-- or what is found of something else
pub or_found : {A B C : Type 0} → A ⊎ B → (B → C) → A ⊎ C
or_found (inl memory) found = inl memory
or_found (inr b) found = inr (found b)

-- what holds of what a call gives, with what then holds too
pub if_ok_both : {T E Q : Type 0} {P R : T → Type 0} (r : Result T E) → IfOk r P → OnOk r Q → ((x : T) → P x → Q → R x) → IfOk r R
if_ok_both (Ok x) p q both = both x p q
if_ok_both (Err e) p q both = p
