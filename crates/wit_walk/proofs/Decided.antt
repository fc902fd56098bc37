-- Files are legal, or they have a first fault.
use Rattle.std.proofs.Common.{◌≡◌, ◌⊎◌, ℕ, List, [], ◌∷◌, ◌++◌, Option, Some, None, inl, inr, refl, sym, ap, ◌∙◌}
use Rattle.wit_syntax.proofs.Common.{Address, Fault, Id, IsLegal, Item, PackageFile, Row, Shape, SideFunction, SideInline, SideItem, SideLink, Word, address, all_items, defined, flat_map, in_order, interfaces_of, item_function, item_rows, item_side, items_on, option_or, rows_of, scope_names, shape_end, side_items, worlds_of}
use mathlib.Core.Path.{fun_ext}
use Rattle.wit_first.specs.First.{first_in, first_after}
use Rattle.wit_walk.specs.Definitions.{definition_fault, end_fault, handle_fault}
use Rattle.wit_walk.specs.Functions.{function_fault, signed_fault}
use Rattle.wit_walk.specs.Members.{item_fault, member_fault, own_fault}
use Rattle.wit_walk.specs.Orders.{Outcome, IsOutcome, order_of}
use Rattle.wit_walk.specs.Walk.{Known, ComesTo, IsFirst, earliest, scope_faults, ordered_fault, contents_fault, walk_faults, first_fault}
use Rattle.wit_walk.proofs.Legal.{legal}
use Rattle.wit_walk.proofs.Outcomes.{outcome_of}
use Rattle.wit_walk.proofs.Steps.{enough}

-- faults, where two of them are written otherwise
eight : (a b c d x e f g y h : Option Fault) → d ≡ x → g ≡ y → a ∷ b ∷ c ∷ d ∷ e ∷ f ∷ g ∷ h ∷ [] ≡ a ∷ b ∷ c ∷ x ∷ e ∷ f ∷ y ∷ h ∷ []
eight a b c d x e f g y h p q = ap (λ (o : Option Fault). a ∷ b ∷ c ∷ o ∷ e ∷ f ∷ g ∷ h ∷ []) p ∙ ap (λ (o : Option Fault). a ∷ b ∷ c ∷ x ∷ e ∷ f ∷ o ∷ h ∷ []) q

nine : (a b c d e f g h x i y : Option Fault) → h ≡ x → i ≡ y → a ∷ b ∷ c ∷ d ∷ e ∷ f ∷ g ∷ h ∷ i ∷ [] ≡ a ∷ b ∷ c ∷ d ∷ e ∷ f ∷ g ∷ x ∷ y ∷ []
nine a b c d e f g h x i y p q = ap (λ (o : Option Fault). a ∷ b ∷ c ∷ d ∷ e ∷ f ∷ g ∷ o ∷ i ∷ []) p ∙ ap (λ (o : Option Fault). a ∷ b ∷ c ∷ d ∷ e ∷ f ∷ g ∷ x ∷ o ∷ []) q

-- the walk in two numbers of steps in which names end alike
module _ (files : List PackageFile) (outcome : List Row → Outcome) (n m : ℕ) (same : (s : Address) (x : Shape) → shape_end files n s x ≡ shape_end files m s x) where
  abbrev one : Known
  one = record { outcome = outcome; steps = n }

  abbrev other : Known
  other = record { outcome = outcome; steps = m }

  handle_same : (s : Address) → handle_fault files n s ≡ handle_fault files m s
  handle_same s = fun_ext (λ (id : Id). ap (end_fault id) (same s (Word id)))

  item_same : (inside : Item → Option Fault) (i : Item) (before : List SideItem) (x : SideItem) → item_fault files n inside i before x ≡ item_fault files m inside i before x
  item_same inside i before (SideFunction fn) = ap (λ (h : Id → Option Fault). function_fault (signed_fault (scope_names i) (flat_map item_function before ++ fn ∷ []) h) (scope_names i) fn) (handle_same (address i))
  item_same inside i before (SideLink link) = refl
  item_same inside i before (SideInline x name items) = refl

  member_same : (inside : Item → Option Fault) (i : Item) (order : List ℕ) → member_fault files n inside i order ≡ member_fault files m inside i order
  member_same inside i order = fun_ext (λ (before : List SideItem). fun_ext (λ (x : SideItem). ap (λ (o : Option Fault). option_or o (own_fault (scope_names i) (items_on (item_side x) before) order x)) (item_same inside i before x)))

  scope_same : (inside : Item → Option Fault) (i : Item) (o : Outcome) → scope_faults files n inside i o ≡ scope_faults files m inside i o
  scope_same inside i o = eight _ _ _ _ _ _ _ _ _ _ (ap (λ (h : Id → Option Fault). first_in (definition_fault h) (defined (in_order (scope_names i) (order_of o)))) (handle_same (address i))) (ap (λ (w : List SideItem → SideItem → Option Fault). first_after w [] (side_items i)) (member_same inside i (order_of o)))

  ordered_same : (inside : Item → Option Fault) (i : Item) → ordered_fault files one inside i ≡ ordered_fault files other inside i
  ordered_same inside i = ap earliest (scope_same inside i (outcome (rows_of (scope_names i))))

  inline_same : (ordered_fault files one (λ (v : Item). None)) ≡ (ordered_fault files other (λ (v : Item). None))
  inline_same = fun_ext (λ (i : Item). ordered_same (λ it. None) i)

  contents_same : contents_fault files one ≡ contents_fault files other
  contents_same = fun_ext (λ (i : Item). ap (λ (w : Item → Option Fault). ordered_fault files one w i) inline_same ∙ ordered_same (ordered_fault files other (λ (v : Item). None)) i)

  walk_same : (o : Outcome) → walk_faults files one o ≡ walk_faults files other o
  walk_same o =
      let items = in_order (all_items files) (order_of o) in
      let in_items = λ (is : List Item). ap (λ (w : Item → Option Fault). first_in w is) contents_same in
      nine _ _ _ _ _ _ _ _ _ _ _ (in_items (interfaces_of items)) (in_items (worlds_of items))

-- so files come to what the walk finds in the number of steps in which all names end that end somewhere
comes : (files : List PackageFile) → (first : Option Fault) × ComesTo files first
comes files =
    let outcome : List Row → Outcome = λ rs. (outcome_of rs).0 in
    let outcomes : (rs : List Row) → IsOutcome rs (outcome rs) = λ rs. (outcome_of rs).1 in
    let it = enough files in (
      first_fault files (record { outcome = outcome; steps = it.0 }),
      record {
        outcome = outcome;
        outcomes = outcomes;
        enough = it.0;
        is = λ steps le. sym (ap earliest (walk_same files outcome it.0 steps (it.1 steps le) (outcome (item_rows files))));
      },
    )

by_first : (files : List PackageFile) (first : Option Fault) → ComesTo files first → IsLegal files ⊎ ((f : Fault) × IsFirst files f)
by_first files None it = inl (legal files it)
by_first files (Some f) it = inr (f, it)

pub decided : (files : List PackageFile) → IsLegal files ⊎ ((f : Fault) × IsFirst files f)
decided files = let it = comes files in by_first files it.0 it.1
