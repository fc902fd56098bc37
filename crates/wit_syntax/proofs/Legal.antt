-- Where a table was ordered and a scope resolved, no rule is broken in them.
use Rattle.std.proofs.Common.{◌≡◌, ◌<◌, ◌+◌, ◌++◌, ℕ, zero, suc, List, [], ◌∷◌, Some, length, take, drop, map, inl, inr, refl, sym, ap, ◌∙◌, subst, arith, append_assoc}
use Rattle.std.specs.Prelude.{slice_get, Contains}
use Rattle.std.specs.List.{flat_map}
use Rattle.std.proofs.lemmas.Bool.{cases_Bool, cond-true, cond-false}
use Rattle.std.proofs.lemmas.Grind.{flat_map-append}
use Rattle.std.proofs.lemmas.List.{take-append-drop}
use Rattle.std.proofs.lemmas.Option.{slice_get_within}
use Rattle.wit_names.specs.Folded.{folded_key}
use Rattle.wit_type_tree.specs.declared.leaves.Id.{Id}
use Rattle.wit_graph.specs.Table.{Row, target, Leads, IsOrder}
use Rattle.wit_graph.proofs.Tables.{not_missing}
use Rattle.wit_graph.proofs.Forward.{no_cycle}
use Rattle.wit_graph.proofs.SameEdges.{one_answer}
use Rattle.wit_syntax.specs.Source.{ScopeName}
use Rattle.wit_syntax.specs.Words.{words_of}
use Rattle.wit_syntax.specs.Fault.{Fault, fault}
use Rattle.wit_syntax.specs.ScopeTables.{rows_of, in_turn}
use Rattle.wit_syntax.specs.Bodies.{IsRepeated}
use Rattle.wit_syntax.specs.Function.{SourceFunction}
use Rattle.wit_syntax.specs.SignatureRules.{Called, name_called}
use Rattle.wit_tree.specs.declared.tree.WorldSide.{WorldSide}
use Rattle.wit_syntax.specs.ExternPart.{same_side}
use Rattle.wit_syntax.specs.Sides.{role_side, function_key, names_on, SideItem, SideFunction, SideLink, SideInline, item_function, item_side, items_on, item_called, side_called, IsFoldedTwice, IsCrossedTwice}
use Rattle.wit_syntax.specs.Broken.{IsMissingEdge, IsCyclicEdge}
use Rattle.wit_syntax.specs.Repeats.{AllDiffer}
use Rattle.wit_syntax.proofs.Repeated.{no_repeat, differ_by, differ_at, called_key, function_called}
use Rattle.wit_syntax.proofs.Lists.{at_prefix, at_back, flat_map_has}
use Rattle.wit_syntax.proofs.Found.{at_contains}
use Rattle.wit_syntax.proofs.Addresses.{side_itself}
use Rattle.wit_syntax.proofs.Orders.{three_ways}

-- no edge of an ordered table is missing
pub no_missing_edge : (as_stated : Id → Fault) (rs : List Row) (places : List ℕ) (f : Fault) → IsOrder rs places → IsMissingEdge as_stated rs f → ⊥
no_missing_edge as_stated rs places f order h = not_missing (target rs h.2) (order.complete h.0 h.1 h.2 h.3) h.4

-- and none is on a cycle
pub no_cyclic_edge : (number : ℕ) (sort : List ℕ) (rs : List Row) (places : List ℕ) (f : Fault) → IsOrder rs places → IsCyclicEdge number sort rs f → ⊥
no_cyclic_edge number sort rs places f order h = no_cycle (Leads rs) (length rs) places order.sorted h.0 (slice_get_within rs h.0 h.4.0 h.4.1) h.6

-- where the keys of the names on each side differ in turn, none is repeated
pub no_fold : (xs : List ScopeName) (items : List SideItem) (order : List ℕ) (f : Fault) → IsOrder (rows_of xs) order → ((side : WorldSide) → AllDiffer (map called_key (side_called side xs (items_on side items) order))) → IsFoldedTwice xs items f → ⊥
no_fold xs items order f least differ h =
    let same : h.1 ≡ order = (one_answer (rows_of xs)).one h.1 order h.2 least in
    no_repeat called_key (side_called h.0 xs (items_on h.0 items) order) h.3.1.0 (differ h.0) (subst (λ places. IsRepeated called_key (side_called h.0 xs (items_on h.0 items) places) h.3.1.0) same h.3.1.1)

-- what is at a place is the first after those before it
at_drop : {X : Type 0} (xs : List X) (n : ℕ) (x : X) → slice_get xs n ≡ Some x → slice_get (drop n xs) 0 ≡ Some x
at_drop [] n x at = absurd (let f : ⊥ = cc in f)
at_drop (y ∷ ys) zero x at = at
at_drop (y ∷ ys) (suc n) x at = at_drop ys n x at

-- where all keys differ, none before what an item at a place brings has its key
none_before : {X Y : Type 0} (key : X → List ℕ) (of : Y → List X) (xs : List X) (ys : List Y) (place : ℕ) (x z : X) (y : Y) → AllDiffer (map key (xs ++ flat_map of ys)) → Contains (xs ++ flat_map of (take place ys)) x → slice_get ys place ≡ Some y → of y ≡ z ∷ [] → key x ≡ key z → ⊥
none_before key of xs ys place x z y differ among at own same =
    let prefix = flat_map of (take place ys) in
    let all = xs ++ flat_map of ys in
    let split : flat_map of ys ≡ prefix ++ flat_map of (drop place ys) = ap (flat_map of) (sym (take-append-drop place ys)) ∙ flat_map-append of (take place ys) (drop place ys) in
    let whole : all ≡ (xs ++ prefix) ++ flat_map of (drop place ys) = ap (λ l. xs ++ l) split ∙ sym (append_assoc xs prefix (flat_map of (drop place ys))) in
    let next = flat_map_has of (drop place ys) 0 0 y z (at_drop ys place y at) (ap (λ l. slice_get l 0) own) in
    let it = at_contains (xs ++ prefix) x among in
    let lt = slice_get_within (xs ++ prefix) it.0 x it.1 in
    let here : slice_get all (length (xs ++ prefix) + next.0) ≡ Some z = ap (λ l. slice_get l (length (xs ++ prefix) + next.0)) whole ∙ at_back (xs ++ prefix) (flat_map of (drop place ys)) next.0 z next.1 in
    let there : slice_get all it.0 ≡ Some x = ap (λ l. slice_get l it.0) whole ∙ at_prefix (xs ++ prefix) (flat_map of (drop place ys)) it.0 x it.1 in
    let one = differ_at key all differ it.0 (length (xs ++ prefix) + next.0) x z there here same in
    omega (arith, lt, one)

-- and none is that of an import or an export after it
pub no_crossed : (xs : List ScopeName) (items : List SideItem) (order : List ℕ) (f : Fault) → IsOrder (rows_of xs) order → ((side : WorldSide) → AllDiffer (map called_key (side_called side xs (items_on side items) order))) → IsCrossedTwice xs items f → ⊥
no_crossed xs items order f least differ h =
    let same : h.1 ≡ order = (one_answer (rows_of xs)).one h.1 order h.2 least in
    let among = subst (λ places. Contains (side_called h.0 xs (take h.3 (items_on h.0 items)) places) h.9) same h.10 in
    none_before called_key item_called (map name_called (names_on h.0 (in_turn xs order))) (items_on h.0 items) h.3 h.9 h.7 h.4 (differ h.0) among h.5 h.8 (ap folded_key h.11)

abbrev pub function_name : SourceFunction → List ℕ
function_name fn = fn.name

-- what an item brings before what the others on its side bring
called_first : (side : WorldSide) (x : SideItem) (items : List SideItem) → item_side x ≡ side → flat_map item_called (items_on side (x ∷ items)) ≡ item_called x ++ flat_map item_called (items_on side items)
called_first side x items own = ap (flat_map item_called) (cond-true (same_side side (item_side x)) (x ∷ items_on side items) (items_on side items) (ap (same_side side) own ∙ side_itself side))

-- what is called on a side comes after what the first item brings there, or there is no more
called_after : (side : WorldSide) (x : SideItem) (items : List SideItem) → (n : ℕ) × ((k : ℕ) (c : Called) → slice_get (flat_map item_called (items_on side items)) k ≡ Some c → slice_get (flat_map item_called (items_on side (x ∷ items))) (n + k) ≡ Some c)
called_after side x items = elim (cases_Bool (same_side side (item_side x))) [
  | inl hit ↦ (length (item_called x), λ k c at. ap (λ l. slice_get (flat_map item_called l) (length (item_called x) + k)) (cond-true (same_side side (item_side x)) (x ∷ items_on side items) (items_on side items) hit) ∙ at_back (item_called x) (flat_map item_called (items_on side items)) k c at)
  | inr miss ↦ (
    0,
    λ k c at. (
        let same : k ≡ 0 + k = omega arith in
        subst (λ (m : ℕ). slice_get (flat_map item_called (items_on side (x ∷ items))) m ≡ Some c) same (ap (λ l. slice_get (flat_map item_called l) k) (cond-false (same_side side (item_side x)) (x ∷ items_on side items) (items_on side items) miss) ∙ at)),
  )
]

-- a function on a side is called there
function_on : (side : WorldSide) (items : List SideItem) (i : ℕ) (x : SourceFunction) → slice_get (flat_map item_function items) i ≡ Some x → role_side x.role ≡ side → (a : ℕ) × (slice_get (flat_map item_called (items_on side items)) a ≡ Some (function_called x))
function_on side [] i x at own = absurd (let f : ⊥ = cc in f)
function_on side (SideLink link ∷ items) i x at own =
    let it = function_on side items i x at own in
    let more = called_after side (SideLink link) items in
    (more.0 + it.0, more.1 it.0 (function_called x) it.1)
function_on side (SideInline y name inner ∷ items) i x at own =
    let it = function_on side items i x at own in
    let more = called_after side (SideInline y name inner) items in
    (more.0 + it.0, more.1 it.0 (function_called x) it.1)
function_on side (SideFunction fn ∷ items) zero x at own =
    let here : fn ≡ x = cc in
    (0, ap (λ l. slice_get l 0) (called_first side (SideFunction fn) items (ap (λ (g : SourceFunction). role_side g.role) here ∙ own)) ∙ ap (λ g. Some (function_called g)) here)
function_on side (SideFunction fn ∷ items) (suc i) x at own =
    let it = function_on side items i x at own in
    let more = called_after side (SideFunction fn) items in
    (more.0 + it.0, more.1 it.0 (function_called x) it.1)

-- two functions on a side are called there in their order
functions_on : (side : WorldSide) (items : List SideItem) (i j : ℕ) (x y : SourceFunction) → i < j → slice_get (flat_map item_function items) i ≡ Some x → slice_get (flat_map item_function items) j ≡ Some y → role_side x.role ≡ side → role_side y.role ≡ side → (a : ℕ) × (b : ℕ) × (a < b) × (slice_get (flat_map item_called (items_on side items)) a ≡ Some (function_called x)) × (slice_get (flat_map item_called (items_on side items)) b ≡ Some (function_called y))
functions_on side [] i j x y before at_x at_y own_x own_y = absurd (let f : ⊥ = cc in f)
functions_on side (SideLink link ∷ items) i j x y before at_x at_y own_x own_y =
    let it = functions_on side items i j x y before at_x at_y own_x own_y in
    let lt = it.2 in
    let more = called_after side (SideLink link) items in
    (more.0 + it.0, more.0 + it.1, omega (arith, lt), more.1 it.0 (function_called x) it.3, more.1 it.1 (function_called y) it.4)
functions_on side (SideInline z name inner ∷ items) i j x y before at_x at_y own_x own_y =
    let it = functions_on side items i j x y before at_x at_y own_x own_y in
    let lt = it.2 in
    let more = called_after side (SideInline z name inner) items in
    (more.0 + it.0, more.0 + it.1, omega (arith, lt), more.1 it.0 (function_called x) it.3, more.1 it.1 (function_called y) it.4)
functions_on side (SideFunction fn ∷ items) i zero x y before at_x at_y own_x own_y = absurd (let f : ⊥ = omega (arith, before) in f)
functions_on side (SideFunction fn ∷ items) zero (suc j) x y before at_x at_y own_x own_y =
    let here : fn ≡ x = cc in
    let own : role_side fn.role ≡ side = ap (λ (g : SourceFunction). role_side g.role) here ∙ own_x in
    let whole = called_first side (SideFunction fn) items own in
    let it = function_on side items j y at_y own_y in
    (0, suc it.0, omega arith, ap (λ l. slice_get l 0) whole ∙ ap (λ g. Some (function_called g)) here, ap (λ l. slice_get l (suc it.0)) whole ∙ it.1)
functions_on side (SideFunction fn ∷ items) (suc i) (suc j) x y before at_x at_y own_x own_y =
    let it = functions_on side items i j x y (omega (arith, before)) at_x at_y own_x own_y in
    let lt = it.2 in
    let more = called_after side (SideFunction fn) items in
    (more.0 + it.0, more.0 + it.1, omega (arith, lt), more.1 it.0 (function_called x) it.3, more.1 it.1 (function_called y) it.4)

-- of two functions with one name on one side the later one has the key of the earlier one
function_twice : (xs : List ScopeName) (items : List SideItem) (order : List ℕ) → IsOrder (rows_of xs) order → (i j : ℕ) (x y : SourceFunction) → i < j → slice_get (flat_map item_function items) i ≡ Some x → slice_get (flat_map item_function items) j ≡ Some y → function_key x ≡ function_key y → IsFoldedTwice xs items (fault 17 y.span)
function_twice xs items order least i j x y before at_x at_y same =
    let side = role_side x.role in
    let one : side ≡ role_side y.role = ap (λ k. k.0) same in
    let name : x.name ≡ y.name = ap (λ k. k.1) same in
    let names = map name_called (names_on side (in_turn xs order)) in
    let ours = flat_map item_called (items_on side items) in
    let it = functions_on side items i j x y before at_x at_y refl (sym one) in
    let lt = it.2 in (
      side,
      order,
      least,
      (
        words_of 17,
        (
          function_called y,
          (
            length names + it.0,
            length names + it.1,
            omega (arith, lt),
            function_called x,
            at_back names ours it.0 (function_called x) it.3,
            at_back names ours it.1 (function_called y) it.4,
            ap folded_key name,
          ),
          refl,
        ),
      ),
    )

-- so the functions of legal sides go by different sides or names
pub functions_differ : (xs : List ScopeName) (items : List SideItem) (order : List ℕ) → IsOrder (rows_of xs) order → ((f : Fault) → IsFoldedTwice xs items f → ⊥) → AllDiffer (map function_key (flat_map item_function items))
functions_differ xs items order least legal = differ_by function_key (flat_map item_function items) (λ i j x y at_x at_y same. elim (three_ways i j) [
  | inl before ↦ absurd (legal (fault 17 y.span) (function_twice xs items order least i j x y before at_x at_y same))
  | inr rest ↦ elim rest [
    | inl one ↦ one
    | inr rest_after ↦ absurd (legal (fault 17 x.span) (function_twice xs items order least j i y x rest_after at_y at_x (sym same)))
  ]
])
