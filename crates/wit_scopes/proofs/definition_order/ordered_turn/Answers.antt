use Rattle.std.proofs.Common.{◌≡◌, get_or, map, ap, sym, ◌∙◌, subst, arith}
use Rattle.wit_arena.proofs.Common.{IsOrder, MatchBool-at_true, defined, err_from_is_err_and, in_order, length-map, names_within, rows_of, slice_get-get_or}
use Rattle.wit_scopes.specs.BorrowedNames.{name_view}
use Rattle.wit_scopes.specs.DefinitionOrder.{NeedNone}
use Rattle.wit_scopes.proofs.Placed.{written_in_turn}
use Rattle.wit_scopes.proofs.definition_order.ordered_turn.Goals as goal
use Rattle.wit_arena.proofs.JoinedMade.{map-in_order}

pub returns-then-branch-clause-ordered : goal.returns-then-branch-clause-ordered
returns-then-branch-clause-ordered c =
    let xs = map name_view c.args.names.now in
    written_in_turn xs _ c.requires.definitions (MatchBool-at_true (NeedNone xs) (NeedNone xs → ⊥) c.if-branch.true c.in_ok-need_none.ensures)

pub returns-then-branch-clause-first : goal.returns-then-branch-clause-first
returns-then-branch-clause-first c =
    let xs = map name_view c.args.names.now in
    let ordered = written_in_turn xs _ c.requires.definitions (MatchBool-at_true (NeedNone xs) (NeedNone xs → ⊥) c.if-branch.true c.in_ok-need_none.ensures) in
    (ordered.order, ordered.least)

pub in_order-requires : goal.in_order-requires
in_order-requires c = λ i d lt.
    let names = c.args.names.now in
    let xs = map name_view names in
    let places = c.deref.result.now in
    let order : IsOrder (rows_of xs) places = subst (IsOrder (rows_of xs)) (sym c.deref.ensures.value) c.in_ok-places.ensures.order in
    (let h = names_within xs places order i (get_or places i d) (slice_get-get_or places i d lt) in omega (arith, length-map names name_view))

pub returns-clause-ordered : goal.returns-clause-ordered
returns-clause-ordered c =
    let names = c.args.names.now in
    let places = c.in_ok-places.places.items in
    let ordered = c.in_ok-ordered.ordered.items in
    let are : ordered ≡ in_order names places = c.in_ok-ordered.ensures ∙ ap (in_order names) c.deref.ensures.value in
    rw c.in_ok-turn_of.ensures.definitions (record {
      order = places;
      least = c.in_ok-places.ensures.order;
      are = c.in_ok-sorted.ensures ∙ ap (λ l. defined (map name_view l)) (c.deref-2.ensures.value ∙ are) ∙ ap defined (map-in_order name_view names places);
    })

pub returns-clause-ids : goal.returns-clause-ids
returns-clause-ids c = c.in_ok-turn_of.ensures.ids

pub returns-in_err-places-clause-first : goal.returns-in_err-places-clause-first
returns-in_err-places-clause-first c =
    let p = err_from_is_err_and c.from_residual-in_err-places.result c.from_residual-in_err-places.ensures.1 in
    rw (p.1, p.2) c.in_err-places.ensures.first

pub returns-clause-first : goal.returns-clause-first
returns-clause-first c = c.in_ok-places.ensures.first
