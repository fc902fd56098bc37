use Rattle.std.proofs.Common.{◌++◌, [], List, sym, ap, ◌∙◌}
use Rattle.wit_contents.proofs.Names.{IsStart, ItemWalk, Name, err_from_is_err_and, first_after, item_view, items_on, none_both, option_or, reports_back, reports_prefix, reports_same, setters_fault, side_items, flat_map, walk_of}
use Rattle.wit_contents.specs.declared.walk.Walked.{Walked}
use Rattle.wit_contents.proofs.WorldFaults.{texts_differ, next_all, setters_closed}
use Rattle.wit_contents.proofs.sides.walk_sides.Goals as goal
use Rattle.wit_externs.specs.Clash.{item_names}

pub declared_world-world-requires : goal.declared_world-world-requires
declared_world-world-requires c = c.requires.world.sort

pub named_members-requires-clause-distinct : goal.named_members-requires-clause-distinct
named_members-requires-clause-distinct c = rw c.deref-turn.ensures.value (texts_differ _ _ c.requires.turn)

pub named_members-requires-clause-listed : goal.named_members-requires-clause-listed
named_members-requires-clause-listed c = rw c.deref-turn.ensures.value c.args.scope.now.names.listed

pub walk_parts-requires : goal.walk_parts-requires
walk_parts-requires c =
    let start : Walked = record { members = c.in_ok-members.members; seen = c.none.result } in
    next_all (walk_of c.args.item.now c.args.scope.now) start c.requires c.none.ensures c.in_ok-members.ensures.keyed

pub check_closed-requires : goal.check_closed-requires
check_closed-requires c =
    let w : ItemWalk = walk_of c.args.item.now c.args.scope.now in
    let e = rw c.deref-turn.ensures.value at c.in_ok-members.ensures in
    let start : Walked = record { members = c.in_ok-members.members; seen = c.none.result } in
    let all = side_items (item_view w.item) in
    rw (c.deref-turn.ensures.value, c.deref-functions.ensures.value) (all, sym c.requires.functions, λ s. (c.in_ok-walk_parts.ensures.adds (next_all w start c.requires c.none.ensures e.keyed)).in_use s ∙ ap (λ (l : List Name). l ++ flat_map item_names (items_on s all)) (e.in_use s))

pub returns-clause-adds : goal.returns-clause-adds
returns-clause-adds c =
    let w : ItemWalk = walk_of c.args.item.now c.args.scope.now in
    let e = rw c.deref-turn.ensures.value at c.in_ok-members.ensures in
    let start : Walked = record { members = c.in_ok-members.members; seen = c.none.result } in
    let begun : IsStart w start = record { seen = c.none.ensures; keyed = e.keyed; in_use = e.in_use; linked = e.linked; imports = e.imports; exports = e.exports } in
    (start, begun, c.in_ok-walk_parts.ensures.adds (next_all w start c.requires c.none.ensures e.keyed))

-- the first fault: of its names, of what is there, or of its setters
pub returns-in_err-members-clause-first : goal.returns-in_err-members-clause-first
returns-in_err-members-clause-first c =
    let p = err_from_is_err_and c.from_residual.result c.from_residual.ensures.1 in
    let i = item_view c.args.item.now in
    let first = rw c.deref-turn.ensures.value at c.in_err-members.ensures.first in
    rw (p.1, p.2) (λ member right. reports_prefix (option_or (first_after member [] (side_items i)) (setters_fault i)) first)

pub returns-in_err-walk_parts-clause-first : goal.returns-in_err-walk_parts-clause-first
returns-in_err-walk_parts-clause-first c =
    let p = err_from_is_err_and c.from_residual-in_err-walk_parts.result c.from_residual-in_err-walk_parts.ensures.1 in
    let w : ItemWalk = walk_of c.args.item.now c.args.scope.now in
    let e = rw c.deref-turn.ensures.value at c.in_ok-members.ensures in
    let start : Walked = record { members = c.in_ok-members.members; seen = c.none.result } in
    let begun : IsStart w start = record { seen = c.none.ensures; keyed = e.keyed; in_use = e.in_use; linked = e.linked; imports = e.imports; exports = e.exports } in
    let next = next_all w start c.requires c.none.ensures e.keyed in
    rw (p.1, p.2) (λ member right. reports_back e.first (reports_prefix (setters_fault (item_view w.item)) (c.in_err-walk_parts.ensures.first next member (right start begun))))

pub returns-in_err-check_closed-clause-first : goal.returns-in_err-check_closed-clause-first
returns-in_err-check_closed-clause-first c =
    let p = err_from_is_err_and c.from_residual-in_err-check_closed.result c.from_residual-in_err-check_closed.ensures.1 in
    let w : ItemWalk = walk_of c.args.item.now c.args.scope.now in
    let e = rw c.deref-turn.ensures.value at c.in_ok-members.ensures in
    let start : Walked = record { members = c.in_ok-members.members; seen = c.none.result } in
    let begun : IsStart w start = record { seen = c.none.ensures; keyed = e.keyed; in_use = e.in_use; linked = e.linked; imports = e.imports; exports = e.exports } in
    let next = next_all w start c.requires c.none.ensures e.keyed in
    let closed = rw c.deref-functions.ensures.value at c.in_err-check_closed.ensures.first in
    rw (p.1, p.2) (λ member right. reports_back e.first (reports_back (c.in_ok-walk_parts.ensures.first next member (right start begun)) (reports_same (setters_closed (item_view w.item) _ c.requires.functions c.args.scope.now.closed c.requires.closed) closed)))

pub returns-clause-first : goal.returns-clause-first
returns-clause-first c = λ member right.
    let w : ItemWalk = walk_of c.args.item.now c.args.scope.now in
    let e = rw c.deref-turn.ensures.value at c.in_ok-members.ensures in
    let start : Walked = record { members = c.in_ok-members.members; seen = c.none.result } in
    let begun : IsStart w start = record { seen = c.none.ensures; keyed = e.keyed; in_use = e.in_use; linked = e.linked; imports = e.imports; exports = e.exports } in
    let next = next_all w start c.requires c.none.ensures e.keyed in
    let closed = rw c.deref-functions.ensures.value at c.in_ok-check_closed.ensures.first in
    none_both e.first (none_both (c.in_ok-walk_parts.ensures.first next member (right start begun)) (sym (setters_closed (item_view w.item) _ c.requires.functions c.args.scope.now.closed c.requires.closed) ∙ closed))
