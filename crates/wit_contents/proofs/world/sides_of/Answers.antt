use Rattle.std.proofs.Common.{Bool, List, refl, map, sym, ap, ◌∙◌, subst}
use Rattle.wit_contents.proofs.Names.{AllDiffer, Id, err_from_is_err_and, in_turn, is_ascii_uppercase, item_view, list_any, local_name, name_view, scope_names}
use Rattle.wit_contents.proofs.FileFaults.{memory_found}
use Rattle.wit_contents.proofs.WorldFaults.{alone_adds, alone_none, content_adds, walk_there, texts_differ}
use Rattle.wit_contents.proofs.world.sides_of.Goals as goal

-- whether a name has a letter in upper case
abbrev has_upper : List Id → Bool
has_upper ids = list_any (λ (id : Id). list_any is_ascii_uppercase id.name.now) ids

-- nothing comes after its names
pub named_sides-requires : goal.named_sides-requires
named_sides-requires c = record { distinct = subst (λ (l : List Id). AllDiffer (map (λ id. id.name.now) l)) (sym c.deref-then-not-have_upper_case.ensures.value) (texts_differ _ _ c.requires.turn) }

pub returns-then-not-have_upper_case-clause-adds : goal.returns-then-not-have_upper_case-clause-adds
returns-then-not-have_upper_case-clause-adds c = λ a n required same found are added says.
    let i = c.args.item.now in
    let sides = c.in_ok-sides.ensures in
    alone_adds i c.declared_world-world.result.now c.declared_world-world.ensures (sym c.has_nothing.ensures ∙ c.if-has_nothing.true) c.args.resolved.now a c.args.growing.now c.args.names n required same c.in_ok-sides.sides found (sides.imports (in_turn (scope_names (item_view i)) n.adds.order) (c.deref-then-not-have_upper_case.ensures.value ∙ n.turn)) sides.exports are added says

pub returns-then-not-have_upper_case-clause-first : goal.returns-then-not-have_upper_case-clause-first
returns-then-not-have_upper_case-clause-first c = λ member right.
    let bare = sym c.has_nothing.ensures ∙ c.if-has_nothing.true in
    let lower = ap has_upper (sym c.deref.ensures.value) ∙ sym c.have_upper_case.ensures ∙ c.if-not-have_upper_case.true in
    alone_none c.args.item.now c.declared_world-world.result.now c.declared_world-world.ensures bare c.args.names.turn.items c.requires.turn lower member

-- or something may
pub written_functions-requires : goal.written_functions-requires
written_functions-requires c = subst (λ l. AllDiffer (map local_name l)) (sym (ap (map name_view) c.deref-2.ensures.value ∙ c.requires.item.item.named)) c.requires.turn.distinct

pub walk_sides-requires : goal.walk_sides-requires
walk_sides-requires c = walk_there c.args.resolved.now c.args.item.now _ c.declared_world-world.result.now _ c.requires.item c.declared_world-world.ensures c.requires.turn c.in_ok-written.ensures.functions c.deref-2.ensures.value c.in_ok-written.ensures.results c.requires.closed

pub settle-requires : goal.settle-requires
settle-requires c = c.in_ok-walked.ensures.adds.2.keyed

pub returns-clause-adds : goal.returns-clause-adds
returns-clause-adds c = λ a n required same found are added says.
    let i = c.args.item.now in
    let h = c.in_ok-walked.ensures.adds in
    let walks = walk_there c.args.resolved.now i _ c.declared_world-world.result.now _ c.requires.item c.declared_world-world.ensures c.requires.turn c.in_ok-written.ensures.functions c.deref-2.ensures.value c.in_ok-written.ensures.results c.requires.closed in
    content_adds c.args.resolved.now i _ a c.args.growing.now c.walk_sides.new.growing n required same c.in_ok-walked.walked h.0 h.1 h.2 walks c.in_ok-sides-2.sides found c.in_ok-sides-2.ensures are added says

pub returns-in_err-walked-clause-first : goal.returns-in_err-walked-clause-first
returns-in_err-walked-clause-first c =
    let p = err_from_is_err_and c.from_residual-in_err-walked.result c.from_residual-in_err-walked.ensures.1 in
    let walks = walk_there c.args.resolved.now c.args.item.now _ c.declared_world-world.result.now _ c.requires.item c.declared_world-world.ensures c.requires.turn c.in_ok-written.ensures.functions c.deref-2.ensures.value c.in_ok-written.ensures.results c.requires.closed in
    rw (p.1, p.2) (λ member right. c.in_err-walked.ensures.first member (right _ refl walks))

pub returns-clause-first : goal.returns-clause-first
returns-clause-first c = λ member right.
    let walks = walk_there c.args.resolved.now c.args.item.now _ c.declared_world-world.result.now _ c.requires.item c.declared_world-world.ensures c.requires.turn c.in_ok-written.ensures.functions c.deref-2.ensures.value c.in_ok-written.ensures.results c.requires.closed in
    c.in_ok-walked.ensures.first member (right _ refl walks)

-- or memory failed
pub returns-in_err-sides-clause-first : goal.returns-in_err-sides-clause-first
returns-in_err-sides-clause-first c = λ member right. memory_found _ c.from_residual.result c.from_residual.ensures.1

pub returns-in_err-written-clause-first : goal.returns-in_err-written-clause-first
returns-in_err-written-clause-first c = λ member right. memory_found _ c.from_residual-in_err-written.result c.from_residual-in_err-written.ensures.1

pub returns-in_err-sides-2-clause-first : goal.returns-in_err-sides-2-clause-first
returns-in_err-sides-2-clause-first c = λ member right. memory_found _ c.from_residual-in_err-sides-2.result c.from_residual-in_err-sides-2.ensures.1
