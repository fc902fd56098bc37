use Rattle.std.proofs.Common.{map, ap, ◌∙◌, inl}
use Rattle.wit_contents.proofs.Names.{IfOk-at_ok, err_from_is_err_and, item_view}
use Rattle.wit_foreign.specs.Growing.{AreDepsOf, AreDepSpansOf}
use Rattle.wit_contents.proofs.Files.{prefix_entries, prefix_started, prefix_used}
use Rattle.wit_contents.proofs.FileFaults.{memory_found, uses_reported}
use Rattle.wit_contents.proofs.contents.resolve_named.Goals as goal

pub of-gathered-requires : goal.of-gathered-requires
of-gathered-requires c = rw c.deref.ensures.value (prefix_entries c.args.names.now _ _ _ c.foreign.ensures (c.reserve.ensures ∙ c.new-types.ensures) c.in_ok-prefix.ensures)

pub declared_items-requires : goal.declared_items-requires
declared_items-requires c = record { files = c.of-gathered.ensures ∙ c.requires.gathered }

pub of-named-requires : goal.of-named-requires
of-named-requires c =
    let e = rw c.of-gathered.ensures at c.in_ok-items.ensures in
    let prefix = prefix_used c.args.names.now _ _ _ c.foreign.ensures (c.reserve.ensures ∙ c.new-types.ensures) c.in_ok-prefix.ensures _ _ c.deref_mut-lent.ensures.value e.each _ _ e.items c.in_ok-add_used_by_items.ensures in
    rw c.deref-2.ensures.value prefix.entries

pub add_used_by_items-requires : goal.add_used_by_items-requires
add_used_by_items-requires c =
    let e = rw c.of-gathered.ensures at c.in_ok-items.ensures in
    prefix_started c.args.names.now _ _ _ c.foreign.ensures (c.reserve.ensures ∙ c.new-types.ensures) c.in_ok-prefix.ensures _ _ c.deref_mut-lent.ensures.value e.each

pub begun-making-requires-clause-foreign : goal.begun-making-requires-clause-foreign
begun-making-requires-clause-foreign c =
    let e = rw c.of-gathered.ensures at c.in_ok-items.ensures in
    let prefix = prefix_used c.args.names.now _ _ _ c.foreign.ensures (c.reserve.ensures ∙ c.new-types.ensures) c.in_ok-prefix.ensures _ _ c.deref_mut-lent.ensures.value e.each _ _ e.items c.in_ok-add_used_by_items.ensures in
    rw (c.of-named.ensures, c.make_room.ensures.worlds) prefix.adds

pub begun-making-requires-clause-bare : goal.begun-making-requires-clause-bare
begun-making-requires-clause-bare c = record { inside = c.make_room.ensures.inside ∙ c.new-inside.ensures; required = c.new-required.ensures.items }

pub resolve_items-requires-clause-ready : goal.resolve_items-requires-clause-ready
resolve_items-requires-clause-ready c =
    let e = rw c.of-gathered.ensures at c.in_ok-items.ensures in
    rw (c.begun-making.ensures.files, c.of-named.ensures) (record {
      order = c.item_order-order.ensures;
      unbroken = c.requires.unbroken;
      uses = e.first;
      all = ap (map item_view) c.deref_mut-lent.ensures.value ∙ e.items;
      each = rw c.deref_mut-lent.ensures.value e.each;
    })

pub returns-clause-made : goal.returns-clause-made
returns-clause-made c =
    let e = rw c.of-gathered.ensures at c.in_ok-items.ensures in
    let prefix = prefix_used c.args.names.now _ _ _ c.foreign.ensures (c.reserve.ensures ∙ c.new-types.ensures) c.in_ok-prefix.ensures _ _ c.deref_mut-lent.ensures.value e.each _ _ e.items c.in_ok-add_used_by_items.ensures in
    let parts = c.in_ok-contents.ensures in
    let deps = IfOk-at_ok (λ found. AreDepsOf c.foreign_visits.result.now found.0) parts.deps c.foreign_deps-deps.ensures.deps in
    let spans = IfOk-at_ok (λ found. AreDepSpansOf c.foreign_visits.result.now found.1) parts.deps c.foreign_deps-deps.ensures.spans in
    let made = rw (c.begun-making.ensures.files, c.of-named.ensures) at c.in_ok-resolve_items.ensures.made in
    rw (parts.is, c.made_in-declared.ensures) (made c.in_ok-contents.contents.foreign (record {
      deps = deps c.args.names.now c.foreign_visits.ensures;
      spans = spans c.args.names.now c.foreign_visits.ensures;
      unknown = parts.unknown ∙ prefix.spans;
      required = rw c.made_in-declared.ensures at parts.required;
    }))

pub returns-in_err-prefix-clause-first : goal.returns-in_err-prefix-clause-first
returns-in_err-prefix-clause-first c = λ known is. memory_found _ c.from_residual-in_err-prefix.result c.from_residual-in_err-prefix.ensures.1

pub returns-in_err-items-clause-first : goal.returns-in_err-items-clause-first
returns-in_err-items-clause-first c =
    let p = err_from_is_err_and c.from_residual-in_err-items.result c.from_residual-in_err-items.ensures.1 in
    let found = rw c.of-gathered.ensures at c.in_err-items.ensures.first in
    rw (p.1, p.2) (λ known is. uses_reported c.args.names.now known is c.item_order-order.result.now c.item_order-order.ensures _ found)

pub returns-in_err-add_used_by_items-clause-first : goal.returns-in_err-add_used_by_items-clause-first
returns-in_err-add_used_by_items-clause-first c = λ known is. memory_found _ c.from_residual-in_err-add_used_by_items.result c.from_residual-in_err-add_used_by_items.ensures.1

pub returns-in_err-resolve_items-clause-first : goal.returns-in_err-resolve_items-clause-first
returns-in_err-resolve_items-clause-first c =
    let p = err_from_is_err_and c.from_residual-in_err-resolve_items.result c.from_residual-in_err-resolve_items.ensures.1 in
    rw (p.1, p.2) (rw (c.begun-making.ensures.files, c.of-named.ensures) at c.in_err-resolve_items.ensures.first)

pub returns-clause-first : goal.returns-clause-first
returns-clause-first c = rw (c.begun-making.ensures.files, c.of-named.ensures) at c.in_ok-resolve_items.ensures.first

pub returns-in_err-contents-clause-first : goal.returns-in_err-contents-clause-first
returns-in_err-contents-clause-first c =
    let p = err_from_is_err_and c.from_residual-in_err-contents.result c.from_residual-in_err-contents.ensures.1 in
    rw (p.1, p.2) (λ known is. inl c.in_err-contents.ensures.refused)

pub returns-in_err-reserve-clause-first : goal.returns-in_err-reserve-clause-first
returns-in_err-reserve-clause-first c = λ known is. memory_found _ c.from_residual.result c.from_residual.ensures.1

pub returns-in_err-make_room-clause-first : goal.returns-in_err-make_room-clause-first
returns-in_err-make_room-clause-first c = λ known is. memory_found _ c.from_residual-in_err-make_room.result c.from_residual-in_err-make_room.ensures.1
