use Rattle.std.proofs.Common.{◌≡◌, [], ◌∷◌, ◌++◌, ◌+◌, Some, take, refl, sym, ap, ◌∙◌, rules}
use Rattle.wit_arena.proofs.Common.{FutureForm, ResultForm, StreamForm, append-nil, boxed_types, env_of, err_from_is_err_and, is_some, ok_type, result_shape, result_types, slice_get, slice_get-get_or, take_all, take_more, tuple_inner, tuple_types, types_of_borrowed}
use Rattle.wit_type_tree.specs.declared.types.«Type».TheVariants as written
use Rattle.wit_types.specs.declared.types.TypeDefKind.TheVariants as kind
use Rattle.wit_walk.proofs.Common.{empty_fault, or_none, reports-in, reports_prefix, reports_same, first_in}
use Rattle.wit_entries.specs.EntryFaults.{lost_in, written_fault}
use Rattle.wit_entries.proofs.Faults.{tuple_first, types_extended}
use Rattle.wit_entries.proofs.Reading.{resolved_word}
use Rattle.wit_entries.proofs.Requiring.{extended_then, requires_none}
use Rattle.wit_entries.proofs.Resolves.{back_stopped, extended_same, future_shape, memory_stopped, one_interned, one_read, one_stopped, part_stopped, parts_read, stream_shape, types_more, types_none, types_stop}
use Rattle.wit_entries.proofs.types.+types.Goals as goal

pub read-returns-in-Primitive : goal.read-returns-in-Primitive
read-returns-in-Primitive t c = rw c.in-Primitive.is (record { made = (tt, search rules); handled = requires_none (env_of c.args.scope.now.names.now) c.args.types.now c.args.required.now.items; extended = extended_same c.args.types.now; first = refl })

pub read-returns-in-Name : goal.read-returns-in-Name
read-returns-in-Name t c =
    let es = c.args.types.now in
    let env = env_of c.args.scope.now.names.now in
    rw c.in-Name.is (record {
      made = (tt, resolved_word es env c.args.given.now c.in-Name.id c.in_ok-found.found c.in_ok-found.ensures.found);
      handled = requires_none env es c.args.required.now.items;
      extended = extended_same es;
      first = c.in_ok-found.ensures.first;
    })

pub read-returns-in-Own : goal.read-returns-in-Own
read-returns-in-Own t c =
    let it = c.in_ok-resource.ensures in
    rw c.in-Own.is (record { made = (tt, resolved_word c.args.types.now (env_of c.args.scope.now.names.now) c.args.given.now c.in-Own.id c.in_ok-resource.resource it.made); handled = it.handled; extended = it.extended; first = it.first })

pub read-returns-in-List : goal.read-returns-in-List
read-returns-in-List t c = rw c.in-List.is (parts_read c.args.scope.now c.args.given.now (written.List c.in-List.span c.in-List.item) (kind.List c.in_ok-item.item) c.in-List.span _ _ (c.in-List.item.value ∷ []) tt refl refl tt refl refl refl refl (rw c.deref.ensures at c.in_ok-item.ensures))

pub read_form-returns-in_ok-item-in-FixedLengthList : goal.read_form-returns-in_ok-item-in-FixedLengthList
read_form-returns-in_ok-item-in-FixedLengthList t c =
    let it = c.in-FixedLengthList in
    rw it.is (parts_read c.args.scope.now c.args.given.now (written.FixedLengthList it.span it.item it.size) (kind.FixedLengthList c.in_ok-item-in-FixedLengthList.item it.size) it.span _ _ (it.item.value ∷ []) tt refl refl tt refl refl refl refl (rw c.deref.ensures at c.in_ok-item-in-FixedLengthList.ensures))

pub read_form-returns-in_ok-check_key-in-Map : goal.read_form-returns-in_ok-check_key-in-Map
read_form-returns-in_ok-check_key-in-Map t c =
    let scope = c.args.scope.now in
    let given = c.args.given.now in
    let it = c.in-Map in
    let k = c.in_ok-key_type-in-Map.key_type in
    let v = c.in_ok-value_type-in-Map.value_type in
    rw it.is (parts_read scope given (written.Map it.span it.key it.value) (kind.Map k v) it.span _ _ (it.key.value ∷ it.value.value ∷ []) tt refl refl tt refl refl refl (rw c.deref-in-Map-3.ensures at c.in_ok-check_key-in-Map.ensures)
    (types_more scope given (it.key.value ∷ []) (it.value.value ∷ []) (k ∷ []) (v ∷ []) (rw c.deref-in-Map.ensures at c.in_ok-key_type-in-Map.ensures) (rw c.deref-in-Map-2.ensures at c.in_ok-value_type-in-Map.ensures)))

pub read_form-returns-in_err-value_type-in-Map : goal.read_form-returns-in_err-value_type-in-Map
read_form-returns-in_err-value_type-in-Map t c =
    let p = err_from_is_err_and c.from_residual-in_err-value_type-in-Map.result c.from_residual-in_err-value_type-in-Map.ensures.1 in
    let it = c.in-Map in
    rw (it.is, p.1, p.2) (part_stopped c.args.scope.now c.args.given.now (written.Map it.span it.key it.value) (it.key.value ∷ []) (it.value.value ∷ []) [] (c.in_ok-key_type-in-Map.key_type ∷ []) refl refl (rw c.deref-in-Map.ensures at c.in_ok-key_type-in-Map.ensures) (rw c.deref-in-Map-2.ensures at c.in_err-value_type-in-Map.ensures))

pub read_form-returns-in_err-check_key-in-Map : goal.read_form-returns-in_err-check_key-in-Map
read_form-returns-in_err-check_key-in-Map t c =
    let p = err_from_is_err_and c.from_residual-in_err-check_key-in-Map.result c.from_residual-in_err-check_key-in-Map.ensures.1 in
    let scope = c.args.scope.now in
    let given = c.args.given.now in
    let it = c.in-Map in
    let k = c.in_ok-key_type-in-Map.key_type in
    let v = c.in_ok-value_type-in-Map.value_type in
    rw (it.is, p.1, p.2) (back_stopped scope given (written.Map it.span it.key it.value) (it.key.value ∷ it.value.value ∷ []) (k ∷ v ∷ []) refl refl
    (types_more scope given (it.key.value ∷ []) (it.value.value ∷ []) (k ∷ []) (v ∷ []) (rw c.deref-in-Map.ensures at c.in_ok-key_type-in-Map.ensures) (rw c.deref-in-Map-2.ensures at c.in_ok-value_type-in-Map.ensures))
    (rw c.deref-in-Map-3.ensures at c.in_err-check_key-in-Map.ensures))

pub read_form-returns-in_ok-value-in-Option : goal.read_form-returns-in_ok-value-in-Option
read_form-returns-in_ok-value-in-Option t c =
    let it = c.in-Option in
    rw it.is (parts_read c.args.scope.now c.args.given.now (written.Option it.span it.value) (kind.Option c.in_ok-value-in-Option.value) it.span _ _ (it.value.value ∷ []) tt refl refl tt refl refl refl refl (rw c.deref-in-Option.ensures at c.in_ok-value-in-Option.ensures))

pub read_form-returns-in_ok-outcome-in-Result : goal.read_form-returns-in_ok-outcome-in-Result
read_form-returns-in_ok-outcome-in-Result t c =
    let it = c.in-Result in
    let r = c.in_ok-outcome-in-Result.outcome in
    let there = c.in_ok-outcome-in-Result.ensures.there in
    rw it.is (parts_read c.args.scope.now c.args.given.now (written.Result it.span it.parts) (kind.Result r) it.span _ _ (result_types it.parts) tt (result_shape it.span it.parts) (ap (λ x. ResultForm x (is_some r.err)) there.0 ∙ ap (ResultForm (is_some (ok_type it.parts))) there.1) tt refl refl refl refl c.in_ok-outcome-in-Result.ensures.resolves)

pub read_form-returns-in_err-outcome-in-Result : goal.read_form-returns-in_err-outcome-in-Result
read_form-returns-in_err-outcome-in-Result t c =
    let p = err_from_is_err_and c.from_residual-in_err-outcome-in-Result.result c.from_residual-in_err-outcome-in-Result.ensures.1 in
    let it = c.in-Result in
    rw (it.is, p.1, p.2) (part_stopped c.args.scope.now c.args.given.now (written.Result it.span it.parts) [] (result_types it.parts) [] [] (sym (append-nil (result_types it.parts))) refl (types_none c.args.scope.now c.args.given.now c.args.types.now c.args.required.now.items) c.in_err-outcome-in-Result.ensures.resolves)

pub read_form-returns-in_err-check_tuple-in-Tuple : goal.read_form-returns-in_err-check_tuple-in-Tuple
read_form-returns-in_err-check_tuple-in-Tuple t c =
    let p = err_from_is_err_and c.from_residual-in_err-check_tuple-in-Tuple.result c.from_residual-in_err-check_tuple-in-Tuple.ensures.1 in
    let env = env_of c.args.scope.now.names.now in
    let es = c.args.types.now in
    let it = c.in-Tuple in
    rw (it.is, p.1, p.2) (record { extended = extended_same es; first = reports_same (sym (tuple_first (lost_in c.args.scope.now.functions) env es it.span it.parts)) (reports_prefix (first_in (written_fault (lost_in c.args.scope.now.functions) env es) it.parts.items) (rw c.deref-in-Tuple.ensures.value at c.in_err-check_tuple-in-Tuple.ensures)) })

pub read_form-returns-in_err-types-in-Tuple : goal.read_form-returns-in_err-types-in-Tuple
read_form-returns-in_err-types-in-Tuple t c =
    let p = err_from_is_err_and c.from_residual-in_err-types-in-Tuple.result c.from_residual-in_err-types-in-Tuple.ensures.1 in
    let scope = c.args.scope.now in
    let given = c.args.given.now in
    let es = c.args.types.now in
    let it = c.in-Tuple in
    let before = ap (λ l. empty_fault 22 l it.span) (tuple_types it.span it.parts) ∙ (rw c.deref-in-Tuple.ensures.value at c.in_ok-check_tuple-in-Tuple.ensures) in
    rw (it.is, p.1, p.2) (part_stopped scope given (written.Tuple it.span it.parts) [] it.parts.items [] [] (tuple_types it.span it.parts ∙ sym (append-nil it.parts.items)) before (types_none scope given es c.args.required.now.items) (rw c.deref-in-Tuple-2.ensures.value at c.in_err-types-in-Tuple.ensures))

pub read_form-returns-in_ok-types-in-Tuple : goal.read_form-returns-in_ok-types-in-Tuple
read_form-returns-in_ok-types-in-Tuple t c =
    let it = c.in-Tuple in
    let ts = c.in_ok-types-in-Tuple.types in
    let before = ap (λ l. empty_fault 22 l it.span) (tuple_types it.span it.parts) ∙ (rw c.deref-in-Tuple.ensures.value at c.in_ok-check_tuple-in-Tuple.ensures) in
    rw it.is (parts_read c.args.scope.now c.args.given.now (written.Tuple it.span it.parts) (kind.Tuple (record { types = ts })) it.span _ _ it.parts.items tt refl refl tt (tuple_inner it.span it.parts) (tuple_types it.span it.parts) before refl (rw c.deref-in-Tuple-2.ensures.value at c.in_ok-types-in-Tuple.ensures))

pub read_form-returns-in_ok-value-in-Future : goal.read_form-returns-in_ok-value-in-Future
read_form-returns-in_ok-value-in-Future t c =
    let it = c.in-Future in
    let o = c.in_ok-value-in-Future.value in
    rw it.is (parts_read c.args.scope.now c.args.given.now (written.Future it.span it.value) (kind.Future o) it.span _ _ (boxed_types it.value) tt (future_shape it.span it.value) (ap FutureForm c.in_ok-value-in-Future.ensures.there) tt refl (types_of_borrowed it.value) refl refl c.in_ok-value-in-Future.ensures.resolves)

pub read_form-returns-in_ok-item-in-Stream : goal.read_form-returns-in_ok-item-in-Stream
read_form-returns-in_ok-item-in-Stream t c =
    let it = c.in-Stream in
    let o = c.in_ok-item-in-Stream.item in
    rw it.is (parts_read c.args.scope.now c.args.given.now (written.Stream it.span it.item) (kind.Stream o) it.span _ _ (boxed_types it.item) tt (stream_shape it.span it.item) (ap StreamForm c.in_ok-item-in-Stream.ensures.there) tt refl (types_of_borrowed it.item) refl refl c.in_ok-item-in-Stream.ensures.resolves)

pub read_form-returns-in_ok-resource-in-Borrow : goal.read_form-returns-in_ok-resource-in-Borrow
read_form-returns-in_ok-resource-in-Borrow t c =
    let it = c.in_ok-resource-in-Borrow.ensures in
    rw c.in-Borrow.is (record { made = (refl, refl, tt, resolved_word c.args.types.now (env_of c.args.scope.now.names.now) c.args.given.now c.in-Borrow.id c.in_ok-resource-in-Borrow.resource it.made); handled = it.handled; extended = it.extended; first = it.first })

pub resolve_type-returns-in_err-reading : goal.resolve_type-returns-in_err-reading
resolve_type-returns-in_err-reading t c =
    let p = err_from_is_err_and c.from_residual.result c.from_residual.ensures.1 in
    rw (p.1, p.2) (one_stopped (lost_in c.args.scope.now.functions) (env_of c.args.scope.now.names.now) c.args.ty.now c.in_err-reading.ensures)

pub resolve_type-returns-in-Leaf : goal.resolve_type-returns-in-Leaf
resolve_type-returns-in-Leaf t c = one_read c.args.scope.now c.args.given.now c.args.ty.now c.in-Leaf.ty (rw c.in-Leaf.is at c.in_ok-reading.ensures)

pub resolve_type-returns-in_ok-id-in-Form : goal.resolve_type-returns-in_ok-id-in-Form
resolve_type-returns-in_ok-id-in-Form t c = one_interned c.args.scope.now c.args.given.now c.args.ty.now c.in-Form.kind c.in-Form.span c.in_ok-id-in-Form.id (rw c.in-Form.is at c.in_ok-reading.ensures) c.in_ok-id-in-Form.ensures.interned c.in_ok-id-in-Form.ensures.extended

pub resolve_types-loop-part-init : goal.resolve_types-loop-part-init
resolve_types-loop-part-init t c = rw c.in_ok-resolved.ensures.items (types_none c.args.scope.now c.args.given.now c.args.types.now c.args.required.now.items)

pub resolve_types-loop-part-preserved : goal.resolve_types-loop-part-preserved
resolve_types-loop-part-preserved t c =
    let parts = c.args.parts.now in
    let i = c.loop-part.part-index in
    let part = c.part-item.result in
    let in_use : take (i + 1) parts ≡ take i parts ++ part ∷ [] = take_more parts i part c.loop-part-test.true ∙ ap (λ x. take i parts ++ x ∷ []) (sym c.part-item.is) in
    rw (in_use, c.in_ok-push.ensures.items) (types_more c.args.scope.now c.args.given.now (take i parts) (part ∷ []) c.loop-part.resolved.items (c.in_ok-ty.ty ∷ []) c.loop-part.invariant c.in_ok-ty.ensures)

pub resolve_types-returns-in_err-ty : goal.resolve_types-returns-in_err-ty
resolve_types-returns-in_err-ty t c =
    let p = err_from_is_err_and c.from_residual-in_err-ty.result c.from_residual-in_err-ty.ensures.1 in
    let lost = lost_in c.args.scope.now.functions in
    let env = env_of c.args.scope.now.names.now in
    let new = c.resolve_type.new.types in
    let parts = c.args.parts.now in
    let i = c.loop-part.part-index in
    let part = c.part-item.result in
    let at : slice_get parts i ≡ Some part = slice_get-get_or parts i part c.loop-part-test.true ∙ ap Some (sym c.part-item.is) in
    rw (p.1, p.2) (record {
      extended = extended_then _ _ _ c.loop-part.invariant.extended c.in_err-ty.ensures.extended;
      first = reports-in (written_fault lost env new) parts i part _ at (types_extended lost env _ new (take i parts) c.in_err-ty.ensures.extended c.loop-part.invariant.first) (reports_same (or_none (written_fault lost env new part)) c.in_err-ty.ensures.first);
    })

pub resolve_types-returns-in_err-push : goal.resolve_types-returns-in_err-push
resolve_types-returns-in_err-push t c =
    let p = err_from_is_err_and c.from_residual-in_err-push.result c.from_residual-in_err-push.ensures.1 in
    rw p.1 (memory_stopped c.loop-part.invariant.extended c.in_ok-ty.ensures.extended p.2)

pub resolve_types-returns : goal.resolve_types-returns
resolve_types-returns t c =
    let all = take_all c.loop-part.part-index c.args.parts.now c.loop-part-test.false in
    rw (← all, c.from.ensures) c.loop-part.invariant

pub resolve_optional-returns-in_ok-found-in-Some-clause-resolves : goal.resolve_optional-returns-in_ok-found-in-Some-clause-resolves
resolve_optional-returns-in_ok-found-in-Some-clause-resolves t c = rw c.in-Some.is (rw c.deref.ensures at c.in_ok-found-in-Some.ensures)

pub resolve_optional-returns-in-None-clause-resolves : goal.resolve_optional-returns-in-None-clause-resolves
resolve_optional-returns-in-None-clause-resolves t c = rw c.in-None.is (types_none c.args.scope.now c.args.given.now c.args.types.now c.args.required.now.items)

pub resolve_result-returns-in-Neither-clause-resolves : goal.resolve_result-returns-in-Neither-clause-resolves
resolve_result-returns-in-Neither-clause-resolves t c = rw c.in-Neither.is (types_none c.args.scope.now c.args.given.now c.args.types.now c.args.required.now.items)

pub resolve_result-returns-in_ok-ok-in-Ok-clause-resolves : goal.resolve_result-returns-in_ok-ok-in-Ok-clause-resolves
resolve_result-returns-in_ok-ok-in-Ok-clause-resolves t c = rw c.in-Ok.is (rw c.deref.ensures at c.in_ok-ok-in-Ok.ensures)

pub resolve_result-returns-in_ok-err-in-Err-clause-resolves : goal.resolve_result-returns-in_ok-err-in-Err-clause-resolves
resolve_result-returns-in_ok-err-in-Err-clause-resolves t c = rw c.in-Err.is (rw c.deref-in-Err.ensures at c.in_ok-err-in-Err.ensures)

pub resolve_result-returns-in_err-ok-in-Both-clause-resolves : goal.resolve_result-returns-in_err-ok-in-Both-clause-resolves
resolve_result-returns-in_err-ok-in-Both-clause-resolves t c =
    let p = err_from_is_err_and c.from_residual-in_err-ok-in-Both.result c.from_residual-in_err-ok-in-Both.ensures.1 in
    rw (c.in-Both.is, p.1, p.2) (types_stop c.args.scope.now c.args.given.now [] (c.in-Both.ok.value ∷ []) (c.in-Both.err.value ∷ []) [] (types_none c.args.scope.now c.args.given.now c.args.types.now c.args.required.now.items) (rw c.deref-in-Both.ensures at c.in_err-ok-in-Both.ensures))

pub resolve_result-returns-in_err-err-in-Both-clause-resolves : goal.resolve_result-returns-in_err-err-in-Both-clause-resolves
resolve_result-returns-in_err-err-in-Both-clause-resolves t c =
    let p = err_from_is_err_and c.from_residual-in_err-err-in-Both.result c.from_residual-in_err-err-in-Both.ensures.1 in
    rw (c.in-Both.is, p.1, p.2) (types_stop c.args.scope.now c.args.given.now (c.in-Both.ok.value ∷ []) (c.in-Both.err.value ∷ []) [] (c.in_ok-ok-in-Both.ok ∷ []) (rw c.deref-in-Both.ensures at c.in_ok-ok-in-Both.ensures) (rw c.deref-in-Both-2.ensures at c.in_err-err-in-Both.ensures))

pub resolve_result-returns-in_ok-err-in-Both-clause-resolves : goal.resolve_result-returns-in_ok-err-in-Both-clause-resolves
resolve_result-returns-in_ok-err-in-Both-clause-resolves t c = rw c.in-Both.is (types_more c.args.scope.now c.args.given.now (c.in-Both.ok.value ∷ []) (c.in-Both.err.value ∷ []) (c.in_ok-ok-in-Both.ok ∷ []) (c.in_ok-err-in-Both.err ∷ []) (rw c.deref-in-Both.ensures at c.in_ok-ok-in-Both.ensures) (rw c.deref-in-Both-2.ensures at c.in_ok-err-in-Both.ensures))

pub read-returns-in_err-item : goal.read-returns-in_err-item
read-returns-in_err-item t c =
    let p = err_from_is_err_and c.from_residual-in_err-item.result c.from_residual-in_err-item.ensures.1 in
    let it = c.in-List in
    rw (it.is, p.1, p.2) (part_stopped c.args.scope.now c.args.given.now (written.List it.span it.item) [] (it.item.value ∷ []) ([]) [] refl refl (types_none c.args.scope.now c.args.given.now c.args.types.now c.args.required.now.items) (rw c.deref.ensures at c.in_err-item.ensures))

pub read_form-returns-in_err-item-in-FixedLengthList : goal.read_form-returns-in_err-item-in-FixedLengthList
read_form-returns-in_err-item-in-FixedLengthList t c =
    let p = err_from_is_err_and c.from_residual.result c.from_residual.ensures.1 in
    let it = c.in-FixedLengthList in
    rw (it.is, p.1, p.2) (part_stopped c.args.scope.now c.args.given.now (written.FixedLengthList it.span it.item it.size) [] (it.item.value ∷ []) ([]) [] refl refl (types_none c.args.scope.now c.args.given.now c.args.types.now c.args.required.now.items) (rw c.deref.ensures at c.in_err-item-in-FixedLengthList.ensures))

pub read_form-returns-in_err-key_type-in-Map : goal.read_form-returns-in_err-key_type-in-Map
read_form-returns-in_err-key_type-in-Map t c =
    let p = err_from_is_err_and c.from_residual-in_err-key_type-in-Map.result c.from_residual-in_err-key_type-in-Map.ensures.1 in
    let it = c.in-Map in
    rw (it.is, p.1, p.2) (part_stopped c.args.scope.now c.args.given.now (written.Map it.span it.key it.value) [] (it.key.value ∷ []) (it.value.value ∷ []) [] refl refl (types_none c.args.scope.now c.args.given.now c.args.types.now c.args.required.now.items) (rw c.deref-in-Map.ensures at c.in_err-key_type-in-Map.ensures))

pub read_form-returns-in_err-value-in-Option : goal.read_form-returns-in_err-value-in-Option
read_form-returns-in_err-value-in-Option t c =
    let p = err_from_is_err_and c.from_residual-in_err-value-in-Option.result c.from_residual-in_err-value-in-Option.ensures.1 in
    let it = c.in-Option in
    rw (it.is, p.1, p.2) (part_stopped c.args.scope.now c.args.given.now (written.Option it.span it.value) [] (it.value.value ∷ []) ([]) [] refl refl (types_none c.args.scope.now c.args.given.now c.args.types.now c.args.required.now.items) (rw c.deref-in-Option.ensures at c.in_err-value-in-Option.ensures))

pub read_form-returns-in_err-value-in-Future : goal.read_form-returns-in_err-value-in-Future
read_form-returns-in_err-value-in-Future t c =
    let p = err_from_is_err_and c.from_residual-in_err-value-in-Future.result c.from_residual-in_err-value-in-Future.ensures.1 in
    let it = c.in-Future in
    rw (it.is, p.1, p.2) (part_stopped c.args.scope.now c.args.given.now (written.Future it.span it.value) [] (boxed_types it.value) ([]) [] (types_of_borrowed it.value ∙ sym (append-nil (boxed_types it.value))) refl (types_none c.args.scope.now c.args.given.now c.args.types.now c.args.required.now.items) c.in_err-value-in-Future.ensures.resolves)

pub read_form-returns-in_err-item-in-Stream : goal.read_form-returns-in_err-item-in-Stream
read_form-returns-in_err-item-in-Stream t c =
    let p = err_from_is_err_and c.from_residual-in_err-item-in-Stream.result c.from_residual-in_err-item-in-Stream.ensures.1 in
    let it = c.in-Stream in
    rw (it.is, p.1, p.2) (part_stopped c.args.scope.now c.args.given.now (written.Stream it.span it.item) [] (boxed_types it.item) ([]) [] (types_of_borrowed it.item ∙ sym (append-nil (boxed_types it.item))) refl (types_none c.args.scope.now c.args.given.now c.args.types.now c.args.required.now.items) c.in_err-item-in-Stream.ensures.resolves)
