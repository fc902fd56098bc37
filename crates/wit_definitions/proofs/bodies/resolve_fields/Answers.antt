use Rattle.std.proofs.Common.{◌≡◌, [], ◌∷◌, ◌++◌, ◌+◌, Some, None, take, sym, ap, ◌∙◌, map, refl}
use Rattle.wit_types.specs.declared.types.Field.{Field}
use Rattle.wit_arena.proofs.Common.{Field as WrittenField, env_of, err_from_is_err_and, field_types, map-append, member, option_map, slice_get, slice_get-get_or, slice_get-map, take-map, take_all, take_more}
use Rattle.wit_first.proofs.First.{reports-in, or_none, reports_same}
use Rattle.wit_first.proofs.Pushed.{pushed_next}
use Rattle.wit_entries.specs.EntryFaults.{lost_in, written_fault}
use Rattle.wit_entries.proofs.Faults.{types_extended}
use Rattle.wit_entries.proofs.Requiring.{extended_then}
use Rattle.wit_entries.proofs.Resolves.{memory_stopped, types_more, types_none}
use Rattle.wit_definitions.specs.Bodies.{field_member}
use Rattle.wit_definitions.proofs.bodies.resolve_fields.Goals as goal
use Rattle.wit_first.specs.First.{first_in}

pub loop-written-init : goal.loop-written-init
loop-written-init c = rw c.in_ok-resolved.ensures.items (record { members = refl; types = types_none c.args.scope.now c.args.given.now c.args.types.now c.args.required.now.items })

pub loop-written-preserved : goal.loop-written-preserved
loop-written-preserved c =
    let type_of = λ (x : Field). x.ty in
    let fs = c.args.fields.now in
    let i = c.loop-written.written-index in
    let f = c.written-item.result in
    let own = c.in_ok-field.field-0 in
    let out = c.loop-written.resolved.items in
    let in_use : take (i + 1) fs ≡ take i fs ++ f ∷ [] = take_more fs i f c.loop-written-test.true ∙ ap (λ x. take i fs ++ x ∷ []) (sym c.written-item.is) in
    let written : field_types (take (i + 1) fs) ≡ field_types (take i fs) ++ f.ty ∷ [] = ap field_types in_use ∙ map-append (λ (x : WrittenField). x.ty) (take i fs) (f ∷ []) in
    let types : map type_of c.push.new.self.items ≡ map type_of out ++ c.in_ok-ty.ty ∷ [] = ap (map type_of) c.in_ok-push.ensures.items ∙ map-append type_of out (own ∷ []) ∙ ap (λ t. map type_of out ++ t ∷ []) c.in_ok-field.ensures.typed in
    record {
      members = pushed_next field_member (λ (x : WrittenField). member x.docs x.name) out _ fs i f _ c.loop-written-test.true c.written-item.is c.loop-written.invariant.members c.in_ok-push.ensures.items c.in_ok-field.ensures.member;
      types = rw (written, types) (types_more c.args.scope.now c.args.given.now (field_types (take i fs)) (f.ty ∷ []) (map type_of out) (c.in_ok-ty.ty ∷ []) c.loop-written.invariant.types c.in_ok-ty.ensures);
    }

pub returns-clause-members : goal.returns-clause-members
returns-clause-members c =
    let all = take_all c.loop-written.written-index c.args.fields.now c.loop-written-test.false in
    rw (← all, c.from.ensures) c.loop-written.invariant.members

pub returns-clause-resolves : goal.returns-clause-resolves
returns-clause-resolves c =
    let all = take_all c.loop-written.written-index c.args.fields.now c.loop-written-test.false in
    rw (← all, c.from.ensures) c.loop-written.invariant.types

pub returns-in_err-ty-clause-resolves : goal.returns-in_err-ty-clause-resolves
returns-in_err-ty-clause-resolves c =
    let p = err_from_is_err_and c.from_residual-in_err-ty.result c.from_residual-in_err-ty.ensures.1 in
    let lost = lost_in c.args.scope.now.functions in
    let env = env_of c.args.scope.now.names.now in
    let new = c.resolve_type.new.types in
    let fs = c.args.fields.now in
    let i = c.loop-written.written-index in
    let f = c.written-item.result in
    let at : slice_get (field_types fs) i ≡ Some f.ty = slice_get-map (λ (x : WrittenField). x.ty) fs i ∙ ap (option_map (λ (x : WrittenField). x.ty)) (slice_get-get_or fs i f c.loop-written-test.true ∙ ap Some (sym c.written-item.is)) in
    let none : first_in (written_fault lost env new) (take i (field_types fs)) ≡ None = ap (first_in (written_fault lost env new)) (take-map (λ (x : WrittenField). x.ty) i fs) ∙ types_extended lost env _ new (field_types (take i fs)) c.in_err-ty.ensures.extended c.loop-written.invariant.types.first in
    rw (p.1, p.2) (record {
      extended = extended_then _ _ _ c.loop-written.invariant.types.extended c.in_err-ty.ensures.extended;
      first = reports-in (written_fault lost env new) (field_types fs) i f.ty _ at none (reports_same (or_none (written_fault lost env new f.ty)) c.in_err-ty.ensures.first);
    })

pub returns-in_err-field-clause-resolves : goal.returns-in_err-field-clause-resolves
returns-in_err-field-clause-resolves c =
    let p = err_from_is_err_and c.from_residual-in_err-field.result c.from_residual-in_err-field.ensures.1 in
    rw p.1 (memory_stopped c.loop-written.invariant.types.extended c.in_ok-ty.ensures.extended p.2)

pub returns-in_err-push-clause-resolves : goal.returns-in_err-push-clause-resolves
returns-in_err-push-clause-resolves c =
    let p = err_from_is_err_and c.from_residual-in_err-push.result c.from_residual-in_err-push.ensures.1 in
    rw p.1 (memory_stopped c.loop-written.invariant.types.extended c.in_ok-ty.ensures.extended p.2)
