use Rattle.std.proofs.Common.{◌≡◌, ℕ, [], ◌∷◌, ◌++◌, Some, None, nat_eq, refl, sym, ap, ◌∙◌, subst}
use Rattle.wit_items.proofs.Common.{Interface, Metadata, insert_entry, lookup, named, pointwise, slice_get, slice_set}
use Rattle.std.specs.Prelude.{is_some}
use Rattle.wit_types.specs.declared.types.TypeDefKind.TheVariants.{Unknown}
use Rattle.wit_types.specs.declared.types.TypeOwner.TheVariants as owner
use Rattle.wit_front.specs.ForeignPrefix.{with_types, addresses_among}
use Rattle.wit_front.proofs.ForeignName.{in_use-known, in_use-fresh, is_some-copied, none_copied}
use Rattle.wit_front.proofs.foreign.ForeignArenas.add_used_type.Goals as goal

pub returns-then-is_some : goal.returns-then-is_some
returns-then-is_some c = λ s vs ts apart at_place before. (
    let place = subst (λ k. slice_get (addresses_among vs) k ≡ Some s) (sym c.id_at-id.ensures) at_place in
    let has = ap is_some (sym c.get-2.ensures) ∙ is_some-copied c.get-2.result ∙ sym c.is_some.ensures ∙ c.if-is_some.true in
    in_use-known vs ts s c.args.attributes.now c.args.name.now c.id_at-id.result c.get.result.now c.args.types.now c.args.self.now place c.get.ensures before has)

pub returns : goal.returns
returns c = λ s vs ts apart at_place before. (
    let place = subst (λ k. slice_get (addresses_among vs) k ≡ Some s) (sym c.id_at-id.ensures) at_place in
    let both : Some c.get.result.now ≡ Some c.get_mut.result.now = sym c.get.ensures ∙ c.get_mut.ensures.value in
    let same : c.get.result.now ≡ c.get_mut.result.now = cc in
    let i = c.get_mut.result.now in
    let q = c.args.name.now.name.name.now in
    let es = c.args.types.now in
    let none : lookup (pointwise nat_eq q) i.types ≡ None = ap (λ (x : Interface). lookup (pointwise nat_eq q) x.types) (sym same) ∙ sym c.get-2.ensures ∙ none_copied c.get-2.result (sym c.is_some.ensures ∙ c.if-is_some.false) in
    let types = c.in_ok-ty.ensures.added ∙ ap (λ (m : Metadata). es ++ named (owner.Interface c.id_at-id.result) q Unknown m c.args.name.now.name.span ∷ []) c.in_ok-metadata.ensures in
    let interfaces = ap (slice_set c.args.self.now.interfaces c.id_at-id.result) (c.in_ok-add_type.ensures ∙ ap (λ (k : ℕ). with_types i (insert_entry (pointwise nat_eq) i.types q k)) c.in_ok-ty.ensures.id) in
    in_use-fresh vs ts s c.args.attributes.now c.args.name.now c.id_at-id.result i es c.args.self.now place c.get_mut.ensures.value before apart none c.add_named.new.self _ types interfaces refl refl c.in_ok-push.ensures.items)
