use Rattle.std.proofs.Common.{◌≡◌, map, None, Some, inl, inr, refl, sym, ap, ◌∙◌, ◌++◌}
use Rattle.wit_items.proofs.Common.{Id, codes, err_from_is_err_and, interface_there, leads, none_both, renamed, reports_back, reports_prefix, stability_fault, top_at, world_at, world_found, worlds_found}
use Rattle.wit_links.proofs.Leading.{include_from}
use Rattle.wit_links.proofs.includes.resolve_include.Goals as goal

pub returns-in-None-clause-first : goal.returns-in-None-clause-first
returns-in-None-clause-first c =
    let files = c.args.resolved.now.interfaces.files in
    let by_name = c.args.resolved.now.world_names in
    let n = c.args.include.now in
    let none : world_at files by_name (leads (top_at files c.args.place) n.from) ≡ None = sym c.included_world.ensures ∙ c.in-None.is in
    let stable : stability_fault n.attributes.items ≡ None = rw c.deref.ensures.value at c.in_ok-check_stability.ensures in
    elim (c.refuse_in.ensures (codes "name `" ++ (c.path_id-path.result.name.now ++ codes "` is defined as an interface, not a world")) c.not_a_world.ensures) [
      | inl memory ↦ inl memory
      | inr says ↦ reports_back stable (inr (rw none (ap Some (sym (says ∙ ap (λ (id : Id). interface_there id) c.path_id-path.ensures)))))
    ]

pub returns-clause-is : goal.returns-clause-is
returns-clause-is c ws gives =
    let n = c.args.include.now in
    let files = c.args.resolved.now.interfaces.files in
    let by_name = c.args.resolved.now.world_names in
    let top = top_at files c.args.place in
    let arena = c.args.resolved.now.worlds in
    let found = sym c.included_world.ensures ∙ c.in-Some.is in
    let there = world_found files by_name arena (leads top n.from) c.in-Some.id (worlds_found files arena by_name c.args.resolved.now.found) c.args.resolved.now.prefix found in
    include_from ws top n _ (rw c.deref-3.ensures.value at c.in_ok-stability.ensures) (gives.at c.in-Some.id _ there) (c.in_ok-names.ensures ∙ ap (map renamed) c.deref-2.ensures.value) (ap (λ (id : Id). id.span) c.path_id-path.ensures)

pub returns-in_err-check_stability-clause-first : goal.returns-in_err-check_stability-clause-first
returns-in_err-check_stability-clause-first c =
    let p = err_from_is_err_and c.from_residual.result c.from_residual.ensures.1 in
    rw (p.1, p.2) (reports_prefix _ (rw c.deref.ensures.value at c.in_err-check_stability.ensures))

pub returns-clause-first : goal.returns-clause-first
returns-clause-first c =
    let found = sym c.included_world.ensures ∙ c.in-Some.is in
    let stable : stability_fault c.args.include.now.attributes.items ≡ None = rw c.deref.ensures.value at c.in_ok-check_stability.ensures in
    none_both stable (rw found refl)
