use Rattle.std.proofs.Common.{◌≡◌, Some, sym, ap, ◌∙◌, subst}
use Rattle.wit_items.proofs.Common.{Finds, IfOk-weaker, InterfaceNamed, Target, err_from_is_err_and, finds_back, prefix_of, reports_prefix, source_place, target_scope, top_at, unresolved_fault, wanted_usable}
use Rattle.wit_links.specs.Links.{IsLinkedTo, interface_place}
use Rattle.wit_links.proofs.Leading.{source_placed}
use Rattle.wit_links.proofs.links.linked_id.Goals as goal

pub returns-in_err-source-clause-first : goal.returns-in_err-source-clause-first
returns-in_err-source-clause-first c =
    let p = err_from_is_err_and c.from_residual.result c.from_residual.ensures.1 in
    rw (p.1, p.2) (reports_prefix _ c.in_err-source.ensures.first)

pub returns-clause-leads : goal.returns-clause-leads
returns-clause-leads c =
    let is = c.args.interfaces.now in
    let path = c.args.path.now in
    let top = top_at is.files c.args.place in
    let usable = wanted_usable is.files c.args.place path c.requires.path c.in_ok-source.ensures.first in
    IfOk-weaker c.source_id.result (λ id. source_place is.by_name c.in_ok-source.source ≡ Some id) (IsLinkedTo is.files is.by_name top path) (λ id at. (usable, ap (λ (t : Target). interface_place (prefix_of is.files) is.by_name (target_scope InterfaceNamed t)) (sym c.in_ok-source.ensures.source) ∙ source_placed is.files is.by_name c.in_ok-source.source c.in_ok-source.ensures.placed ∙ at)) c.source_id.ensures.id

pub returns-clause-first : goal.returns-clause-first
returns-clause-first c = finds_back _ c.source_id.result c.in_ok-source.ensures.first (subst (λ (t : Target). Finds (unresolved_fault c.args.interfaces.now.by_name t) c.source_id.result) c.in_ok-source.ensures.source c.source_id.ensures.first)
