use Rattle.std.proofs.Common.{◌≡◌, List, Some, length, ap, ◌∙◌}
use Rattle.wit_contents.proofs.Names.{SideItem, SideLink, declared_view, err_from_is_err_and, filed_item, finds_back, on_ok_weaker, path_link, path_scope, prefix_of, side_items, reports_back, reports_prefix, slice_get, stage, walk_of, item_view}
use Rattle.wit_externs.proofs.Steps.{at_middle}
use Rattle.wit_item_entries.proofs.ReachedFaults.{done, failed}
use Rattle.wit_links.proofs.Leading.{called_at}
use Rattle.wit_links.proofs.Counted.{seen_link}
use Rattle.wit_contents.proofs.MemberFaults.{link_found, link_leads, link_put, link_reached}
use Rattle.wit_contents.proofs.Members.{member_link}
use Rattle.wit_contents.proofs.walk.walk_link.Goals as goal
use Rattle.wit_walk.proofs.MemberFaults.{path_among}

pub linked_id-requires : goal.linked_id-requires
linked_id-requires c =
    let w = walk_of c.args.item.now c.args.walk.now in
    let n = c.requires in
    let link = path_link c.args.link in
    let at : slice_get (side_items (item_view w.item)) (length n.prefix) ≡ Some (SideLink link) = ap (λ (l : List SideItem). slice_get l (length n.prefix)) n.sides ∙ at_middle n.prefix (SideLink link) n.rest in
    record { path = record { declared = declared_view w.item.declared; item = filed_item w.interfaces.files w.item n.walk.world.item; among = path_among (item_view w.item) (length n.prefix) link at } }

pub returns-clause-adds : goal.returns-clause-adds
returns-clause-adds c = on_ok_weaker c.put_link.result (λ puts g n. (
    let w = walk_of c.args.item.now c.args.walk.now in
    let is = w.interfaces in
    let link = path_link c.args.link in
    let id = c.in_ok-id.id in
    let leads = link_leads n id c.in_ok-id.ensures.leads in
    let present = called_at (prefix_of is.files) is.arena is.by_name (path_scope (item_view w.item).top link.path) id is.prefix is.found leads.1 in
    member_link w n.prefix (stage g c.args.walked.now) link id _ leads.1 present (puts n.keyed) (λ ys seen. seen_link ys link _ seen))) c.put_link.ensures.puts

pub returns-in_err-check_metadata-clause-first : goal.returns-in_err-check_metadata-clause-first
returns-in_err-check_metadata-clause-first c =
    let p = err_from_is_err_and c.from_residual.result c.from_residual.ensures.1 in
    let said = rw c.deref.ensures.value at c.in_err-check_metadata.ensures in
    rw (p.1, p.2) (λ g n. link_found n (failed _) g (reports_prefix _ said))

pub returns-in_err-id-clause-first : goal.returns-in_err-id-clause-first
returns-in_err-id-clause-first c =
    let p = err_from_is_err_and c.from_residual-in_err-id.result c.from_residual-in_err-id.ensures.1 in
    let noted = rw c.deref.ensures.value at c.in_ok-check_metadata.ensures in
    rw (p.1, p.2) (λ g n. link_found n (failed _) g (reports_back noted (reports_prefix _ (link_reached n (failed _) c.in_err-id.ensures.first))))

pub returns-clause-first : goal.returns-clause-first
returns-clause-first c = λ g n.
    let noted = rw c.deref.ensures.value at c.in_ok-check_metadata.ensures in
    let id = c.in_ok-id.id in
    let r = c.put_link.result in
    link_found n r g (finds_back _ r noted (finds_back _ r (link_reached n (done id) c.in_ok-id.ensures.first) (link_put n r id c.in_ok-id.ensures.leads c.put_link.ensures.first)))
