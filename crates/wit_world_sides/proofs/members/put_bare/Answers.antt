use Rattle.std.proofs.Common.{◌≡◌, ◌++◌, [], List, ℕ, Contains, map, sym, ap, ◌∙◌, subst}
use Rattle.wit_arena.proofs.Common.{Id, SideLink, WorldSide, append-nil, err_from_is_err_and, function_of, item_side, path_id, refused_weaker, same_side, Fault, Span, linked_twice}
use Rattle.wit_model.specs.declared.world.WorldKey.TheVariants as key
use Rattle.wit_refusals.specs.NameScopes.{Name}
use Rattle.wit_sides.specs.SideNames.{defined_on, only_on}
use Rattle.wit_externs.specs.Clash.{item_names, linked_on}
use Rattle.wit_externs.proofs.Linked.{places_differ}
use Rattle.wit_externs.proofs.Steps.{kept_nothing}
use Rattle.wit_world_sides.specs.Members.{path_link}
use Rattle.wit_world_sides.proofs.Putting.{names_itself, put_itself, puts, sorted_itself, other_called}
use Rattle.wit_world_sides.proofs.PutFaults.{linked_free, linked_report}
use Rattle.wit_world_sides.proofs.members.put_bare.Goals as goal

pub returns-clause-puts : goal.returns-clause-puts
returns-clause-puts c = λ keyed.
    let m = c.args.members.now in
    let link = path_link c.args.link in
    let x = SideLink link in
    let id = c.args.id in
    let item = c.args.item in
    let named : item_names x ≡ [] = names_itself link c.requires.bare in
    let new = c.define.new.self in
    let more = λ (s : WorldSide). subst (λ (n : ℕ). linked_on s new ≡ linked_on s m.links ++ only_on s link.side n) c.index.ensures (c.in_ok-define.ensures.defined s) in
    let apart = λ (s : WorldSide). places_differ link.side (λ t. linked_on t m.links) (λ t. linked_on t new) c.index.result c.in_ok-define.ensures.defined c.in_ok-define.ensures.free s (keyed.apart s) in
    let same = λ (s : WorldSide). sym (append-nil (defined_on s m.in_use)) ∙ ap (λ (l : List Name). defined_on s m.in_use ++ l) (kept_nothing item_names (λ y. same_side s (item_side y)) x named) in
    put_itself m _ link id item c.requires.bare c.requires.interface (puts m _ x (key.Interface id, item) keyed same keyed.differ more apart (sym (ap (map (λ (n : Name). n.0)) named)) (other_called (key.Interface id, item) (ap function_of c.requires.interface)) (sym (sorted_itself link c.requires.bare)) c.in_ok-add_item.ensures)

pub returns-in_err-define-clause-first : goal.returns-in_err-define-clause-first
returns-in_err-define-clause-first c =
    let p = err_from_is_err_and c.from_residual.result c.from_residual.ensures.1 in
    let m = c.args.members.now in
    let link = path_link c.args.link in
    let ids = linked_on link.side m.links in
    let is = λ (n : ℕ) (span : Span) (f : Fault). Contains ids n × (f ≡ linked_twice link.side span) in
    rw (p.1, p.2) (linked_report m link c.args.id _ c.requires.bare (refused_weaker (is c.index.result c.path_id-path.result.span) (is c.args.id (path_id link.path).span) _ (λ f h. subst (λ (n : Id). is c.args.id n.span f) c.path_id-path.ensures (subst (λ (n : ℕ). is n c.path_id-path.result.span f) c.index.ensures h)) c.in_err-define.ensures.refused))

pub returns-clause-first : goal.returns-clause-first
returns-clause-first c =
    let m = c.args.members.now in
    let link = path_link c.args.link in
    linked_free m link c.args.id c.requires.bare (subst (λ (n : ℕ). Contains (linked_on link.side m.links) n → ⊥) c.index.ensures c.in_ok-define.ensures.free)
