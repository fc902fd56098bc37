use Rattle.std.proofs.Common.{rules, ◌≡◌, [], ap, sym, ◌∙◌}
use Rattle.std.specs.Vec.Iter.{into_iter_items}
use Rattle.std.proofs.lemmas.List.{nil_from_length}
use Rattle.indexmap.specs.IndexMap.{insert_all}
use Rattle.wit_maps.proofs.IndexMaps.{insert_all_apart}
use Rattle.wit_maps.proofs.index_maps.index_map_of.Goals as goal

pub loop-key-preserved : goal.loop-key-preserved
loop-key-preserved g c =
    let eq = g.K.PartialEq.eq in
    ap (λ l. insert_all eq l (into_iter_items c.next.new.self)) c.in_ok-insert.ensures.entries
    ∙ ap (insert_all eq c.loop-key.map.entries) (sym c.in-Some.ensures.steps.0)
    ∙ c.loop-key.invariant

pub returns : goal.returns
returns g c =
    let eq = g.K.PartialEq.eq in
    let left = into_iter_items c.loop-key.key-iterator in
    let over = c.in-None.ensures.steps in
    let none : left ≡ [] = nil_from_length left (search rules) in
    ap (insert_all eq c.loop-key.map.entries) (sym none) ∙ c.loop-key.invariant ∙ insert_all_apart eq g.met.K.Eq.laws c.args.entries.items c.requires
