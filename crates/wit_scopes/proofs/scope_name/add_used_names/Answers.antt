use Rattle.std.proofs.Common.{◌+◌, ◌++◌, ◌∷◌, [], List, map, take, refl, ap, ◌∙◌}
use Rattle.wit_arena.proofs.Common.{UseName, Used, map-append, slice_get_read, take_all, take_next}
use Rattle.wit_scopes.specs.BorrowedNames.{source_view, name_view}
use Rattle.wit_scopes.proofs.Placed.{one_more, names_more}
use Rattle.wit_scopes.proofs.scope_name.add_used_names.Goals as goal

pub loop-name-preserved : goal.loop-name-preserved
loop-name-preserved c =
    let i = c.loop-name.name-index in
    let xs = c.args.used.now in
    let n = c.name-item.result in
    let from = c.args.from.now in
    let make = Used (source_view from) c.args.attributes.now in
    let was = c.loop-name.invariant in
    let new = c.in_ok-push.ensures.items in
    let at = slice_get_read xs _ i n refl c.loop-name-test.true c.name-item.is in
    let more = ap (map make) (take_next xs i n at) ∙ map-append make (take i xs) (n ∷ []) in
    record {
      names = one_more name_view (map name_view c.args.names.now.items) c.loop-name.names.items _ _ (map make (take i xs)) (map make (take (i + 1) xs)) (make n) new was.names refl more;
      placed = λ prefix one before. names_more prefix c.loop-name.names.items _ _ new (was.placed prefix one before) one;
    }

pub returns-clause-names : goal.returns-clause-names
returns-clause-names c = c.loop-name.invariant.names ∙ ap (λ (l : List UseName). map name_view c.args.names.now.items ++ map (Used (source_view c.args.from.now) c.args.attributes.now) l) (take_all c.loop-name.name-index c.args.used.now c.loop-name-test.false)

pub returns-clause-placed : goal.returns-clause-placed
returns-clause-placed c = c.loop-name.invariant.placed
