use Rattle.std.proofs.Common.{◌≡◌, ◌∷◌, [], ◌++◌, List, length, ◌+◌, ◌<◌, Some, map, take, ap, sym, ◌∙◌, arith}
use Rattle.wit_arena.proofs.Common.{Id, Imported, err_from_is_err_and, length-map, map-append, read_map, slice_get, take-map, take_all, take_more, take_next}
use Rattle.wit_walk.proofs.Common.{after-more, reports-after, reports_same}
use Rattle.wit_sides.specs.SideNames.{defined_on}
use Rattle.wit_refusals.specs.NameScopes.{Name}
use Rattle.wit_signatures.specs.FunctionsOfScope.{name_of_id}
use Rattle.wit_externs.specs.Clash.{again_fault, defined_fault}
use Rattle.wit_externs.proofs.AloneFaults.{again_free, again_report}
use Rattle.wit_externs.proofs.Clashing.{sides_differ, types_more}
use Rattle.wit_externs.proofs.in_use.define_names.Goals as goal

pub returns-in_err-define-clause-first : goal.returns-in_err-define-clause-first
returns-in_err-define-clause-first c =
    let p = err_from_is_err_and c.from_residual.result c.from_residual.ensures.1 in
    let old = c.args.in_use.now.imports in
    let now = c.loop-name.in_use.imports in
    let names = c.args.names.now in
    let i = c.loop-name.name-index in
    let item = c.name-item.result in
    let at : slice_get (map name_of_id names) i ≡ Some (name_of_id item) = read_map name_of_id names i item c.loop-name-test.true c.name-item.is in
    let own = ap (λ (l : List Name). again_fault l (name_of_id item)) (c.loop-name.invariant.defined Imported ∙ ap (λ (l : List Name). old ++ l) (sym (take-map name_of_id i names))) in
    rw (p.1, p.2) (reports-after (λ (earlier : List Name). again_fault (old ++ earlier)) (map name_of_id names) i (name_of_id item) _ at c.loop-name.invariant.first (reports_same own (again_report now item.name.now item.span _ c.in_err-define.ensures.refused)))

pub loop-name-preserved : goal.loop-name-preserved
loop-name-preserved c =
    let i = c.loop-name.name-index in
    let names = c.args.names.now in
    let item = c.name-item.result in
    let within : i < length names = omega arith in
    let more : map name_of_id (take (i + 1) names) ≡ map name_of_id (take i names) ++ name_of_id item ∷ [] = ap (map name_of_id) (take_more names i item within ∙ ap (λ (x : Id). take i names ++ x ∷ []) (sym c.name-item.is)) ∙ map-append name_of_id (take i names) (item ∷ []) in
    let old = c.args.in_use.now in
    let mid = c.loop-name.in_use in
    let new = c.define.new.self in
    let at : slice_get (map name_of_id names) i ≡ Some (name_of_id item) = read_map name_of_id names i item c.loop-name-test.true c.name-item.is in
    let own = ap (λ (l : List Name). again_fault l (name_of_id item)) (c.loop-name.invariant.defined Imported ∙ ap (λ (l : List Name). old.imports ++ l) (sym (take-map name_of_id i names))) in
    record {
      defined = λ s. types_more s (defined_on s old) (defined_on s mid) (defined_on s new) (map name_of_id (take i names)) (map name_of_id (take (i + 1) names)) (name_of_id item) more (c.loop-name.invariant.defined s) (c.in_ok-define.ensures.defined s);
      first = ap (defined_fault old.imports) (take_next (map name_of_id names) i (name_of_id item) at) ∙ after-more (λ (earlier : List Name). again_fault (old.imports ++ earlier)) (take i (map name_of_id names)) (name_of_id item) c.loop-name.invariant.first ∙ sym own ∙ again_free mid.imports item.name.now item.span c.in_ok-define.ensures.free;
      differ = λ s d. sides_differ Imported (λ t. defined_on t mid) (λ t. defined_on t new) item.name.now item.span c.in_ok-define.ensures.defined c.in_ok-define.ensures.free s (c.loop-name.invariant.differ s d);
    }

pub returns-clause-first : goal.returns-clause-first
returns-clause-first c =
    let names = map name_of_id c.args.names.now in
    ap (defined_fault c.args.in_use.now.imports) (sym (take_all c.loop-name.name-index names (omega (arith, length-map c.args.names.now name_of_id)))) ∙ c.loop-name.invariant.first
