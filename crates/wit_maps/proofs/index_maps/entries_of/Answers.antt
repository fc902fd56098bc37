use Rattle.std.proofs.Common.{◌≡◌, ◌++◌, ◌∷◌, [], ap, sym, subst, ◌∙◌}
use Rattle.std.specs.Map.{keys_of}
use Rattle.std.proofs.lemmas.List.{append-nil, append_assoc}
use Rattle.wit_maps.specs.Indexed.{AreApart}
use Rattle.wit_maps.proofs.IndexMaps.{apart_from_unique}
use Rattle.wit_maps.proofs.index_maps.entries_of.Goals as goal

pub loop-entry-preserved : goal.loop-entry-preserved
loop-entry-preserved g c =
    let entries = c.loop-entry.entries.items in
    let left = c.next.new.self in
    ap (λ l. l ++ left) c.in_ok-push.ensures.items
    ∙ append_assoc entries (c.in-Some.entry ∷ []) left
    ∙ ap (λ l. entries ++ l) (sym c.in-Some.ensures.steps)
    ∙ c.loop-entry.invariant

pub returns-clause-entries : goal.returns-clause-entries
returns-clause-entries g c =
    let entries = c.loop-entry.entries.items in
    sym (append-nil entries) ∙ ap (λ l. entries ++ l) (sym c.in-None.ensures.steps.0) ∙ c.loop-entry.invariant

pub returns-clause-apart : goal.returns-clause-apart
returns-clause-apart g c =
    let entries = c.loop-entry.entries.items in
    let all : entries ≡ c.args.map.entries = sym (append-nil entries) ∙ ap (λ l. entries ++ l) (sym c.in-None.ensures.steps.0) ∙ c.loop-entry.invariant in
    subst (λ l. AreApart g.K.PartialEq.eq (keys_of l)) (sym all) (apart_from_unique g.K.PartialEq.eq (keys_of c.args.map.entries) c.len.ensures.unique)
