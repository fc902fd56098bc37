use Rattle.std.proofs.Common.{ℕ, ◌+◌, refl, ap, ◌∙◌}
use Rattle.wit_items.proofs.Common.{Exported, Imported, WorldSide}
use Rattle.wit_links.specs.Links.{seen_on}
use Rattle.wit_links.proofs.Counted.{exported_more, imported_more, seen_inline}
use Rattle.wit_links.proofs.inside.Seen.with_inline.Goals as goal

pub returns-in-Imported : goal.returns-in-Imported
returns-in-Imported c = λ xs x name items on seen.
    let m = c.args.self in
    let more = c.in_ok-written.ensures ∙ ap (λ (n : ℕ). n + 1) (c.on.ensures ∙ ap (λ (s : WorldSide). seen_on s m) c.in-Imported.is) in
    seen_inline Imported xs x name items m _ (on ∙ c.in-Imported.is) (imported_more m _ more) refl seen

pub returns-in-Exported : goal.returns-in-Exported
returns-in-Exported c = λ xs x name items on seen.
    let m = c.args.self in
    let more = c.in_ok-written.ensures ∙ ap (λ (n : ℕ). n + 1) (c.on.ensures ∙ ap (λ (s : WorldSide). seen_on s m) c.in-Exported.is) in
    seen_inline Exported xs x name items m _ (on ∙ c.in-Exported.is) (exported_more m _ more) refl seen
