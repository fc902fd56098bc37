use Rattle.std.proofs.Common.{◌≡◌, ℕ, List, ◌∙◌, ◌==◌, ap, sym, false, length, Option, Some}
use Rattle.wit_syntax.proofs.Common.{Docs, docs_text, joined, map}
use denote.Ref.{Bor}
use Rattle.wit_notes.proofs.Texts.{docs-joined}
use Rattle.wit_notes.proofs.comments.docs.Goals as goal
use Rattle.wit_notes.specs.Texts.{said}

pub returns : goal.returns
returns c =
    let comments = c.args.docs.now.docs.items in
    let some : (length comments == 0) ≡ false = ap (λ (cs : List (Bor (List ℕ))). length cs == 0) (sym c.as_slice-comments.ensures.value) ∙ sym c.is_empty.ensures ∙ c.if-is_empty.false in
    let text : Some c.from.result ≡ docs_text (map (λ (m : Bor (List ℕ)). m.now) comments) = ap Some (c.from.ensures ∙ c.in_ok-text.ensures ∙ ap (λ (cs : List (Bor (List ℕ))). joined (map (λ m. said m.now) cs)) c.as_slice-comments.ensures.value) ∙ docs-joined comments some in
    let as_stated : Option (List ℕ) → Docs = λ t. record { contents = t } in
    ap as_stated text
