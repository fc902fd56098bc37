use Rattle.std.proofs.Common.{◌≡◌, ◌∙◌, ℕ, List, ap, not, false, is_some, map, string_bytes}
use denote.Ref.{Bor}
use Rattle.memchr.specs.Find.{IsFirstByte, is_byte}
use Rattle.wit_notes.specs.PlainComments.{all_lines}
use Rattle.wit_notes.proofs.PlainComments.{first-common, no_return-found}
use Rattle.wit_notes.proofs.comments.common_lines.Goals as goal
use Rattle.wit_notes.specs.Texts.{said}

pub returns-then-is_none : goal.returns-then-is_none
returns-then-is_none c =
    let text = string_bytes c.in-Some.text in
    let found : IsFirstByte (is_byte 13) text c.memchr.result = rw (c.as_bytes.ensures.value ∙ c.as_str.ensures.value) at c.memchr.ensures in
    let none : is_some c.memchr.result ≡ false = c.is_none.ensures ∙ ap not c.if-is_none.true in
    let lines = rw c.in-Some.is at c.in_ok-text.ensures.lines in
    let indented = rw c.in-Some.is at c.in_ok-text.ensures.some in
    lines (no_return-found text c.memchr.result found none)
    ∙ ap (λ n. all_lines n (map (λ (m : Bor (List ℕ)). said m.now) c.args.comments.now)) (first-common c.args.comments.now c.first_indent.result c.first_indent.ensures indented)
