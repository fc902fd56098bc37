use Rattle.std.proofs.Common.{◌≡◌, ◌≤◌, ◌∙◌, ap, sym, subst, length, take, string_bytes}
use Rattle.wit_syntax.proofs.Common.{IsCharBoundary-from_take, IsUtf8, IsUtf8-string_bytes}
use Rattle.wit_notes.proofs.Texts.{last_lines-trimmed}
use Rattle.wit_notes.proofs.comments.drop_last_lines.Goals as goal

pub truncate-requires : goal.truncate-requires
truncate-requires c =
    let bs = string_bytes c.args.text.now in
    let prefix = c.trim_end_matches-end.result.now in
    let at : prefix ≡ take (length prefix) bs = c.trim_end_matches-end.ensures.value ∙ ap (take (length prefix)) c.as_str.ensures.value in
    let within : length prefix ≤ length bs = rw (← c.as_str.ensures.value) c.trim_end_matches-end.ensures.bound in
    let border = IsCharBoundary-from_take bs (length prefix) (IsUtf8-string_bytes c.args.text.now) within (subst IsUtf8 at c.trim_end_matches-end.utf8) in
    λ h. (border.0, λ p lt high. border.1 lt high)

pub returns : goal.returns
returns c =
    let bs = string_bytes c.args.text.now in
    let prefix = c.trim_end_matches-end.result.now in
    let at : prefix ≡ take (length prefix) bs = c.trim_end_matches-end.ensures.value ∙ ap (take (length prefix)) c.as_str.ensures.value in
    c.truncate.ensures.bytes ∙ sym at ∙ last_lines-trimmed bs prefix (rw c.as_str.ensures.value at c.trim_end_matches-end.ensures.matches)
