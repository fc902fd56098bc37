use Rattle.std.proofs.Common.{rules, ◌<◌, ◌∙◌, ℕ, List, [], ap, sym, subst, length, get_or, string_bytes}
use denote.Ref.{Bor}
use Rattle.std.proofs.lemmas.List.Elements.{All-get_or}
use Rattle.wit_syntax.proofs.Common.{All-nil, without_spaces}
use Rattle.wit_notes.specs.PlainComments.{IsIndented}
use Rattle.wit_notes.proofs.PlainComments.{indented-next, lines-next}
use Rattle.wit_notes.proofs.comments.plain_lines.Goals as goal
use Rattle.wit_notes.specs.Texts.{said}

pub loop-comment-preserved : goal.loop-comment-preserved
loop-comment-preserved c =
    let comments = c.args.comments.now in
    let at = c.loop-comment.comment-index in
    let d : Bor (List ℕ) = record { ref_ptr = (0, 0); now = [] } in
    let lt : at < length comments = c.loop-comment-test.true in
    let text = c.in-Some.ensures.text ∙ ap (without_spaces c.args.count) c.said.ensures in
    let indented : IsIndented c.args.count (said (get_or comments at d).now) = subst (IsIndented c.args.count) c.said.ensures c.in-Some.ensures.some in
    record {
      lines = lines-next c.args.count comments at d (string_bytes c.loop-comment.text) (string_bytes c.push_plain.new.text) c.in-Some.added.now lt c.in_ok-push_plain-in-Some.ensures text c.loop-comment.invariant.lines;
      indented = indented-next c.args.count comments at d lt c.loop-comment.invariant.indented indented;
    }

pub returns-in-None-clause-none : goal.returns-in-None-clause-none
returns-in-None-clause-none c = λ all. (
    let comments = c.args.comments.now in
    let d : Bor (List ℕ) = record { ref_ptr = (0, 0); now = [] } in
    let here : IsIndented c.args.count (said (get_or comments c.loop-comment.comment-index d).now) = All-get_or (λ (m : Bor (List ℕ)). IsIndented c.args.count (said m.now)) comments c.loop-comment.comment-index d c.loop-comment-test.true all in
    c.in-None.ensures.none (subst (IsIndented c.args.count) (sym c.said.ensures) here))

pub loop-comment-init : goal.loop-comment-init
loop-comment-init c = record {
  lines = search rules;
  indented = All-nil (λ (m : Bor (List ℕ)). IsIndented c.args.count (said m.now));
}
