use Rattle.std.proofs.Common.{rules, ◌≡◌, ◌++◌, ◌∙◌, ◌==◌, OnOk, ap, sym, subst, refl, true, false, not, map, length, string_bytes, is_some, List, [], ℕ, ◌∷◌}
use Rattle.wit_syntax.proofs.Common.{flat_map, lines}
use Rattle.std.proofs.lemmas.Iterator.Splits.{YieldsList-from_lines}
use Rattle.std.proofs.lemmas.Iterator.Consumers.{YieldsList-end}
use Rattle.memchr.specs.Find.{IsFirstByte, is_byte}
use Rattle.wit_notes.proofs.Texts.{lines-one, lines-many}
use Rattle.wit_notes.proofs.comments.push_lines.Goals as goal

pub returns-then-is_none : goal.returns-then-is_none
returns-then-is_none c =
    let found : IsFirstByte (is_byte 10) c.args.added.now c.memchr.result = rw c.as_bytes.ensures.value at c.memchr.ensures in
    let none : is_some c.memchr.result ≡ false = c.is_none.ensures ∙ ap not c.if-is_none.true in
    subst (λ line. OnOk c.push_line.result (string_bytes c.push_line.new.text ≡ string_bytes c.args.text.now ++ line)) (sym (lines-one c.args.added.now c.memchr.result found none)) c.push_line.ensures

pub returns : goal.returns
returns c =
    let text = c.args.added.now in
    let found : IsFirstByte (is_byte 10) text c.memchr.result = rw c.as_bytes.ensures.value at c.memchr.ensures in
    let some : is_some c.memchr.result ≡ true = c.is_none.ensures ∙ ap not c.if-is_none.false in
    let all : map (λ t. t.now) c.loop-line.yielded ≡ lines text = (YieldsList-end (YieldsList-from_lines {s = c.into_iter-line-iterator.result} text (search rules)) c.loop-line.yielded c.loop-line.line-iterator c.loop-line.yielded_by c.next.result c.next.new.self c.in-None.is c.next.ensures.steps).0 in
    let long : (length text == 0) ≡ false = lines-many text c.memchr.result found some in
    c.loop-line.invariant ∙ ap (λ ls. string_bytes c.args.text.now ++ flat_map (λ (line : List ℕ). line ++ 10 ∷ []) ls) all ∙ rw long refl
