-- What the first line that starts a source parts.
use Rattle.std.proofs.Common.{◌≡◌, ◌≢◌, ℕ, ◌+◌, ◌<◌, ◌≤◌, Bool, true, false, List, [], ◌∷◌, ◌++◌, length, suc, take, drop, refl, sym, ap, ap₂, ◌∙◌, append_assoc, append-nil, eqb-true, arith, length-append, take-append-drop}
use Rattle.std.specs.Prelude.{◌==◌, if◌then◌else◌, codes}
use Rattle.std.specs.Str.Pattern.{LacksTextAt, HasTextAt}
use Rattle.std.proofs.lemmas.Bool.Decides.{Decides-eqb}
use Rattle.std.proofs.lemmas.Slice.Eq.{starts_is}
use Rattle.wit_bundle.specs.Bundle.{put_first, lines_of, without_end, mark, is_marked, parts_of}
use Rattle.wit_bundle.specs.SplitText.{parts}
use Rattle.wit_bundle.proofs.Lines.{HasNoFeed, no_feed_more, joined, joined_lines, lines_append, line_then, line_last, without_end-there, without_feed}

-- the end of a line, and what the next one begins with, which starts a source
abbrev pub next : List ℕ
next = codes "\n=== "

-- no text starts a source in its first line, or in another one
abbrev pub StartsNone : List ℕ → Type 0
StartsNone text = (ys : List ℕ) → text ≢ mark ++ ys

abbrev pub HasNoNext : List ℕ → Type 0
HasNoNext text = (xs ys : List ℕ) → text ≢ xs ++ (next ++ ys)

abbrev AllPlain : List (List ℕ) → Type 0
AllPlain [] = Unit {0}
AllPlain (line ∷ lines) = (is_marked line ≡ false) × AllPlain lines

abbrev others : List (List ℕ) → List (List ℕ)
others [] = []
others (line ∷ lines) = lines

others_first : (b : ℕ) (lines : List (List ℕ)) → others (put_first b lines) ≡ others lines
others_first b [] = refl
others_first b (line ∷ lines) = refl

not_true : (d : Bool) → (d ≡ true → ⊥) → d ≡ false
not_true true never = absurd (never refl)
not_true false never = refl

marked_is : (line : List ℕ) → is_marked line ≡ true → line ≡ mark ++ drop (length mark) line
marked_is line is = (starts_is Decides-eqb line mark (is_marked line) refl).0 is

first_plain : (text line : List ℕ) (lines : List (List ℕ)) → lines_of text ≡ line ∷ lines → StartsNone text → is_marked line ≡ false
first_plain text line lines e none =
    not_true (is_marked line) (λ is. none (drop (length mark) line ++ joined lines) (sym (joined_lines text) ∙ (ap joined e ∙ ap (λ t. t ++ joined lines) (marked_is line is))))

plain_from : (text : List ℕ) (lines : List (List ℕ)) → lines_of text ≡ lines → StartsNone text → AllPlain (others lines) → AllPlain lines
plain_from text [] e none h = tt
plain_from text (line ∷ lines) e none h = (first_plain text line lines e none, h)

others_plain : (text : List ℕ) → HasNoNext text → AllPlain (others (lines_of text))
others_plain [] h = tt
others_plain (b ∷ text) h =
    let rest_after : HasNoNext text = λ xs ys e. h (b ∷ xs) ys (ap (λ t. b ∷ t) e) in
    let rest = others_plain text rest_after in
    elim (b == 10) as (λ d. (b == 10) ≡ d → AllPlain (others (if d then ((b ∷ []) ∷ lines_of text) else (put_first b (lines_of text))))) [
      | true ↦ λ e. plain_from text (lines_of text) refl (λ ys f. h [] ys (ap₂ (λ x t. x ∷ t) (eqb-true b 10 e) f)) rest
      | false ↦ λ e. rw (others_first b (lines_of text)) rest
    ] refl

-- no line of such a text starts a source
all_plain : (text : List ℕ) → HasNoNext text → StartsNone text → AllPlain (lines_of text)
all_plain text h none = plain_from text (lines_of text) refl none (others_plain text h)

plain_parts : (lines more : List (List ℕ)) → AllPlain lines → parts_of (lines ++ more) ≡ (joined lines ++ (parts_of more).0, (parts_of more).1)
plain_parts [] more h = refl
plain_parts (line ∷ lines) more h =
    let all = parts_of (lines ++ more) in
    ap (λ d. if d then ([], (without_end 13 (without_end 10 (drop (length mark) line)), all.0) ∷ all.1) else (line ++ all.0, all.1)) h.0
    ∙ (ap (λ p. (line ++ p.0, p.1)) (plain_parts lines more h.1) ∙ ap (λ t. (t, (parts_of more).1)) (sym (append_assoc line (joined lines) (parts_of more).0)))

first_marked : (lines : List (List ℕ)) → (parts_of (put_first 61 (put_first 61 (put_first 61 (put_first 32 lines))))).0 ≡ []
first_marked [] = refl
first_marked (line ∷ lines) = refl

-- nothing comes before a line that starts a source
pub marked_prefix : (rest_after : List ℕ) → (parts (mark ++ rest_after)).0 ≡ []
marked_prefix rest_after = first_marked (lines_of rest_after)

-- a text in which no line starts a source
pub plain_whole : (text : List ℕ) → HasNoNext text → StartsNone text → parts text ≡ (text, [])
plain_whole text h none =
    ap parts_of (sym (append-nil (lines_of text))) ∙ (plain_parts (lines_of text) [] (all_plain text h none) ∙ ap (λ t. (t, [])) (append-nil (joined (lines_of text)) ∙ joined_lines text))

ended : (prefix rest_after : List ℕ) → prefix ++ (next ++ rest_after) ≡ (prefix ++ 10 ∷ []) ++ (mark ++ rest_after)
ended prefix rest_after = sym (append_assoc prefix (10 ∷ []) (mark ++ rest_after))

drop_prefix : (xs ys : List ℕ) → drop (length xs) (xs ++ ys) ≡ ys
drop_prefix [] ys = refl
drop_prefix (x ∷ xs) ys = drop_prefix xs ys

-- a text whose first line that starts a source is not its first one
pub plain_prefix : (text prefix rest_after : List ℕ) → text ≡ prefix ++ (next ++ rest_after) → ((i : ℕ) → i < length prefix → LacksTextAt next text i) → StartsNone text →
    parts text ≡ (prefix ++ 10 ∷ [], (parts (mark ++ rest_after)).1)
plain_prefix text prefix rest_after e lacks none =
    let line = prefix ++ 10 ∷ [] in
    let whole : text ≡ line ++ (mark ++ rest_after) = e ∙ ended prefix rest_after in
    let no_start : StartsNone line = λ ys f. none (ys ++ (mark ++ rest_after)) (whole ∙ ap (λ t. t ++ (mark ++ rest_after)) f) in
    let no_next : HasNoNext line = λ xs ys f.
    let is : text ≡ xs ++ (next ++ (ys ++ (mark ++ rest_after))) = whole ∙ (ap (λ t. t ++ (mark ++ rest_after)) f ∙ append_assoc xs (next ++ ys) (mark ++ rest_after)) in
    let lengths : length line ≡ length (xs ++ (next ++ ys)) = ap length f in
    let left : length line ≡ length prefix + 1 = length-append prefix (10 ∷ []) in
    let right : length (xs ++ (next ++ ys)) ≡ length xs + length (next ++ ys) = length-append xs (next ++ ys) in
    let long : length (next ++ ys) ≡ 5 + length ys = length-append next ys in
    let before : length xs < length prefix = omega arith in
    lacks (length xs) before (ys ++ (mark ++ rest_after)) (ap (drop (length xs)) is ∙ drop_prefix xs (next ++ (ys ++ (mark ++ rest_after)))) in
    ap parts whole
    ∙ (ap parts_of (lines_append prefix (mark ++ rest_after)) ∙ (plain_parts (lines_of line) (lines_of (mark ++ rest_after)) (all_plain line no_next no_start)
    ∙ ap (λ t. (t, (parts (mark ++ rest_after)).1)) (ap (λ t. joined (lines_of line) ++ t) (marked_prefix rest_after) ∙ (append-nil (joined (lines_of line)) ∙ joined_lines line))))

no_feed_marked : (line : List ℕ) → HasNoFeed line → HasNoFeed (mark ++ line)
no_feed_marked line h =
    let other : (b : ℕ) → 10 < b → b ≢ 10 = λ b lt e. absurd (omega arith) in
    no_feed_more 61 (61 ∷ 61 ∷ 32 ∷ line) (other 61 (omega arith)) (no_feed_more 61 (61 ∷ 32 ∷ line) (other 61 (omega arith)) (no_feed_more 61 (32 ∷ line) (other 61 (omega arith)) (no_feed_more 32 line (other 32 (omega arith)) h)))

-- the path after a mark ends with its line
pub named_then : (line rest_after path : List ℕ) → HasNoFeed line → path ≡ without_end 13 line → parts (mark ++ (line ++ 10 ∷ rest_after)) ≡ ([], (path, (parts rest_after).0) ∷ (parts rest_after).1)
named_then line rest_after path h e =
    ap parts_of (line_then (mark ++ line) rest_after (no_feed_marked line h))
    ∙ ap (λ p. ([], (p, (parts rest_after).0) ∷ (parts rest_after).1)) (ap (without_end 13) (without_end-there 10 line) ∙ sym e)

-- or with the text
pub named_last : (line path : List ℕ) → HasNoFeed line → path ≡ without_end 13 line → parts (mark ++ line) ≡ ([], (path, []) ∷ [])
named_last line path h e =
    ap parts_of (line_last 61 (61 ∷ 61 ∷ 32 ∷ line) (no_feed_marked line h)) ∙ ap (λ p. ([], (p, []) ∷ [])) (ap (without_end 13) (without_feed line h) ∙ sym e)

take_more : (prefix rest : List ℕ) (b : ℕ) → take (length prefix + 1) (prefix ++ b ∷ rest) ≡ prefix ++ b ∷ []
take_more [] rest b = refl
take_more (x ∷ prefix) rest b =
    let e : length (x ∷ prefix) + 1 ≡ suc (length prefix + 1) = omega arith in
    ap (λ n. take n (x ∷ (prefix ++ b ∷ rest))) e ∙ ap (λ t. x ∷ t) (take_more prefix rest b)

-- a text around the first place where it goes on with `next`
pub found_is : (text prefix rest_after : List ℕ) (i j : ℕ) → HasTextAt next text i j → prefix ≡ take i text → rest_after ≡ drop j text → text ≡ prefix ++ (next ++ rest_after)
found_is text prefix rest_after i j at e f = sym (take-append-drop i text) ∙ ap₂ (λ x y. x ++ y) (sym e) (at.split ∙ ap (λ t. next ++ t) (sym f))

pub found_prefix : (text prefix rest_after whole : List ℕ) → text ≡ prefix ++ (next ++ rest_after) → ((i : ℕ) → i < length prefix → LacksTextAt next text i) → StartsNone text →
    whole ≡ take (length prefix + 1) text → parts text ≡ (whole, (parts (mark ++ rest_after)).1)
found_prefix text prefix rest_after whole e lacks none is =
    plain_prefix text prefix rest_after e lacks none ∙ ap (λ t. (t, (parts (mark ++ rest_after)).1)) (sym (is ∙ (ap (take (length prefix + 1)) e ∙ take_more prefix (mark ++ rest_after) 10)))

pub found_none : (text : List ℕ) → ((i : ℕ) → i ≤ length text → LacksTextAt next text i) → StartsNone text → parts text ≡ (text, [])
found_none text lacks none =
    plain_whole text
    (λ xs ys e.
    let long : length text ≡ length xs + length (next ++ ys) = ap length e ∙ length-append xs (next ++ ys) in
    let before : length xs ≤ length text = omega arith in
    lacks (length xs) before ys (ap (drop (length xs)) e ∙ drop_prefix xs (next ++ ys)))
    none
