-- Lines of a text, and the ends of lines.
use Rattle.std.proofs.Common.{◌≡◌, ◌≢◌, ℕ, ◌+◌, ◌<◌, zero, suc, true, false, List, [], ◌∷◌, ◌++◌, length, get_or, refl, ap, ◌∙◌, eq-eqb, ne_eqb, arith}
use Rattle.std.specs.Prelude.{◌==◌, if◌then◌else◌}
use Rattle.wit_bundle.specs.Bundle.{put_first, lines_of, without_end}

-- no byte of a text is an LF
abbrev pub HasNoFeed : List ℕ → Type 0
HasNoFeed xs = (i : ℕ) → i < length xs → get_or xs i 0 ≢ 10

pub no_feed_after : (b : ℕ) (xs : List ℕ) → HasNoFeed (b ∷ xs) → HasNoFeed xs
no_feed_after b xs h = λ i lt. h (suc i) (omega arith)

pub no_feed_more : (b : ℕ) (xs : List ℕ) → b ≢ 10 → HasNoFeed xs → HasNoFeed (b ∷ xs)
no_feed_more b xs other h zero lt = other
no_feed_more b xs other h (suc i) lt = h i (omega arith)

not_feed : (b : ℕ) (xs : List ℕ) → HasNoFeed (b ∷ xs) → (b == 10) ≡ false
not_feed b xs h = ne_eqb b 10 (h 0 (omega arith))

-- some lines one after the other
abbrev pub joined : List (List ℕ) → List ℕ
joined [] = []
joined (line ∷ lines) = line ++ joined lines

joined_first : (b : ℕ) (lines : List (List ℕ)) → joined (put_first b lines) ≡ b ∷ joined lines
joined_first b [] = refl
joined_first b (line ∷ lines) = refl

-- the lines of a text are the text
pub joined_lines : (text : List ℕ) → joined (lines_of text) ≡ text
joined_lines [] = refl
joined_lines (b ∷ text) = elim (b == 10) as (λ d. joined (if d then ((b ∷ []) ∷ lines_of text) else (put_first b (lines_of text))) ≡ b ∷ text) [
  | true ↦ ap (λ t. b ∷ t) (joined_lines text)
  | false ↦ joined_first b (lines_of text) ∙ ap (λ t. b ∷ t) (joined_lines text)
]

first_some : (b : ℕ) (lines : List (List ℕ)) → 0 < length (put_first b lines)
first_some b [] = omega arith
first_some b (line ∷ lines) = omega arith

lines_some : (b : ℕ) (text : List ℕ) → 0 < length (lines_of (b ∷ text))
lines_some b text = elim (b == 10) as (λ d. 0 < length (if d then ((b ∷ []) ∷ lines_of text) else (put_first b (lines_of text)))) [
  | true ↦ omega arith
  | false ↦ first_some b (lines_of text)
]

ended_some : (text : List ℕ) → 0 < length (lines_of (text ++ 10 ∷ []))
ended_some [] = omega arith
ended_some (b ∷ text) = lines_some b (text ++ 10 ∷ [])

first_append : (b : ℕ) (lines more : List (List ℕ)) → 0 < length lines → put_first b (lines ++ more) ≡ put_first b lines ++ more
first_append b [] more some = absurd (omega arith)
first_append b (line ∷ lines) more some = refl

-- after an LF begin further lines
pub lines_append : (text more : List ℕ) → lines_of ((text ++ 10 ∷ []) ++ more) ≡ lines_of (text ++ 10 ∷ []) ++ lines_of more
lines_append [] more = refl
lines_append (b ∷ text) more =
    elim (b == 10) as (λ d. (if d then ((b ∷ []) ∷ lines_of ((text ++ 10 ∷ []) ++ more)) else (put_first b (lines_of ((text ++ 10 ∷ []) ++ more))))
    ≡ (if d then ((b ∷ []) ∷ lines_of (text ++ 10 ∷ [])) else (put_first b (lines_of (text ++ 10 ∷ [])))) ++ lines_of more) [
      | true ↦ ap (λ ls. (b ∷ []) ∷ ls) (lines_append text more)
      | false ↦ ap (put_first b) (lines_append text more) ∙ first_append b (lines_of (text ++ 10 ∷ [])) (lines_of more) (ended_some text)
    ]

-- the first line ends at the first LF
pub line_then : (line more : List ℕ) → HasNoFeed line → lines_of (line ++ 10 ∷ more) ≡ (line ++ 10 ∷ []) ∷ lines_of more
line_then [] more h = refl
line_then (b ∷ line) more h =
    ap (λ d. if d then ((b ∷ []) ∷ lines_of (line ++ 10 ∷ more)) else (put_first b (lines_of (line ++ 10 ∷ more)))) (not_feed b line h)
    ∙ ap (put_first b) (line_then line more (no_feed_after b line h))

-- a text without LF is one line
pub line_last : (b : ℕ) (line : List ℕ) → HasNoFeed (b ∷ line) → lines_of (b ∷ line) ≡ (b ∷ line) ∷ []
line_last b [] h = ap (λ d. if d then ((b ∷ []) ∷ []) else ((b ∷ []) ∷ [])) (not_feed b [] h)
line_last b (d ∷ line) h =
    ap (λ t. if t then ((b ∷ []) ∷ lines_of (d ∷ line)) else (put_first b (lines_of (d ∷ line)))) (not_feed b (d ∷ line) h)
    ∙ ap (put_first b) (line_last d line (no_feed_after b (d ∷ line) h))

pub without_end-there : (c : ℕ) (xs : List ℕ) → without_end c (xs ++ c ∷ []) ≡ xs
without_end-there c [] = ap (λ d. if d then [] else (c ∷ [])) (eq-eqb c c refl)
without_end-there c (b ∷ []) = ap (λ t. b ∷ t) (without_end-there c [])
without_end-there c (b ∷ d ∷ xs) = ap (λ t. b ∷ t) (without_end-there c (d ∷ xs))

pub without_end-not : (c : ℕ) (xs : List ℕ) → ((prefix : List ℕ) → xs ≢ prefix ++ c ∷ []) → without_end c xs ≡ xs
without_end-not c [] never = refl
without_end-not c (b ∷ []) never = ap (λ d. if d then [] else (b ∷ [])) (ne_eqb b c (λ e. never [] (ap (λ x. x ∷ []) e)))
without_end-not c (b ∷ d ∷ xs) never = ap (λ t. b ∷ t) (without_end-not c (d ∷ xs) (λ prefix e. never (b ∷ prefix) (ap (λ t. b ∷ t) e)))

pub without_feed : (xs : List ℕ) → HasNoFeed xs → without_end 10 xs ≡ xs
without_feed [] h = refl
without_feed (b ∷ []) h = ap (λ d. if d then [] else (b ∷ [])) (not_feed b [] h)
without_feed (b ∷ d ∷ xs) h = ap (λ t. b ∷ t) (without_feed (d ∷ xs) (no_feed_after b (d ∷ xs) h))
