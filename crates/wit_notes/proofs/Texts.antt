-- Marks at both ends of texts, spaces in front, and lines.
use Rattle.std.proofs.Common.{◌≡◌, ◌≢◌, ℕ, zero, suc, ◌-◌, ◌<◌, ◌==◌, ◌&&◌, true, false, List, [], ◌∷◌, ◌++◌, length, take, drop, append-nil, slice_index, Option, Some, None, is_some, IfSome, inl, inr, refl, sym, ap, ◌∙◌, arith, lit<, if◌then◌else◌, ◌+◌}
use Rattle.wit_syntax.proofs.Common.{IsCharBoundary, cases_Bool, codes, docs_text, drop-length, encode_ascii, ended_lines, ends_with, eqb-true, filter_map, flat_map, joined, lines_of_parts, map, map_map, nat_eq, ne_eqb, rest_after, slice_split, take-append-drop, unmarked, without_end, without_last_lines, is_ascii_whitespace, length-map, prefix_len}
use Rattle.std.specs.Prelude.{filter}
use Rattle.std.specs.Str.Pattern.{CutsPrefixes, CutsSuffixes, IsTrimStartMatches, IsTrimEndMatches, FindsCharPrefix, FindsCharSuffix, FindsTextSuffix, HasCharAt, StripsSuffix}
use Rattle.std.proofs.lemmas.Str.Pattern.{drop_at_char, ends_text}
use denote.Ref.{Bor}
use Rattle.memchr.specs.Find.{IsFirstByte, is_byte}
use Rattle.wit_notes.specs.Indents.{written_indent}
use Rattle.wit_refusals.proofs.Scoping.{rest_after-some}
use Rattle.wit_notes.specs.Texts.{after_slashes, after_spaces, is_written, said}
use Rattle.std.proofs.lemmas.List.Folds.{length-prefix_len}

-- a text whose end was taken off
pub without_end-stripped : (n s : List ℕ) (x : Bor (List ℕ)) → StripsSuffix (FindsTextSuffix n) s x.now → x.now ≡ without_end n s
without_end-stripped n s x h =
    let cut : length s - h.0 ≡ length s - length n = ap (λ k. length s - k) h.1.0 in
    let at : x.now ≡ take (length s - length n) s = h.2 ∙ ap (λ k. take k s) cut in
    let prefix : IsCharBoundary s (length s - h.0) = rw cut h.1.2 in
    let e : true ≡ ends_with nat_eq s n = ends_text true n s (h.0, h.1, omega (arith, h.3), prefix) in
    rw (← e) at

pub without_end-kept : (n s : List ℕ) → FindsTextSuffix n s None → s ≡ without_end n s
without_end-kept n s h =
    let e : false ≡ ends_with nat_eq s n = ends_text false n s h in
    rw (← e) refl

-- the text after its slashes, one after another
abbrev past : List ℕ → List ℕ
past [] = []
past (b ∷ text) = if b == 47 then past text else b ∷ text

slashes-past : (text : List ℕ) → after_slashes text ≡ past text
slashes-past [] = refl
slashes-past (b ∷ text) = elim (cases_Bool (b == 47)) [
  | inl slash ↦ (let one : 1 + prefix_len (λ c. c == 47) text ≡ suc (prefix_len (λ c. c == 47) text) = omega arith in rw (slash, one) (slashes-past text))
  | inr other ↦ rw other refl
]

-- one slash, and then all, taken off the prefix
slashes-one : (m : List ℕ) (n : ℕ) → HasCharAt 47 m 0 n → past m ≡ past (drop n m)
slashes-one m n h = let e : m ≡ 47 ∷ drop n m = drop_at_char 47 m 0 n h (lit< tt) in ap past e

slashes-cut : (s r : List ℕ) (ns : List ℕ) → CutsPrefixes (FindsCharPrefix 47) s ns r → past s ≡ past r
slashes-cut s r [] h = ap past (sym h)
slashes-cut s r (n ∷ ns) h = slashes-cut s h.0 ns h.1 ∙ slashes-one h.0 n h.2 ∙ ap past (sym h.3)

slashes-none : (r : List ℕ) → ((rest : List ℕ) → r ≢ 47 ∷ rest) → past r ≡ r
slashes-none [] h = refl
slashes-none (b ∷ r) h = elim (cases_Bool (b == 47)) [
  | inl slash ↦ absurd (h r (ap (λ c. c ∷ r) (eqb-true b 47 slash)))
  | inr other ↦ rw other refl
]

slashes-done : (r : List ℕ) (o : Option ℕ) → FindsCharPrefix 47 r o → IfSome o (λ n. n ≡ 0) → past r ≡ r
slashes-done r None h z = slashes-none r (λ rest e. h rest (e ∙ sym (ap (λ x. x ++ rest) (encode_ascii 47 (lit< tt)))))
slashes-done r (Some n) h z = absurd (let ends = h.ends in omega arith)

pub slashes-trimmed : (s r : List ℕ) → IsTrimStartMatches (FindsCharPrefix 47) s r → r ≡ after_slashes s
slashes-trimmed s r h = sym (slashes-cut s r h.0.0 h.0.1 ∙ slashes-done r h.1.0 h.1.1 h.1.2) ∙ sym (slashes-past s)

pub spaces-one : (n b : ℕ) (text : List ℕ) → after_spaces (suc n) (b ∷ text) ≡ (if 32 == b then after_spaces n text else None)
spaces-one n b text = elim (cases_Bool (32 == b)) [
  | inl space ↦ rw space refl
  | inr other ↦ rw other refl
]

pub spaces-none : (n : ℕ) (text : List ℕ) → 0 < n → ((rest : List ℕ) → text ≢ 32 ∷ rest) → after_spaces n text ≡ None
spaces-none zero text lt h = absurd (omega arith)
spaces-none (suc n) [] lt h = refl
spaces-none (suc n) (b ∷ text) lt h = elim (cases_Bool (32 == b)) [
  | inl space ↦ absurd (h text (ap (λ c. c ∷ text) (sym (eqb-true 32 b space))))
  | inr other ↦ spaces-one n b text ∙ rw other refl
]

-- LFs at the end
pub last_lines-one : (prefix : List ℕ) → without_last_lines (prefix ++ 10 ∷ []) ≡ without_last_lines prefix
last_lines-one [] = refl
last_lines-one (b ∷ prefix) = rw (last_lines-one prefix) refl

pub last_lines-none : (text : List ℕ) → ((prefix : List ℕ) → text ≢ prefix ++ 10 ∷ []) → without_last_lines text ≡ text
last_lines-none [] h = refl
last_lines-none (b ∷ []) h = elim (cases_Bool (b == 10)) [
  | inl end ↦ absurd (h [] (ap (λ c. c ∷ []) (eqb-true b 10 end)))
  | inr other ↦ rw other refl
]
last_lines-none (b ∷ c ∷ text) h = kept b c text (without_last_lines (c ∷ text)) (last_lines-none (c ∷ text) (λ prefix e. h (b ∷ prefix) (ap (λ t. b ∷ t) e)))
  where
    kept : (b c : ℕ) (text found : List ℕ) → found ≡ c ∷ text → (if b == 10 && length found == 0 then [] else b ∷ found) ≡ b ∷ c ∷ text
    kept b c text found e = elim (cases_Bool (b == 10)) [
      | inl end ↦ (let long : (length (c ∷ text) == 0) ≡ false = ne_eqb (length (c ∷ text)) 0 (λ z. (let f : ⊥ = omega arith in f)) in rw (e, end, long) refl)
      | inr other ↦ rw (other, e) refl
    ]

last_lines-cut-one : (m : List ℕ) (n : ℕ) → HasCharAt 10 m (length m - n) (length m) → without_last_lines m ≡ without_last_lines (take (length m - n) m)
last_lines-cut-one m n h =
    let last : drop (length m - n) m ≡ 10 ∷ [] = drop_at_char 10 m (length m - n) (length m) h (lit< tt) ∙ ap (λ t. 10 ∷ t) (drop-length m) in
    let whole : m ≡ take (length m - n) m ++ 10 ∷ [] = sym (take-append-drop (length m - n) m) ∙ ap (λ t. take (length m - n) m ++ t) last in
    ap without_last_lines whole ∙ last_lines-one (take (length m - n) m)

last_lines-cut : (s r : List ℕ) (ns : List ℕ) → CutsSuffixes (FindsCharSuffix 10) s ns r → without_last_lines s ≡ without_last_lines r
last_lines-cut s r [] h = ap without_last_lines (sym h)
last_lines-cut s r (n ∷ ns) h = last_lines-cut s h.0 ns h.1 ∙ last_lines-cut-one h.0 n h.2.1 ∙ ap without_last_lines (sym h.3)

last_lines-done : (r : List ℕ) (o : Option ℕ) → FindsCharSuffix 10 r o → IfSome o (λ n. n ≡ 0) → without_last_lines r ≡ r
last_lines-done r None h z = last_lines-none r (λ prefix e. h prefix (e ∙ sym (ap (λ x. prefix ++ x) (encode_ascii 10 (lit< tt)))))
last_lines-done r (Some n) h z = absurd (let ends = h.1.ends in let f : ⊥ = omega arith in f)

pub last_lines-trimmed : (s r : List ℕ) → IsTrimEndMatches (FindsCharSuffix 10) s r → r ≡ without_last_lines s
last_lines-trimmed s r h = sym (last_lines-cut s r h.0.0 h.0.1 ∙ last_lines-done r h.1.0 h.1.1 h.1.2)

-- a text without an LF is one line
one_part : (text : List ℕ) → ((k : ℕ) → k < length text → (slice_index text k == 10) ≡ true → ⊥) → slice_split (λ b. b == 10) text ≡ text ∷ []
one_part [] h = refl
one_part (b ∷ text) h = elim (cases_Bool (b == 10)) [
  | inl end ↦ absurd (h 0 (omega arith) end)
  | inr other ↦ rw (other, one_part text (λ k lt e. h (suc k) (omega arith) e)) refl
]

one_line : (text : List ℕ) (parts : List (List ℕ)) → parts ≡ text ∷ [] → (if length text == 0 then [] ∷ [] else lines_of_parts parts) ≡ text ∷ []
one_line [] parts is = refl
one_line (b ∷ text) parts is =
    let long : (length (b ∷ text) == 0) ≡ false = ne_eqb (length (b ∷ text)) 0 (λ z. (let f : ⊥ = omega arith in f)) in
    rw (is, long) refl

pub lines-one : (text : List ℕ) (found : Option ℕ) → IsFirstByte (is_byte 10) text found → is_some found ≡ false → ended_lines text ≡ (text ++ 10 ∷ [])
lines-one text (Some place) h none = absurd (let f : ⊥ = cc in f)
lines-one text None h none =
    let part = one_part text (λ k lt. h k (omega arith) lt) in
    ap (flat_map (λ (line : List ℕ). line ++ 10 ∷ [])) (one_line text (slice_split (λ b. b == 10) text) part) ∙ append-nil (text ++ 10 ∷ [])

pub lines-many : (text : List ℕ) (found : Option ℕ) → IsFirstByte (is_byte 10) text found → is_some found ≡ true → (length text == 0) ≡ false
lines-many text None h some = absurd (let f : ⊥ = cc in f)
lines-many text (Some place) h some = ne_eqb (length text) 0 (λ z. (let high = h.0.high in let f : ⊥ = omega arith in f))

-- a comment that begins with three slashes has no other mark
pub unmarked-slashes : (comment rest : List ℕ) → rest_after (codes "///") comment ≡ Some rest → after_slashes rest ≡ unmarked comment
unmarked-slashes comment rest h = slashes-past rest ∙ sym (slashes-past (47 ∷ 47 ∷ 47 ∷ rest)) ∙ sym (ap unmarked (rest_after-some (codes "///") comment rest h))

-- the indents of what lent comments say
pub indents-found : (comments : List (Bor (List ℕ))) → filter_map (λ (m : Bor (List ℕ)). written_indent (said m.now)) comments ≡ map (prefix_len is_ascii_whitespace) (filter is_written (map (λ (m : Bor (List ℕ)). said m.now) comments))
indents-found [] = refl
indents-found (m ∷ ms) = elim (cases_Bool (is_written (said m.now))) [
  | inl written ↦ rw written (λ i. length-prefix_len is_ascii_whitespace (said m.now) i ∷ indents-found ms i)
  | inr empty ↦ rw empty (indents-found ms)
]

-- the text of comments
docs-some : (texts : List (List ℕ)) → (length texts == 0) ≡ false → docs_text texts ≡ Some (joined (map said texts))
docs-some texts some = rw some refl

pub docs-joined : (comments : List (Bor (List ℕ))) → (length comments == 0) ≡ false → Some (joined (map (λ (m : Bor (List ℕ)). said m.now) comments)) ≡ docs_text (map (λ (m : Bor (List ℕ)). m.now) comments)
docs-joined comments some =
    ap (λ ts. Some (joined ts)) (sym (map_map said (λ (n : Bor (List ℕ)). n.now) comments))
    ∙ sym (docs-some (map (λ (n : Bor (List ℕ)). n.now) comments) (ap (λ n. n == 0) (length-map comments (λ (n : Bor (List ℕ)). n.now)) ∙ some))
