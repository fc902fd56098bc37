-- Texts without a CR, line by line; and the indent of the first of some texts as the least.
use Rattle.std.proofs.Common.{◌≡◌, ℕ, zero, suc, ◌+◌, ◌-◌, ◌<◌, ◌≤◌, ◌==◌, true, false, List, [], ◌∷◌, ◌++◌, length, get_or, take, append-nil, slice_index, Option, Some, None, is_some, inl, inr, refl, sym, ap, ◌∙◌, subst, arith, cond}
use Rattle.wit_syntax.proofs.Common.{All-cons, All-head, All-nil, All-push, All-same, All-tail, cases_Bool, common_indent, ended_lines, eqb-true, flat_map, flat_map-append, fold, is_ascii_whitespace, lines, lines_of_parts, map, map-append, min, ne_eqb, onto_first, prefix_len, slice_split, strip_carriage_return, take_more, without_spaces, reduce}
use Rattle.std.specs.List.{All}
use Rattle.std.specs.Prelude.{filter, unwrap_or}
use denote.Ref.{Bor}
use Rattle.memchr.specs.Find.{IsFirstByte, is_byte}
use Rattle.wit_notes.specs.PlainComments.{HasNoReturn, IsIndented, IsPushed, all_lines, ends_in_line, first_indent}
use Rattle.wit_notes.specs.Texts.{after_spaces, indent, is_written, said}
use Rattle.std.proofs.lemmas.List.Folds.{length-prefix_len}
use Rattle.wit_notes.proofs.Texts.{spaces-one}

-- CRs in two texts, one after the other
no_return-split : (prefix back : List ℕ) → HasNoReturn (prefix ++ back) → HasNoReturn prefix × HasNoReturn back
no_return-split [] back h = (tt, h)
no_return-split (b ∷ prefix) back h = let both = no_return-split prefix back h.1 in ((h.0, both.0), both.1)

none_there : (text : List ℕ) → ((k : ℕ) → k < length text → (slice_index text k == 13) ≡ true → ⊥) → HasNoReturn text
none_there [] h = tt
none_there (b ∷ text) h = (
  elim (cases_Bool (b == 13)) [
    | inl there ↦ absurd (h 0 (omega arith) there)
    | inr other ↦ other
  ],
  none_there text (λ k lt e. h (suc k) (omega arith) e),
)

pub no_return-found : (text : List ℕ) (found : Option ℕ) → IsFirstByte (is_byte 13) text found → is_some found ≡ false → HasNoReturn text
no_return-found text (Some place) h none = absurd (let f : ⊥ = cc in f)
no_return-found text None h none = none_there text (λ k lt. h k (omega arith) lt)

-- the last byte
pub last-line : (text : List ℕ) → 0 < length text → (slice_index text (length text - 1) == 10) ≡ ends_in_line text
last-line [] some = absurd (omega arith)
last-line (b ∷ []) some = refl
last-line (b ∷ c ∷ text) some =
    let e : length (b ∷ c ∷ text) - 1 ≡ suc (length (c ∷ text) - 1) = omega arith in
    rw e (last-line (c ∷ text) (omega arith))

-- a line of which only the first byte is known to be no CR
stripped-more : (b : ℕ) (line : List ℕ) → (b == 13) ≡ false → strip_carriage_return (b ∷ line) ≡ b ∷ strip_carriage_return line
stripped-more b [] other = rw other refl
stripped-more b (c ∷ line) other =
    let e : length (b ∷ c ∷ line) - 1 ≡ suc (length (c ∷ line) - 1) = omega arith in
    rw e (elim (cases_Bool (slice_index (c ∷ line) (length (c ∷ line) - 1) == 13)) [
      | inl there ↦ rw there refl
      | inr none ↦ rw none refl
    ])

lines-more : (b : ℕ) (text : List ℕ) (parts : List (List ℕ)) → (b == 13) ≡ false → flat_map (λ (line : List ℕ). line ++ 10 ∷ []) (lines_of_parts parts) ≡ text ++ 10 ∷ [] →
    flat_map (λ (line : List ℕ). line ++ 10 ∷ []) (lines_of_parts (cond (b == 10) ([] ∷ parts) (onto_first b parts))) ≡ b ∷ (text ++ 10 ∷ [])
lines-more b text parts other h = elim (cases_Bool (b == 10)) [
  | inl end ↦ rw (end, eqb-true b 10 end) (rest_after parts h)
  | inr inside ↦ rw inside (onto parts h)
]
  where
    some : (text : List ℕ) → [] ≡ text ++ 10 ∷ [] → ⊥
    some [] e = let f : ⊥ = cc in f
    some (c ∷ text) e = let f : ⊥ = cc in f

    rest_after : (parts : List (List ℕ)) → flat_map (λ (line : List ℕ). line ++ 10 ∷ []) (lines_of_parts parts) ≡ text ++ 10 ∷ [] → flat_map (λ (line : List ℕ). line ++ 10 ∷ []) (lines_of_parts ([] ∷ parts)) ≡ 10 ∷ (text ++ 10 ∷ [])
    rest_after [] h = absurd (some text h)
    rest_after (part ∷ parts) h = ap (λ t. 10 ∷ t) h

    onto : (parts : List (List ℕ)) → flat_map (λ (line : List ℕ). line ++ 10 ∷ []) (lines_of_parts parts) ≡ text ++ 10 ∷ [] → flat_map (λ (line : List ℕ). line ++ 10 ∷ []) (lines_of_parts (onto_first b parts)) ≡ b ∷ (text ++ 10 ∷ [])
    onto [] h = absurd (some text h)
    onto ([] ∷ []) h = absurd (some text h)
    onto ((c ∷ part) ∷ []) h =
        let long : (length (b ∷ c ∷ part) == 0) ≡ false = ne_eqb (length (b ∷ c ∷ part)) 0 (λ z. (let f : ⊥ = omega arith in f)) in
        let some : (length (c ∷ part) == 0) ≡ false = ne_eqb (length (c ∷ part)) 0 (λ z. (let f : ⊥ = omega arith in f)) in
        let same = rw some at h in
        rw long (ap (λ t. b ∷ t) same)
    onto (part ∷ next ∷ parts) h = rw (stripped-more b part other) (ap (λ t. b ∷ t) h)

lines-plain : (text : List ℕ) → HasNoReturn text → ends_in_line text ≡ false → 0 < length text → flat_map (λ (line : List ℕ). line ++ 10 ∷ []) (lines text) ≡ (text ++ 10 ∷ [])
lines-plain [] free inside some = absurd (omega arith)
lines-plain (b ∷ []) free inside some = rw inside refl
lines-plain (b ∷ c ∷ text) free inside some = lines-more b (c ∷ text) (slice_split (λ d. d == 10) (c ∷ text)) free.0 (lines-plain (c ∷ text) free.1 inside (omega arith))

-- a text without a CR, which ends with no LF, has one LF more than its lines
lines-ended : (text : List ℕ) → HasNoReturn text → ends_in_line text ≡ false → ended_lines text ≡ (text ++ 10 ∷ [])
lines-ended [] free inside = refl
lines-ended (b ∷ text) free inside =
    let long : (length (b ∷ text) == 0) ≡ false = ne_eqb (length (b ∷ text)) 0 (λ z. (let f : ⊥ = omega arith in f)) in
    rw long (lines-plain (b ∷ text) free inside (omega arith))

-- what was added
pub pushed-plain : (old new text : List ℕ) → new ≡ old ++ (text ++ 10 ∷ []) → ends_in_line text ≡ false → IsPushed old new text
pushed-plain old new text is inside = λ free.
    let both = no_return-split old (text ++ 10 ∷ []) (subst HasNoReturn is free) in
    let added = no_return-split text (10 ∷ []) both.1 in
    (both.0, is ∙ ap (λ t. old ++ t) (sym (lines-ended text added.0 inside)))

pub pushed-lines : (old new text : List ℕ) → new ≡ old ++ ended_lines text → IsPushed old new text
pushed-lines old new text is = λ free. ((no_return-split old (ended_lines text) (subst HasNoReturn is free)).0, is)

pub pushed-more : (n : ℕ) (old new text rest : List ℕ) (texts : List (List ℕ)) → IsPushed old new rest → rest ≡ without_spaces n text →
    (HasNoReturn old → old ≡ all_lines n texts) → HasNoReturn new → new ≡ all_lines n (texts ++ text ∷ [])
pushed-more n old new text rest texts pushed is before free =
    let both = pushed free in
    both.1 ∙ ap (λ t. t ++ ended_lines rest) (before both.0) ∙ ap (λ t. all_lines n texts ++ ended_lines t) is
    ∙ ap (λ t. all_lines n texts ++ t) (sym (append-nil (ended_lines (without_spaces n text))))
    ∙ sym (flat_map-append (λ t. ended_lines (without_spaces n t)) texts (text ∷ []))

-- the indent of a text that begins with spaces
indent-space : (text : List ℕ) → indent (32 ∷ text) ≡ suc (indent text)
indent-space text = let e : 1 + prefix_len is_ascii_whitespace text ≡ suc (prefix_len is_ascii_whitespace text) = omega arith in rw e refl

pub spaces-indent : (n : ℕ) (text rest : List ℕ) → after_spaces n text ≡ Some rest → n ≤ indent text
spaces-indent zero text rest h = omega arith
spaces-indent (suc n) [] rest h = absurd (let f : ⊥ = cc in f)
spaces-indent (suc n) (b ∷ text) rest h = elim (cases_Bool (32 == b)) [
  | inl space ↦ (
      let more : after_spaces n text ≡ Some rest = rw space at (sym (spaces-one n b text) ∙ h) in
      let least : n ≤ indent text = spaces-indent n text rest more in
      let long : indent (32 ∷ text) ≡ suc (indent text) = indent-space text in
      let more : suc n ≤ indent (32 ∷ text) = omega arith in
      subst (λ c. suc n ≤ indent (c ∷ text)) (eqb-true 32 b space) more)
  | inr other ↦ absurd (let wrong : None ≡ Some rest = rw other at (sym (spaces-one n b text) ∙ h) in let f : ⊥ = cc in f)
]

-- the first of some numbers is the least where none is less
fold-least : (n : ℕ) (ns : List ℕ) → All (λ m. n ≤ m) ns → fold min n ns ≡ n
fold-least n [] h = refl
fold-least n (m ∷ ns) h =
    let least : min n m ≡ n = (let le : n ≤ m = All-head (λ k. n ≤ k) m ns h in omega arith) in
    rw least (fold-least n ns (All-tail (λ k. n ≤ k) m ns h))

indents-least : (n : ℕ) (texts : List (List ℕ)) → All (IsIndented n) texts → All (λ m. n ≤ m) (map indent (filter is_written texts))
indents-least n [] h = All-nil (λ m. n ≤ m)
indents-least n (text ∷ texts) h = elim (cases_Bool (is_written text)) [
  | inl written ↦ rw written (All-cons (λ m. n ≤ m) (indent text) (map indent (filter is_written texts)) (All-head (IsIndented n) text texts h written) (indents-least n texts (All-tail (IsIndented n) text texts h)))
  | inr empty ↦ rw empty (indents-least n texts (All-tail (IsIndented n) text texts h))
]

abbrev least_indent : List (List ℕ) → ℕ
least_indent texts = unwrap_or (reduce min (map indent (filter is_written texts))) 0

indents-counted : (texts : List (List ℕ)) → map indent texts ≡ map (prefix_len is_ascii_whitespace) texts
indents-counted [] = refl
indents-counted (text ∷ texts) = λ i. length-prefix_len is_ascii_whitespace text i ∷ indents-counted texts i

least-common : (texts : List (List ℕ)) → least_indent texts ≡ common_indent texts
least-common texts = ap (λ ns. unwrap_or (reduce min ns) 0) (indents-counted (filter is_written texts))

first-least : (texts : List (List ℕ)) → All (IsIndented (first_indent texts)) texts → least_indent texts ≡ first_indent texts
first-least [] h = refl
first-least (text ∷ texts) h = elim (cases_Bool (is_written text)) [
  | inl written ↦ (
      let all : All (IsIndented (indent text)) (text ∷ texts) = rw written at h in
      rw written (fold-least (indent text) (map indent (filter is_written texts)) (indents-least (indent text) texts (All-tail (IsIndented (indent text)) text texts all))))
  | inr empty ↦ (
      let all : All (IsIndented (first_indent texts)) (text ∷ texts) = rw empty at h in
      rw empty (first-least texts (All-tail (IsIndented (first_indent texts)) text texts all)))
]

said-indented : (n : ℕ) (comments : List (Bor (List ℕ))) → All (λ (m : Bor (List ℕ)). IsIndented n (said m.now)) comments → All (IsIndented n) (map (λ (m : Bor (List ℕ)). said m.now) comments)
said-indented n [] h = All-nil (IsIndented n)
said-indented n (m ∷ ms) h =
    let is = λ (k : Bor (List ℕ)). IsIndented n (said k.now) in
    All-cons (IsIndented n) (said m.now) (map (λ (k : Bor (List ℕ)). said k.now) ms) (All-head is m ms h) (said-indented n ms (All-tail is m ms h))

-- the least indent of what lent comments say, where none has less than the first
pub first-common : (comments : List (Bor (List ℕ))) (n : ℕ) → n ≡ first_indent (map (λ (m : Bor (List ℕ)). said m.now) comments) → All (λ (m : Bor (List ℕ)). IsIndented n (said m.now)) comments →
    n ≡ common_indent (map (λ (m : Bor (List ℕ)). said m.now) comments)
first-common comments n is h =
    is ∙ sym (first-least (map (λ (m : Bor (List ℕ)). said m.now) comments) (subst (λ k. All (IsIndented k) (map (λ (m : Bor (List ℕ)). said m.now) comments)) is (said-indented n comments h)))
    ∙ least-common (map (λ (m : Bor (List ℕ)). said m.now) comments)

-- one comment more
pub lines-next : (n : ℕ) (comments : List (Bor (List ℕ))) (i : ℕ) (d : Bor (List ℕ)) (old new rest : List ℕ) → i < length comments → IsPushed old new rest → rest ≡ without_spaces n (said (get_or comments i d).now) →
    (HasNoReturn old → old ≡ all_lines n (map (λ (m : Bor (List ℕ)). said m.now) (take i comments))) → HasNoReturn new → new ≡ all_lines n (map (λ (m : Bor (List ℕ)). said m.now) (take (i + 1) comments))
lines-next n comments i d old new rest lt pushed is before free =
    pushed-more n old new (said (get_or comments i d).now) rest (map (λ (m : Bor (List ℕ)). said m.now) (take i comments)) pushed is before free
    ∙ ap (all_lines n) (sym (ap (map (λ (m : Bor (List ℕ)). said m.now)) (take_more comments i d lt) ∙ map-append _ (take i comments) (get_or comments i d ∷ [])))

pub indented-next : (n : ℕ) (comments : List (Bor (List ℕ))) (i : ℕ) (d : Bor (List ℕ)) → i < length comments → All (λ (m : Bor (List ℕ)). IsIndented n (said m.now)) (take i comments) → IsIndented n (said (get_or comments i d).now) →
    All (λ (m : Bor (List ℕ)). IsIndented n (said m.now)) (take (i + 1) comments)
indented-next n comments i d lt before more =
    let is = λ (k : Bor (List ℕ)). IsIndented n (said k.now) in
    All-same is (take (i + 1) comments) (take i comments ++ get_or comments i d ∷ []) (take_more comments i d lt) (All-push is (take i comments) (get_or comments i d) before more)
