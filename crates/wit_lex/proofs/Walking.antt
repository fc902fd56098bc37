-- Going over blanks and comments, byte by byte, whatever is gathered on the way.
use Rattle.std.proofs.Common.{◌≡◌, ℕ, zero, suc, ◌+◌, ◌-◌, ◌<◌, ◌≤◌, List, [], ◌∷◌, length, drop, ap, ◌∙◌, sym, subst, arith, true, false, inl, inr}
use Rattle.std.specs.Prelude.{◌==◌, ◌&&◌, slice_index}
use Rattle.std.proofs.lemmas.Bool.{and_parts, cases_lt, eqb-true, false_from_ne_true}
use Rattle.std.proofs.lemmas.List.{drop_all, drop_more}
use Rattle.wit_type_tree.specs.Comments.{IsComment, Line, Block, IsLine, IsNested, Opened, Deeper, Closed, Inside, IsPair, is_blank}
use Rattle.wit_lex.specs.Lexis.{Mode, between, in_line, in_block}

pub more : (source : List ℕ) (at : ℕ) → at < length source → drop at source ≡ slice_index source at ∷ drop (at + 1) source
more source at lt = drop_more source at 0 lt

pub pair_rest : (source : List ℕ) (at one two : ℕ) → IsPair source at one two → drop at source ≡ one ∷ two ∷ drop (at + 2) source
pair_rest source at one two p =
    let room = p.within in
    let place : at + 1 + 1 ≡ at + 2 = omega arith in
    more source at (omega arith) ∙ ap (λ c. c ∷ drop (at + 1) source) p.first
    ∙ ap (λ r. one ∷ r) (more source (at + 1) (omega arith) ∙ ap (λ c. c ∷ drop (at + 1 + 1) source) p.second ∙ ap (λ i. two ∷ drop i source) place)

-- the byte at a place
pub next_byte : (source : List ℕ) (at d : ℕ) (r : List ℕ) → drop at source ≡ d ∷ r → (at < length source) × (slice_index source at ≡ d)
next_byte source at d r e = elim (cases_lt at (length source)) [
  | inl lt ↦ (lt, ap (λ l. slice_index l 0) (sym (more source at lt) ∙ e))
  | inr ge ↦ (let none : 0 ≡ length (d ∷ r) = ap length (sym (drop_all at source ge) ∙ e) in absurd (omega arith))
]

pub no_pair : (source : List ℕ) (at one two d : ℕ) (r : List ℕ) → (IsPair source at one two → ⊥) → drop (at + 1) source ≡ d ∷ r → (slice_index source at == one && d == two) ≡ false
no_pair source at one two d r none e =
    let next = next_byte source (at + 1) d r e in
    let room = next.0 in
    false_from_ne_true _ (λ h. (
    let both = and_parts _ _ h in
    none (record { within = omega arith; first = eqb-true (slice_index source at) one both.0; second = next.1 ∙ eqb-true d two both.1 })))

-- a function of what is left of a text that goes over blanks and comments, and puts each comment to what it makes of the rest
pub record IsWalk {X : Type 0} (go : Mode → ℕ → List ℕ → X) (put : ℕ → ℕ → X → X) : Type 0 where
  pub blank : (at c : ℕ) (rest : List ℕ) → is_blank c ≡ true → go between at (c ∷ rest) ≡ go between (at + 1) rest
  pub line : (at : ℕ) (rest : List ℕ) → go between at (47 ∷ 47 ∷ rest) ≡ go (in_line at) (at + 1 + 1) rest
  pub on_line : (start at c : ℕ) (rest : List ℕ) → (c ≡ 10 → ⊥) → go (in_line start) at (c ∷ rest) ≡ go (in_line start) (at + 1) rest
  pub line_end : (start at : ℕ) (rest : List ℕ) → go (in_line start) at (10 ∷ rest) ≡ put start at (go between at (10 ∷ rest))
  pub last_line : (start at : ℕ) → go (in_line start) at [] ≡ put start at (go between at [])
  pub block : (at : ℕ) (rest : List ℕ) → go between at (47 ∷ 42 ∷ rest) ≡ go (in_block at 0) (at + 2) rest
  pub deeper : (start n at : ℕ) (rest : List ℕ) → go (in_block start n) at (47 ∷ 42 ∷ rest) ≡ go (in_block start (suc n)) (at + 2) rest
  pub closed : (start n at : ℕ) (rest : List ℕ) → go (in_block start (suc n)) at (42 ∷ 47 ∷ rest) ≡ go (in_block start n) (at + 2) rest
  pub block_end : (start at : ℕ) (rest : List ℕ) → go (in_block start 0) at (42 ∷ 47 ∷ rest) ≡ put start (at + 2) (go between (at + 2) rest)
  pub inside : (start n at c : ℕ) (rest : List ℕ) → ((d : ℕ) (r : List ℕ) → rest ≡ d ∷ r → ((c == 42 && d == 47) ≡ false) × ((c == 47 && d == 42) ≡ false)) →
      go (in_block start n) at (c ∷ rest) ≡ go (in_block start n) (at + 1) rest

module _ {X : Type 0} (go : Mode → ℕ → List ℕ → X) (put : ℕ → ℕ → X → X) (w : IsWalk go put) (source : List ℕ) where
  line_ended : (start end : ℕ) → (end < length source → slice_index source end ≡ 10) → go (in_line start) end (drop end source) ≡ put start end (go between end (drop end source))
  line_ended start end last = elim (cases_lt end (length source)) [
    | inl lt ↦ (
        let rest : drop end source ≡ 10 ∷ drop (end + 1) source = more source end lt ∙ ap (λ c. c ∷ drop (end + 1) source) (last lt) in
        rw rest (w.line_end start end (drop (end + 1) source)))
    | inr ge ↦ rw (drop_all end source ge) (w.last_line start end)
  ]

  line_on : (start at end n : ℕ) → at + n ≡ end → end ≤ length source → ((i : ℕ) → at ≤ i → i < end → slice_index source i ≡ 10 → ⊥) → (end < length source → slice_index source end ≡ 10) →
      go (in_line start) at (drop at source) ≡ put start end (go between end (drop end source))
  line_on start at end zero e within inside last =
      let same : end ≡ at = omega arith in
      subst (λ i. go (in_line start) i (drop i source) ≡ put start end (go between end (drop end source))) same (line_ended start end last)
  line_on start at end (suc n) e within inside last =
      ap (go (in_line start) at) (more source at (omega arith)) ∙ w.on_line start at (slice_index source at) (drop (at + 1) source) (inside at (omega arith) (omega arith))
      ∙ line_on start (at + 1) end n (omega arith) within (λ i low high. inside i (omega arith) high) last

  line_passed : (at end : ℕ) → IsLine source at end → go between at (drop at source) ≡ put at end (go between end (drop end source))
  line_passed at end l =
      let order = l.order in
      let place : at + 1 + 1 ≡ at + 2 = omega arith in
      ap (go between at) (pair_rest source at 47 47 l.prefix) ∙ w.line at (drop (at + 2) source) ∙ ap (λ i. go (in_line at) i (drop (at + 2) source)) place
      ∙ line_on at (at + 2) end (end - (at + 2)) (omega arith) l.within l.inside l.last

  -- what is made at a place where so many comments are open, the first of which begins at `start`
  unfoldable pub left : ℕ → ℕ → ℕ → X
  left start zero at = put start at (go between at (drop at source))
  left start (suc n) at = go (in_block start n) at (drop at source)

  deeper_at : (start depth at : ℕ) → 0 < depth → IsPair source at 47 42 → left start depth at ≡ left start (depth + 1) (at + 2)
  unfolding left
  deeper_at start zero at some p = absurd (omega arith)
  deeper_at start (suc n) at some p =
      let next : suc (suc n) ≡ suc n + 1 = omega arith in
      ap (go (in_block start n) at) (pair_rest source at 47 42 p) ∙ w.deeper start n at (drop (at + 2) source) ∙ ap (λ k. left start k (at + 2)) next

  closed_at : (start depth at : ℕ) → 0 < depth → IsPair source at 42 47 → left start depth at ≡ left start (depth - 1) (at + 2)
  unfolding left
  closed_at start zero at some p = absurd (omega arith)
  closed_at start (suc zero) at some p = ap (go (in_block start 0) at) (pair_rest source at 42 47 p) ∙ w.block_end start at (drop (at + 2) source)
  closed_at start (suc (suc n)) at some p =
      let next : suc n ≡ suc (suc n) - 1 = omega arith in
      ap (go (in_block start (suc n)) at) (pair_rest source at 42 47 p) ∙ w.closed start n at (drop (at + 2) source) ∙ ap (λ k. left start k (at + 2)) next

  inside_at : (start depth at : ℕ) → 0 < depth → at < length source → (IsPair source at 47 42 → ⊥) → (IsPair source at 42 47 → ⊥) → left start depth at ≡ left start depth (at + 1)
  unfolding left
  inside_at start zero at some lt none close = absurd (omega arith)
  inside_at start (suc n) at some lt none close =
      ap (go (in_block start n) at) (more source at lt)
      ∙ w.inside start n at (slice_index source at) (drop (at + 1) source) (λ d r e. (no_pair source at 42 47 d r close e, no_pair source at 47 42 d r none e))

  pub nested_on : (at depth place : ℕ) → IsNested source at depth place → go between at (drop at source) ≡ left at depth place
  unfolding left
  nested_on at _ _ (Opened p) = ap (go between at) (pair_rest source at 47 42 p) ∙ w.block at (drop (at + 2) source)
  nested_on at _ _ (Deeper depth place h some p) = nested_on at depth place h ∙ deeper_at at depth place some p
  nested_on at _ _ (Closed depth place h some p) = nested_on at depth place h ∙ closed_at at depth place some p
  nested_on at _ _ (Inside depth place h some lt none close) = nested_on at depth place h ∙ inside_at at depth place some lt none close

  pub comment_passed : (at end : ℕ) → IsComment source at end → go between at (drop at source) ≡ put at end (go between end (drop end source))
  unfolding left
  comment_passed at end (Line l) = line_passed at end l
  comment_passed at end (Block n) = nested_on at 0 end n

  pub blank_passed : (at : ℕ) → at < length source → is_blank (slice_index source at) ≡ true → go between at (drop at source) ≡ go between (at + 1) (drop (at + 1) source)
  blank_passed at lt blank = ap (go between at) (more source at lt) ∙ w.blank at (slice_index source at) (drop (at + 1) source) blank
