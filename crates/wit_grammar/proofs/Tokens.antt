-- Where the first token after a place lies, and where a version ends.
use Rattle.std.proofs.Common.{◌≡◌, ℕ, zero, suc, ◌+◌, ◌<◌, ◌≤◌, ◌⊎◌, List, [], ◌∷◌, length, drop, ap, ◌∙◌, sym, subst, arith, refl, true, false, Bool, inl, inr}
use Rattle.std.specs.Prelude.{Ok, Err, Result, cond, ◌==◌, ◌&&◌, nat_lt}
use Rattle.std.specs.Char.{is_ascii_digit}
use Rattle.std.proofs.lemmas.Bool.{cases_Bool}
use Rattle.std.proofs.lemmas.List.{length-drop, drop-drop}
use Rattle.wit_type_tree.specs.Comments.{is_blank}
use Rattle.wit_lex.specs.declared.fault.ReadError.{ReadError}
use Rattle.wit_lex.specs.declared.kind.Kind.TheVariants as kind
use Rattle.wit_lex.specs.Starts.{is_letter, is_in_word, is_sign}
use Rattle.wit_lex.specs.Lexis.{Mode, between, in_line, in_block, skipped, run_end, Lexeme, sign_kind, arrow_or_escaped, no_token, word_token, token_here, token_after, first_token}
use Rattle.wit_lex.specs.VersionLexis.{number_from, dot_number_from, dot_number, dotted_end, marked_from, marked, with_marks, patch_number, version_to}

pub chosen : {A : Type 0} (b : Bool) (x y z : A) → cond b x y ≡ z → ((b ≡ true) × (x ≡ z)) ⊎ ((b ≡ false) × (y ≡ z))
chosen true x y z h = inl (refl, h)
chosen false x y z h = inr (refl, h)

-- ---- blanks and comments
abbrev pub at_place : ℕ → Result ℕ ℕ
at_place at = Ok at

same_place : (a b : ℕ) → at_place a ≡ at_place b → a ≡ b
same_place a b h = cc

-- so many bytes on, the blanks and comments have ended
record Ended (rest : List ℕ) (at k : ℕ) : Type 0 where
  steps : ℕ
  place : k ≡ at + steps
  within : steps ≤ length rest
  stays : skipped between k (drop steps rest) ≡ Ok k

none_on : (rest : List ℕ) (at k : ℕ) → at_place at ≡ at_place k → skipped between at rest ≡ Ok k → Ended rest at k
none_on rest at k e h =
    let same = same_place at k e in
    record { steps = 0; place = omega arith; within = omega arith; stays = subst (λ i. skipped between i rest ≡ Ok k) same h }

one_on : (c : ℕ) (rest : List ℕ) (at k : ℕ) → Ended rest (at + 1) k → Ended (c ∷ rest) at k
one_on c rest at k e =
    let place = e.place in
    let within = e.within in
    record { steps = suc e.steps; place = omega arith; within = omega arith; stays = e.stays }

two_on : (c d : ℕ) (rest : List ℕ) (at k : ℕ) → Ended rest (at + 2) k → Ended (c ∷ d ∷ rest) at k
two_on c d rest at k e =
    let place = e.place in
    let within = e.within in
    record { steps = suc (suc e.steps); place = omega arith; within = omega arith; stays = e.stays }

ended : (m : Mode) (at : ℕ) (rest : List ℕ) (k : ℕ) → skipped m at rest ≡ Ok k → Ended rest at k
unfolding skipped
ended between at [] k h = none_on [] at k h h
ended between at (c ∷ []) k h = elim (chosen (is_blank c) (at_place (at + 1)) (at_place at) (Ok k) h) [
  | inl b ↦ one_on c [] at k (none_on [] (at + 1) k b.1 b.1)
  | inr b ↦ none_on (c ∷ []) at k b.1 h
]
ended between at (c ∷ d ∷ rest) k h = elim (chosen (is_blank c) (skipped between (at + 1) (d ∷ rest)) _ (Ok k) h) [
  | inl b ↦ one_on c (d ∷ rest) at k (ended between (at + 1) (d ∷ rest) k b.1)
  | inr b ↦ elim (chosen (c == 47 && d == 47) (skipped (in_line at) (at + 1) (d ∷ rest)) _ (Ok k) b.1) [
    | inl l ↦ one_on c (d ∷ rest) at k (ended (in_line at) (at + 1) (d ∷ rest) k l.1)
    | inr l ↦ elim (chosen (c == 47 && d == 42) (skipped (in_block at 0) (at + 2) rest) (at_place at) (Ok k) l.1) [
      | inl m ↦ two_on c d rest at k (ended (in_block at 0) (at + 2) rest k m.1)
      | inr m ↦ none_on (c ∷ d ∷ rest) at k m.1 h
    ]
  ]
]
ended (in_line start) at [] k h = none_on [] at k h h
ended (in_line start) at (c ∷ rest) k h = elim (chosen (c == 10) (skipped between (at + 1) rest) (skipped (in_line start) (at + 1) rest) (Ok k) h) [
  | inl b ↦ one_on c rest at k (ended between (at + 1) rest k b.1)
  | inr b ↦ one_on c rest at k (ended (in_line start) (at + 1) rest k b.1)
]
ended (in_block start inner) at [] k h = absurd (cc)
ended (in_block start inner) at (c ∷ []) k h = absurd (cc)
ended (in_block start zero) at (c ∷ d ∷ rest) k h = elim (chosen (c == 42 && d == 47) (skipped between (at + 2) rest) _ (Ok k) h) [
  | inl b ↦ two_on c d rest at k (ended between (at + 2) rest k b.1)
  | inr b ↦ elim (chosen (c == 47 && d == 42) (skipped (in_block start 1) (at + 2) rest) (skipped (in_block start 0) (at + 1) (d ∷ rest)) (Ok k) b.1) [
    | inl m ↦ two_on c d rest at k (ended (in_block start 1) (at + 2) rest k m.1)
    | inr m ↦ one_on c (d ∷ rest) at k (ended (in_block start 0) (at + 1) (d ∷ rest) k m.1)
  ]
]
ended (in_block start (suc inner)) at (c ∷ d ∷ rest) k h = elim (chosen (c == 42 && d == 47) (skipped (in_block start inner) (at + 2) rest) _ (Ok k) h) [
  | inl b ↦ two_on c d rest at k (ended (in_block start inner) (at + 2) rest k b.1)
  | inr b ↦ elim (chosen (c == 47 && d == 42) (skipped (in_block start (suc (suc inner))) (at + 2) rest) (skipped (in_block start (suc inner)) (at + 1) (d ∷ rest)) (Ok k) b.1) [
    | inl m ↦ two_on c d rest at k (ended (in_block start (suc (suc inner))) (at + 2) rest k m.1)
    | inr m ↦ one_on c (d ∷ rest) at k (ended (in_block start (suc inner)) (at + 1) (d ∷ rest) k m.1)
  ]
]

-- ---- tokens
run_bounds : (test : ℕ → Bool) (at : ℕ) (rest : List ℕ) → (at ≤ run_end test at rest) × (run_end test at rest ≤ at + length rest)
unfolding run_end
run_bounds test at [] = (omega arith, omega arith)
run_bounds test at (c ∷ rest) =
    let next = run_bounds test (at + 1) rest in
    let low = next.0 in
    let high = next.1 in
    elim (cases_Bool (test c)) [ inl is ↦ rw is (omega arith, omega arith) | inr other ↦ rw other (omega arith, omega arith) ]

abbrev pub lexeme_ok : Lexeme → Result Lexeme ReadError
lexeme_ok t = Ok t

-- a token at a place, where so many bytes are left
record IsWithin (t : Lexeme) (at size : ℕ) : Type 0 where
  start : t.start ≡ at
  order : at ≤ t.end
  within : t.end ≤ at + size

same_token : (x t : Lexeme) (at size : ℕ) → lexeme_ok x ≡ lexeme_ok t → IsWithin x at size → IsWithin t at size
same_token x t at size h w = let same : x ≡ t = cc in subst (λ y. IsWithin y at size) same w

sign_within : (source : List ℕ) (at c : ℕ) (rest : List ℕ) (t : Lexeme) → arrow_or_escaped source at c rest ≡ Ok t → IsWithin t at (suc (length rest))
sign_within source at c [] t h = absurd (cc)
sign_within source at c (d ∷ rest) t h =
    let run = run_bounds is_in_word (at + 1) (d ∷ rest) in
    let low = run.0 in
    let high = run.1 in
    let arrow : Lexeme = record { kind = kind.Arrow; start = at; end = at + 2 } in
    let escaped : Lexeme = record { kind = kind.Name; start = at; end = run_end is_in_word (at + 1) (d ∷ rest) } in
    elim (chosen (c == 45 && d == 62) (lexeme_ok arrow) _ (Ok t) h) [
      | inl b ↦ same_token arrow t at _ b.1 (record { start = refl; order = omega arith; within = omega arith })
      | inr b ↦ elim (chosen (c == 37 && is_letter d) (lexeme_ok escaped) (no_token source at c) (Ok t) b.1) [
        | inl e ↦ same_token escaped t at _ e.1 (record { start = refl; order = omega arith; within = omega arith })
        | inr e ↦ absurd (cc)
      ]
    ]

token_within : (source : List ℕ) (at : ℕ) (rest : List ℕ) (t : Lexeme) → token_here source at rest ≡ Ok t → IsWithin t at (length rest)
token_within source at [] t h = same_token (record { kind = kind.End; start = at; end = at }) t at 0 h (record { start = refl; order = omega arith; within = omega arith })
token_within source at (c ∷ rest) t h =
    let word = run_bounds is_in_word at (c ∷ rest) in
    let digits = run_bounds is_ascii_digit at (c ∷ rest) in
    let sign : Lexeme = record { kind = sign_kind c; start = at; end = at + 1 } in
    let number : Lexeme = record { kind = kind.Number; start = at; end = run_end is_ascii_digit at (c ∷ rest) } in
    elim (chosen (is_letter c) (lexeme_ok (word_token source at (run_end is_in_word at (c ∷ rest)))) _ (Ok t) h) [
      | inl b ↦ same_token (word_token source at (run_end is_in_word at (c ∷ rest))) t at _ b.1 (record { start = refl; order = word.0; within = word.1 })
      | inr b ↦ elim (chosen (is_sign c) (lexeme_ok sign) _ (Ok t) b.1) [
        | inl s ↦ same_token sign t at _ s.1 (record { start = refl; order = omega arith; within = omega arith })
        | inr s ↦ elim (chosen (is_ascii_digit c) (lexeme_ok number) (arrow_or_escaped source at c rest) (Ok t) s.1) [
          | inl d ↦ same_token number t at _ d.1 (record { start = refl; order = digits.0; within = digits.1 })
          | inr d ↦ sign_within source at c rest t d.1
        ]
      ]
    ]

-- the first token from a place on, which is the first one from its start on too
pub record IsPlaced (source : List ℕ) (from : ℕ) (t : Lexeme) : Type 0 where
  pub low : from ≤ t.start
  pub order : t.start ≤ t.end
  pub within : t.end ≤ length source
  pub same : first_token source t.start ≡ first_token source from

placed_after : (source : List ℕ) (from : ℕ) (t : Lexeme) (r : Result ℕ ℕ) → from ≤ length source → skipped between from (drop from source) ≡ r → token_after source r ≡ Ok t → IsPlaced source from t
unfolding first_token
placed_after source from t (Err at) le is h = absurd (cc)
placed_after source from t (Ok k) le is h =
    let e = ended between from (drop from source) k is in
    let w = token_within source k (drop k source) t h in
    let place = e.place in
    let steps = e.within in
    let start = w.start in
    let order = w.order in
    let within = w.within in
    let left = length-drop from source in
    let right = length-drop k source in
    let settled : skipped between k (drop k source) ≡ Ok k = subst (λ l. skipped between k l ≡ Ok k) (drop-drop e.steps from source ∙ ap (λ i. drop i source) (sym place)) e.stays in
    record {
      low = omega arith;
      order = omega arith;
      within = omega arith;
      same = ap (first_token source) start ∙ ap (token_after source) (settled ∙ sym is);
    }

pub token_placed : (source : List ℕ) (from : ℕ) (t : Lexeme) → from ≤ length source → first_token source from ≡ Ok t → IsPlaced source from t
unfolding first_token
token_placed source from t le h = placed_after source from t (skipped between from (drop from source)) le refl h

-- ---- ends of versions
number_bounds : (at : ℕ) (rest : List ℕ) (k : ℕ) → number_from at rest ≡ Ok k → (at ≤ k) × (k ≤ at + length rest)
number_bounds at [] k h = absurd (cc)
number_bounds at (c ∷ rest) k h = elim (chosen (is_ascii_digit c) (at_place (run_end is_ascii_digit at (c ∷ rest))) (Err at) (Ok k) h) [
  | inl b ↦ (
      let same = same_place (run_end is_ascii_digit at (c ∷ rest)) k b.1 in
      let run = run_bounds is_ascii_digit at (c ∷ rest) in
      let low = run.0 in
      let high = run.1 in
      (omega arith, omega arith)
      )
  | inr b ↦ absurd (cc)
]

dot_bounds : (at : ℕ) (rest : List ℕ) (k : ℕ) → dot_number_from at rest ≡ Ok k → (at < k) × (k ≤ at + length rest)
dot_bounds at [] k h = absurd (cc)
dot_bounds at (c ∷ rest) k h = elim (chosen (c == 46) (number_from (at + 1) rest) (Err at) (Ok k) h) [
  | inl b ↦ (let n = number_bounds (at + 1) rest k b.1 in let low = n.0 in let high = n.1 in (omega arith, omega arith))
  | inr b ↦ absurd (cc)
]

pub number_within : (source : List ℕ) (at k : ℕ) → at ≤ length source → dot_number source at ≡ Ok k → (at < k) × (k ≤ length source)
number_within source at k le h =
    let n = dot_bounds at (drop at source) k h in
    let low = n.0 in
    let high = n.1 in
    let left = length-drop at source in
    (omega arith, omega arith)

dotted_bounds : (at : ℕ) (rest : List ℕ) → (at ≤ dotted_end at rest) × (dotted_end at rest ≤ at + length rest)
unfolding dotted_end
dotted_bounds at [] = (omega arith, omega arith)
dotted_bounds at (c ∷ []) = elim (cases_Bool (is_in_word c)) [ inl is ↦ rw is (omega arith, omega arith) | inr other ↦ rw other (omega arith, omega arith) ]
dotted_bounds at (c ∷ d ∷ rest) =
    let one = dotted_bounds (at + 1) (d ∷ rest) in
    let two = dotted_bounds (at + 2) rest in
    let low = one.0 in
    let high = one.1 in
    let low' = two.0 in
    let high' = two.1 in
    elim (cases_Bool (is_in_word c)) [
      | inl is ↦ rw is (omega arith, omega arith)
      | inr other ↦ elim (cases_Bool (c == 46 && is_in_word d)) [ inl is ↦ rw (other, is) (omega arith, omega arith) | inr none ↦ rw (other, none) (omega arith, omega arith) ]
    ]

mark_bounds : (mark at : ℕ) (rest : List ℕ) → (at ≤ marked_from mark at rest) × (marked_from mark at rest ≤ at + length rest)
mark_bounds mark at [] = (omega arith, omega arith)
mark_bounds mark at (c ∷ rest) =
    let run = dotted_bounds (at + 1) rest in
    let low = run.0 in
    let high = run.1 in
    elim (cases_Bool (c == mark && nat_lt (at + 1) (dotted_end (at + 1) rest))) [ inl is ↦ rw is (omega arith, omega arith) | inr none ↦ rw none (omega arith, omega arith) ]

mark_within : (mark : ℕ) (source : List ℕ) (at : ℕ) → at ≤ length source → (at ≤ marked mark source at) × (marked mark source at ≤ length source)
mark_within mark source at le =
    let run = mark_bounds mark at (drop at source) in
    let low = run.0 in
    let high = run.1 in
    let left = length-drop at source in
    (omega arith, omega arith)

pub version_placed : (source : List ℕ) (at end : ℕ) → at ≤ length source → version_to source at ≡ Ok end → (at < end) × (end ≤ length source)
unfolding version_to
version_placed source at end le h = by_minor (dot_number source at) refl h
  where
    by_patch : (r : Result ℕ ℕ) (k : ℕ) → at < k → k ≤ length source → dot_number source k ≡ r → with_marks source r ≡ Ok end → (at < end) × (end ≤ length source)
    by_patch (Err i) k lt high is h = absurd (cc)
    by_patch (Ok n) k lt high is h =
        let patch = number_within source k n high is in
        let pre = mark_within 45 source n patch.1 in
        let build = mark_within 43 source (marked 45 source n) pre.1 in
        let same = same_place (marked 43 source (marked 45 source n)) end h in
        let a = patch.0 in
        let b = pre.0 in
        let c = build.0 in
        let d = build.1 in
        (omega arith, omega arith)

    by_minor : (r : Result ℕ ℕ) → dot_number source at ≡ r → with_marks source (patch_number source r) ≡ Ok end → (at < end) × (end ≤ length source)
    by_minor (Err i) is h = absurd (cc)
    by_minor (Ok k) is h =
        let minor = number_within source at k le is in
        by_patch (dot_number source k) k minor.0 minor.1 refl h
