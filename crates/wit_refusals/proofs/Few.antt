-- Texts that are compared in pairs.
use Rattle.std.proofs.Common.{◌≡◌, ℕ, ◌<◌, ◌+◌, true, false, List, Some, nat_eq, take, length, get_or, inl, inr, sym, ap, ◌∙◌, subst, arith}
use Rattle.wit_syntax.proofs.Common.{AllDiffer, IsRepeatAt, at_take, cases_lt, name_equal, name_itself, pointwise, same_Some, slice_get, slice_get-take}
use denote.Ref.{Bor}
use Rattle.wit_refusals.proofs.Seeing.{texts_of, text-at}

-- two places with one text
pub pair_alike : (ts : List (Bor (List ℕ))) (i j : ℕ) (d e : Bor (List ℕ)) → i < j → j < length ts → pointwise nat_eq (get_or ts i d).now (get_or ts j e).now ≡ true → IsRepeatAt (texts_of ts) i j
pair_alike ts i j d e lt within same = record {
  x = (get_or ts i d).now;
  before = lt;
  at_first = text-at ts i d (omega arith);
  at_second = text-at ts j e within ∙ ap Some (sym (name_equal (get_or ts i d).now (get_or ts j e).now same));
}

-- two places with two
pub pair_apart : (ts : List (Bor (List ℕ))) (i j : ℕ) (d e : Bor (List ℕ)) → i < length ts → j < length ts → pointwise nat_eq (get_or ts i d).now (get_or ts j e).now ≡ false → IsRepeatAt (texts_of ts) i j → ⊥
pair_apart ts i j d e first second apart r =
    let a : (get_or ts i d).now ≡ r.x = same_Some (get_or ts i d).now r.x (sym (text-at ts i d first) ∙ r.at_first) in
    let b : (get_or ts j e).now ≡ r.x = same_Some (get_or ts j e).now r.x (sym (text-at ts j e second) ∙ r.at_second) in
    let one : pointwise nat_eq (get_or ts i d).now (get_or ts j e).now ≡ true = ap (λ t. pointwise nat_eq t (get_or ts j e).now) a ∙ ap (pointwise nat_eq r.x) b ∙ name_itself r.x in
    let f : ⊥ = cc in
    f

-- one place more that is none of a text
pub none_more : {X : Type 0} (xs : List X) (n place : ℕ) → ((i : ℕ) → i < n → IsRepeatAt xs i place → ⊥) → (IsRepeatAt xs n place → ⊥) → (i : ℕ) → i < n + 1 → IsRepeatAt xs i place → ⊥
none_more xs n place before last i lt r = elim (cases_lt i n) [
  | inl less ↦ before i less r
  | inr end ↦ (
      let is : i ≡ n = omega arith in
      last (subst (λ k. IsRepeatAt xs k place) is r))
]

-- one text more
pub differ_more : {X : Type 0} (xs : List X) (n : ℕ) → AllDiffer (take n xs) → ((first : ℕ) → IsRepeatAt xs first n → ⊥) → AllDiffer (take (n + 1) xs)
differ_more xs n d none = record {
  differ = λ i j x at_i at_j. (
      let p = at_take xs (n + 1) i x at_i in
      let q = at_take xs (n + 1) j x at_j in
      elim (cases_lt i n) [
        | inl lt ↦ elim (cases_lt j n) [
          | inl less ↦ d.differ i j x (slice_get-take xs n i lt ∙ p.0) (slice_get-take xs n j less ∙ q.0)
          | inr last ↦ (
              let is : j ≡ n = omega (arith, q.1) in
              absurd (none i (record { x = x; before = lt; at_first = p.0; at_second = ap (slice_get xs) (sym is) ∙ q.0 })))
        ]
        | inr last ↦ elim (cases_lt j n) [
          | inl less ↦ (
              let is : i ≡ n = omega (arith, p.1) in
              absurd (none j (record { x = x; before = less; at_first = q.0; at_second = ap (slice_get xs) (sym is) ∙ p.0 })))
          | inr end ↦ omega (arith, p.1, q.1)
        ]
      ]);
}
