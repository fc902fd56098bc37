-- Lent texts that are seen one by one, each with its place.
use Rattle.std.proofs.Common.{◌≡◌, ℕ, ◌<◌, ◌+◌, cond, false, List, [], ◌∷◌, ◌++◌, length, take, Option, Some, None, nat_eq, get_or, inl, inr, sym, ap, ◌∙◌, arith, length-take}
use Rattle.wit_syntax.proofs.Common.{AllDiffer, IsRepeatAt, at_either, at_prefix, at_seam, at_take, bytes_eq, get_or_from_slice_get, map, name_cases, name_itself, option_map, pointwise, slice_get, slice_get-get_or, slice_get-map, slice_get_within, take_more, update}
use denote.Ref.{Bor}

-- exactly these texts have a place, each its own
pub record ArePlaced (texts : List (List ℕ)) (place : List ℕ → Option ℕ) : Type 0 where
  pub present : (text : List ℕ) (i : ℕ) → place text ≡ Some i → slice_get texts i ≡ Some text
  pub has : (i : ℕ) (text : List ℕ) → slice_get texts i ≡ Some text → place text ≡ Some i

-- one text more
placed_more : (texts : List (List ℕ)) (old new : List ℕ → Option ℕ) (text : List ℕ) → ArePlaced texts old → old text ≡ None →
    ((q : List ℕ) → new q ≡ update bytes_eq old text (Some (length texts)) q) → ArePlaced (texts ++ text ∷ []) new
placed_more texts old new text is none gives = record {
  present = λ q i h. elim (name_cases text q) [
    | inl same ↦ (
        let found : Some (length texts) ≡ Some i = sym (here q same) ∙ h in
        let at : length texts ≡ i = cc in
        let turned : q ≡ text = sym same in
        rw (← at, turned) (at_seam texts text))
    | inr other ↦ at_prefix texts (text ∷ []) i q (is.present q i (sym (there q other) ∙ h))
  ];
  has = λ i q h. elim (at_either texts text i q h) [
    | inl old_one ↦ elim (name_cases text q) [
      | inl same ↦ absurd (let wrong : Some i ≡ None = sym (is.has i q old_one) ∙ ap old (sym same) ∙ none in let f : ⊥ = cc in f)
      | inr other ↦ there q other ∙ is.has i q old_one
    ]
    | inr last ↦ here q (sym last.1) ∙ ap Some (sym last.0)
  ];
}
  where
    here : (q : List ℕ) → text ≡ q → new q ≡ Some (length texts)
    here q same = gives q ∙ ap (λ b. cond b (Some (length texts)) (old q)) (ap (pointwise nat_eq text) (sym same) ∙ name_itself text)

    there : (q : List ℕ) → pointwise nat_eq text q ≡ false → new q ≡ old q
    there q other = gives q ∙ ap (λ b. cond b (Some (length texts)) (old q)) other

-- texts with a place each differ
pub placed_differ : (texts : List (List ℕ)) (place : List ℕ → Option ℕ) → ArePlaced texts place → AllDiffer texts
placed_differ texts place is = record { differ = λ i j x ati atj. (let same : Some i ≡ Some j = sym (is.has i x ati) ∙ is.has j x atj in cc) }

abbrev pub texts_of : List (Bor (List ℕ)) → List (List ℕ)
texts_of ts = map (λ (t : Bor (List ℕ)). t.now) ts

pub text-at : (ts : List (Bor (List ℕ))) (i : ℕ) (d : Bor (List ℕ)) → i < length ts → slice_get (texts_of ts) i ≡ Some (get_or ts i d).now
text-at ts i d lt = slice_get-map (λ (t : Bor (List ℕ)). t.now) ts i ∙ ap (option_map (λ (t : Bor (List ℕ)). t.now)) (slice_get-get_or ts i d lt)

take-next : (xs : List (List ℕ)) (i : ℕ) (x : List ℕ) → slice_get xs i ≡ Some x → take (i + 1) xs ≡ take i xs ++ x ∷ []
take-next xs i x h = take_more xs i x (slice_get_within xs i x h) ∙ ap (λ z. take i xs ++ z ∷ []) (get_or_from_slice_get xs i x x h)

-- one that was seen before
pub seen-again : (ts : List (Bor (List ℕ))) (place : List ℕ → Option ℕ) (i earlier : ℕ) (d : Bor (List ℕ)) → ArePlaced (take i (texts_of ts)) place → i < length ts → Some earlier ≡ place (get_or ts i d).now → IsRepeatAt (texts_of ts) earlier i
seen-again ts place i earlier d is lt found =
    let text = (get_or ts i d).now in
    let there = at_take (texts_of ts) i earlier text (is.present text earlier (sym found)) in
    record { x = text; before = there.1; at_first = there.0; at_second = text-at ts i d lt }

-- one that was not
pub seen-next : (ts : List (Bor (List ℕ))) (old new : List ℕ → Option ℕ) (i : ℕ) (d : Bor (List ℕ)) → ArePlaced (take i (texts_of ts)) old → i < length ts → None ≡ old (get_or ts i d).now →
    ((q : List ℕ) → new q ≡ update bytes_eq old (get_or ts i d).now (Some i) q) → ArePlaced (take (i + 1) (texts_of ts)) new
seen-next ts old new i d is lt none more =
    let text = (get_or ts i d).now in
    let within = slice_get_within (texts_of ts) i text (text-at ts i d lt) in
    let count : length (take i (texts_of ts)) ≡ i = omega (arith, length-take i (texts_of ts)) in
    rw (take-next (texts_of ts) i text (text-at ts i d lt)) (placed_more (take i (texts_of ts)) old new text is (sym none) (λ q. rw count (more q)))
