-- Texts one after the other are distinguished by their lengths.
use Rattle.std.proofs.Common.{◌≡◌, ℕ, suc, ◌+◌, ◌<◌, ◌≤◌, List, [], ◌∷◌, ◌++◌, length, take, drop, map, refl, sym, ap, ◌∙◌, subst, append_assoc, append-nil, arith, length-take-le, slice_index}
use Rattle.std.specs.Prelude.{All, IsUtf8}
use Rattle.std.specs.List.{concat}
use Rattle.std.proofs.Math.Seq.{take-append_seam, drop-append_seam}
use Rattle.std.proofs.lemmas.List.{drop_all, drop_more, length-append, map-append, take-append-drop}
use Rattle.std.proofs.lemmas.List.Elements.{All-append, All-cons, All-nil}
use Rattle.std.proofs.lemmas.List.Folds.{concat-append}
use Rattle.wit_bundle.specs.Apart.{ArePieces}

-- where texts of one length begin two lists, they are one, and so are the rests
prefix_same : (xs ys us vs : List ℕ) → length xs ≡ length ys → xs ++ us ≡ ys ++ vs → (xs ≡ ys) × (us ≡ vs)
prefix_same xs ys us vs long same = (
  sym (take-append_seam xs us) ∙ (ap (λ n. take n (xs ++ us)) long ∙ (ap (take (length ys)) same ∙ take-append_seam ys vs)),
  sym (drop-append_seam xs us) ∙ (ap (λ n. drop n (xs ++ us)) long ∙ (ap (drop (length ys)) same ∙ drop-append_seam ys vs)),
)

-- pieces that begin with the lengths and the bytes of others begin with these
pub pieces_after : (ps ws : List (List ℕ)) (rest lens : List ℕ) → concat ws ≡ concat ps ++ rest → map length ws ≡ map length ps ++ lens →
    (vs : List (List ℕ)) × (ws ≡ ps ++ vs) × (concat vs ≡ rest) × (map length vs ≡ lens)
pieces_after [] ws rest lens bytes long = (ws, refl, bytes, long)
pieces_after (p ∷ ps) [] rest lens bytes long = absurd (let f : ⊥ = cc in f)
pieces_after (p ∷ ps) (w ∷ ws) rest lens bytes long =
    let first : length w ≡ length p = cc in
    let others : map length ws ≡ map length ps ++ lens = cc in
    let apart = prefix_same w p (concat ws) (concat ps ++ rest) first (bytes ∙ append_assoc p (concat ps) rest) in
    let it = pieces_after ps ws rest lens apart.1 others in
    (it.0, ap (λ x. x ∷ ws) apart.0 ∙ ap (λ l. p ∷ l) it.1, it.2, it.3)

-- pieces that are cut off the prefix of bytes, as many as there are lengths before a place
pub record AreCut (bytes lens : List ℕ) (pieces : List (List ℕ)) (rest : List ℕ) (k : ℕ) : Type 0 where
  pub joined : bytes ≡ concat pieces ++ rest
  pub lengths : lens ≡ map length pieces ++ drop k lens
  pub texts : All IsUtf8 pieces

pub cut_more : (bytes lens : List ℕ) (pieces : List (List ℕ)) (rest : List ℕ) (k n : ℕ) → AreCut bytes lens pieces rest k → drop k lens ≡ n ∷ drop (k + 1) lens → n ≤ length rest → IsUtf8 (take n rest) →
    AreCut bytes lens (pieces ++ take n rest ∷ []) (drop n rest) (k + 1)
cut_more bytes lens pieces rest k n cut next fits text = record {
  joined = cut.joined ∙ ap (λ r. concat pieces ++ r) (sym (take-append-drop n rest)) ∙ sym (append_assoc (concat pieces) (take n rest) (drop n rest))
      ∙ ap (λ p. p ++ drop n rest) (sym (concat-append pieces (take n rest ∷ []) ∙ ap (λ p. concat pieces ++ p) (append-nil (take n rest))));
  lengths = cut.lengths ∙ ap (λ r. map length pieces ++ r) (next ∙ ap (λ m. m ∷ drop (k + 1) lens) (sym (length-take-le n rest fits)))
      ∙ sym (append_assoc (map length pieces) (length (take n rest) ∷ []) (drop (k + 1) lens)) ∙ ap (λ p. p ++ drop (k + 1) lens) (sym (map-append length pieces (take n rest ∷ [])));
  texts = All-append IsUtf8 pieces (take n rest ∷ []) cut.texts (All-cons IsUtf8 (take n rest) [] text (All-nil IsUtf8));
}

pub cut_on : (bytes lens : List ℕ) (pieces more : List (List ℕ)) (rest rest_after : List ℕ) (k n : ℕ) (piece text : List ℕ) → AreCut bytes lens pieces rest k → drop k lens ≡ n ∷ drop (k + 1) lens → n ≤ length rest →
    piece ≡ take n rest → rest_after ≡ drop n rest → text ≡ piece → IsUtf8 piece → more ≡ pieces ++ text ∷ [] → AreCut bytes lens more rest_after (k + 1)
cut_on bytes lens pieces more rest rest_after k n piece text cut next fits prefix back same utf8 e =
    let all : more ≡ pieces ++ take n rest ∷ [] = e ∙ ap (λ t. pieces ++ t ∷ []) (same ∙ prefix) in
    rw (all, back) (cut_more bytes lens pieces rest k n cut next fits (subst IsUtf8 prefix utf8))

-- the pieces after those that are cut off
after_cut : (bytes lens : List ℕ) (pieces : List (List ℕ)) (rest : List ℕ) (k : ℕ) → AreCut bytes lens pieces rest k → (ws : List (List ℕ)) → ArePieces bytes lens ws →
    (vs : List (List ℕ)) × (ws ≡ pieces ++ vs) × (concat vs ≡ rest) × (map length vs ≡ drop k lens)
after_cut bytes lens pieces rest k cut ws are = pieces_after pieces ws rest (drop k lens) (are.joined ∙ cut.joined) (are.lengths ∙ cut.lengths)

-- the first of the lengths that are left
first_left : (vs : List (List ℕ)) (rest : List ℕ) (n : ℕ) (ls : List ℕ) → concat vs ≡ rest → map length vs ≡ n ∷ ls → (v : List ℕ) × (us : List (List ℕ)) × (vs ≡ v ∷ us) × (length v ≡ n) × (v ++ concat us ≡ rest)
first_left [] rest n ls bytes long = absurd (let f : ⊥ = cc in f)
first_left (v ∷ us) rest n ls bytes long = (v, us, refl, (let e : length v ≡ n = cc in e), bytes)

pub too_short : (bytes lens : List ℕ) (pieces : List (List ℕ)) (rest : List ℕ) (k n : ℕ) → AreCut bytes lens pieces rest k → drop k lens ≡ n ∷ drop (k + 1) lens → length rest < n → (ws : List (List ℕ)) → ArePieces bytes lens ws → ⊥
too_short bytes lens pieces rest k n cut next short ws are =
    let it = after_cut bytes lens pieces rest k cut ws are in
    let one = first_left it.0 rest n (drop (k + 1) lens) it.2 (it.3 ∙ next) in
    let whole : length one.0 + length (concat one.1) ≡ length rest = sym (length-append one.0 (concat one.1)) ∙ ap length one.4 in
    let first = one.3 in
    absurd (omega arith)

last_of : {X : Type 0} (P : X → Type 0) (xs : List X) (y : X) (ys : List X) → All P (xs ++ y ∷ ys) → P y
last_of P [] y ys all = all 0 y (omega arith)
last_of P (x ∷ xs) y ys all = last_of P xs y ys (λ k d lt. all (suc k) d (omega arith))

pub no_text : (bytes lens : List ℕ) (pieces : List (List ℕ)) (rest : List ℕ) (k n : ℕ) → AreCut bytes lens pieces rest k → drop k lens ≡ n ∷ drop (k + 1) lens → (IsUtf8 (take n rest) → ⊥) → (ws : List (List ℕ)) → ArePieces bytes lens ws → ⊥
no_text bytes lens pieces rest k n cut next none ws are =
    let it = after_cut bytes lens pieces rest k cut ws are in
    let one = first_left it.0 rest n (drop (k + 1) lens) it.2 (it.3 ∙ next) in
    let whole : ws ≡ pieces ++ one.0 ∷ one.1 = it.1 ∙ ap (λ v. pieces ++ v) one.2 in
    let here : one.0 ≡ take n rest = sym (take-append_seam one.0 (concat one.1)) ∙ (ap (λ m. take m (one.0 ++ concat one.1)) one.3 ∙ ap (take n) one.4) in
    none (subst IsUtf8 here (last_of IsUtf8 pieces one.0 one.1 (subst (All IsUtf8) whole are.texts)))

pub too_long : (bytes lens : List ℕ) (pieces : List (List ℕ)) (rest : List ℕ) (k : ℕ) → AreCut bytes lens pieces rest k → length lens ≤ k → 0 < length rest → (ws : List (List ℕ)) → ArePieces bytes lens ws → ⊥
too_long bytes lens pieces rest k cut end some ws are =
    let it = after_cut bytes lens pieces rest k cut ws are in
    let none : rest ≡ [] = nothing_left it.0 rest it.2 (it.3 ∙ drop_all k lens end) in
    let empty : length rest ≡ 0 = ap length none in
    absurd (omega arith)
  where
    nothing_left : (vs : List (List ℕ)) (rest : List ℕ) → concat vs ≡ rest → map length vs ≡ [] → rest ≡ []
    nothing_left [] rest bytes long = sym bytes
    nothing_left (v ∷ vs) rest bytes long = absurd (let f : ⊥ = cc in f)

-- a length and those after it
pub length_at : (lens : List ℕ) (k : ℕ) → k < length lens → drop k lens ≡ slice_index lens k ∷ drop (k + 1) lens
length_at lens k lt = drop_more lens k 0 lt
