-- Sources of pieces, two at a time.
use Rattle.std.proofs.Common.{Bor, ◌≡◌, ℕ, ◌*◌, ◌%◌, ◌+◌, ◌≤◌, ◌<◌, List, [], ◌∷◌, ◌++◌, ◌-◌, drop, length, length-drop, map, slice_index_or, take, take_all, refl, sym, ap, ◌∙◌, subst, append_assoc, append-nil, arith}
use Rattle.std.proofs.lemmas.List.{length-map}
use Rattle.std.proofs.lemmas.List.Sums.{sum_by-append}
use Rattle.wit_type_tree.specs.declared.error.ParseError.{ParseError}
use Rattle.wit_lex.specs.declared.source.Source.{Source}
use Rattle.wit_lex.specs.Sources.{IsSource, IsTooLarge, space}
use Rattle.wit_bundle.specs.Apart.{ArePieces, AreParts, flat, pairs_of}
use Rattle.wit_bundle.specs.Laid.{AreLaid, room}
use Rattle.wit_bundle.proofs.Laying.{laid_more, room_fits, room_more, space_room, too_large_more}

-- the sources of the pieces up to some that are left
pub record ArePaired (pieces rest : List (List ℕ)) (sources : List Source) : Type 0 where
  pub done : List (List ℕ × List ℕ)
  pub laid : AreLaid done sources
  pub fits : room done ≤ 4294967295
  pub whole : pairs_of pieces ≡ done ++ pairs_of rest

pub paired_rest : (pieces rest other : List (List ℕ)) (sources : List Source) → ArePaired pieces rest sources → rest ≡ other → ArePaired pieces other sources
paired_rest pieces rest other sources p same = subst (λ r. ArePaired pieces r sources) same p

-- what is left after two pieces, as it is cut off
pub paired_after : (pieces : List (List ℕ)) (xs : List (Bor (List ℕ))) (sources : List Source) → ArePaired pieces (map (λ (p : Bor (List ℕ)). p.now) (drop 2 xs)) sources →
    ArePaired pieces (map (λ (p : Bor (List ℕ)). p.now) (take (length xs - 2) (drop 2 xs))) sources
paired_after pieces xs sources p =
    let all : take (length xs - 2) (drop 2 xs) ≡ drop 2 xs = take_all (length xs - 2) (drop 2 xs) (rw (length-drop 2 xs) (omega arith)) in
    paired_rest pieces _ _ sources p (ap (map (λ (p : Bor (List ℕ)). p.now)) (sym all))

pub paired_more : (pieces : List (List ℕ)) (path text : List ℕ) (rest : List (List ℕ)) (sources more : List Source) (s : Source) → ArePaired pieces (path ∷ text ∷ rest) sources → IsSource path text (space sources) s → more ≡ sources ++ s ∷ [] →
    space sources + length text + 1 ≤ 4294967295 → ArePaired pieces rest more
paired_more pieces path text rest sources more s p is e fits = record {
  done = p.done ++ (path, text) ∷ [];
  laid = laid_more sources more p.done path text s p.laid is e;
  fits = room_fits sources p.done path text p.laid fits;
  whole = p.whole ∙ sym (append_assoc p.done ((path, text) ∷ []) (pairs_of rest));
}

-- a list of texts with two at its prefix
pub first_two : (xs : List (Bor (List ℕ))) (d : Bor (List ℕ)) → 2 ≤ length xs → map (λ (p : Bor (List ℕ)). p.now) xs ≡ (slice_index_or xs 0 d).now ∷ (slice_index_or xs 1 d).now ∷ map (λ (p : Bor (List ℕ)). p.now) (drop 2 xs)
first_two [] d some = absurd (omega arith)
first_two (x ∷ []) d some = absurd (omega arith)
first_two (x ∷ y ∷ xs) d some = refl

few_left : (xs : List (Bor (List ℕ))) → length xs < 2 → pairs_of (map (λ (p : Bor (List ℕ)). p.now) xs) ≡ []
few_left [] few = refl
few_left (x ∷ []) few = refl
few_left (x ∷ y ∷ xs) few = absurd (omega arith)

-- where fewer than two are left, they are the sources of all pieces
pub paired_all : (pieces : List (List ℕ)) (xs : List (Bor (List ℕ))) (sources : List Source) → ArePaired pieces (map (λ (p : Bor (List ℕ)). p.now) xs) sources → length xs < 2 →
    AreLaid (pairs_of pieces) sources × (room (pairs_of pieces) ≤ 4294967295)
paired_all pieces xs sources p few =
    let whole : pairs_of pieces ≡ p.done = p.whole ∙ ap (λ r. p.done ++ r) (few_left xs few) ∙ append-nil p.done in
    (subst (λ ps. AreLaid ps sources) (sym whole) p.laid, subst (λ ps. room ps ≤ 4294967295) (sym whole) p.fits)

pub paired_large : (pieces : List (List ℕ)) (path text : List ℕ) (rest : List (List ℕ)) (sources : List Source) (e : ParseError) → ArePaired pieces (path ∷ text ∷ rest) sources → IsTooLarge (space sources + length text + 1) e → IsTooLarge (room (pairs_of pieces)) e
paired_large pieces path text rest sources e p large =
    let before : space sources ≡ room p.done = space_room sources p.done p.laid in
    let whole : room (pairs_of pieces) ≡ room p.done + room ((path, text) ∷ pairs_of rest) = ap room p.whole ∙ sum_by-append (λ s. length s.1 + 1) p.done ((path, text) ∷ pairs_of rest) in
    let first : room ((path, text) ∷ pairs_of rest) ≡ length text + 1 + room (pairs_of rest) = room_more (path, text) (pairs_of rest) in
    too_large_more (space sources + length text + 1) (room (pairs_of pieces)) e large (omega arith)

-- an even number of pieces is that of its pairs
pub pairs_whole : (pieces : List (List ℕ)) → length pieces % 2 ≡ 0 → flat (pairs_of pieces) ≡ pieces
pairs_whole [] even = refl
pairs_whole (p ∷ []) even = absurd (let f : ⊥ = cc in f)
pairs_whole (p ∷ t ∷ rest) even = ap (λ r. p ∷ t ∷ r) (pairs_whole rest (omega arith))

flat_length : (parts : List (List ℕ × List ℕ)) → length (flat parts) ≡ length parts * 2
flat_length [] = refl
flat_length (p ∷ parts) = let rest = flat_length parts in omega arith

-- the pieces of sources are even
pub parts_even : (bytes lens : List ℕ) (pieces : List (List ℕ)) → ArePieces bytes lens pieces → (length pieces % 2 ≡ 0 → ⊥) → (parts : List (List ℕ × List ℕ)) → AreParts bytes lens parts → ⊥
parts_even bytes lens pieces are odd parts is =
    let one : length lens ≡ length pieces = ap length (sym are.lengths) ∙ length-map pieces length in
    let other : length lens ≡ length (flat parts) = ap length (sym is.lengths) ∙ length-map (flat parts) length in
    let double = flat_length parts in
    odd (omega arith)
