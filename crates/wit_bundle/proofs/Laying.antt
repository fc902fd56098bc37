-- Sources one after the other, one more at a time.
use Rattle.std.proofs.Common.{◌≡◌, ℕ, ◌+◌, ◌≤◌, List, [], ◌∷◌, ◌++◌, Option, Some, None, length, string_bytes, refl, sym, ap, ap₂, ◌∙◌, append_assoc, arith}
use Rattle.std.proofs.lemmas.List.Sums.{sum_by-append, sum_by-cons}
use Rattle.wit_type_tree.specs.declared.error.ParseError.{ParseError}
use Rattle.wit_type_tree.specs.declared.error.ParseErrorKind.{ParseErrorKind}
use Rattle.wit_type_tree.specs.declared.error.ParseErrorKind.TheVariants.{Syntax, ItemNotFound, TypeCycle, OutOfMemory}
use Rattle.wit_lex.specs.declared.source.Source.{Source}
use Rattle.wit_lex.specs.Sources.{IsSource, IsTooLarge, ReportsTooLarge, space, as_stated, stated_of}
use Rattle.wit_bundle.specs.Bundle.{mark, sources_of}
use Rattle.wit_bundle.specs.Laid.{AreLaid, laid_out, room}
use Rattle.wit_bundle.specs.SplitText.{parts, sources_after}

abbrev total : List (List ℕ × List ℕ × ℕ) → ℕ
total [] = 0
total (t ∷ ts) = length t.1 + 1 + total ts

space_total : (sources : List Source) → space sources ≡ total (as_stated sources)
space_total [] = refl
space_total (s ∷ sources) = sum_by-cons (λ t. length (string_bytes t.contents) + 1) s sources ∙ ap (λ n. length (string_bytes s.contents) + 1 + n) (space_total sources)

pub room_more : (p : List ℕ × List ℕ) (pairs : List (List ℕ × List ℕ)) → room (p ∷ pairs) ≡ length p.1 + 1 + room pairs
room_more p pairs = sum_by-cons (λ s. length s.1 + 1) p pairs

total_room : (place : ℕ) (pairs : List (List ℕ × List ℕ)) → total (laid_out place pairs) ≡ room pairs
total_room place [] = refl
total_room place (p ∷ pairs) = ap (λ n. length p.1 + 1 + n) (total_room (place + (length p.1 + 1)) pairs) ∙ sym (room_more p pairs)

-- sources take the places that their texts do
pub space_room : (sources : List Source) (pairs : List (List ℕ × List ℕ)) → AreLaid pairs sources → space sources ≡ room pairs
space_room sources pairs laid = space_total sources ∙ (ap total laid.are ∙ total_room 0 pairs)

stated_more : (sources : List Source) (s : Source) → as_stated (sources ++ s ∷ []) ≡ as_stated sources ++ stated_of s ∷ []
stated_more [] s = refl
stated_more (t ∷ sources) s = ap (λ ts. stated_of t ∷ ts) (stated_more sources s)

laid_out_more : (place : ℕ) (pairs : List (List ℕ × List ℕ)) (path text : List ℕ) → laid_out place (pairs ++ (path, text) ∷ []) ≡ laid_out place pairs ++ (path, text, place + room pairs) ∷ []
laid_out_more place [] path text =
    let here : place ≡ place + 0 = omega arith in
    ap (λ n. (path, text, n) ∷ []) here
laid_out_more place (p ∷ pairs) path text =
    let rest_after : place + (length p.1 + 1) + room pairs ≡ place + room (p ∷ pairs) = omega (arith, room_more p pairs) in
    ap (λ ts. (p.0, p.1, place) ∷ ts) (laid_out_more (place + (length p.1 + 1)) pairs path text ∙ ap (λ n. laid_out (place + (length p.1 + 1)) pairs ++ (path, text, n) ∷ []) rest_after)

stated_as : (path text : List ℕ) (place : ℕ) (s : Source) → IsSource path text place s → stated_of s ≡ (path, text, place)
stated_as path text place s is = ap (λ p. (p, string_bytes s.contents, s.offset)) is.path_bytes ∙ (ap (λ t. (path, t, s.offset)) is.contents ∙ ap (λ n. (path, text, n)) is.offset)

-- a source more
pub laid_more : (sources more : List Source) (pairs : List (List ℕ × List ℕ)) (path text : List ℕ) (s : Source) → AreLaid pairs sources → IsSource path text (space sources) s → more ≡ sources ++ s ∷ [] →
    AreLaid (pairs ++ (path, text) ∷ []) more
laid_more sources more pairs path text s laid is e = record {
  are = ap as_stated e ∙ (stated_more sources s ∙ (ap₂ (λ ts t. ts ++ t ∷ []) laid.are (stated_as path text (space sources) s is ∙ ap (λ n. (path, text, n)) (space_room sources pairs laid)) ∙ sym (laid_out_more 0 pairs path text ∙ ap (λ n. laid_out 0 pairs ++ (path, text, n) ∷ []) (none_before (room pairs)))));
}
  where
    none_before : (n : ℕ) → 0 + n ≡ n
    none_before n = omega arith

-- and it fits where the next place is in range
pub room_fits : (sources : List Source) (pairs : List (List ℕ × List ℕ)) (path text : List ℕ) → AreLaid pairs sources → space sources + length text + 1 ≤ 4294967295 → room (pairs ++ (path, text) ∷ []) ≤ 4294967295
room_fits sources pairs path text laid fits =
    let before : space sources ≡ room pairs = space_room sources pairs laid in
    let last : room ((path, text) ∷ []) ≡ length text + 1 + room [] = room_more (path, text) [] in
    let whole : room (pairs ++ (path, text) ∷ []) ≡ room pairs + room ((path, text) ∷ []) = sum_by-append (λ s. length s.1 + 1) pairs ((path, text) ∷ []) in
    let none : room [] ≡ 0 = refl in
    omega arith

gives_more : (m n rule : ℕ) (kind : ParseErrorKind) → ReportsTooLarge m rule kind → m ≤ n → ReportsTooLarge n rule kind
gives_more m n rule (Syntax span message) h le = (h.0, omega (arith, h.1), h.2, h.3, h.4)
gives_more m n rule (ItemNotFound span name kind hint) h le = h
gives_more m n rule (TypeCycle span name kind) h le = h
gives_more m n rule OutOfMemory h le = h

-- what is too large stays so with more
pub too_large_more : (m n : ℕ) (e : ParseError) → IsTooLarge m e → m ≤ n → IsTooLarge n e
too_large_more m n e h le = record { gives = gives_more m n e.rule e.kind h.gives le }

-- the sources from a mark on: the one that its line names, and those after
pub after_more : (rest_after path contents text : List ℕ) (next : Option (List ℕ)) → parts (mark ++ rest_after) ≡ ([], (path, (parts contents).0) ∷ (parts contents).1) → parts contents ≡ (text, sources_after next) →
    sources_after (Some rest_after) ≡ (path, text) ∷ sources_after next
after_more rest_after path contents text next e f = ap (λ p. p.1) e ∙ ap (λ p. (path, p.0) ∷ p.1) f

-- the sources of a text up to a mark, and from there on
pub record AreSplit (text : List ℕ) (rest : Option (List ℕ)) (sources : List Source) : Type 0 where
  pub pairs : List (List ℕ × List ℕ)
  pub laid : AreLaid pairs sources
  pub fits : room pairs ≤ 4294967295
  pub whole : sources_of text ≡ pairs ++ sources_after rest

pub split_more : (text rest_after path contents body : List ℕ) (next : Option (List ℕ)) (sources more : List Source) (s : Source) → AreSplit text (Some rest_after) sources →
    parts (mark ++ rest_after) ≡ ([], (path, (parts contents).0) ∷ (parts contents).1) → parts contents ≡ (body, sources_after next) → IsSource path body (space sources) s → more ≡ sources ++ s ∷ [] →
    space sources + length body + 1 ≤ 4294967295 → AreSplit text next more
split_more text rest_after path contents body next sources more s split e f is g fits = record {
  pairs = split.pairs ++ (path, body) ∷ [];
  laid = laid_more sources more split.pairs path body s split.laid is g;
  fits = room_fits sources split.pairs path body split.laid fits;
  whole = split.whole ∙ (ap (λ ps. split.pairs ++ ps) (after_more rest_after path contents body next e f) ∙ sym (append_assoc split.pairs ((path, body) ∷ []) (sources_after next)));
}

pub more_large : (text rest_after path contents body : List ℕ) (next : Option (List ℕ)) (sources : List Source) (fault : ParseError) → AreSplit text (Some rest_after) sources →
    parts (mark ++ rest_after) ≡ ([], (path, (parts contents).0) ∷ (parts contents).1) → parts contents ≡ (body, sources_after next) → IsTooLarge (space sources + length body + 1) fault → IsTooLarge (room (sources_of text)) fault
more_large text rest_after path contents body next sources fault split e f large =
    let before : space sources ≡ room split.pairs = space_room sources split.pairs split.laid in
    let more : room ((path, body) ∷ sources_after next) ≡ length body + 1 + room (sources_after next) = room_more (path, body) (sources_after next) in
    let whole : room (sources_of text) ≡ room split.pairs + room ((path, body) ∷ sources_after next) =
    ap room (split.whole ∙ ap (λ ps. split.pairs ++ ps) (after_more rest_after path contents body next e f)) ∙ sum_by-append (λ s. length s.1 + 1) split.pairs ((path, body) ∷ sources_after next) in
    too_large_more (space sources + length body + 1) (room (sources_of text)) fault large (omega arith)

-- how much comes after a mark, with the mark
abbrev pub left_of : Option (List ℕ) → ℕ
left_of None = 0
left_of (Some rest_after) = length rest_after + 1
