-- The line of a refusal is a function of its fault, and of the paths and texts of the sources.
use Rattle.std.proofs.Common.{◌≡◌, ℕ, ◌+◌, ◌-◌, ◌≤◌, zero, suc, false, List, [], ◌∷◌, ◌++◌, length, string_bytes, Option, Some, None, refl, sym, ap, ◌∙◌, subst, true≢false, arith}
use Rattle.wit_items.proofs.Common.{Fault, IsCharBoundary, ItemNotFound, OutOfMemory, ParseError, ParseErrorKind, Span, Syntax, TypeCycle, as_stated, codes, fault_of, map_at, option_map, slice_get, slice_get-map, slice_range}
use Rattle.std.specs.Fmt.{decimal}
use Rattle.wit_lex.specs.declared.source.Source.{Source}
use Rattle.wit_lex.specs.Sources.{IsLocated, IsTooLarge, LiesIn, ReportsTooLarge, stated_of}
use Rattle.wit_bundle.specs.Laid.{AreLaid, laid_out}
use Rattle.wit_listing.specs.ErrorLine.{IsErrorLine, IsPlaceAt, Place, first_line, has_place, place_text}
use Rattle.wit_groups.specs.Groups.{IsUnparsed}
use Rattle.wit_groups.specs.Groups.IsUnparsed.{Alone, TooLarge}
use Rattle.wit_groups.specs.SourceFaults.{HaveFirst, TextHasFirst}
use Rattle.wit_tool.specs.FaultLine.{IsFaultLine, fault_text}
use Rattle.wit_tool.proofs.FaultLines.{line_is}
use Rattle.wit_group_walk.proofs.LaidSources.{alone_laid, one_laid_had, one_of_text}
pub use Rattle.wit_group_walk.proofs.ByPath.{Stated}

-- sources one after the other begin at a place or after it, and no place is in two of them
laid_from : (n : ℕ) (parts : List (List ℕ × List ℕ)) (i : ℕ) (a : Stated) → slice_get (laid_out n parts) i ≡ Some a → n ≤ a.2
laid_from n [] i a here = absurd (let f : ⊥ = cc in f)
laid_from n (p ∷ parts) zero a here = (
    let first : Some (p.0, p.1, n) ≡ Some a = here in
    let same : (p.0, p.1, n) ≡ a = cc in
    let start : n ≡ a.2 = ap (λ (t : Stated). t.2) same in
    omega arith)
laid_from n (p ∷ parts) (suc i) a here = (let later = laid_from (n + (length p.1 + 1)) parts i a here in omega arith)

first_apart : (n : ℕ) (p : List ℕ × List ℕ) (parts : List (List ℕ × List ℕ)) (j : ℕ) (a b : Stated) (at : ℕ) → Some (p.0, p.1, n) ≡ Some a → slice_get (laid_out (n + (length p.1 + 1)) parts) j ≡ Some b → at ≤ a.2 + length a.1 → b.2 ≤ at → ⊥
first_apart n p parts j a b at here there high under = (
    let same : (p.0, p.1, n) ≡ a = cc in
    let start : n ≡ a.2 = ap (λ (t : Stated). t.2) same in
    let size : length p.1 ≡ length a.1 = ap (λ (t : Stated). length t.1) same in
    let past = laid_from (n + (length p.1 + 1)) parts j b there in
    omega arith)

pub one_source : (n : ℕ) (parts : List (List ℕ × List ℕ)) (i j : ℕ) (a b : Stated) (at : ℕ) → slice_get (laid_out n parts) i ≡ Some a → slice_get (laid_out n parts) j ≡ Some b → a.2 ≤ at → at ≤ a.2 + length a.1 → b.2 ≤ at → at ≤ b.2 + length b.1 → a ≡ b
one_source n [] i j a b at here there low high under over = absurd (let f : ⊥ = cc in f)
one_source n (p ∷ parts) zero zero a b at here there low high under over = (
    let one : Some (p.0, p.1, n) ≡ Some a = here in
    let other : Some (p.0, p.1, n) ≡ Some b = there in
    cc)
one_source n (p ∷ parts) zero (suc j) a b at here there low high under over = absurd (first_apart n p parts j a b at here there high under)
one_source n (p ∷ parts) (suc i) zero a b at here there low high under over = absurd (first_apart n p parts i b a at there here over low)
one_source n (p ∷ parts) (suc i) (suc j) a b at here there low high under over = one_source (n + (length p.1 + 1)) parts i j a b at here there low high under over

-- a source of a path and a text
pub stated_at : (parts : List (List ℕ × List ℕ)) (sources : List Source) (i : ℕ) (s : Source) → AreLaid parts sources → slice_get sources i ≡ Some s → slice_get (laid_out 0 parts) i ≡ Some (stated_of s)
stated_at parts sources i s laid here = ap (λ (l : List Stated). slice_get l i) (sym laid.are) ∙ slice_get-map stated_of sources i ∙ ap (option_map stated_of) here

-- is there in others of the same paths and texts
pub other_at : (parts : List (List ℕ × List ℕ)) (sources others : List Source) (i : ℕ) (s : Source) → AreLaid parts sources → AreLaid parts others → slice_get sources i ≡ Some s → (t : Source) × (slice_get others i ≡ Some t) × (stated_of s ≡ stated_of t)
other_at parts sources others i s laid other here =
    let it = map_at stated_of others i (stated_of s) (ap (λ (l : List Stated). slice_get l i) other.are ∙ stated_at parts sources i s laid here) in
    (it.0, it.1, sym it.2)

-- a span in it, and where that is
lies_in : (s t : Source) (span : Span) (path slice : List ℕ) → stated_of s ≡ stated_of t → IsLocated s span path slice → LiesIn t span
lies_in s t span path slice same l = record {
  first = subst (λ (x : Stated). x.2 ≤ span.start) same l.first;
  order = l.order;
  low = subst (λ (x : Stated). IsCharBoundary x.1 (span.start - x.2)) same l.low;
  high = subst (λ (x : Stated). IsCharBoundary x.1 (span.end - x.2)) same l.high;
}

start_within : (s : Source) (span : Span) (path slice : List ℕ) → IsLocated s span path slice → span.start ≤ s.offset + length (string_bytes s.contents)
start_within s span path slice l = (let order = l.order in let within = l.within in omega arith)

-- the words for a path and a slice
abbrev words_at : (path slice : List ℕ) → List ℕ
words_at path slice = path ++ (codes " \"" ++ (first_line slice ++ codes "\""))

located_once : (s t : Source) (span : Span) (path slice other part : List ℕ) → stated_of s ≡ stated_of t → IsLocated s span path slice → IsLocated t span other part → words_at path slice ≡ words_at other part
located_once s t span path slice other part same l m =
    let paths : path ≡ other = l.path_bytes ∙ ap (λ (x : Stated). x.0) same ∙ sym m.path_bytes in
    let slices : slice ≡ part = l.part ∙ ap (λ (x : Stated). slice_range x.1 (span.start - x.2) (span.end - x.2)) same ∙ sym m.part in
    ap (λ (p : List ℕ). words_at p slice) paths ∙ ap (λ (q : List ℕ). words_at other q) slices

-- a place is stated once
module _ (parts : List (List ℕ × List ℕ)) (sources others : List Source) (laid : AreLaid parts sources) (also : AreLaid parts others) (rule : ℕ) (span : Span) where
  one_place : (a b : Option Place) → IsPlaceAt sources rule span a → IsPlaceAt others rule span b → place_text a ≡ place_text b
  one_place None None it other = refl
  one_place None (Some q) it other = (
      let s = other_at parts others sources other.1 other.2 also laid other.3 in
      absurd (it other.0 other.1 s.0 s.1 (lies_in other.2 s.0 span q.0.now q.1.now s.2 other.4)))
  one_place (Some p) None it other = (
      let t = other_at parts sources others it.1 it.2 laid also it.3 in
      absurd (other it.0 it.1 t.0 t.1 (lies_in it.2 t.0 span p.0.now p.1.now t.2 it.4)))
  one_place (Some p) (Some q) it other =
      let s = it.2 in
      let t = other.2 in
      let here = stated_at parts sources it.1 s laid it.3 in
      let there = stated_at parts others other.1 t also other.3 in
      let same : stated_of s ≡ stated_of t = one_source 0 parts it.1 other.1 (stated_of s) (stated_of t) span.start here there it.4.first (start_within s span p.0.now p.1.now it.4) other.4.first (start_within t span q.0.now q.1.now other.4) in
      located_once s t span p.0.now p.1.now q.0.now q.1.now same it.4 other.4

-- a number that has no place
nowhere : (sources : List Source) (rule : ℕ) (span : Span) (place : Option Place) → has_place rule ≡ false → IsPlaceAt sources rule span place → place_text place ≡ place_text None
nowhere sources rule span None none it = refl
nowhere sources rule span (Some p) none it = absurd (true≢false (sym it.0 ∙ none))

-- the line of a number and words, by the words for its place
abbrev line_at : (rule : ℕ) (words place : List ℕ) → List ℕ
line_at rule words place = codes "error E" ++ (decimal rule ++ (32 ∷ (place ++ (codes ": " ++ (words ++ (10 ∷ []))))))

pub one_line : (parts : List (List ℕ × List ℕ)) (sources others : List Source) (f : Fault) (text another : List ℕ) → AreLaid parts sources → AreLaid parts others → IsFaultLine sources f text → IsFaultLine others f another → text ≡ another
one_line parts sources others f text another laid also it other =
    it.2 ∙ ap (line_at f.rule (fault_text f)) (one_place parts sources others laid also f.rule f.span it.0 other.0 it.1 other.1) ∙ sym other.2

one_nowhere : (sources others : List Source) (f : Fault) (text another : List ℕ) → has_place f.rule ≡ false → IsFaultLine sources f text → IsFaultLine others f another → text ≡ another
one_nowhere sources others f text another none it other =
    it.2 ∙ ap (line_at f.rule (fault_text f)) (nowhere sources f.rule f.span it.0 none it.1 ∙ sym (nowhere others f.rule f.span other.0 none other.1)) ∙ sym other.2

-- refusals that state one fault
same_some : (f g : Fault) → Some f ≡ Some g → f ≡ g
same_some f g h = cc

line_as : (sources : List Source) (f : Fault) (e : ParseError) (text : List ℕ) → fault_of e ≡ f → IsErrorLine sources e text → IsFaultLine sources f text
line_as sources f e text same it = subst (λ (g : Fault). IsFaultLine sources g text) same (line_is sources e text it)

pub one_line_of_sources : (parts : List (List ℕ × List ℕ)) (sources others : List Source) (e other : ParseError) (text another : List ℕ) → AreLaid parts sources → AreLaid parts others →
    HaveFirst sources (Some (fault_of e)) → HaveFirst others (Some (fault_of other)) → IsErrorLine sources e text → IsErrorLine others other another → text ≡ another
one_line_of_sources parts sources others e other text another laid also first later it line =
    let same : fault_of e ≡ fault_of other = same_some (fault_of e) (fault_of other) (one_laid_had parts sources others (Some (fault_of e)) (Some (fault_of other)) laid also first later) in
    one_line parts sources others (fault_of other) text another laid also (line_as sources (fault_of other) e text same it) (line_is others other another line)

-- E52 has no place, nor has a failed allocation
large_unplaced : (end number : ℕ) (kind : ParseErrorKind) → ReportsTooLarge end number kind → has_place (as_stated number kind).rule ≡ false
large_unplaced end number (Syntax span message) h = ap has_place h.0
large_unplaced end number (ItemNotFound span name sort hint) h = absurd h
large_unplaced end number (TypeCycle span name sort) h = absurd h
large_unplaced end number OutOfMemory h = ap has_place h

too_large : (end : ℕ) (e : ParseError) (f : Fault) → fault_of e ≡ f → IsTooLarge end e → has_place f.rule ≡ false
too_large end e f same large = subst (λ (g : Fault). has_place g.rule ≡ false) same (large_unplaced end e.rule e.kind large.gives)

text_line : (path contents : List ℕ) (sources others : List Source) (f : Fault) (e other : ParseError) (text another : List ℕ) → fault_of e ≡ f → fault_of other ≡ f → IsUnparsed path contents sources e → IsUnparsed path contents others other →
    IsFaultLine sources f text → IsFaultLine others f another → text ≡ another
text_line path contents sources others f e other text another is same (TooLarge none large) unparsed it line = one_nowhere sources others f text another (too_large (length contents + 1) e f is large) it line
text_line path contents sources others f e other text another is same (Alone alone refused) (TooLarge none large) it line = one_nowhere sources others f text another (too_large (length contents + 1) other f same large) it line
text_line path contents sources others f e other text another is same (Alone alone refused) (Alone only declined) it line = one_line ((path, contents) ∷ []) sources others f text another (alone_laid path contents sources alone) (alone_laid path contents others only) it line

pub one_line_of_text : (path contents : List ℕ) (sources others : List Source) (e other : ParseError) (text another : List ℕ) → IsUnparsed path contents sources e → IsUnparsed path contents others other →
    TextHasFirst path contents (Some (fault_of e)) → TextHasFirst path contents (Some (fault_of other)) → IsErrorLine sources e text → IsErrorLine others other another → text ≡ another
one_line_of_text path contents sources others e other text another unparsed refused first later it line =
    let same : fault_of e ≡ fault_of other = same_some (fault_of e) (fault_of other) (one_of_text path contents (Some (fault_of e)) (Some (fault_of other)) first later) in
    text_line path contents sources others (fault_of other) e other text another same refl unparsed refused (line_as sources (fault_of other) e text same it) (line_is others other another line)
