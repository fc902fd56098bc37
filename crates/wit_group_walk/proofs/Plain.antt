-- A refusal in plain values is a function of its fault, and of the paths and texts of the sources.
use Rattle.std.proofs.Common.{◌≡◌, ℕ, ◌+◌, ◌-◌, ◌≤◌, Bool, List, length, string_bytes, refl, sym, ap, ◌∙◌, subst, arith}
use Rattle.wit_items.proofs.Common.{Fault, IsCharBoundary, ItemNotFound, OutOfMemory, ParseError, ParseErrorKind, Span, Syntax, TypeCycle, as_stated, fault_of, kind_text, span_of}
use Rattle.wit_lex.specs.declared.source.Source.{Source}
use Rattle.wit_lex.specs.Sources.{LiesIn, stated_of}
use Rattle.wit_bundle.specs.Laid.{AreLaid}
use Rattle.wit_listing.specs.ErrorLine.{has_place}
use Rattle.wit_outcome.specs.declared.plain.Plain.{Plain}
use Rattle.wit_outcome.specs.Plain.{IsPlain, IsPlaced}
use Rattle.wit_outcome.specs.Plain.IsPlaced.{Within, Nowhere}
use Rattle.wit_tool.specs.FaultLine.{fault_text}
use Rattle.wit_tool.proofs.FaultLines.{text_is}
use Rattle.wit_group_walk.proofs.Lines.{Stated, one_source, other_at, stated_at}

-- the number and the span of a refusal are those of its fault
rule_kept : (number : ℕ) (kind : ParseErrorKind) → (as_stated number kind).rule ≡ number
rule_kept number (Syntax span message) = refl
rule_kept number (ItemNotFound span name sort hint) = refl
rule_kept number (TypeCycle span name sort) = refl
rule_kept number OutOfMemory = refl

span_kept : (number : ℕ) (kind : ParseErrorKind) → (as_stated number kind).span ≡ span_of kind
span_kept number (Syntax span message) = refl
span_kept number (ItemNotFound span name sort hint) = refl
span_kept number (TypeCycle span name sort) = refl
span_kept number OutOfMemory = refl

-- where a span lies
lies_also : (s t : Source) (span : Span) → stated_of s ≡ stated_of t → LiesIn s span → LiesIn t span
lies_also s t span same l = record {
  first = subst (λ (x : Stated). x.2 ≤ span.start) same l.first;
  order = l.order;
  low = subst (λ (x : Stated). IsCharBoundary x.1 (span.start - x.2)) same l.low;
  high = subst (λ (x : Stated). IsCharBoundary x.1 (span.end - x.2)) same l.high;
}

start_in : (s : Source) (span : Span) → LiesIn s span → span.start ≤ s.offset + length (string_bytes s.contents)
start_in s span l = (let first = l.first in let low = l.low.0 in omega arith)

-- a range in the text, from a place on
one_range : (offset other first start from : ℕ) → offset ≡ other → offset + start ≡ first → other + from ≡ first → start ≡ from
one_range offset other first start from same one two = omega arith

-- plain values by their fields
abbrev made : ℕ → Bool → (start end : ℕ) → (path message : List ℕ) → Plain
made rule placed start end path message = record { rule = rule; placed = placed; start = start; end = end; path = path; message = message }

same_plain : (p q : Plain) → p.rule ≡ q.rule → p.placed ≡ q.placed → p.start ≡ q.start → p.end ≡ q.end → p.path ≡ q.path → p.message ≡ q.message → p ≡ q
same_plain p q rule placed start end path message =
    ap (λ (n : ℕ). made n p.placed p.start p.end p.path p.message) rule
    ∙ ap (λ (b : Bool). made q.rule b p.start p.end p.path p.message) placed
    ∙ ap (λ (n : ℕ). made q.rule q.placed n p.end p.path p.message) start
    ∙ ap (λ (n : ℕ). made q.rule q.placed q.start n p.path p.message) end
    ∙ ap (λ (t : List ℕ). made q.rule q.placed q.start q.end t p.message) path
    ∙ ap (λ (t : List ℕ). made q.rule q.placed q.start q.end q.path t) message

module _ (parts : List (List ℕ × List ℕ)) (sources others : List Source) (laid : AreLaid parts sources) (also : AreLaid parts others) (e other : ParseError) (rules : e.rule ≡ other.rule) (spans : span_of e.kind ≡ span_of other.kind) where
  one_placed : (p q : Plain) → IsPlaced sources e p → IsPlaced others other q → (p.placed ≡ q.placed) × (p.start ≡ q.start) × (p.end ≡ q.end) × (p.path ≡ q.path)
  one_placed p q (Within s h i) (Within t k j) =
      let span = span_of other.kind in
      let lies : LiesIn s span = subst (LiesIn s) spans h.lies in
      let here = stated_at parts sources h.place s laid h.among in
      let there = stated_at parts others k.place t also k.among in
      let same : stated_of s ≡ stated_of t = one_source 0 parts h.place k.place (stated_of s) (stated_of t) span.start here there lies.first (start_in s span lies) k.lies.first (start_in t span k.lies) in
      let offsets : s.offset ≡ t.offset = ap (λ (x : Stated). x.2) same in (
        i.placed ∙ sym j.placed,
        one_range s.offset t.offset span.start p.start q.start offsets (i.start ∙ ap (λ (at : Span). at.start) spans) j.start,
        one_range s.offset t.offset span.end p.end q.end offsets (i.end ∙ ap (λ (at : Span). at.end) spans) j.end,
        i.path ∙ ap (λ (x : Stated). x.0) same ∙ sym j.path,
      )
  one_placed p q (Within s h i) (Nowhere none j) = (
      let t = other_at parts sources others h.place s laid also h.among in
      let lies : LiesIn s (span_of other.kind) = subst (LiesIn s) spans h.lies in
      absurd (none t.0 (record { has = ap has_place (sym rules) ∙ h.has; place = h.place; among = t.1; lies = lies_also s t.0 (span_of other.kind) t.2 lies })))
  one_placed p q (Nowhere none i) (Within t k j) = (
      let s = other_at parts others sources k.place t also laid k.among in
      let lies : LiesIn t (span_of e.kind) = subst (LiesIn t) (sym spans) k.lies in
      absurd (none s.0 (record { has = ap has_place rules ∙ k.has; place = k.place; among = s.1; lies = lies_also t s.0 (span_of e.kind) s.2 lies })))
  one_placed p q (Nowhere none i) (Nowhere nothing j) = (i.placed ∙ sym j.placed, i.start ∙ sym j.start, i.end ∙ sym j.end, i.path ∙ sym j.path)

pub one_plain : (parts : List (List ℕ × List ℕ)) (sources others : List Source) (e other : ParseError) (p q : Plain) → AreLaid parts sources → AreLaid parts others → fault_of e ≡ fault_of other → IsPlain sources e p → IsPlain others other q → p ≡ q
one_plain parts sources others e other p q laid also same one two =
    let rules : e.rule ≡ other.rule = sym (rule_kept e.rule e.kind) ∙ ap (λ (f : Fault). f.rule) same ∙ rule_kept other.rule other.kind in
    let spans : span_of e.kind ≡ span_of other.kind = sym (span_kept e.rule e.kind) ∙ ap (λ (f : Fault). f.span) same ∙ span_kept other.rule other.kind in
    let words : kind_text e.kind ≡ kind_text other.kind = text_is e ∙ ap (λ (f : Fault). fault_text f) same ∙ sym (text_is other) in
    let it = one_placed parts sources others laid also e other rules spans p q one.place two.place in
    same_plain p q (one.rule ∙ rules ∙ sym two.rule) it.0 it.1 it.2 it.3 (one.message ∙ words ∙ sym two.message)
