-- Sources of the same paths and texts have one outcome, and that has one JSON.
use Rattle.std.proofs.Common.{◌≡◌, ◌⊎◌, inl, inr, ℕ, ◌+◌, List, [], ◌∷◌, map, length, Some, None, string_bytes, refl, sym, ap, ap₂, ◌∙◌, arith}
use Rattle.wit_items.proofs.Common.{Fault, IsAllocationFailure, ItemNotFound, OutOfMemory, ParseErrorKind, Span, Syntax, TypeCycle, UnresolvedPackage, as_stated as fault_stated, codes, fault_in, fault_of}
use Rattle.json.specs.Json.{Json, string}
use Rattle.wit_lex.specs.declared.source.Source.{Source}
use Rattle.wit_lex.specs.Sources.{ReportsTooLarge, as_stated}
use Rattle.wit_bundle.specs.Laid.{AreLaid}
use Rattle.wit_groups.specs.SourceFaults.{HaveFirst}
use Rattle.wit_groups.specs.declared.group.UnresolvedPackageGroup.{UnresolvedPackageGroup}
use Rattle.wit_json.specs.declared.member_words.Word.TheVariants as w
use Rattle.wit_json.specs.Group.{packages_of, source_json}
use Rattle.wit_json.specs.Values.{at, fields, list, number_json}
use Rattle.wit_outcome.specs.declared.outcome.Outcome.{Outcome}
use Rattle.wit_outcome.specs.declared.outcome.Outcome.TheVariants as outcome
use Rattle.wit_outcome.specs.declared.plain.Plain.{Plain}
use Rattle.wit_outcome.specs.Outcome.{IsDeclined, IsMade, IsOutcome, IsTooMuch, outcome_json}
use Rattle.wit_outcome.specs.Outcome.IsOutcome.{Declined, Made, TooMuch}
use Rattle.wit_tool.proofs.Outputs.{packages_of_group}
use Rattle.wit_group_walk.specs.Outputs.{IsMemoryOutcome, SameOutcome}
use Rattle.wit_group_walk.proofs.LaidSources.{one_laid}
use Rattle.wit_group_walk.proofs.Lines.{Stated}
use Rattle.wit_group_walk.proofs.Outputs.{one_made}
use Rattle.wit_group_walk.proofs.Plain.{one_plain}

-- ---- JSON
abbrev stated_json : Stated → Json
stated_json s = fields (at w.Path (string s.0) ∷ at w.Start (number_json s.2) ∷ at w.End (number_json (s.2 + length s.1)) ∷ [])

sources_json : (sources : List Source) → map source_json sources ≡ map stated_json (as_stated sources)
sources_json [] = refl
sources_json (s ∷ sources) = ap (λ (js : List Json). source_json s ∷ js) (sources_json sources)

abbrev json_of : List Json → UnresolvedPackage → List UnresolvedPackage → Json
json_of sources main nested = fields (at w.Sources (list sources) ∷ at w.Packages (list (packages_of main nested)) ∷ [])

pub one_json : (o other : Outcome) → SameOutcome o other → outcome_json o ≡ outcome_json other
one_json (outcome.Group g) (outcome.Group h) same =
    ap (λ (js : List Json). json_of js g.main g.nested) (sources_json g.source_map.sources.items ∙ ap (map stated_json) same.2 ∙ sym (sources_json h.source_map.sources.items))
    ∙ ap₂ (json_of (map source_json h.source_map.sources.items)) same.0 same.1
one_json (outcome.Group g) (outcome.Refusal q) same = absurd same
one_json (outcome.Refusal p) (outcome.Group h) same = absurd same
one_json (outcome.Refusal p) (outcome.Refusal q) same = ap (λ (x : Plain). outcome_json (outcome.Refusal x)) same

-- ---- outcomes
abbrev Either : Outcome → Outcome → Type 0
Either o other = IsMemoryOutcome o ⊎ (IsMemoryOutcome other ⊎ SameOutcome o other)

module _ (parts : List (List ℕ × List ℕ)) where
  groups : (g h : UnresolvedPackageGroup) → IsMade parts g → IsMade parts h → SameOutcome (outcome.Group g) (outcome.Group h)
  groups g h a b =
      let it = packages_of_group g.source_map.sources.items g.main g.nested a.group in
      let other = packages_of_group h.source_map.sources.items h.main h.nested b.group in
      let one = one_made parts g.source_map.sources.items h.source_map.sources.items a.are b.are it.0 other.0 it.1 other.1 g.main h.main g.nested h.nested it.2 other.2 in
      (one.0, one.1, a.are.are ∙ sym b.are.are)

  -- a group has no first fault
  apart : (g : UnresolvedPackageGroup) (sources : List Source) (f : Fault) → IsMade parts g → AreLaid parts sources → HaveFirst sources (Some f) → ⊥
  apart g sources f a laid first = (
      let it = packages_of_group g.source_map.sources.items g.main g.nested a.group in
      let same = one_laid parts g.source_map.sources.items sources a.are laid it.0 first.0 None (Some f) it.1 first.1 in
      let wrong : ⊥ = cc in
      wrong)

  declined : (p : Plain) (d : IsDeclined parts p) → (p.rule ≡ 45) ⊎ HaveFirst d.sources (Some (fault_of d.e))
  declined p d = by d.first
    where
      by : IsAllocationFailure d.e ⊎ HaveFirst d.sources (Some (fault_of d.e)) → (p.rule ≡ 45) ⊎ HaveFirst d.sources (Some (fault_of d.e))
      by (inl failed) = inl (d.plain.rule ∙ failed.rule)
      by (inr first) = inr first

  against : (g : UnresolvedPackageGroup) (p : Plain) → IsMade parts g → (d : IsDeclined parts p) → p.rule ≡ 45
  against g p a d = by (declined p d)
    where
      by : (p.rule ≡ 45) ⊎ HaveFirst d.sources (Some (fault_of d.e)) → p.rule ≡ 45
      by (inl memory) = memory
      by (inr first) = absurd (apart g d.sources (fault_of d.e) a d.are first)

  refusals : (p q : Plain) (d : IsDeclined parts p) (c : IsDeclined parts q) → Either (outcome.Refusal p) (outcome.Refusal q)
  refusals p q d c = by (declined p d) (declined q c)
    where
      by : (p.rule ≡ 45) ⊎ HaveFirst d.sources (Some (fault_of d.e)) → (q.rule ≡ 45) ⊎ HaveFirst c.sources (Some (fault_of c.e)) → Either (outcome.Refusal p) (outcome.Refusal q)
      by (inl memory) other = inl memory
      by (inr first) (inl memory) = inr (inl memory)
      by (inr first) (inr second) = (
          let firsts : Some (fault_of d.e) ≡ Some (fault_of c.e) = one_laid parts d.sources c.sources d.are c.are first.0 second.0 (Some (fault_of d.e)) (Some (fault_of c.e)) first.1 second.1 in
          let same : fault_of d.e ≡ fault_of c.e = cc in
          inr (inr (one_plain parts d.sources c.sources d.e c.e p q d.are c.are same d.plain c.plain)))

  -- sources that are too large
  size_stated : (end number : ℕ) (kind : ParseErrorKind) → number ≡ 52 → ReportsTooLarge end number kind → fault_stated number kind ≡ fault_in 52 (record { start = 0; end = 0 }) (codes "sources too large")
  size_stated end number (Syntax span message) is reports =
      ap (λ (n : ℕ). fault_in n span (string_bytes message)) is
      ∙ ap (λ (s : Span). fault_in 52 s (string_bytes message)) (ap₂ (λ (from to : ℕ). record { start = from; end = to }) reports.2 reports.3)
      ∙ ap (fault_in 52 (record { start = 0; end = 0 })) reports.4
  size_stated end number (ItemNotFound span name sort hint) is reports = absurd reports
  size_stated end number (TypeCycle span name sort) is reports = absurd reports
  size_stated end number OutOfMemory is reports = absurd (let wrong : 52 ≡ 45 = sym is ∙ reports in omega arith)

  nothing : AreLaid [] []
  nothing = record { are = refl }

  sizes : (p q : Plain) → IsTooMuch parts p → IsTooMuch parts q → p ≡ q
  sizes p q a b = one_plain [] [] [] a.e b.e p q nothing nothing (size_stated _ a.e.rule a.e.kind a.rule a.gives.gives ∙ sym (size_stated _ b.e.rule b.e.kind b.rule b.gives.gives)) a.plain b.plain

  pub one_outcome : (o other : Outcome) → IsOutcome parts o → IsOutcome parts other → Either o other
  one_outcome _ _ (Made g a) (Made h b) = inr (inr (groups g h a b))
  one_outcome _ _ (Made g a) (Declined q d) = inr (inl (against g q a d))
  one_outcome _ _ (Made g a) (TooMuch q much) = absurd (omega (arith, a.fits, much.large))
  one_outcome _ _ (Declined p d) (Made h b) = inl (against h p b d)
  one_outcome _ _ (Declined p d) (Declined q c) = refusals p q d c
  one_outcome _ _ (Declined p d) (TooMuch q much) = absurd (omega (arith, d.fits, much.large))
  one_outcome _ _ (TooMuch p much) (Made h b) = absurd (omega (arith, b.fits, much.large))
  one_outcome _ _ (TooMuch p much) (Declined q c) = absurd (omega (arith, c.fits, much.large))
  one_outcome _ _ (TooMuch p much) (TooMuch q more) = inr (inr (sizes p q much more))
