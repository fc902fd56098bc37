-- What is found of files that have a header is what the walk comes to; and where they have none, that is the fault.
use Rattle.std.proofs.Common.{◌≡◌, ◌⊎◌, ℕ, ◌≤◌, List, Option, Some, None, inl, inr, refl, sym, ap, ◌∙◌, arith, is_none}
use Rattle.wit_items.proofs.Common.{ComesTo, Err, Fault, FindsBy, IfErr, IsAllocationFailure, IsBroken, IsFaultless, IsFirst, IsLegal, IsOutcome, Known, Ok, OnOk, OutOfMemory, Outcome, PackageFile, ParseError, ParseErrorKind, Refused, Reports, Result, Row, Word, cases_lt, fault, fault_of, if◌then◌else◌, last_header, legal, option_or, three_ways}
use Rattle.wit_tree.specs.declared.tree.PackageName.{PackageName as Header}
use Rattle.wit_walk.proofs.Broken.{broken}
use Rattle.wit_walk.proofs.Outcomes.{outcome_of}
use Rattle.wit_walk.proofs.ScopesLegal.{steps_more}
use Rattle.wit_walk.proofs.Steps.{enough as enough_steps}
use Rattle.wit_contents.specs.Files.{IsRight}
use Rattle.wit_contents.proofs.FileFaults.{fault_after}

-- whether an error is a failed allocation is known
of_memory : (k : ParseErrorKind) → (k ≡ OutOfMemory) ⊎ (k ≡ OutOfMemory → ⊥)
of_memory OutOfMemory = inl refl
of_memory _ = inr (λ same. (let f : ⊥ = cc in f))

same_number : (a b : ℕ) → (a ≡ b) ⊎ (a ≡ b → ⊥)
same_number a b = elim (three_ways a b) [
  | inl lt ↦ inr (λ same. omega (arith, lt, same))
  | inr rest ↦ elim rest [ inl same ↦ inl same | inr gt ↦ inr (λ same. omega (arith, gt, same)) ]
]

memory_or_not : (e : ParseError) → IsAllocationFailure e ⊎ (IsAllocationFailure e → ⊥)
memory_or_not e = elim (of_memory e.kind) [
  | inr other ↦ inr (λ memory. other memory.kind)
  | inl kind ↦ elim (same_number e.rule 45) [
    | inr other ↦ inr (λ memory. other memory.rule)
    | inl rule ↦ inl (record { kind = kind; rule = rule })
  ]
]

abbrev outcome : List Row → Outcome
outcome rs = (outcome_of rs).0

outcomes : (rs : List Row) → IsOutcome rs (outcome rs)
outcomes = λ rs. (outcome_of rs).1

abbrev at : ℕ → Known
at steps = record { outcome = outcome; steps = steps }

module _ (files : List PackageFile) where
  abbrev enough : ℕ
  enough = (enough_steps files).0

  -- in so many steps what is looked up is right
  right : (steps : ℕ) → enough ≤ steps → IsRight files (at steps)
  right steps le = record {
    outcomes = outcomes;
    enough = λ s id end ends. elim (cases_lt steps ends.0) [
      | inl before ↦ sym ((enough_steps files).1 steps le s (Word id)) ∙ (enough_steps files).1 ends.0 (omega (arith, before, le)) s (Word id) ∙ ends.1
      | inr within ↦ steps_more files end ends.0 steps within s (Word id) ends.1
    ];
  }

  -- files without a header
  pub headerless : last_header files ≡ None → IsFirst files (fault 4 (record { start = 0; end = 0 }))
  headerless none = record {
    outcome = outcome;
    outcomes = outcomes;
    enough = 0;
    is = λ steps le. ap (λ (o : Option Header). option_or (if is_none o then Some (fault 4 (record { start = 0; end = 0 })) else None) (fault_after 1 files (at steps))) none;
  }

  module _ (header : Header) (last : last_header files ≡ Some header) where
    comes : (first : Option Fault) → ((steps : ℕ) → enough ≤ steps → fault_after 1 files (at steps) ≡ first) → ComesTo files first
    comes first h = record {
      outcome = outcome;
      outcomes = outcomes;
      enough = enough;
      is = λ steps le. ap (λ (o : Option Header). option_or (if is_none o then Some (fault 4 (record { start = 0; end = 0 })) else None) (fault_after 1 files (at steps))) last ∙ h steps le;
    }

    pub faultless : ((known : Known) → IsRight files known → fault_after 1 files known ≡ None) → IsFaultless files
    faultless none = comes None (λ steps le. none (at steps) (right steps le))

    pub reported : (e : ParseError) → ((known : Known) → IsRight files known → Reports (fault_after 1 files known) e) → IsAllocationFailure e ⊎ IsFirst files (fault_of e)
    reported e h = elim (memory_or_not e) [
      | inl memory ↦ inl memory
      | inr other ↦ inr (comes (Some (fault_of e)) (λ steps le. elim (h (at steps) (right steps le)) [ inl memory ↦ absurd (other memory) | inr is ↦ is ]))
    ]

-- a call that finds the first fault returns Ok where no rule is broken, and else an error that says a broken one
pub found_legal : {T : Type 0} (files : List PackageFile) (r : Result T ParseError) → FindsBy (ComesTo files) r → OnOk r (IsLegal files)
found_legal files (Ok x) found = legal files found
found_legal files (Err e) found = tt

pub found_broken : {T : Type 0} (files : List PackageFile) (r : Result T ParseError) → FindsBy (ComesTo files) r → IfErr r (Refused (IsBroken files))
found_broken files (Ok x) found = tt
found_broken files (Err e) found = elim found [ inl memory ↦ inl memory | inr first ↦ inr (broken files (fault_of e) first) ]
