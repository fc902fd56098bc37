-- What a writer holds after a text was written.
use Rattle.std.specs.Prelude.{◌≡◌, ℕ, ◌<◌, List, MatchResult, Option, Result, Ok, Err, codes, length, take}
use Rattle.std.specs.Io.KnownBytes.{Appends, Keeps}
use Rattle.std.specs.declared.io.ErrorKind.{ErrorKind}
use Rattle.std.specs.declared.io.ErrorKind.TheVariants as kind
use Rattle.wit_listing.specs.declared.fault.RunFault.{RunFault}
use Rattle.wit_listing.specs.declared.fault.RunFault.TheVariants.{Output, Memory}

-- the kind of the error that means a fault
abbrev pub fault_kind : RunFault → ErrorKind
fault_kind Output = kind.Other
fault_kind Memory = kind.OutOfMemory

-- the words of a fault
abbrev pub fault_text : RunFault → List ℕ
fault_text Output = codes "write failed"
fault_text Memory = codes "out of memory"

-- a beginning of the text went out, and not the whole
abbrev pub IsCutShort : Option (List ℕ) → Option (List ℕ) → List ℕ → Type 0
IsCutShort old new text = (n : ℕ) × (n < length text) × Appends old new (take n text)

-- a text that is as described went out; after a failed write a beginning of it and not the whole, if an allocation failed nothing
abbrev pub IsWritten : (List ℕ → Type 0) → Option (List ℕ) → Option (List ℕ) → Result (Unit {0}) RunFault → Type 0
IsWritten IsText old new (Ok _) = (text : List ℕ) × IsText text × Appends old new text
IsWritten IsText old new (Err Output) = (text : List ℕ) × IsText text × IsCutShort old new text
IsWritten IsText old new (Err Memory) = Keeps old new

-- the same, with an answer
abbrev pub IsWrittenAs : {A : Type 0} → A → (List ℕ → Type 0) → Option (List ℕ) → Option (List ℕ) → Result A RunFault → Type 0
IsWrittenAs as_stated IsText old new (Ok answer) = (answer ≡ as_stated) × (text : List ℕ) × IsText text × Appends old new text
IsWrittenAs as_stated IsText old new (Err Output) = (text : List ℕ) × IsText text × IsCutShort old new text
IsWrittenAs as_stated IsText old new (Err Memory) = Keeps old new

-- the fault after a failed write
abbrev pub IsFailedWrite : Option (List ℕ) → Option (List ℕ) → List ℕ → RunFault → Type 0
IsFailedWrite old new text fault = (fault ≡ Output) × IsCutShort old new text

-- a text went out; after a failed write a beginning of it and not the whole
abbrev pub Puts : Option (List ℕ) → Option (List ℕ) → List ℕ → Result (Unit {0}) RunFault → Type 0
Puts old new text r = MatchResult r (λ _. Appends old new text) (IsFailedWrite old new text)
