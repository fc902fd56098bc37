-- The status that the program ends with, and what was written then.
use Rattle.std.specs.Prelude.{◌≡◌, ℕ, Bool, true, false, List, Option, Result, Ok, Err, take}
use Rattle.std.specs.Io.KnownBytes.{Appends, Keeps}
use Rattle.wit_tool.specs.Output.{IsPrinted}

-- 0 after a listing, 1 after the line of a refusal, 2 where neither was written whole
abbrev pub status_of : {E : Type 0} → Result Bool E → ℕ
status_of (Ok true) = 0
status_of (Ok false) = 1
status_of (Err e) = 2

-- What was written of a text, by the status: all that is printed of it, with that status; with the status 2 a beginning of what is printed of it, or the
-- whole, which was not flushed; or nothing, where the text was not read or an allocation failed outside of reading and resolving.
pub data IsEnded (text : List ℕ) (old new : Option (List ℕ)) (status : ℕ) : Type 0 where
  Printed : (output : List ℕ) → IsPrinted text status output → Appends old new output → IsEnded text old new status
  Failed : status ≡ 2 → (wanted : ℕ) (output : List ℕ) (n : ℕ) → IsPrinted text wanted output → Appends old new (take n output) → IsEnded text old new status
  Nothing : status ≡ 2 → Keeps old new → IsEnded text old new status
