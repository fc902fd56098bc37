-- What a call answers to a text: its output, or nothing.
use Rattle.std.specs.Prelude.{◌≡◌, ℕ, List, [], IsUtf8}
use Rattle.wit_tool.specs.Output.{IsPrinted}

-- status and bytes: what is printed of a text; nothing, with the status 2 if the bytes are no text, and with the status 3 if an allocation failed outside of
-- reading and resolving
pub data IsReply (bytes : List ℕ) (status : ℕ) (output : List ℕ) : Type 0 where
  Text : IsUtf8 bytes → IsPrinted bytes status output → IsReply bytes status output
  NoText : status ≡ 2 → ¬ (IsUtf8 bytes) → output ≡ [] → IsReply bytes status output
  NoMemory : status ≡ 3 → IsUtf8 bytes → output ≡ [] → IsReply bytes status output
