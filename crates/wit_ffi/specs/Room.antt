-- What the room of a caller holds once something was laid over it.
use Rattle.std.specs.Prelude.{ℕ, List, ◌++◌, length, take, drop}

-- the room with bytes over its start, as far as they fit, and else as it was
abbrev pub laid_over : List ℕ → List ℕ → List ℕ
laid_over room bytes = take (length room) bytes ++ drop (length bytes) room
