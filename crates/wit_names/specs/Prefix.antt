-- What comes after a prefix, as `name` after `[get]` in `[get]name`.
use Rattle.std.specs.Prelude.{ℕ, Bool, false, List, Option, Some, None, drop, length, nat_eq, if◌then◌else◌}
use Rattle.std.specs.List.{starts_with}

-- the text without the prefix, where it has that prefix
abbrev pub rest_after : List ℕ → List ℕ → Option (List ℕ)
rest_after prefix text = if starts_with nat_eq text prefix then Some (drop (length prefix) text) else None

-- there is a text, and it passes the test
abbrev pub passes : (List ℕ → Bool) → Option (List ℕ) → Bool
passes test None = false
passes test (Some rest) = test rest

-- the text has the prefix, and after it is what passes the test
abbrev pub is_after : (List ℕ → Bool) → List ℕ → List ℕ → Bool
is_after test prefix text = passes test (rest_after prefix text)
