-- A finite map from keys to types, and what it replies to finds and inserts.
use Rattle.std.specs.Prelude.{◌≡◌, ◌⊎◌, ℕ, ◌+◌, List, [], ◌∷◌, Option, Some, if◌then◌else◌, take}
use Rattle.wit_intern.specs.declared.key.InternKey.{InternKey}
use Rattle.wit_intern.specs.declared.run.InternStep.{InternStep}
use Rattle.wit_intern.specs.declared.run.InternStep.TheVariants.{Find, Insert}
use Rattle.wit_intern.specs.declared.run.InternReply.{InternReply}
use Rattle.wit_intern.specs.declared.run.InternReply.TheVariants.{Found, Inserted}
use Rattle.wit_intern.specs.contracts.key.InternKeyPartialEq.TheImpl.{eq-value as key_test}

-- which type is at a key, if one does
abbrev pub FiniteMap : Type 0
FiniteMap = InternKey → Option ℕ

-- with a type at a key, also where one was there
abbrev pub set_at : InternKey → ℕ → FiniteMap → FiniteMap
set_at key id m k = if key_test.it key k then Some id else m k

-- the map after a step
abbrev pub after_step : InternStep → FiniteMap → FiniteMap
after_step (Find key) m = m
after_step (Insert key id) m = set_at key id m

-- the map after one step after the other
abbrev pub after_steps : List InternStep → FiniteMap → FiniteMap
after_steps [] m = m
after_steps (s ∷ steps) m = after_steps steps (after_step s m)

-- what the map replies to a step
abbrev pub reply : InternStep → FiniteMap → InternReply
reply (Find key) m = Found (m key)
reply (Insert key id) m = Inserted

-- what it replies to one step after the other
abbrev pub replies : List InternStep → FiniteMap → List InternReply
replies [] m = []
replies (s ∷ steps) m = reply s m ∷ replies steps (after_step s m)

-- the map after so many of the steps, or after one more
abbrev pub IsStopped : List InternStep → ℕ → FiniteMap → FiniteMap → Type 0
IsStopped steps n old new = (new ≡ after_steps (take n steps) old) ⊎ (new ≡ after_steps (take (n + 1) steps) old)
