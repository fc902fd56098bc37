-- Keys that differ still do once setters are placed in turn.
use Rattle.std.specs.Prelude.{⊤}
use Rattle.std.proofs.Common.{◌≡◌, ℕ, zero, suc, List, [], ◌∷◌, Option, Some, None, Bool, insert, sym}
use Rattle.std.specs.List.{position_from}
use Rattle.wit_functions.proofs.InTurn.{in_turn, put_at}

module _ {X K : Type 0} (key : X → K) where
  -- none of these has the key
  abbrev pub Lacks : K → List X → Type 0
  Lacks k [] = ⊤
  Lacks k (x ∷ xs) = (key x ≡ k → ⊥) × Lacks k xs

  -- no two have one key
  abbrev pub Differ : List X → Type 0
  Differ [] = ⊤
  Differ (x ∷ xs) = Lacks (key x) xs × Differ xs

  lacks-insert : (k : K) (xs : List X) (i : ℕ) (e : X) → (key e ≡ k → ⊥) → Lacks k xs → Lacks k (insert xs i e)
  lacks-insert k xs zero e one l = (one, l)
  lacks-insert k [] (suc i) e one l = (one, l)
  lacks-insert k (x ∷ xs) (suc i) e one l = (l.0, lacks-insert k xs i e one l.1)

  differ-insert : (xs : List X) (i : ℕ) (e : X) → Lacks (key e) xs → Differ xs → Differ (insert xs i e)
  differ-insert xs zero e l d = (l, d)
  differ-insert [] (suc i) e l d = (l, d)
  differ-insert (x ∷ xs) (suc i) e l d = (lacks-insert (key x) xs i e (λ same. l.0 (sym same)) d.0, differ-insert xs i e l.1 d.1)

  lacks-put : (k : K) (xs : List X) (o : Option ℕ) (e : X) → (key e ≡ k → ⊥) → Lacks k xs → Lacks k (put_at e xs o)
  lacks-put k xs None e one l = (one, l)
  lacks-put k xs (Some i) e one l = lacks-insert k xs i e one l

  differ-put : (xs : List X) (o : Option ℕ) (e : X) → Lacks (key e) xs → Differ xs → Differ (put_at e xs o)
  differ-put xs None e l d = (l, d)
  differ-put xs (Some i) e l d = differ-insert xs i e l d

  module _ (goes : X → X → Bool) where
    lacks-in_turn : (k : K) (es : List X) → Lacks k es → Lacks k (in_turn goes es)
    lacks-in_turn k [] l = tt
    lacks-in_turn k (e ∷ es) l = lacks-put k (in_turn goes es) (position_from (goes e) 1 (in_turn goes es)) e l.0 (lacks-in_turn k es l.1)

    pub differ-in_turn : (es : List X) → Differ es → Differ (in_turn goes es)
    differ-in_turn [] d = tt
    differ-in_turn (e ∷ es) d = differ-put (in_turn goes es) (position_from (goes e) 1 (in_turn goes es)) e (lacks-in_turn (key e) es d.0) (differ-in_turn es d.1)
