-- Two writes, one after the other.
use Rattle.std.proofs.Common.{◌≡◌, ℕ, ◌+◌, ◌-◌, List, ◌++◌, length, take, drop, ap, ◌∙◌, sym, append_assoc, length-drop}
use Rattle.std.specs.Prelude.{Option, Some, None}
use Rattle.std.specs.Io.KnownBytes.{Appends}
use Rattle.std.proofs.Math.Seq.{take-add, take-length}

pub appends_then : (a b c : Option (List ℕ)) (k n : ℕ) (text : List ℕ) → Appends a b (take k text) → Appends b c (take n (drop k text)) → Appends a c (take (k + n) text)
appends_then None b c k n text p q = tt
appends_then (Some xs) None c k n text p q = absurd p
appends_then (Some xs) (Some ys) None k n text p q = absurd q
appends_then (Some xs) (Some ys) (Some zs) k n text p q =
    q ∙ ap (λ prefix. prefix ++ take n (drop k text)) p ∙ append_assoc xs (take k text) (take n (drop k text)) ∙ ap (λ more. xs ++ more) (sym (take-add k n text))

pub take_rest : (k : ℕ) (text : List ℕ) → take (length text - k) (drop k text) ≡ drop k text
take_rest k text = ap (λ n. take n (drop k text)) (sym (length-drop k text)) ∙ take-length (drop k text)
