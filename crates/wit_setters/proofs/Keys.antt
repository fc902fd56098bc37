-- Keys that differ still do once setters are placed.
use Rattle.std.proofs.Common.{◌≡◌, zero, suc, Bool, List, [], ◌∷◌, refl, ap, ◌∙◌}
use Rattle.wit_syntax.proofs.Common.{AllDiffer, HasNot, differ_cons, differ_head, differ_none, differ_tail, map}
use Rattle.wit_functions.proofs.InTurn.{in_turn}
use Rattle.wit_functions.proofs.Keys.{Differ, Lacks, differ-in_turn}

module _ {X K : Type 0} (key : X → K) where
  lacks_from : (k : K) (xs : List X) → HasNot key k xs → Lacks key k xs
  lacks_from k [] h = tt
  lacks_from k (x ∷ xs) h = (h 0 x refl, lacks_from k xs (λ i y at. h (suc i) y at))

  has_not_from : (k : K) (xs : List X) → Lacks key k xs → HasNot key k xs
  has_not_from k [] l i y at same = cc
  has_not_from k (x ∷ xs) l zero y at same = (let is : x ≡ y = cc in l.0 (ap key is ∙ same))
  has_not_from k (x ∷ xs) l (suc i) y at same = has_not_from k xs l.1 i y at same

  differ_from : (xs : List X) → AllDiffer (map key xs) → Differ key xs
  differ_from [] d = tt
  differ_from (x ∷ xs) d = (lacks_from (key x) xs (differ_head key x xs d), differ_from xs (differ_tail key x xs d))

  all_differ_from : (xs : List X) → Differ key xs → AllDiffer (map key xs)
  all_differ_from [] d = differ_none
  all_differ_from (x ∷ xs) d = differ_cons key x xs (has_not_from (key x) xs d.0) (all_differ_from xs d.1)

  pub in_turn_differ : (goes : X → X → Bool) (es : List X) → AllDiffer (map key es) → AllDiffer (map key (in_turn goes es))
  in_turn_differ goes es d = all_differ_from (in_turn goes es) (differ-in_turn key goes es (differ_from es d))
