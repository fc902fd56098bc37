-- The replies and the map after one step more.
use Rattle.std.proofs.Common.{◌≡◌, ◌∙◌, ◌++◌, ◌+◌, ◌<◌, ℕ, suc, List, [], ◌∷◌, add-one, ap, append_assoc, drop, drop-cons, get_or, length, refl, sym, take}
use Rattle.std.proofs.lemmas.List.{take_more}
use Rattle.std.proofs.Math.Seq.{take-append_seam}
use Rattle.wit_intern.specs.FiniteMap.{FiniteMap, after_step, after_steps, replies, reply}
use Rattle.wit_intern.specs.declared.run.InternReply.{InternReply}
use Rattle.wit_intern.specs.declared.run.InternStep.{InternStep}

after_last : (xs : List InternStep) (s : InternStep) (m : FiniteMap) → after_steps (xs ++ s ∷ []) m ≡ after_step s (after_steps xs m)
after_last [] s m = refl
after_last (x ∷ xs) s m = after_last xs s (after_step x m)

-- the step at a place takes the map from one state to the next
module _ (steps : List InternStep) (at : ℕ) (s : InternStep) (old now new : FiniteMap) (within : at < length steps) (is : s ≡ get_or steps at s) (next : new ≡ after_step s now) where
  pub step_done : now ≡ after_steps (take at steps) old → new ≡ after_steps (take (at + 1) steps) old
  step_done before =
      let more : after_steps (take (at + 1) steps) old ≡ after_step s (after_steps (take at steps) old) =
      ap (λ xs. after_steps xs old) (take_more steps at s within) ∙ after_last (take at steps) (get_or steps at s) old ∙ ap (λ x. after_step x (after_steps (take at steps) old)) (sym is) in
      next ∙ ap (after_step s) before ∙ sym more

  pub step_replied : (given : List InternReply) (r : InternReply) (grown : List InternReply) → grown ≡ given ++ r ∷ [] → r ≡ reply s now →
      replies steps old ≡ given ++ replies (drop at steps) now → replies steps old ≡ grown ++ replies (drop (at + 1) steps) new
  step_replied given r grown more answer before =
      let left : List InternReply = replies (drop (at + 1) steps) new in
      let here : drop at steps ≡ s ∷ drop (at + 1) steps =
      drop-cons steps at s within ∙ ap (λ x. x ∷ drop (suc at) steps) (sym is) ∙ ap (λ k. s ∷ drop k steps) (sym (add-one at)) in
      let one : replies (drop at steps) now ≡ r ∷ left =
      ap (λ xs. replies xs now) here ∙ ap (λ x. x ∷ replies (drop (at + 1) steps) (after_step s now)) (sym answer) ∙ ap (λ m. r ∷ replies (drop (at + 1) steps) m) (sym next) in
      before ∙ ap (λ xs. given ++ xs) one ∙ sym (ap (λ xs. xs ++ left) more ∙ append_assoc given (r ∷ []) left)

-- what was replied so far is a prefix of all replies
pub replied_first : {A : Type 0} (all given rest : List A) → all ≡ given ++ rest → given ≡ take (length given) all
replied_first all given rest is = sym (ap (take (length given)) is ∙ take-append_seam given rest)
