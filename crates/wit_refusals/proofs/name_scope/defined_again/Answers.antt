use Rattle.std.proofs.Common.{◌≡◌, ℕ, List, Some, None, sym, ap, subst, ◌∙◌}
use Rattle.wit_syntax.proofs.Common.{IfOk, clash, codes, slice_get, string_bytes}
use Rattle.wit_refusals.specs.KeyedNames.{Entry, spelled}
use Rattle.wit_refusals.proofs.name_scope.defined_again.Goals as goal
use Rattle.wit_refusals.proofs.name_scope.defined_again.Goals.{in-Some, in-None}

pub returns : goal.returns
returns c = λ earlier at. elim c.match-get_index.branch [
  | in-Some w ↦
      let d = w.in-Some.earlier.now in
      let key = w.in-Some.key.now in
      let entry : slice_get c.args.names.now c.args.place ≡ Some (key, d) = sym (rw w.in-Some.is at c.get_index.ensures) in
      let both : Some (key, d) ≡ Some earlier = sym entry ∙ at in
      let one : (key, d) ≡ earlier = cc in
      let said = subst (λ (n : List ℕ). IfOk w.clash-words.result (λ t. string_bytes t ≡ clash (codes "name") n c.args.name.now)) (w.spelled.ensures ∙ ap (λ (e : Entry). spelled e.0 e.1) one) w.clash-words.ensures in
      c.refuse_in.ensures (clash (codes "name") (spelled earlier.0 earlier.1) c.args.name.now) (rw w.words-is said)
  | in-None w ↦
      let none : None ≡ slice_get c.args.names.now c.args.place = rw w.in-None.is at c.get_index.ensures in
      let wrong : None ≡ Some earlier = none ∙ at in
      absurd (let f : ⊥ = cc in f)
]
