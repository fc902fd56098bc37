use Rattle.std.proofs.Common.{◌≡◌, ℕ, ◌<◌, ◌⊎◌, Some, None, ◌∙◌, sym, ap, inl, inr, arith, subst}
use Rattle.wit_syntax.proofs.Common.{Refused, at_within, err_from_is_err_and, map_at, option_map, slice_get, slice_get-map, slice_get_within}
use Rattle.wit_refusals.specs.NameScopes.{IsLoneSetter, IsFirstLoneSetter}
use Rattle.wit_refusals.specs.KeyedNames.{spelled, name_of, names_of}
use Rattle.wit_refusals.proofs.Scoping.{paired-more, first-lone}
use Rattle.wit_refusals.proofs.name_scope.NameScope.check_setters.Goals as goal
use Rattle.wit_refusals.proofs.name_scope.NameScope.check_setters.Goals.{in-Some+in_ok-check_setter, in_default}

pub returns-in_err-check_setter-clause-refused : goal.returns-in_err-check_setter-clause-refused
returns-in_err-check_setter-clause-refused c =
    let p = err_from_is_err_and c.from_residual.result c.from_residual.ensures.1 in
    let es = c.self.inside.names in
    let i = c.loop-place.place in
    let d = c.in-Some.name.now in
    let key = c.in-Some.key.now in
    let entry : slice_get es i ≡ Some (key, d) = sym (rw c.in-Some.is at c.get_index.ensures) in
    let at : slice_get (names_of es) i ≡ Some (spelled key d, d.span) = slice_get-map name_of es i ∙ ap (option_map name_of) entry in
    let first : (j : ℕ) → j < i → IsLoneSetter (names_of es) j → ⊥ = λ j lt lone. c.loop-place.invariant j lt (subst (λ ns. IsLoneSetter ns j) c.self.view_is lone) in
    rw (p.1, p.2) (subst (λ ns. Refused (IsFirstLoneSetter ns) c.in_err-check_setter.field-0.0) c.self.view_is (first-lone (names_of es) i (spelled key d, d.span) c.in_err-check_setter.field-0.0 at first (rw c.spelled.ensures at c.in_err-check_setter.ensures.refused)))

pub loop-place-preserved : goal.loop-place-preserved
loop-place-preserved c = λ j lt lone.
    let i = c.loop-place.place in
    let es = c.self.inside.names in
    let split : (j < i) ⊎ (j ≡ i) = grind arith in
    elim split [
      | inl old ↦ c.loop-place.invariant j old lone
      | inr new ↦ elim c.match-get_index.branch [
        | in-Some+in_ok-check_setter w ↦ (
            let d = w.in-Some.name.now in
            let key = w.in-Some.key.now in
            let entry : slice_get es i ≡ Some (key, d) = sym (rw w.in-Some.is at c.get_index.ensures) in
            let at : slice_get (names_of es) i ≡ Some (spelled key d, d.span) = slice_get-map name_of es i ∙ ap (option_map name_of) entry in
            paired-more (names_of es) i (spelled key d, d.span) at (rw w.spelled.ensures at w.in_ok-check_setter.ensures.paired) (subst (IsLoneSetter (names_of es)) new (subst (λ ns. IsLoneSetter ns j) (sym c.self.view_is) lone)))
        | in_default w ↦ (
            let there = at_within es i (omega arith) in
            let none : None ≡ slice_get es i = rw w.in_default.is at c.get_index.ensures in
            let wrong : None ≡ Some there.0 = none ∙ there.1 in
            cc)
      ]
    ]

pub returns-clause-paired : goal.returns-clause-paired
returns-clause-paired c = λ i lone.
    let es = c.self.inside.names in
    let at : slice_get (names_of es) i ≡ Some lone.setter = subst (λ ns. slice_get ns i ≡ Some lone.setter) (sym c.self.view_is) lone.at in
    let entry = map_at name_of es i lone.setter at in
    let within = slice_get_within es i entry.0 entry.1 in
    c.loop-place.invariant i (omega arith) lone
