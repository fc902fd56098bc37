use Rattle.std.proofs.Common.{◌≡◌, ◌-◌, ◌+◌, Some, slice_get, refl, sym, subst, ◌∙◌, arith}
use Rattle.std.specs.Bool.{MatchBool}
use Rattle.std.proofs.lemmas.Option.{slice_get_read, slice_get_within}
use Rattle.std.specs.Map.{keys_of}
use Rattle.wit_maps.specs.Slots.{IsAt, IsNotAt}
use Rattle.wit_maps.proofs.Sights.{none_more}
use Rattle.wit_maps.proofs.slots.look.Goals as goal
use Rattle.wit_maps.proofs.slots.look.Goals.{in-Some+else-in_use-eq0+else-is_at, in_default}

pub loop-step-preserved : goal.loop-step-preserved
loop-step-preserved g c =
    let t = g.Q.Equivalent.equivalent c.args.key in
    let ks = keys_of c.args.entries.now in
    let slots = c.args.slots.now in
    let here = c.args.home + c.loop-step.step in
    elim c.match-get.branch [
      | in-Some+else-in_use-eq0+else-is_at w ↦
          let u = w.in-Some.in_use.now in
          let looked = w.in-Some.ensures.lookup in
          let at : slice_get slots here ≡ Some u = slice_get_read slots _ here u refl looked.3.0 looked.1 in
          let miss : IsNotAt t ks (u - 1) = subst (λ b. MatchBool b (IsAt t ks (u - 1)) (IsNotAt t ks (u - 1))) w.if-is_at.false w.is_at.ensures in
          none_more t ks slots c.args.home c.loop-step.step c.loop-step.invariant
          (λ z. w.if-in_use-eq0.false (let e : Some u ≡ Some 0 = sym at ∙ z in cc))
          (λ j z. let e : Some u ≡ Some (1 + j) = sym at ∙ z in let f : u ≡ 1 + j = cc in let d : u - 1 ≡ j = omega arith in subst (IsNotAt t ks) d miss)
      | in_default w ↦
          let after = w.in_default.ensures.lookup.3 in
          none_more t ks slots c.args.home c.loop-step.step c.loop-step.invariant
          (λ z. omega (arith, after, slice_get_within slots here 0 z))
          (λ j z. absurd (omega (arith, after, slice_get_within slots here (1 + j) z)))
    ]
