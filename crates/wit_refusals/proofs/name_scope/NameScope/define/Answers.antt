use Rattle.std.proofs.Common.{◌≡◌, List, nat_eq, Some, inl, inr, sym, ap, subst, ◌∙◌}
use Rattle.wit_syntax.proofs.Common.{option_map, pointwise, slice_get, slice_get-map}
use Rattle.wit_maps.proofs.Indexed.{lookup_nowhere}
use Rattle.wit_refusals.specs.KeyedNames.{Entry, name_of, names_of}
use Rattle.wit_refusals.specs.NameScopes.{AreUsed}
use Rattle.wit_refusals.proofs.Scoping.{used-at, used-only, free-none, keyed-put}
use Rattle.wit_refusals.proofs.name_scope.NameScope.define.Goals as goal
use Rattle.wit_refusals.proofs.name_scope.NameScope.define.Goals.{in-Some, in-None}

pub invariant_of-self-2 : goal.invariant_of-self-2
invariant_of-self-2 c = keyed-put c.self.inside.names c.put_new.new.self c.args.name.now c.in_ok-key.key _ c.in_ok-place.field-0 c.self.invariant c.in_ok-key.ensures c.in_ok-other.ensures c.in_ok-place.ensures.place c.in_ok-place.ensures.fresh c.in_ok-place.ensures.there

pub returns-clause-free : goal.returns-clause-free
returns-clause-free c = elim c.match-branch-4.branch [
  | in-Some w ↦ rw w.result-is tt
  | in-None w ↦ rw w.result-is (λ in_use. free-none c.self.inside.names c.args.name.now c.in_ok-key.key c.self.invariant c.in_ok-key.ensures (lookup_nowhere (pointwise nat_eq c.in_ok-key.key) c.self.inside.names (sym c.in_ok-place.ensures.place ∙ w.in-None.is)) (subst (λ ns. AreUsed ns c.args.name.now) (sym c.self.view_is) in_use))
]

pub returns-clause-refused : goal.returns-clause-refused
returns-clause-refused c = elim c.match-branch-4.branch [
  | in-Some w ↦
      let es = c.self.inside.names in
      let place = w.in-Some.place in
      let used = used-at es c.args.name.now c.in_ok-key.key place c.self.invariant c.in_ok-key.ensures (sym c.in_ok-place.ensures.place ∙ w.in-Some.is) in
      let kept : c.put_new.new.self ≡ es = rw w.in-Some.is at c.in_ok-place.ensures.there in
      let at : slice_get (names_of es) place ≡ Some (name_of used.0) = slice_get-map name_of es place ∙ ap (option_map name_of) used.1 in
      rw w.result-is (elim (w.defined_again.ensures used.0 (ap (λ (l : List Entry). slice_get l place) kept ∙ used.1)) [
        | inl memory ↦ inl memory
        | inr says ↦ inr (record {
          in_use = record { place = place; earlier = name_of used.0; at = subst (λ ns. slice_get ns place ≡ Some (name_of used.0)) c.self.view_is at; same = used.2 };
          only = λ i n at_i. used-only es c.args.name.now place used.0 c.self.invariant used.1 used.2 i n (subst (λ ns. slice_get ns i ≡ Some n) (sym c.self.view_is) at_i);
          is = says;
        })
      ])
  | in-None w ↦ rw w.result-is tt
]
