use Rattle.std.proofs.Common.{rules, ◌≡◌, ◌++◌, ◌∷◌, [], ap, ◌∙◌, sym, subst, reverse}
use Rattle.std.specs.BTreeMap.{get_by_text}
use Rattle.std.specs.BTreeSet.{contains_text}
use Rattle.std.specs.Vec.Iter.{into_iter_items}
use Rattle.std.proofs.lemmas.List.{nil_from_length, reverse-append}
use Rattle.wit_functions.specs.MaybeFunction.{HaveOwnNames}
use Rattle.wit_functions.specs.Parted.{IsParted}
use Rattle.wit_functions.proofs.OwnNames.{own_after}
use Rattle.wit_functions.proofs.Parting.{turned_next}
use Rattle.wit_functions.proofs.parted.part.Goals as goal

pub loop-item-preserved : goal.loop-item-preserved
loop-item-preserved g c =
    let function_at = g.T.MaybeFunction.function_at in
    let item = c.in-Some.item in
    let prefix = c.loop-item.yielded in
    let rest = into_iter_items c.next.new.self in
    let was = c.loop-item.invariant in
    let all : reverse rest ++ reverse (prefix ++ item ∷ []) ≡ c.args.items.items = turned_next prefix rest item ∙ ap (λ l. reverse l ++ reverse prefix) (sym c.in-Some.ensures.steps.0) ∙ was.all in
    let one = reverse-append prefix (item ∷ []) in
    record {
      all = all;
      parted = λ own.
          let turned : HaveOwnNames function_at (reverse rest ++ item ∷ reverse prefix) = subst (HaveOwnNames function_at) (sym all ∙ ap (λ l. reverse rest ++ l) one) own in
          rw one (c.in_ok-add.ensures (reverse prefix) (own_after function_at (reverse rest) (item ∷ reverse prefix) turned) (was.parted own));
    }

pub returns : goal.returns
returns g c = λ own.
    let left = into_iter_items c.loop-item.item-iterator in
    let parted = c.loop-item.parted in
    let was = c.loop-item.invariant in
    let over = c.in-None.ensures.steps in
    let none : left ≡ [] = nil_from_length left (search rules) in
    subst (λ es. IsParted g.T.MaybeFunction.function_at es parted.others.items (contains_text parted.getters) (get_by_text parted.waiting)) (ap (λ l. reverse l ++ reverse c.loop-item.yielded) (sym none) ∙ was.all) (was.parted own)
