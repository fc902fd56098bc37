use Rattle.std.proofs.Common.{rules, ◌≡◌, ◌++◌, ◌∷◌, [], ap, ◌∙◌, sym, subst, append_assoc}
use Rattle.wit_items.proofs.Common.{AllZip, append-nil, err_from_is_err_and, first_in, in-more, into_iter_items, nil_from_length}
use Rattle.wit_nested.specs.Nested.{IsMadeByNested}
use Rattle.wit_nested.specs.PushFaults.{nested_fault}
use Rattle.wit_nested.proofs.FirstFaults.{in_stops}
use Rattle.wit_nested.proofs.Making.{broken_at, zip_more}
use Rattle.wit_nested.proofs.nested.resolve_all.Goals as goal

pub loop-inner-preserved : goal.loop-inner-preserved
loop-inner-preserved c =
    let n = c.in-Some.inner in
    let prefix = c.loop-inner.yielded in
    let rest = into_iter_items c.next.new.self in
    let was = c.loop-inner.invariant in
    let all : prefix ++ n ∷ rest ≡ c.args.nested.items = ap (λ l. prefix ++ l) (sym c.in-Some.ensures.steps.0) ∙ was.all in
    record {
      all = append_assoc prefix (n ∷ []) rest ∙ all;
      made = rw c.in_ok-push.ensures.items (zip_more IsMadeByNested prefix c.loop-inner.made.items n _ was.made c.in_ok-resolve_one.ensures.made);
      first = λ walk walks. in-more (nested_fault walk) prefix n (was.first walk walks) ∙ c.in_ok-resolve_one.ensures.first walk walks;
    }

pub returns-in_err-resolve_one-clause-refused : goal.returns-in_err-resolve_one-clause-refused
returns-in_err-resolve_one-clause-refused c =
    let p = err_from_is_err_and c.from_residual.result c.from_residual.ensures.1 in
    let n = c.in-Some.inner in
    let prefix = c.loop-inner.yielded in
    let rest = into_iter_items c.next.new.self in
    let all : prefix ++ n ∷ rest ≡ c.args.nested.items = ap (λ l. prefix ++ l) (sym c.in-Some.ensures.steps.0) ∙ c.loop-inner.invariant.all in
    rw (p.1, p.2) (broken_at prefix rest c.args.nested.items n _ all c.in_err-resolve_one.ensures.refused)

pub returns-clause-made : goal.returns-clause-made
returns-clause-made c =
    let prefix = c.loop-inner.yielded in
    let left = into_iter_items c.loop-inner.inner-iterator in
    let was = c.loop-inner.invariant in
    let over = c.in-None.ensures.steps in
    let none : left ≡ [] = nil_from_length left (search rules) in
    subst (λ ns. AllZip IsMadeByNested ns c.loop-inner.made.items) (sym (append-nil prefix) ∙ ap (λ l. prefix ++ l) (sym none) ∙ was.all) was.made

pub returns-in_err-resolve_one-clause-first : goal.returns-in_err-resolve_one-clause-first
returns-in_err-resolve_one-clause-first c =
    let p = err_from_is_err_and c.from_residual.result c.from_residual.ensures.1 in
    let n = c.in-Some.inner in
    let prefix = c.loop-inner.yielded in
    let rest = into_iter_items c.next.new.self in
    let all : prefix ++ n ∷ rest ≡ c.args.nested.items = ap (λ l. prefix ++ l) (sym c.in-Some.ensures.steps.0) ∙ c.loop-inner.invariant.all in
    rw (p.1, p.2) (λ walk walks. in_stops (nested_fault walk) prefix rest c.args.nested.items n _ all (c.loop-inner.invariant.first walk walks) (c.in_err-resolve_one.ensures.first walk walks))

pub returns-clause-first : goal.returns-clause-first
returns-clause-first c =
    let prefix = c.loop-inner.yielded in
    let left = into_iter_items c.loop-inner.inner-iterator in
    let was = c.loop-inner.invariant in
    let over = c.in-None.ensures.steps in
    let none : left ≡ [] = nil_from_length left (search rules) in
    let all : c.args.nested.items ≡ prefix = sym was.all ∙ ap (λ l. prefix ++ l) none ∙ append-nil prefix in
    λ walk walks. ap (first_in (nested_fault walk)) all ∙ was.first walk walks
