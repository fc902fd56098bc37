use Rattle.std.proofs.Common.{◌≡◌, refl, List, ◌+◌, ◌++◌, ◌∷◌, [], Some, map, take, inl, inr, sym, ap, ◌∙◌, subst}
use Rattle.wit_syntax.proofs.Common.{AllDiffer, IsRepeatAt, TopName, around, at_take, fault_in, key_at, map-append, read_map, slice_get, take-map, take_all, take_more, top_text}
use Rattle.wit_first.proofs.First.{no_repeats, repeat_first}
use Rattle.wit_top_names.specs.Tops.{top_view, AreNamed}
use Rattle.wit_top_names.proofs.FirstNames.{copied_none, copied_some, present, finds_more, differ_top}
use Rattle.wit_top_names.proofs.top_name.unique_names.Goals as goal

pub returns-then-is_some-clause-first : goal.returns-then-is_some-clause-first
returns-then-is_some-clause-first c =
    let names = c.args.names.now in
    let xs = map top_view names in
    let i = c.loop-name.name-index in
    let t = top_view c.name-item.result in
    let at : slice_get xs i ≡ Some t = read_map top_view names i c.name-item.result c.loop-name-test.true c.name-item.is in
    let v = copied_some c.get_by.result (sym c.is_some.ensures ∙ c.if-is_some.true) in
    let p = present (map top_view (take i names)) c.loop-name.found (top_text t) v.0 c.loop-name.invariant.named.finds (sym c.get_by.ensures ∙ v.1) in
    let there = at_take xs i p.0 p.1 (ap (λ (l : List TopName). slice_get l p.0) (take-map top_view i names) ∙ p.2) in
    let r : IsRepeatAt (map top_text xs) p.0 i = record { x = top_text t; before = there.1; at_first = key_at top_text xs p.0 p.1 there.0 ∙ ap Some p.3; at_second = key_at top_text xs i t at } in
    let d : AllDiffer (take i (map top_text xs)) = subst AllDiffer (sym (take-map top_text i xs ∙ ap (map top_text) (take-map top_view i names))) c.loop-name.invariant.distinct in
    elim (c.refuse_in.ensures (around c.args.prefix.now t.id.name.now c.args.back.now) c.repeated-words.ensures) [
      | inl memory ↦ inl memory
      | inr says ↦ inr (repeat_first top_text (λ (n : TopName). fault_in c.args.rule n.id.span (around c.args.prefix.now n.id.name.now c.args.back.now)) xs p.0 i t r d at ∙ ap Some (sym says))
    ]

pub returns-clause-first : goal.returns-clause-first
returns-clause-first c =
    let names = c.args.names.now in
    no_repeats top_text (λ (n : TopName). fault_in c.args.rule n.id.span (around c.args.prefix.now n.id.name.now c.args.back.now)) (map top_view names) (subst (λ l. AllDiffer (map top_text (map top_view l))) (take_all c.loop-name.name-index names c.loop-name-test.false) c.loop-name.invariant.distinct)

pub returns-clause-named : goal.returns-clause-named
returns-clause-named c = subst (λ l. AreNamed (map top_view l) c.loop-name.found) (take_all c.loop-name.name-index c.args.names.now c.loop-name-test.false) c.loop-name.invariant.named

pub loop-name-preserved : goal.loop-name-preserved
loop-name-preserved c =
    let xs = c.args.names.now in
    let i = c.loop-name.name-index in
    let before = map top_view (take i xs) in
    let t = top_view c.name-item.result in
    let extended : map top_view (take (i + 1) xs) ≡ before ++ t ∷ [] = ap (map top_view) (take_more xs i c.name-item.result c.loop-name-test.true ∙ ap (λ x. take i xs ++ x ∷ []) (sym c.name-item.is)) ∙ map-append top_view (take i xs) (c.name-item.result ∷ []) in
    let none = sym c.get_by.ensures ∙ copied_none c.get_by.result (sym c.is_some.ensures ∙ c.if-is_some.false) in
    let old = c.loop-name.invariant in
    record {
      named = rw extended (record { finds = finds_more before c.loop-name.found c.put.new.self t _ _ old.named.finds refl refl none c.in_ok-put.ensures.ok });
      distinct = rw extended (differ_top before c.loop-name.found t (top_text t) old.named.finds old.distinct refl none);
    }
