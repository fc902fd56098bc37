use Rattle.std.proofs.Common.{◌≡◌, ◌++◌, ◌∷◌, [], List, Some, take, refl, sym, ap, ◌∙◌}
use Rattle.wit_arena.proofs.Common.{append-nil, flat_map, slice_get, slice_get_read, take_all}
use Rattle.wit_scopes.specs.BorrowedNames.{Borrowed, own_use}
use Rattle.wit_scopes.specs.declared.scope_name.UsedName.{UsedName}
use Rattle.wit_scopes.proofs.Placed.{uses_more}
use Rattle.wit_scopes.proofs.scope_name.used_names.Goals.{in-Used+in_ok-push, in_default}
use Rattle.wit_scopes.proofs.scope_name.used_names.Goals as goal

pub loop-name-preserved : goal.loop-name-preserved
loop-name-preserved c =
    let i = c.loop-name.name-index in
    let xs = c.args.names.now in
    let x = c.name-item.result in
    let before = flat_map own_use (take i xs) in
    let at : slice_get xs i ≡ Some x = slice_get_read xs _ i x refl c.loop-name-test.true c.name-item.is in
    let more = uses_more xs i x at in
    elim c.match-name.branch [
      | in-Used+in_ok-push w ↦ (
          let one = more ∙ ap (λ (y : Borrowed). before ++ own_use y) w.in-Used.is in
          rw w.uses-is (w.in_ok-push.ensures.items ∙ ap (λ (l : List UsedName). l ++ w.in-Used.name ∷ []) c.loop-name.invariant ∙ sym one))
      | in_default w ↦ (
          let none = more ∙ ap (λ (y : Borrowed). before ++ own_use y) w.in_default.is ∙ append-nil before in
          rw (w.uses-is, none) c.loop-name.invariant)
    ]

pub returns : goal.returns
returns c = c.loop-name.invariant ∙ ap (flat_map own_use) (take_all c.loop-name.name-index c.args.names.now c.loop-name-test.false)
