use Rattle.std.proofs.Common.{◌≡◌, ◌++◌, ◌∷◌, [], List, Some, map, take, refl, sym, ap, ◌∙◌}
use Rattle.wit_arena.proofs.Common.{ScopeName, append-nil, defined, map-append, slice_get, slice_get_read, take_all}
use Rattle.wit_scopes.specs.BorrowedNames.{Borrowed, name_view, definition_view}
use Rattle.wit_scopes.proofs.Placed.{defined_more}
use Rattle.wit_scopes.proofs.scope_name.definitions.Goals.{in-Defined+in_ok-push, in_default}
use Rattle.wit_scopes.proofs.scope_name.definitions.Goals as goal

pub loop-name-preserved : goal.loop-name-preserved
loop-name-preserved c =
    let i = c.loop-name.name-index in
    let xs = c.args.names.now in
    let x = c.name-item.result in
    let prefix = defined (map name_view (take i xs)) in
    let at : slice_get xs i ≡ Some x = slice_get_read xs _ i x refl c.loop-name-test.true c.name-item.is in
    let more = defined_more xs i x at in
    elim c.match-name.branch [
      | in-Defined+in_ok-push w ↦ (
          let one = more ∙ ap (λ (y : Borrowed). prefix ++ defined (name_view y ∷ [])) w.in-Defined.is in
          rw w.definitions-is (ap (map definition_view) w.in_ok-push.ensures.items ∙ map-append definition_view c.loop-name.definitions.items (w.in-Defined.name ∷ []) ∙ ap (λ (l : List ScopeName). l ++ definition_view w.in-Defined.name ∷ []) c.loop-name.invariant ∙ sym one))
      | in_default w ↦ (
          let none = more ∙ ap (λ (y : Borrowed). prefix ++ defined (name_view y ∷ [])) w.in_default.is ∙ append-nil prefix in
          rw (w.definitions-is, none) c.loop-name.invariant)
    ]

pub returns : goal.returns
returns c = c.loop-name.invariant ∙ ap (λ (l : List Borrowed). defined (map name_view l)) (take_all c.loop-name.name-index c.args.names.now c.loop-name-test.false)
