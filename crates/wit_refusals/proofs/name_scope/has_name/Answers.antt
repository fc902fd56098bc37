use Rattle.std.proofs.Common.{◌≡◌, rules, nat_eq, Some, None, sym, ap, ◌∙◌}
use Rattle.wit_syntax.proofs.Common.{lookup, name_equal, name_itself, pointwise}
use Rattle.wit_refusals.specs.KeyedNames.{spelled}
use Rattle.wit_refusals.proofs.Scoping.{has-found, found-has, none-has}
use Rattle.wit_refusals.proofs.name_scope.has_name.Goals as goal

pub returns-in-Some : goal.returns-in-Some
returns-in-Some c =
    let es = c.args.names.now in
    let name = c.args.name.now in
    let key = c.in_ok-key.key in
    let d = c.in-Some.found.now in
    let found : lookup (pointwise nat_eq key) es ≡ Some d = sym (rw c.in-Some.is at c.get.ensures) in
    let as_stated : c.eq.result ≡ pointwise nat_eq (spelled key d) name = search rules in (
      λ t. has-found es name key d c.requires.keyed c.in_ok-key.ensures found (name_equal (spelled key d) name (sym as_stated ∙ t)),
      λ has. as_stated ∙ ap (λ n. pointwise nat_eq n name) (found-has es name key d c.requires.keyed c.in_ok-key.ensures found has) ∙ name_itself name,
    )

pub returns : goal.returns
returns c =
    let none : lookup (pointwise nat_eq c.in_ok-key.key) c.args.names.now ≡ None = sym (rw c.in-None.is at c.get.ensures) in (
      λ t. absurd (let f : ⊥ = cc in f),
      λ has. absurd (none-has c.args.names.now c.args.name.now c.in_ok-key.key c.requires.keyed c.in_ok-key.ensures none has),
    )
