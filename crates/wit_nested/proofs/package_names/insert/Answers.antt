use denote.Ref.{Bor}
use Rattle.std.proofs.Common.{not, ap, ◌∙◌}
use Rattle.wit_items.proofs.Common.{PackageName, is_some, is_some-lookup, keys-insert_entry, keys_of, same_package, same_package-equal, same_package-from}
use Rattle.wit_nested.proofs.Naming.{inserted, turned}
use Rattle.wit_nested.proofs.package_names.insert.Goals as goal

pub returns : goal.returns
returns c =
    let old = c.args.names.now in
    let k = c.args.name in
    let eq = λ (a b : Bor PackageName). same_package a.now b.now in
    inserted (λ (n : Bor PackageName). n.now) eq (λ a b. same_package-equal a.now b.now) (λ a b. same_package-from a.now b.now) (keys_of old) (keys_of c.insert.new.self) k c.is_none.result
    (turned _ c.is_none.result c.is_none.ensures ∙ ap not (ap is_some c.in_ok-insert.ensures.was ∙ is_some-lookup (eq k) old))
    (ap keys_of c.in_ok-insert.ensures.ok ∙ keys-insert_entry eq old k _)
