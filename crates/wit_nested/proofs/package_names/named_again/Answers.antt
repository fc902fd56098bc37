use denote.Ref.{Bor}
use Rattle.std.proofs.Common.{ap, map}
use Rattle.wit_items.proofs.Common.{PackageName, keys_of}
use Rattle.wit_nested.proofs.Naming.{main_seen, more_seen}
use Rattle.wit_nested.proofs.package_names.named_again.Goals as goal

pub loop-package-init : goal.loop-package-init
loop-package-init c =
    let now = λ (n : Bor PackageName). n.now in
    main_seen c.args.main.now c.args.nested.now (map now (keys_of c.new-names.result)) (map now (keys_of c.insert.new.names)) c.in_ok-insert.field-0 (ap (λ es. map now (keys_of es)) c.new-names.ensures) c.in_ok-insert.ensures

pub loop-package-preserved : goal.loop-package-preserved
loop-package-preserved c =
    let now = λ (n : Bor PackageName). n.now in
    let l = c.loop-package in
    more_seen c.args.main.now c.args.nested.now l.package-index c.package-item.result (map now (keys_of l.names)) (map now (keys_of c.insert-in-loop-package.new.names)) c.loop-package-test.true c.package-item.is l.invariant
    (rw c.if-not-branch.false at c.in_ok-insert-2.ensures)
