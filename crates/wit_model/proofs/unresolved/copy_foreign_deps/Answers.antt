use Rattle.wit_model.proofs.Copies.{if_ok, same_deps}
use Rattle.wit_model.proofs.unresolved.copy_foreign_deps.Goals as goal

pub returns : goal.returns
returns c = if_ok _ (λ copy all. same_deps c.args.deps.now copy all) c.clone.result c.clone.ensures.cases
