use Rattle.std.proofs.Common.{◌++◌, ◌∷◌, [], ap, refl, ◌∙◌}
use Rattle.wit_items.proofs.Common.{err_from_is_err_and, first_in, refused_by}
use Rattle.wit_parser.proofs.Pushing.{push_agrees}
use Rattle.wit_nested.proofs.Fitting.{not_unfit}
use Rattle.wit_nested.specs.PushFaults.{file_fault, nested_fault}
use Rattle.wit_nested.proofs.FirstFaults.{reports_first, source_none, source_stops}
use Rattle.wit_nested.proofs.Making.{among_unfit, nested_extended, rest_unfit}
use Rattle.wit_nested.proofs.resolver.GroupResolver.push.Goals as goal

pub returns-in_err-made-clause-refused : goal.returns-in_err-made-clause-refused
returns-in_err-made-clause-refused c =
    let p = err_from_is_err_and c.from_residual.result c.from_residual.ensures.1 in
    rw (p.1, p.2) (among_unfit c.args.self.now.main.files.items c.args.source c.args.source.nested.items _ refl c.in_err-made.ensures.refused)

pub returns-in-Ok-clause-files : goal.returns-in-Ok-clause-files
returns-in-Ok-clause-files c = c.in-Ok.ensures.ok ∙ ap (λ file. c.args.self.now.main.files.items ++ file ∷ []) c.alone.ensures.file

pub returns-in-Ok-clause-nested : goal.returns-in-Ok-clause-nested
returns-in-Ok-clause-nested c =
    nested_extended c.args.source.nested.items c.args.source.nested.items c.in_ok-made.made.items c.args.self.now.nested.items _ refl c.in_ok-made.ensures.made c.in_ok-append.ensures.items

pub returns-in-Ok-clause-accepted : goal.returns-in-Ok-clause-accepted
returns-in-Ok-clause-accepted c =
    not_unfit c.args.self.now.main.files.items c.args.source c.alone.result c.args.source.nested.items c.in_ok-made.made.items refl c.in_ok-made.ensures.made c.alone.ensures.file ((push_agrees c.args.self.now.main.files.items c.alone.result).unbroken c.in-Ok.ensures.first)

pub returns-clause-refused : goal.returns-clause-refused
returns-clause-refused c = rest_unfit c.args.self.now.main.files.items c.args.source c.alone.result _ c.alone.ensures.file c.alone.ensures.nested (refused_by (push_agrees c.args.self.now.main.files.items c.alone.result) c.in-Err.ensures.first)

pub returns-in_err-made-clause-first : goal.returns-in_err-made-clause-first
returns-in_err-made-clause-first c =
    let p = err_from_is_err_and c.from_residual.result c.from_residual.ensures.1 in
    rw (p.1, p.2) (λ walk walks. reports_first (first_in (nested_fault walk) c.args.source.nested.items) (file_fault c.args.self.now.main.files.items c.args.source.file) _ (c.in_err-made.ensures.first walk walks))

pub returns-in-Ok-clause-first : goal.returns-in-Ok-clause-first
returns-in-Ok-clause-first c = source_none c.args.self.now.main.files.items c.args.source c.alone.result c.alone.ensures.file c.alone.ensures.nested c.in_ok-made.ensures.first c.in-Ok.ensures.first

pub returns-clause-first : goal.returns-clause-first
returns-clause-first c = source_stops c.args.self.now.main.files.items c.args.source c.alone.result c.alone.ensures.file c.alone.ensures.nested c.in_ok-made.ensures.first _ c.in-Err.ensures.first
