use Rattle.wit_model.proofs.PackageSpans.{PackageFits-from}
use Rattle.wit_model.proofs.unresolved.spans.UnresolvedPackageHasSpans.adjust_spans.Goals as goal

pub adjust_spans-requires-2 : goal.adjust_spans-requires-2
adjust_spans-requires-2 c = (PackageFits-from c.args.offset c.args.self.now c.requires).unknown

pub adjust_spans-requires-3 : goal.adjust_spans-requires-3
adjust_spans-requires-3 c = (PackageFits-from c.args.offset c.args.self.now c.requires).foreign

pub adjust_spans-requires-4 : goal.adjust_spans-requires-4
adjust_spans-requires-4 c = (PackageFits-from c.args.offset c.args.self.now c.requires).required

pub adjust_spans-requires-5 : goal.adjust_spans-requires-5
adjust_spans-requires-5 c = (PackageFits-from c.args.offset c.args.self.now c.requires).worlds

pub adjust_spans-requires-6 : goal.adjust_spans-requires-6
adjust_spans-requires-6 c = (PackageFits-from c.args.offset c.args.self.now c.requires).interfaces

pub adjust_spans-requires-7 : goal.adjust_spans-requires-7
adjust_spans-requires-7 c = (PackageFits-from c.args.offset c.args.self.now c.requires).types
