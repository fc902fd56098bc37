use Rattle.wit_model.proofs.WorldSpans.{PartsFit-from}
use Rattle.wit_model.proofs.spans.whole.WorldHasSpans.adjust_spans.Goals as goal

pub adjust_spans-requires-2 : goal.adjust_spans-requires-2
adjust_spans-requires-2 c = (PartsFit-from c.args.offset c.args.self.now c.requires).imports

pub adjust_spans-requires-3 : goal.adjust_spans-requires-3
adjust_spans-requires-3 c = (PartsFit-from c.args.offset c.args.self.now c.requires).exports

pub adjust_spans-requires-4 : goal.adjust_spans-requires-4
adjust_spans-requires-4 c = (PartsFit-from c.args.offset c.args.self.now c.requires).includes
