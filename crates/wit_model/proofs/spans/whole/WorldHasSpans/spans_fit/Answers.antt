use Rattle.wit_model.proofs.WorldSpans.{PartsFit-from, PartsFit-whole, gives_whole}
use Rattle.wit_model.proofs.spans.whole.WorldHasSpans.spans_fit.Goals as goal

pub returns-then-not-spans_fit-2 : goal.returns-then-not-spans_fit-2
returns-then-not-spans_fit-2 c = λ h. c.if-not-spans_fit-2.ensures (PartsFit-from c.args.offset c.args.self.now h).imports

pub returns-then-not-spans_fit-3 : goal.returns-then-not-spans_fit-3
returns-then-not-spans_fit-3 c = λ h. c.if-not-spans_fit-3.ensures (PartsFit-from c.args.offset c.args.self.now h).exports

pub returns : goal.returns
returns c =
    let o = c.args.offset in
    let w = c.args.self.now in
    let own = c.if-not-spans_fit.ensures.0 in
    gives_whole c.spans_fit-4.result (λ fits. PartsFit-whole o w (record { own = own; imports = c.if-not-spans_fit-2.ensures; exports = c.if-not-spans_fit-3.ensures; includes = fits })) (λ h. (PartsFit-from o w h).includes) c.spans_fit-4.ensures
