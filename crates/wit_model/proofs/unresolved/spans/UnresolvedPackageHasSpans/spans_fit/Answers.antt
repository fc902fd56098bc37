use Rattle.wit_model.proofs.PackageSpans.{PackageFits-from, PackageFits-whole}
use Rattle.wit_model.proofs.WorldSpans.{gives_whole}
use Rattle.wit_model.proofs.unresolved.spans.UnresolvedPackageHasSpans.spans_fit.Goals as goal

pub returns-then-not-spans_fit-2 : goal.returns-then-not-spans_fit-2
returns-then-not-spans_fit-2 c = λ h. c.if-not-spans_fit-2.ensures (PackageFits-from c.args.offset c.args.self.now h).unknown

pub returns-then-not-spans_fit-3 : goal.returns-then-not-spans_fit-3
returns-then-not-spans_fit-3 c = λ h. c.if-not-spans_fit-3.ensures (PackageFits-from c.args.offset c.args.self.now h).foreign

pub returns-then-not-spans_fit-4 : goal.returns-then-not-spans_fit-4
returns-then-not-spans_fit-4 c = λ h. c.if-not-spans_fit-4.ensures (PackageFits-from c.args.offset c.args.self.now h).required

pub returns-then-not-spans_fit-5 : goal.returns-then-not-spans_fit-5
returns-then-not-spans_fit-5 c = λ h. c.if-not-spans_fit-5.ensures (PackageFits-from c.args.offset c.args.self.now h).worlds

pub returns-then-not-spans_fit-6 : goal.returns-then-not-spans_fit-6
returns-then-not-spans_fit-6 c = λ h. c.if-not-spans_fit-6.ensures (PackageFits-from c.args.offset c.args.self.now h).interfaces

pub returns : goal.returns
returns c =
    let o = c.args.offset in
    let p = c.args.self.now in
    gives_whole c.spans_fit-7.result (λ fits. PackageFits-whole o p (record { own = c.if-not-spans_fit.ensures.0; unknown = c.if-not-spans_fit-2.ensures; foreign = c.if-not-spans_fit-3.ensures; required = c.if-not-spans_fit-4.ensures; worlds = c.if-not-spans_fit-5.ensures; interfaces = c.if-not-spans_fit-6.ensures; types = fits })) (λ h. (PackageFits-from o p h).types) c.spans_fit-7.ensures
