use Rattle.std.proofs.Common.{inl, sym, ap₂, ◌∙◌, subst}
use Rattle.wit_items.proofs.Common.{Docs, Makes, PackageName, err_from_is_err_and, legal}
use Rattle.wit_model.specs.Packages.{package_of_parts}
use Rattle.wit_contents.specs.Files.{MakeContents}
use Rattle.wit_parser.proofs.FirstFault.{faultless, reported}
use Rattle.wit_parser.proofs.resolver.resolve_named.Goals as goal

pub returns-clause-made : goal.returns-clause-made
returns-clause-made c =
    let files = c.args.files.now in
    let header = c.args.header.now in
    let of = c.in_ok-contents.contents in
    let made : MakeContents files of = rw c.in_ok-contents.ensures.both.0 c.in_ok-made.ensures.made in
    let n = rw c.in_ok-contents.ensures.both.1 at c.package_heading.ensures in
    let right = legal files (faultless files header c.requires.header c.in_ok-made.ensures.first) in
    let same = ap₂ (λ (name : PackageName) (docs : Docs). package_of_parts name of.arenas docs header.span of.foreign) (sym n.name) (sym n.docs) ∙ sym c.new.ensures in
    record { legal = right; whole = subst (Makes files) same (made.made header c.requires.header right) }

pub returns-in_err-made-clause-first : goal.returns-in_err-made-clause-first
returns-in_err-made-clause-first c =
    let p = err_from_is_err_and c.from_residual.result c.from_residual.ensures.1 in
    rw (p.1, p.2) (reported c.args.files.now c.args.header.now c.requires.header _ c.in_err-made.ensures.first)

pub returns-in_err-contents-clause-first : goal.returns-in_err-contents-clause-first
returns-in_err-contents-clause-first c =
    let p = err_from_is_err_and c.from_residual-in_err-contents.result c.from_residual-in_err-contents.ensures.1 in
    rw p.1 (inl p.2)

pub returns-clause-first : goal.returns-clause-first
returns-clause-first c = faultless c.args.files.now c.args.header.now c.requires.header c.in_ok-made.ensures.first
