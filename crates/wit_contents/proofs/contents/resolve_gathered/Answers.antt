use Rattle.std.proofs.Common.{List, inl, inr, sym}
use Rattle.wit_contents.proofs.Names.{PackageFile, err_from_is_err_and, finds_same}
use Rattle.wit_files.proofs.Gathering.{names_agree}
use Rattle.wit_contents.proofs.FileFaults.{names_first, names_none}
use Rattle.wit_contents.proofs.contents.resolve_gathered.Goals as goal

pub resolve_named-requires : goal.resolve_named-requires
resolve_named-requires c = record { gathered = c.in_ok-names.ensures.files; unbroken = rw c.in_ok-names.ensures.files ((names_agree c.args.files.now).unbroken c.in_ok-names.ensures.first) }

pub returns-in_err-names-clause-first : goal.returns-in_err-names-clause-first
returns-in_err-names-clause-first c =
    let p = err_from_is_err_and c.from_residual.result c.from_residual.ensures.1 in
    let files : List PackageFile = c.args.files.now in
    rw (p.1, p.2) (λ known is. elim c.in_err-names.ensures.first [ inl memory ↦ inl memory | inr wrong ↦ inr (names_first files known is _ wrong) ])

pub returns-clause-first : goal.returns-clause-first
returns-clause-first c = λ known is. finds_same _ (sym (names_none c.args.files.now known is c.in_ok-names.ensures.first)) (rw c.in_ok-names.ensures.files at c.resolve_named.ensures.first known is)
