use Rattle.std.proofs.Common.{◌<◌, length, sym, ap, subst, ◌∙◌}
use Rattle.wit_syntax.proofs.Common.{leads, slice_get_read}
use Rattle.wit_files.specs.FileNames.{top_at}
use Rattle.wit_files.proofs.Gathering.{top_at_place}
use Rattle.wit_files.proofs.file_names.FileNames.target.Goals as goal

pub returns : goal.returns
returns c =
    let files = c.self.inside.files.now in
    let tops = c.self.inside.tables.tops.items in
    let top = c.index.result.now in
    let are = c.self.invariant.declared.tops in
    let within : c.args.file < length files = subst (λ l. c.args.file < length l) (sym c.self.view_is) c.requires.within in
    let there = slice_get_read tops (length files) c.args.file top (sym are.long) within c.index.ensures in
    c.leads.ensures (top_at files c.args.file) (top_at_place files tops c.args.file top are within there) ∙ ap (λ l. leads (top_at l c.args.file) c.args.path.now) c.self.view_is
