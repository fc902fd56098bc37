use Rattle.std.proofs.Common.{◌++◌, List, sym, ap, ◌∙◌, Vec, Global}
use Rattle.wit_syntax.proofs.Common.{Id, Target, append-nil, err_from_is_err_and, leads, local_target, option_copied}
use Rattle.wit_first.specs.FileFaults.{unnamed_fault}
use Rattle.wit_first.proofs.First.{reports_same}
use Rattle.wit_top_names.proofs.FirstNames.{leads_some, leads_none, named_later, named_nowhere}
use Rattle.wit_top_names.proofs.top_name.add_edge.Goals.{in-Id+in-Some+in_ok-add_local-in-Some, in-Id+in-None+in_ok-check_declared-in-None+in_ok-push-in-None, in-Package}
use Rattle.wit_top_names.proofs.top_name.add_edge.Goals as goal

pub returns-in_err-check_declared-in-None-clause-first : goal.returns-in_err-check_declared-in-None-clause-first
returns-in_err-check_declared-in-None-clause-first c =
    let p = err_from_is_err_and c.from_residual-in_err-check_declared-in-None.result c.from_residual-in_err-check_declared-in-None.ensures.1 in
    rw (p.1, p.2) (λ top is named all. (
    let own = named_nowhere is top c.args.paths.top.now c.in-Id.id named.finds (sym c.get_by.ensures ∙ ap option_copied c.in-None.is) in
    reports_same (sym own ∙ ap (unnamed_fault is top) (sym c.in-Id.is)) (c.in_err-check_declared-in-None.ensures is all)))

pub returns-clause-first : goal.returns-clause-first
returns-clause-first c = λ top is named all. (
    let es = c.args.paths.top.now in
    elim c.match-path.branch [
      | in-Id+in-Some+in_ok-add_local-in-Some w ↦ ap (unnamed_fault is top) w.in-Id.is ∙ named_later is top es w.in-Id.id w.in-Some.target.now named.finds (sym w.get_by.ensures ∙ ap option_copied w.in-Some.is)
      | in-Id+in-None+in_ok-check_declared-in-None+in_ok-push-in-None w ↦ ap (unnamed_fault is top) w.in-Id.is ∙ named_nowhere is top es w.in-Id.id named.finds (sym w.get_by.ensures ∙ ap option_copied w.in-None.is) ∙ w.in_ok-check_declared-in-None.ensures is all
      | in-Package w ↦ ap (unnamed_fault is top) w.in-Package.is
    ])

pub returns-clause-edges : goal.returns-clause-edges
returns-clause-edges c = λ top named. (
    let old = c.args.edges.now.items in
    let es = c.args.paths.top.now in
    let items : Vec Id Global → List Id = λ v. v.items in
    let rest_after : Target → List Id = λ t. old ++ local_target t in
    elim c.match-path.branch [
      | in-Id+in-Some+in_ok-add_local-in-Some w ↦ (
          let found = leads_some top es w.in-Id.id w.in-Some.target.now named.finds (sym w.get_by.ensures ∙ ap option_copied w.in-Some.is) in
          ap items w.edges-is ∙ w.in_ok-add_local-in-Some.ensures ∙ ap rest_after (found ∙ ap (leads top) (sym w.in-Id.is)))
      | in-Id+in-None+in_ok-check_declared-in-None+in_ok-push-in-None w ↦ (
          let own = leads_none top es w.in-Id.id named.finds (sym w.get_by.ensures ∙ ap option_copied w.in-None.is) in
          ap items w.edges-is ∙ w.in_ok-push-in-None.ensures.items ∙ ap rest_after (own ∙ ap (leads top) (sym w.in-Id.is)))
      | in-Package w ↦ ap items w.edges-is ∙ sym (append-nil old) ∙ ap (λ path. rest_after (leads top path)) (sym w.in-Package.is)
    ])
