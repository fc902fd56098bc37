use Rattle.std.proofs.Common.{◌∙◌, ap, sym}
use Rattle.wit_items.proofs.Common.{append-nil, file_declarations, flat_map, flat_map-flat_map, one_made}
use Rattle.wit_files.specs.Visits.{item_visits, visits}
use Rattle.wit_syntax.proofs.Joined.{joined_split}
use Rattle.wit_arena.proofs.JoinedMade.{joined_occurrences, joined_packages}
use Rattle.wit_parser.proofs.laws.splitting.Goals as goal

pub returns-clause-visits : goal.returns-clause-visits
returns-clause-visits c files one joined =
    sym (flat_map-flat_map item_visits file_declarations files) ∙ ap (flat_map item_visits) (sym joined.own_declarations) ∙ sym (append-nil (visits one.decl_list))

pub returns-clause-same : goal.returns-clause-same
returns-clause-same c = joined_split

pub returns-clause-occurrences : goal.returns-clause-occurrences
returns-clause-occurrences c = joined_occurrences

pub returns-clause-packages : goal.returns-clause-packages
returns-clause-packages c = joined_packages

pub returns-clause-equal : goal.returns-clause-equal
returns-clause-equal c files one joined p q legal is_p is_q = one_made files p q legal is_p ((joined_packages files one joined q).1 is_q)
