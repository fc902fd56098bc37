use Rattle.wit_items.proofs.Common.{HasArena, IfOk-weaker, IsFaithful, IsMadeOf, Makes}
use Rattle.wit_parser.proofs.FirstFault.{found_broken, found_legal}
use Rattle.wit_parser.proofs.PartsMade.{arena_of_made, faithful_of_made}
use Rattle.wit_parser.proofs.resolver.Resolver.resolve.Goals as goal

pub returns-clause-legal : goal.returns-clause-legal
returns-clause-legal c = found_legal c.args.self.files.items c.resolve_pushed.result c.resolve_pushed.ensures.first

pub returns-clause-made : goal.returns-clause-made
returns-clause-made c =
    let files = c.args.self.files.items in
    IfOk-weaker c.resolve_pushed.result (IsMadeOf files) (Makes files) (λ p made. made.whole) c.resolve_pushed.ensures.made

pub returns-clause-arena : goal.returns-clause-arena
returns-clause-arena c =
    let files = c.args.self.files.items in
    IfOk-weaker c.resolve_pushed.result (IsMadeOf files) (HasArena files) (λ p made. arena_of_made files p made.legal made.whole) c.resolve_pushed.ensures.made

pub returns-clause-faithful : goal.returns-clause-faithful
returns-clause-faithful c =
    let files = c.args.self.files.items in
    IfOk-weaker c.resolve_pushed.result (IsMadeOf files) (IsFaithful files) (λ p made. faithful_of_made files p made.legal made.whole) c.resolve_pushed.ensures.made

pub returns-clause-refused : goal.returns-clause-refused
returns-clause-refused c = found_broken c.args.self.files.items c.resolve_pushed.result c.resolve_pushed.ensures.first
