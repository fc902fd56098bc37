use Rattle.std.proofs.Common.{refl, rules}
use Rattle.std.proofs.lemmas.Result.{IfErr-weaker}
use Rattle.wit_lex.specs.TextFaults.{IsUnread}
use Rattle.wit_lex.proofs.Lexing.{next_lexed, next_unlexed}
use Rattle.wit_lex.proofs.token.Token.advance.Goals as goal

pub returns-in-Err-clause-unlexed : goal.returns-in-Err-clause-unlexed
returns-in-Err-clause-unlexed c =
    let at = rw c.as_bytes-bytes.ensures.value at c.in-Err.ensures.endless in
    next_unlexed c.args.source.now c.args.from _ (at.0, at.1, refl)

pub returns-then-start-bytes-clause-lexed : goal.returns-then-start-bytes-clause-lexed
returns-then-start-bytes-clause-lexed c = next_lexed c.args.source.now c.args.from c.end_at.result (search rules) (search rules) (search rules)

pub returns-in_err-self-clause-unlexed : goal.returns-in_err-self-clause-unlexed
returns-in_err-self-clause-unlexed c = IfErr-weaker c.from_residual.result (IsUnread c.args.source.now c.args.from) _ (next_unlexed c.args.source.now c.args.from) (search rules)

pub returns-clause-lexed : goal.returns-clause-lexed
returns-clause-lexed c = next_lexed c.args.source.now c.args.from c.in_ok-self.field-0 (search rules) (search rules) (search rules)
