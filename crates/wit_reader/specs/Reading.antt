-- How a reader goes on.
use Rattle.std.specs.Prelude.{◌≡◌, ◌<◌, ◌≤◌, Result, Ok}
use Rattle.wit_values.specs.declared.span.Span.{Span}
use Rattle.wit_reader.specs.declared.reader.Reader.{Reader}
use Rattle.wit_lex.specs.declared.fault.ReadError.{ReadError}
use Rattle.wit_lex.specs.Lexis.{lexeme, Stops}
use Rattle.wit_grammar.specs.Leaves.{Spot, Read, span_of}
use Rattle.wit_grammar.specs.Grammar.{Gram, act, run}

-- where a reader is
abbrev pub spot : Reader → Spot
spot r = record { source = r.source.now; offset = r.offset; place = r.before }

-- where its token is
abbrev pub token_span : Reader → Span
token_span r = span_of (spot r) (lexeme r.token)

-- at least one token was read, and a course gives this value and the place that the reader has then
pub record Parses {A : Type 0} (old : Reader) (course : Read A) (value : A) (new : Reader) : Type 0 where
  pub source : new.source ≡ old.source
  pub offset : new.offset ≡ old.offset
  pub onward : old.before < new.before
  pub parses : course ≡ Ok (value, spot new)

-- the same where perhaps no token was read
pub record ParsesOn {A : Type 0} (old : Reader) (course : Read A) (value : A) (new : Reader) : Type 0 where
  pub source : new.source ≡ old.source
  pub offset : new.offset ≡ old.offset
  pub onward : old.before ≤ new.before
  pub parses : course ≡ Ok (value, spot new)

-- the same of a course that gives a place alone
pub record Passes (old : Reader) (course : Result Spot ReadError) (new : Reader) : Type 0 where
  pub source : new.source ≡ old.source
  pub offset : new.offset ≡ old.offset
  pub onward : old.before < new.before
  pub passes : course ≡ Ok (spot new)

-- the grammar spells this value from where one reader is to where the other is, at least one token further
abbrev pub Reads : {A : Type 0} → Gram A → Reader → A → Reader → Type 0
Reads g old value new = Parses old (run g (spot old)) value new

-- the same where perhaps no token was read
abbrev pub ReadsOn : {A : Type 0} → Gram A → Reader → A → Reader → Type 0
ReadsOn g old value new = ParsesOn old (run g (spot old)) value new

-- the same of a value of which the answer is made
abbrev pub ReadsAs : {A B : Type 0} → Gram A → (A → B) → Reader → B → Reader → Type 0
ReadsAs g make old answer new = Reads (act make g) old answer new

-- the fault at which reading by the grammar stops, or memory ran out
abbrev pub Refuses : {A : Type 0} → Gram A → Reader → ReadError → Type 0
Refuses g old = Stops (run g (spot old))
