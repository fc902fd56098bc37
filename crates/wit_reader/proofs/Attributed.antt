-- Attributes by the rules of the grammar.
use Rattle.std.proofs.Common.{◌≡◌, ℕ, List, ap, ◌∙◌, sym, subst, refl, true, false, Bool}
use Rattle.std.specs.Prelude.{Result, IfErr, codes}
use Rattle.wit_values.specs.declared.span.Span.{Span}
use Rattle.wit_lex.specs.declared.kind.Kind.TheVariants as kind
use Rattle.wit_lex.specs.declared.fault.ReadError.{ReadError}
use Rattle.wit_lex.specs.Lexis.{lexeme, Stops}
use Rattle.wit_grammar.specs.TokenKinds.{same_kind}
use Rattle.wit_grammar.specs.Leaves.{Read, ◌>>=◌}
use Rattle.wit_grammar.specs.Trees.{Attribute, Name, Release}
use Rattle.wit_grammar.specs.Grammar.{Gram, act, applied, either, matches, of_kind, of_text, run, starts}
use Rattle.wit_grammar.specs.Rules.{after_at, attribute, deprecated_attribute, deprecated_of, since_attribute, since_of, unstable_attribute, unstable_of}
use Rattle.wit_reader.specs.declared.reader.Reader.{Reader}
use Rattle.wit_reader.specs.Reading.{spot}
use Rattle.wit_reader.proofs.Courses.{first_way, made, made_twice, second_way, starts_with, stops_made}

-- an attribute begins with its sign
pub attribute_begins : (r : Reader) (b : Bool) → same_kind r.token.kind kind.At ≡ b → starts attribute (spot r) ≡ b
unfolding attribute
attribute_begins r b h = starts_with attribute (of_kind kind.At) r b refl h

abbrev pub made_since : (Span × Release) × Span → Span → Attribute
made_since x at = since_of at x

abbrev pub made_unstable : Name × Span → Span → Attribute
made_unstable x at = unstable_of at x

abbrev pub made_deprecated : (Span × Release) × Span → Span → Attribute
made_deprecated x at = deprecated_of at x

abbrev is_text : List ℕ → Reader → Bool
is_text word r = matches (of_text word) (spot r) (lexeme r.token)

abbrev others : Gram (Span → Attribute)
others = either (act made_unstable unstable_attribute) (act made_deprecated deprecated_attribute)

since_begins : (r : Reader) (b : Bool) → is_text (codes "since") r ≡ b → starts (act made_since since_attribute) (spot r) ≡ b
unfolding since_attribute
since_begins r b h = starts_with (act made_since since_attribute) (of_text (codes "since")) r b refl h

unstable_begins : (r : Reader) (b : Bool) → is_text (codes "unstable") r ≡ b → starts (act made_unstable unstable_attribute) (spot r) ≡ b
unfolding unstable_attribute
unstable_begins r b h = starts_with (act made_unstable unstable_attribute) (of_text (codes "unstable")) r b refl h

-- each alternative, by the text of the token
pub since_next : (r : Reader) → is_text (codes "since") r ≡ true → run after_at (spot r) ≡ run (act made_since since_attribute) (spot r)
unfolding after_at
since_next r h = first_way (act made_since since_attribute) others (spot r) (since_begins r true h)

pub unstable_next : (r : Reader) → is_text (codes "since") r ≡ false → is_text (codes "unstable") r ≡ true → run after_at (spot r) ≡ run (act made_unstable unstable_attribute) (spot r)
unfolding after_at
unstable_next r n h =
    second_way (act made_since since_attribute) others (spot r) (since_begins r false n)
    ∙ first_way (act made_unstable unstable_attribute) (act made_deprecated deprecated_attribute) (spot r) (unstable_begins r true h)

pub deprecated_next : (r : Reader) → is_text (codes "since") r ≡ false → is_text (codes "unstable") r ≡ false → run after_at (spot r) ≡ run (act made_deprecated deprecated_attribute) (spot r)
unfolding after_at
deprecated_next r n m =
    second_way (act made_since since_attribute) others (spot r) (since_begins r false n)
    ∙ second_way (act made_unstable unstable_attribute) (act made_deprecated deprecated_attribute) (spot r) (unstable_begins r false m)

-- the attribute of an alternative
pub attribute_made : {A : Type 0} (at : Span) (make : A → Span → Attribute) (g : Gram A) (r : Reader) → run after_at (spot r) ≡ run (act make g) (spot r) →
    run (act (applied at) after_at) (spot r) ≡ run (act (λ x. make x at) g) (spot r)
attribute_made at make g r h = ap (λ (c : Read (Span → Attribute)). c >>= made (applied at)) h ∙ made_twice (applied at) make (run g (spot r))

-- the fault at which one of them stops
pub attribute_stops : {A T : Type 0} (make : A → Span → Attribute) (g : Gram A) (r : Reader) (result : Result T ReadError) → run after_at (spot r) ≡ run (act make g) (spot r) →
    IfErr result (Stops (run g (spot r))) → IfErr result (Stops (run after_at (spot r)))
attribute_stops make g r result h k = subst (λ (c : Read (Span → Attribute)). IfErr result (Stops c)) (sym h) (stops_made (made make) (run g (spot r)) result k)
