-- The definition that a word begins.
use Rattle.std.proofs.Common.{◌≡◌, Bool, true, false, ◌∙◌, sym, subst, refl}
use Rattle.std.specs.Prelude.{◌||◌, Result, IfErr, if◌then◌else◌}
use Rattle.wit_lex.specs.declared.fault.ReadError.{ReadError}
use Rattle.wit_lex.specs.declared.kind.Kind.{Kind}
use Rattle.wit_lex.specs.declared.kind.Kind.TheVariants as kind
use Rattle.wit_lex.specs.declared.word.Word.{Word}
use Rattle.wit_lex.specs.declared.word.Word.TheVariants as word
use Rattle.wit_lex.specs.Lexis.{Stops}
use Rattle.wit_grammar.specs.TokenKinds.{same_kind}
use Rattle.wit_grammar.specs.Trees.{Name, Body}
use Rattle.wit_grammar.specs.Leaves.{Spot, Read}
use Rattle.wit_grammar.specs.Grammar.{Gram, run}
use Rattle.wit_grammar.specs.ItemRules.{alias_definition, record_definition, flags_definition, variant_definition, enum_definition, resource_definition, definition}
use Rattle.wit_reader.specs.declared.reader.Reader.{Reader}
use Rattle.wit_reader.specs.Reading.{spot}

-- whether the token is a word
abbrev pub At : Reader → Word → Bool → Type 0
At r w b = same_kind r.token.kind (kind.Word w) ≡ b

-- the alternatives in their order, by the kind of the token
abbrev chosen : Spot → Kind → Read (Name × Body)
chosen s k =
    if same_kind k (kind.Word word.Type) || false then run alias_definition s
    else if same_kind k (kind.Word word.Record) || false then run record_definition s
    else if same_kind k (kind.Word word.Flags) || false then run flags_definition s
    else if same_kind k (kind.Word word.Variant) || false then run variant_definition s
    else if same_kind k (kind.Word word.Enum) || false then run enum_definition s
    else run resource_definition s

all_chosen : (r : Reader) → run definition (spot r) ≡ chosen (spot r) r.token.kind
unfolding definition alias_definition record_definition flags_definition variant_definition enum_definition
all_chosen r = rw r.next refl

abbrev Goes : Gram (Name × Body) → Reader → Type 0
Goes g r = run definition (spot r) ≡ run g (spot r)

pub at_alias : (r : Reader) → At r word.Type true → Goes alias_definition r
at_alias r a = all_chosen r ∙ rw a refl

pub at_record : (r : Reader) → At r word.Type false → At r word.Record true → Goes record_definition r
at_record r a b = all_chosen r ∙ rw (a, b) refl

pub at_flags : (r : Reader) → At r word.Type false → At r word.Record false → At r word.Flags true → Goes flags_definition r
at_flags r a b c = all_chosen r ∙ rw (a, b, c) refl

pub at_variant : (r : Reader) → At r word.Type false → At r word.Record false → At r word.Flags false → At r word.Variant true → Goes variant_definition r
at_variant r a b c d = all_chosen r ∙ rw (a, b, c, d) refl

pub at_enum : (r : Reader) → At r word.Type false → At r word.Record false → At r word.Flags false → At r word.Variant false → At r word.Enum true → Goes enum_definition r
at_enum r a b c d e = all_chosen r ∙ rw (a, b, c, d, e) refl

pub at_resource : (r : Reader) → At r word.Type false → At r word.Record false → At r word.Flags false → At r word.Variant false → At r word.Enum false → Goes resource_definition r
at_resource r a b c d e = all_chosen r ∙ rw (a, b, c, d, e) refl

-- where a course is another, it stops where that does
pub stops_as : {A T : Type 0} {r s : Result A ReadError} (result : Result T ReadError) → s ≡ r → IfErr result (Stops r) → IfErr result (Stops s)
stops_as result e h = subst (λ r. IfErr result (Stops r)) (sym e) h
