-- The line of a refusal is that of its fault.
use Rattle.std.proofs.Common.{◌≡◌, ℕ, ◌<◌, false, List, [], Option, Some, None, refl, sym, ap, ◌∙◌, true≢false, arith}
use Rattle.wit_arena.proofs.Common.{IsAllocationFailure, ItemNotFound, OutOfMemory, ParseError, ParseErrorKind, Syntax, TypeCycle, as_stated, codes, fault_of, kind_text, span_of}
use Rattle.wit_lex.specs.declared.source.Source.{Source}
use Rattle.wit_lex.specs.Sources.{IsTooLarge, ReportsTooLarge}
use Rattle.wit_listing.specs.ErrorLine.{IsErrorLine, IsPlaceAt, IsPlaceOf, Place, error_text, has_place, line_text}
use Rattle.wit_tool.specs.FaultLine.{IsFaultLine, fault_text}
use Rattle.wit_tool.specs.Output.{memory_line, size_line}

-- what a refusal of a number says
words_of_kind : (number : ℕ) (kind : ParseErrorKind) → kind_text kind ≡ fault_text (as_stated number kind)
words_of_kind number (Syntax span message) = refl
words_of_kind number (ItemNotFound span name sort None) = refl
words_of_kind number (ItemNotFound span name sort (Some hint)) = refl
words_of_kind number (TypeCycle span name sort) = refl
words_of_kind number OutOfMemory = refl

pub text_is : (e : ParseError) → kind_text e.kind ≡ fault_text (fault_of e)
text_is e = words_of_kind e.rule e.kind

-- and its line
line_of_kind : (sources : List Source) (number : ℕ) (kind : ParseErrorKind) (text : List ℕ) → (place : Option Place) × IsPlaceAt sources number (span_of kind) place × (text ≡ line_text number place (kind_text kind)) → IsFaultLine sources (as_stated number kind) text
line_of_kind sources number (Syntax span message) text it = it
line_of_kind sources number (ItemNotFound span name sort None) text it = it
line_of_kind sources number (ItemNotFound span name sort (Some hint)) text it = it
line_of_kind sources number (TypeCycle span name sort) text it = it
line_of_kind sources number OutOfMemory text it = it

pub line_is : (sources : List Source) (e : ParseError) (text : List ℕ) → IsErrorLine sources e text → IsFaultLine sources (fault_of e) text
line_is sources e text it = line_of_kind sources e.rule e.kind text it

-- a refusal whose number has no place
nowhere : (sources : List Source) (e : ParseError) (place : Option Place) → has_place e.rule ≡ false → IsPlaceOf sources e place → place ≡ None
nowhere sources e None none it = refl
nowhere sources e (Some place) none it = absurd (true≢false (sym it.0 ∙ none))

-- so its line is that of its number and words
pub line_nowhere : (sources : List Source) (e : ParseError) (text : List ℕ) → has_place e.rule ≡ false → IsErrorLine sources e text → text ≡ line_text e.rule None (kind_text e.kind)
line_nowhere sources e text none it = it.2 ∙ ap (error_text e) (nowhere sources e it.0 none it.1)

-- that of an allocation that failed
pub line_of_memory : (sources : List Source) (e : ParseError) (text : List ℕ) → IsAllocationFailure e → IsErrorLine sources e text → text ≡ memory_line
line_of_memory sources e text failed it =
    line_nowhere sources e text (ap has_place failed.rule) it
    ∙ ap (λ (rule : ℕ). line_text rule None (kind_text e.kind)) failed.rule
    ∙ ap (λ (kind : ParseErrorKind). line_text 45 None (kind_text kind)) failed.kind

-- that of sources that are too large
words_of_size : (end number : ℕ) (kind : ParseErrorKind) → number ≡ 52 → ReportsTooLarge end number kind → kind_text kind ≡ codes "sources too large"
words_of_size end number (Syntax span message) is reports = reports.4
words_of_size end number (ItemNotFound span name sort hint) is reports = absurd reports
words_of_size end number (TypeCycle span name sort) is reports = absurd reports
words_of_size end number OutOfMemory is reports = absurd (let wrong : 52 ≡ 45 = sym is ∙ reports in omega arith)

pub line_of_size : (end : ℕ) (e : ParseError) (text : List ℕ) → e.rule ≡ 52 → IsTooLarge end e → IsErrorLine [] e text → text ≡ size_line
line_of_size end e text rule large it =
    line_nowhere [] e text (ap has_place rule) it
    ∙ ap (λ (number : ℕ). line_text number None (kind_text e.kind)) rule
    ∙ ap (λ (words : List ℕ). line_text 52 None words) (words_of_size end e.rule e.kind rule large.gives)

over : (end number : ℕ) (kind : ParseErrorKind) → number ≡ 52 → ReportsTooLarge end number kind → 4294967295 < end
over end number (Syntax span message) is reports = reports.1
over end number (ItemNotFound span name sort hint) is reports = absurd reports
over end number (TypeCycle span name sort) is reports = absurd reports
over end number OutOfMemory is reports = absurd (let wrong : 52 ≡ 45 = sym is ∙ reports in omega arith)

pub too_many : (end : ℕ) (e : ParseError) → e.rule ≡ 52 → IsTooLarge end e → 4294967295 < end
too_many end e rule large = over end e.rule e.kind rule large.gives
