-- Which item of an interface or of a resource a token begins.
use Rattle.std.proofs.Common.{◌≡◌, List, Option, Bool, true, false, ◌∙◌, refl}
use Rattle.wit_lex.specs.declared.kind.Kind.TheVariants as kind
use Rattle.wit_lex.specs.declared.word.Word.TheVariants as word
use Rattle.wit_grammar.specs.TokenKinds.{same_kind}
use Rattle.wit_grammar.specs.Trees.{Name, Ty, Prefix, Parameter, Function, ResourceFunction, Body, Path, UsedName, InterfaceItem, uses, defines, has_func}
use Rattle.wit_grammar.specs.Grammar.{Gram, act, either, of_kind, run, starts}
use Rattle.wit_grammar.specs.Rules.{prefix, label, used, use_of}
use Rattle.wit_grammar.specs.ItemRules.{constructed, maker_of, member, member_of, named_function, named_func_of, definition, definition_of}
use Rattle.wit_values.specs.declared.span.Span.{Span}
use Rattle.wit_reader.specs.declared.reader.Reader.{Reader}
use Rattle.wit_reader.specs.Reading.{ParsesOn, spot}
use Rattle.wit_reader.proofs.Courses.{first_way, second_way, starts_with}

use_starts : (r : Reader) (b : Bool) → same_kind r.token.kind (kind.Word word.Use) ≡ b → starts used (spot r) ≡ b
unfolding used
use_starts r b h = starts_with used (of_kind (kind.Word word.Use)) r b refl h

func_starts : (r : Reader) (b : Bool) → same_kind r.token.kind kind.Name ≡ b → starts named_function (spot r) ≡ b
unfolding named_function label
func_starts r b h = starts_with named_function (of_kind kind.Name) r b refl h

constructor_starts : (r : Reader) (b : Bool) → same_kind r.token.kind (kind.Word word.Constructor) ≡ b → starts constructed (spot r) ≡ b
unfolding constructed
constructor_starts r b h = starts_with constructed (of_kind (kind.Word word.Constructor)) r b refl h

-- ---- items of an interface
abbrev pub use_item : Path × List UsedName → Prefix → InterfaceItem
use_item x f = uses (use_of f.attributes x)

abbrev pub func_item : Name × Function → Prefix → InterfaceItem
func_item x f = has_func (named_func_of f x.0 x.1)

abbrev pub defined_item : Name × Body → Prefix → InterfaceItem
defined_item x f = defines (definition_of f x)

abbrev pub func_or_defined : Gram (Prefix → InterfaceItem)
func_or_defined = either (act func_item named_function) (act defined_item definition)

abbrev pub any_item : Gram (Prefix → InterfaceItem)
any_item = either (act use_item used) func_or_defined

pub at_use : {a b : Reader} {f : Prefix} → ParsesOn a (run prefix (spot a)) f b → same_kind b.token.kind (kind.Word word.Use) ≡ true → run any_item (spot b) ≡ run (act use_item used) (spot b)
at_use {a} {b} p h = first_way (act use_item used) func_or_defined (spot b) (use_starts b true h)

pub at_func : {a b : Reader} {f : Prefix} → ParsesOn a (run prefix (spot a)) f b → same_kind b.token.kind (kind.Word word.Use) ≡ false → same_kind b.token.kind kind.Name ≡ true → run any_item (spot b) ≡ run (act func_item named_function) (spot b)
at_func {a} {b} p h k =
    second_way (act use_item used) func_or_defined (spot b) (use_starts b false h) ∙ first_way (act func_item named_function) (act defined_item definition) (spot b) (func_starts b true k)

pub at_definition : {a b : Reader} {f : Prefix} → ParsesOn a (run prefix (spot a)) f b → same_kind b.token.kind (kind.Word word.Use) ≡ false → same_kind b.token.kind kind.Name ≡ false → run any_item (spot b) ≡ run (act defined_item definition) (spot b)
at_definition {a} {b} p h k =
    second_way (act use_item used) func_or_defined (spot b) (use_starts b false h) ∙ second_way (act func_item named_function) (act defined_item definition) (spot b) (func_starts b false k)

-- ---- functions of a resource
abbrev pub made_item : Span × List Parameter × Option Ty → Prefix → ResourceFunction
made_item x f = maker_of f x

abbrev pub member_item : Name × Bool × Function → Prefix → ResourceFunction
member_item x f = member_of f x

abbrev pub any_func : Gram (Prefix → ResourceFunction)
any_func = either (act made_item constructed) (act member_item member)

pub at_constructor : {a b : Reader} {f : Prefix} → ParsesOn a (run prefix (spot a)) f b → same_kind b.token.kind (kind.Word word.Constructor) ≡ true → run any_func (spot b) ≡ run (act made_item constructed) (spot b)
at_constructor {a} {b} p h = first_way (act made_item constructed) (act member_item member) (spot b) (constructor_starts b true h)

pub at_member : {a b : Reader} {f : Prefix} → ParsesOn a (run prefix (spot a)) f b → same_kind b.token.kind (kind.Word word.Constructor) ≡ false → run any_func (spot b) ≡ run (act member_item member) (spot b)
at_member {a} {b} p h = second_way (act made_item constructed) (act member_item member) (spot b) (constructor_starts b false h)
