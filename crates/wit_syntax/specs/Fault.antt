-- Faults: what a refusal says.
use Rattle.std.specs.Prelude.{ℕ, List, ◌++◌, Option, None, string_bytes, codes}
use Rattle.std.specs.Option.{option_map}
use Rattle.wit_values.specs.declared.span.Span.{Span}
use Rattle.wit_names.specs.Setter.{getter_of}
use Rattle.wit_type_tree.specs.declared.leaves.Id.{Id}
use Rattle.wit_type_tree.specs.declared.error.ParseError.{ParseError}
use Rattle.wit_type_tree.specs.declared.error.ParseErrorKind.{ParseErrorKind}
use Rattle.wit_type_tree.specs.declared.error.ParseErrorKind.TheVariants.{Syntax, ItemNotFound, TypeCycle, OutOfMemory}
use Rattle.wit_tree.specs.declared.tree.WorldSide.{WorldSide}
use Rattle.wit_syntax.specs.Hint.{type_hint}
use Rattle.wit_syntax.specs.Words.{words_of, defined_twice, side_word}

-- what a fault says: all in words; that a name means nothing of a sort, with a hint, if there is one; or that what it means depends on itself
pub data Saying : Type 0 where
  Said : (words : List ℕ) → Saying
  Missing : (name sort : List ℕ) (hint : Option (List ℕ)) → Saying
  Cyclic : (name sort : List ℕ) → Saying
  -- a failed allocation
  Wanting : Saying

-- the number of a rule, a place, and what is wrong there
pub record Fault : Type 0 where
  pub rule : ℕ
  pub span : Span
  pub says : Saying

-- a rule is broken at a span, in these words
abbrev pub fault_in : ℕ → Span → List ℕ → Fault
fault_in number span words = record { rule = number; span = span; says = Said words }

-- the same, in the words that the rule always has
abbrev pub fault : ℕ → Span → Fault
fault number span = fault_in number span (words_of number)

-- what a refusal of a number says, by its kind; a failed allocation has no place
abbrev pub as_stated : ℕ → ParseErrorKind → Fault
as_stated number (Syntax span message) = fault_in number span (string_bytes message)
as_stated number (ItemNotFound span name sort hint) = record { rule = number; span = span; says = Missing (string_bytes name) (string_bytes sort) (option_map string_bytes hint) }
as_stated number (TypeCycle span name sort) = record { rule = number; span = span; says = Cyclic (string_bytes name) (string_bytes sort) }
as_stated number OutOfMemory = record { rule = number; span = record { start = 0; end = 0 }; says = Wanting }

abbrev pub fault_of : ParseError → Fault
fault_of e = as_stated e.rule e.kind

-- what is missing or depends on itself: an interface or world, a type, or a name of an interface
abbrev pub item_word : List ℕ
item_word = codes "interface or world"

abbrev pub type_word : List ℕ
type_word = codes "type"

abbrev pub name_word : List ℕ
name_word = codes "name"

-- a name means nothing of a sort, where it is written
abbrev pub missing_at : ℕ → List ℕ → Id → Fault
missing_at number sort id = record { rule = number; span = id.span; says = Missing id.name.now sort None }

-- a name means something of a sort that depends on itself, where it is written
abbrev pub cyclic_at : ℕ → List ℕ → Id → Fault
cyclic_at number sort id = record { rule = number; span = id.span; says = Cyclic id.name.now sort }

-- a name means no type, where it is written; one that types had once gets a hint
abbrev pub missing_type_at : Id → Fault
missing_type_at id = record { rule = 15; span = id.span; says = Missing id.name.now type_word (type_hint id.name.now) }

-- an item has the name of an earlier one
abbrev pub item_twice : Id → Fault
item_twice id = fault_in 5 id.span (codes "duplicate item named `" ++ (id.name.now ++ codes "`"))

-- a name at the top of a file is an earlier one
abbrev pub top_twice : Id → Fault
top_twice id = fault_in 6 id.span (codes "duplicate name `" ++ (id.name.now ++ codes "` in this file"))

-- a world is where an interface is wanted
abbrev pub world_there : Id → Fault
world_there id = fault_in 10 id.span (codes "name `" ++ (id.name.now ++ codes "` is defined as a world, not an interface"))

-- an interface is where a world is wanted
abbrev pub interface_there : Id → Fault
interface_there id = fault_in 11 id.span (codes "name `" ++ (id.name.now ++ codes "` is defined as an interface, not a world"))

-- a name that an interface is asked for is that of a function there
abbrev pub function_used : Id → Fault
function_used id = fault_in 13 id.span (codes "cannot import function `" ++ (id.name.now ++ codes "`"))

-- a name of a scope is an earlier one
abbrev pub name_twice : Id → Fault
name_twice id = fault_in 14 id.span (defined_twice (codes "name") id.name.now)

-- a name in a handle ends at no resource
abbrev pub no_resource : Id → Fault
no_resource id = fault_in 27 id.span (codes "type `" ++ (id.name.now ++ codes "` used in a handle must be a resource"))

-- a name in a signature is that of a function
abbrev pub function_as_type : Id → Fault
function_as_type id = fault_in 28 id.span (codes "cannot use function `" ++ (id.name.now ++ codes "` as a type"))

-- a setter has no getter
abbrev pub lone_setter : List ℕ → Span → Fault
lone_setter name span = fault_in 18 span (codes "setter `" ++ (name ++ (codes "` has no corresponding getter `" ++ (getter_of name ++ codes "`"))))

-- a parameter has the name of an earlier one once case is folded
abbrev pub param_twice : List ℕ → Span → Fault
param_twice name span = fault_in 38 span (defined_twice (codes "param") name)

-- an interface is on a side again
abbrev pub linked_twice : WorldSide → Span → Fault
linked_twice side span = fault_in 43 span (codes "interface cannot be " ++ (side_word side ++ codes "ed more than once"))
