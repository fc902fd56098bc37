-- The first fault of fields, flags and cases: E19 to E21 and E23 to E25.
use Rattle.std.specs.Prelude.{ℕ, List, [], ◌∷◌, map, Option, None, Some, codes, slice_get}
use Rattle.std.specs.Option.{option_map, option_or}
use Rattle.wit_values.specs.declared.span.Span.{Span}
use Rattle.wit_type_tree.specs.declared.leaves.Id.{Id}
use Rattle.wit_type_tree.specs.declared.types.Field.{Field}
use Rattle.wit_type_tree.specs.declared.types.Flag.{Flag}
use Rattle.wit_type_tree.specs.declared.types.Case.{Case}
use Rattle.wit_type_tree.specs.declared.types.EnumCase.{EnumCase}
use Rattle.wit_type_tree.specs.declared.types.TypeBody.{TypeBody}
use Rattle.wit_type_tree.specs.declared.types.TypeBody.TheVariants.{Record, Flags, Variant, Enum}
use Rattle.wit_names.specs.Folded.{lower_case}
use Rattle.wit_syntax.specs.Fault.{Fault, fault, fault_in}
use Rattle.wit_syntax.specs.Words.{clash}
use Rattle.wit_first.specs.First.{clash_of, first_after}

-- a list is empty: the fault of this number
abbrev pub empty_fault : {X : Type 0} → ℕ → List X → Span → Option Fault
empty_fault number [] span = Some (fault number span)
empty_fault number (x ∷ xs) span = None

-- the first name that is an earlier one, once case is folded: `desc` says what they are names of
abbrev pub names_fault : List ℕ → List Id → Option Fault
names_fault desc names = first_after (clash_of (λ (id : Id). lower_case id.name.now) (λ earlier later. fault_in 25 later.span (clash desc earlier.name.now later.name.now))) [] names

-- the first fault of fields or cases: there is none of them, and then a name that repeats
abbrev pub members_fault : {X : Type 0} → ℕ → List ℕ → (X → Id) → Span → List X → Option Fault
members_fault number desc name span xs = option_or (empty_fault number xs span) (names_fault desc (map name xs))

-- of flags: there is none of them, then one too many, and then a name that repeats
abbrev pub flags_fault : Span → List Flag → Option Fault
flags_fault span flags = option_or (empty_fault 20 flags span) (option_or (option_map (λ (flag : Flag). fault 21 flag.name.span) (slice_get flags 32)) (names_fault (codes "flag") (map (λ (x : Flag). x.name) flags)))

-- of the list in the body of a definition
abbrev pub list_fault : TypeBody → Option Fault
list_fault (Record span fields) = members_fault 19 (codes "field") (λ (x : Field). x.name) span fields.items
list_fault (Flags span flags) = flags_fault span flags.items
list_fault (Variant span cases) = members_fault 23 (codes "case") (λ (x : Case). x.name) span cases.items
list_fault (Enum span cases) = members_fault 24 (codes "case") (λ (x : EnumCase). x.name) span cases.items
list_fault _ = None
