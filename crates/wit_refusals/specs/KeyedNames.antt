-- What a scope keeps: its names in order, each by its key.
use Rattle.std.specs.Prelude.{◌≡◌, ◌⊎◌, ℕ, IsTrue, List, Option, Some, None, codes, map, slice_get}
use Rattle.wit_names.specs.Folded.{folded_key}
use Rattle.wit_names.specs.Setter.{getter_of, is_setter}
use Rattle.wit_values.specs.declared.span.Span.{Span}
use Rattle.wit_type_tree.specs.RefusalText.{IsAllocationFailure}
use Rattle.wit_type_tree.specs.declared.error.ParseError.{ParseError}
use Rattle.wit_syntax.specs.Fault.{Fault, fault_in, fault_of, lone_setter}
use Rattle.wit_syntax.specs.Words.{clash}
use Rattle.wit_syntax.specs.Repeats.{AllDiffer}
use Rattle.wit_refusals.specs.declared.name_scope.DefinedName.{DefinedName}
use Rattle.wit_refusals.specs.NameScopes.{Name}

-- a key, and the name that has it
abbrev pub Entry : Type 0
Entry = List ℕ × DefinedName

-- the name at a key: another spelling, or the key itself
abbrev pub spelling : List ℕ → Option (List ℕ) → List ℕ
spelling key None = key
spelling key (Some name) = name

abbrev pub spelled : List ℕ → DefinedName → List ℕ
spelled key d = spelling key d.name

abbrev pub name_of : Entry → Name
name_of e = (spelled e.0 e.1, e.1.span)

abbrev pub names_of : List Entry → List Name
names_of es = map name_of es

-- each name is at its own key, and no key is twice
pub record IsKeyed (es : List Entry) : Type 0 where
  pub keyed : (i : ℕ) (e : Entry) → slice_get es i ≡ Some e → e.0 ≡ folded_key (spelled e.0 e.1)
  pub differ : AllDiffer (map (λ (e : Entry). e.0) es)

-- a name of the scope is spelled like this
pub record HasName (names : List Name) (name : List ℕ) : Type 0 where
  pub place : ℕ
  pub span : Span
  pub at : slice_get names place ≡ Some (name, span)

-- a name is a setter, and its getter is not there
abbrev pub IsWithoutGetter : List Name → List ℕ → Span → Fault → Type 0
IsWithoutGetter names name span f = IsTrue (is_setter name) × (HasName names (getter_of name) → ⊥) × (f ≡ lone_setter name span)

-- the fault of a name whose key an entry has
abbrev pub defined_again_fault : Entry → List ℕ → Span → Fault
defined_again_fault e name span = fault_in 17 span (clash (codes "name") (spelled e.0 e.1) name)

-- so a refusal says of the entry at a place, or an allocation failed
abbrev pub IsDefinedAgainAt : List Entry → ℕ → List ℕ → Span → ParseError → Type 0
IsDefinedAgainAt es place name span e = (earlier : Entry) → slice_get es place ≡ Some earlier → IsAllocationFailure e ⊎ (fault_of e ≡ defined_again_fault earlier name span)
