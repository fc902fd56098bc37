-- Names that must not be side by side, and setters without a getter.
use Rattle.std.specs.Prelude.{◌≡◌, ℕ, ◌<◌, List, Some, slice_get, IsTrue, codes}
use Rattle.wit_names.specs.Folded.{folded_key}
use Rattle.wit_names.specs.Setter.{getter_of, is_setter}
use Rattle.wit_values.specs.declared.span.Span.{Span}
use Rattle.wit_syntax.specs.Fault.{Fault, fault_in, lone_setter}
use Rattle.wit_syntax.specs.Words.{clash}

-- a name of a scope, with the place where it is written
abbrev pub Name : Type 0
Name = List ℕ × Span

-- an earlier name of the scope has the key of a new one
pub record AreUsed (names : List Name) (name : List ℕ) : Type 0 where
  pub place : ℕ
  pub earlier : Name
  pub at : slice_get names place ≡ Some earlier
  pub same : folded_key earlier.0 ≡ folded_key name

-- a name is defined whose key one earlier one has
pub record IsDefinedAgain (names : List Name) (name : List ℕ) (span : Span) (f : Fault) : Type 0 where
  pub in_use : AreUsed names name
  pub only : (i : ℕ) (n : Name) → slice_get names i ≡ Some n → folded_key n.0 ≡ folded_key name → i ≡ in_use.place
  pub is : f ≡ fault_in 17 span (clash (codes "name") in_use.earlier.0 name)

-- the name at this place is a setter, and the scope has no getter of its exact spelling
pub record IsLoneSetter (names : List Name) (place : ℕ) : Type 0 where
  pub setter : Name
  pub at : slice_get names place ≡ Some setter
  pub sets : IsTrue (is_setter setter.0)
  pub none : (i : ℕ) (span : Span) → slice_get names i ≡ Some (getter_of setter.0, span) → ⊥

-- the first setter of a scope without its getter
pub record IsFirstLoneSetter (names : List Name) (f : Fault) : Type 0 where
  pub place : ℕ
  pub lone : IsLoneSetter names place
  pub first : (i : ℕ) → i < place → IsLoneSetter names i → ⊥
  pub is : f ≡ lone_setter lone.setter.0 lone.setter.1
