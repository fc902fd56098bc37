-- What files make, and their first fault from a step of the walk on.
use Rattle.std.specs.Prelude.{◌≡◌, ◌++◌, List, None, Result, Some, ℕ, drop, map}
use Rattle.wit_contents.specs.Names.{AreItemsOf, BorrowedItem, Fault, Growing, Interface, Required, World, item_view, IsLegal, Makes, PackageFile, first_docs, headers, last_header, package_of, Address, EndsAt, Id, ParseError, Row, Word, item_rows, shape_end}
use Rattle.wit_tree.specs.declared.tree.PackageName.{PackageName as Header}
use Rattle.wit_model.specs.Packages.{package_of_parts}
use Rattle.wit_model.specs.declared.foreign.ForeignItems.{ForeignItems}
use Rattle.wit_contents.specs.declared.contents.Contents.{Contents}
use Rattle.wit_contents.specs.declared.making.Making.{Making}
use Rattle.wit_syntax.specs.NameEnds.{End}
use Rattle.wit_first.specs.First.{Finds}
use Rattle.wit_arena.specs.Common.{ForeignUse, ForeignVisit, IsOrder, all_items, dep, first_foreign_uses, foreign_packages}
use Rattle.wit_syntax.specs.Broken.{IsBrokenNames}
use Rattle.wit_first.specs.UseFaults.{all_uses_fault}
use Rattle.wit_walk.specs.Orders.{IsOutcome}
use Rattle.wit_walk.specs.Walk.{Known, earliest, walk_faults}

-- it is what they make, where they are legal
pub record MakeContents (files : List PackageFile) (c : Contents) : Type 0 where
  pub made : (header : Header) → last_header files ≡ Some header → IsLegal files → Makes files (package_of_parts (package_of header) c.arenas (first_docs (headers files)) header.span c.foreign)

-- what is looked up is right: each table has its outcome, and each name that ends ends in so many steps
pub record IsRight (files : List PackageFile) (known : Known) : Type 0 where
  pub outcomes : (rs : List Row) → IsOutcome rs (known.outcome rs)
  pub enough : (s : Address) (id : Id) (end : End) → EndsAt files s id end → shape_end files known.steps s (Word id) ≡ Some end

-- a call finds it
abbrev pub FindsAfter : {T : Type 0} → ℕ → List PackageFile → Result T ParseError → Type 0
FindsAfter n files r = (known : Known) → IsRight files known → Finds (earliest (drop n (walk_faults files known (known.outcome (item_rows files))))) r

-- these are all items of files, in the order of these places, where no name is broken and no use is wrong
pub record IsReady (files : List PackageFile) (items : List BorrowedItem) (places : List ℕ) : Type 0 where
  pub order : IsOrder (item_rows files) places
  pub unbroken : (f : Fault) → IsBrokenNames files f → ⊥
  pub uses : all_uses_fault files ≡ None
  pub all : map item_view items ≡ all_items files
  pub each : AreItemsOf files items

-- what files name of other packages, of which these types must be resources
pub record NamesForeign (files : List PackageFile) (rs : List Required) (named : ForeignItems) : Type 0 where
  pub deps : named.deps ≡ map (dep files) (foreign_packages files)
  pub spans : named.dep_spans ≡ map (λ (v : ForeignVisit). v.of.span) (foreign_packages files)
  pub unknown : named.unknown_type_spans ≡ map (λ (t : ForeignUse). t.id.span) (first_foreign_uses files)
  pub required : named.required_resource_types ≡ rs

-- these declared interfaces, these worlds, and what grew, with these items of other packages
abbrev pub contents_with : List Interface → List World → Growing → ForeignItems → Contents
contents_with declared worlds g named = record {
  arenas = record { types = g.types; interfaces = declared ++ g.inside; worlds = worlds };
  foreign = named;
}

-- what was made, with these items of other packages
abbrev pub contents_in : Making → ForeignItems → Contents
contents_in m named = contents_with m.resolved.interfaces.arena m.resolved.worlds m.growing named

-- it is what files make
abbrev pub AreMade : List PackageFile → Making → Type 0
AreMade files m = (named : ForeignItems) → NamesForeign files m.growing.required.items named → MakeContents files (contents_in m named)
