-- Names at the top of files that are borrowed, and tables of names with what they mean.
use Rattle.std.specs.Prelude.{◌≡◌, ℕ, List, find}
use Rattle.std.specs.Option.{option_map, is_some}
use Rattle.std.specs.Str.{bytes_eq}
use Rattle.std.specs.Map.{lookup}
use denote.Ref.{Bor}
use Rattle.wit_top_names.specs.declared.top_name.TopName.{TopName as Borrowed}
use Rattle.wit_top_names.specs.declared.top_name.Target.{Target as BorrowedTarget}
use Rattle.wit_top_names.specs.declared.top_name.Target.TheVariants as borrowed
use Rattle.wit_syntax.specs.Address.{package_of}
use Rattle.wit_syntax.specs.Source.{Target, Local, Foreign, TopName, Item, item_named, about, top_text}
use Rattle.wit_syntax.specs.Shorthand.{itself}

-- where a path leads, as it is borrowed
abbrev pub target_view : BorrowedTarget → Target
target_view (borrowed.Local id) = Local id
target_view (borrowed.Foreign p id) = Foreign (package_of p.now) id

-- the name that is borrowed
abbrev pub top_view : Borrowed → TopName
top_view t = record { id = t.id; target = target_view t.target }

-- a declared item as a name that means itself
abbrev pub item_top : Item → TopName
item_top i = itself (about i.declared).id

-- names in their order, each with what it means
abbrev pub Named : Type 0
Named = List (Bor (List ℕ) × BorrowedTarget)

-- a name finds what the first of these that goes by it means
pub record AreNamed (top : List TopName) (names : Named) : Type 0 where
  pub finds : (name : List ℕ) → option_map target_view (lookup (λ key. bytes_eq name key.now) names) ≡ option_map (λ (t : TopName). t.target) (find (λ (each : TopName). bytes_eq (top_text each) name) top)

-- a name is there exactly where one of these items goes by it
pub record AreDeclared {V : Type 0} (is : List Item) (names : List (Bor (List ℕ) × V)) : Type 0 where
  pub finds : (name : List ℕ) → is_some (lookup (λ key. bytes_eq name key.now) names) ≡ is_some (item_named is name)
