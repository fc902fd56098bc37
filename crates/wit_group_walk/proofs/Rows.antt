-- Sources with two faults, and the one that is first.
use Rattle.std.proofs.Common.{◌≡◌, ℕ, suc, ◌+◌, ◌-◌, ◌<◌, ◌^◌, true, List, [], ◌∷◌, length, Option, Some, None, refl, lit<, arith}
use Rattle.wit_walk.proofs.Common.{AstItem}
use Rattle.wit_items.proofs.Common.{Attribute, Fault, Global, Id, InOrder, NestedPackage, Outcome, PackageFile, Row, SourceFile, Span, Vec, codes, fault, fault_in, first_fault, is_label}
use denote.RawPtr.{Ptr}
use Rattle.wit_type_tree.specs.declared.leaves.Docs.{Docs as Comments}
use Rattle.wit_type_tree.specs.declared.types.TypeBody.TheVariants as body
use Rattle.wit_tree.specs.declared.tree.AstItem.TheVariants as ast
use Rattle.wit_tree.specs.declared.tree.InterfaceItem.TheVariants as interface_item
use Rattle.wit_tree.specs.declared.tree.PackageName.{PackageName as Header}
use Rattle.wit_groups.specs.GroupFaults.{group_fault}

abbrev at : ℕ → ℕ → Span
at from to = record { start = from; end = to }

-- a table in which nothing needs what comes after it has this order
abbrev places : ℕ → List Row → List ℕ
places n [] = []
places n (r ∷ rs) = n ∷ places (suc n) rs

abbrev in_source : List Row → Outcome
in_source rs = InOrder (places 0 rs)

abbrev walk : List PackageFile → Option Fault
walk files = first_fault files (record { outcome = in_source; steps = 2 })

-- wherever texts and vectors lie
module _ (ptr : Ptr) (alloc : Global) where
  abbrev id : (name : List ℕ) → Span → is_label name ≡ true → Id
  id name span h = record { name = record { ref_ptr = (0, 0); now = name }; span = span; label = h }

  abbrev vec : {X : Type 0} (xs : List X) → length xs < 2 ^ 63 → Vec X Global
  vec xs h = record { ptr = ptr; len = length xs; cap = length xs; alloc = alloc; items = xs; ok = (refl, omega arith); small = h }

  abbrev no_comments : Comments
  no_comments = record { docs = vec [] (lit< tt); span = at 0 0 }

  -- one comment
  abbrev comments : Span → Comments
  comments span = record { docs = vec (record { ref_ptr = (0, 0); now = codes "/// a" } ∷ []) (lit< tt); span = span }

  abbrev unstated : Vec Attribute Global
  unstated = vec [] (lit< tt)

  -- foo:foo, foo:bar and a:b, from a place on
  abbrev foo : Comments → ℕ → Header
  foo docs n = record { docs = docs; span = at n (n + 7); namespace = id (codes "foo") (at n (n + 3)) refl; name = id (codes "foo") (at (n + 4) (n + 7)) refl; version = None }

  abbrev bar : Comments → ℕ → Header
  bar docs n = record { docs = docs; span = at n (n + 7); namespace = id (codes "foo") (at n (n + 3)) refl; name = id (codes "bar") (at (n + 4) (n + 7)) refl; version = None }

  abbrev a_b : ℕ → Header
  a_b n = record { docs = no_comments; span = at n (n + 3); namespace = id (codes "a") (at n (n + 1)) refl; name = id (codes "b") (at (n + 2) (n + 3)) refl; version = None }

  -- interface i { record r {} }, whose record has its name at a place
  abbrev with_record : ℕ → AstItem
  with_record n = ast.Interface (record { docs = no_comments; attributes = unstated; name = id (codes "i") (at (n - 11) (n - 10)) refl; items = vec (interface_item.TypeDef (record { docs = no_comments; attributes = unstated; name = id (codes "r") (at n (n + 1)) refl; body = body.Record (at n (n + 1)) (vec [] (lit< tt)) }) ∷ []) (lit< tt) })

  abbrev none : Vec AstItem Global
  none = vec [] (lit< tt)

  abbrev one : ℕ → Vec AstItem Global
  one n = vec (with_record n ∷ []) (lit< tt)

  abbrev nested_in : Header → Vec AstItem Global → Vec Header Global → NestedPackage
  nested_in name items inner = record { name = name; decl_list = record { items = items }; nested = inner }

  abbrev source : Option Header → Vec AstItem Global → Vec NestedPackage Global → SourceFile
  source header items nested = record { file = record { package_id = header; decl_list = record { items = items } }; nested = nested }

  -- package foo:foo; and package foo:bar; package a:b { interface i { record r {} } }
  row_1 : group_fault walk (source (Some (foo no_comments 8)) none (vec [] (lit< tt)) ∷ source (Some (bar no_comments 25)) none (vec (nested_in (a_b 42) (one 67) (vec [] (lit< tt)) ∷ []) (lit< tt)) ∷ []) ≡ Some (fault 19 (at 67 68))
  row_1 = refl

  -- package a:b { interface i { record r {} } package a:b {} }
  row_2 : group_fault walk (source None none (vec (nested_in (a_b 8) (one 35) (vec (a_b 50 ∷ []) (lit< tt)) ∷ []) (lit< tt)) ∷ []) ≡ Some (fault 3 (at 50 53))
  row_2 = refl

  -- two headers with docs, foo:foo and foo:bar
  row_3 : group_fault walk (source (Some (foo (comments (at 0 5)) 14)) none (vec [] (lit< tt)) ∷ source (Some (bar (comments (at 23 28)) 37)) none (vec [] (lit< tt)) ∷ []) ≡ Some (fault_in 1 (at 37 44) (codes "package identifier `foo:bar` does not match previous package name of `foo:foo`"))
  row_3 = refl

  -- the same, both foo:foo, with interface i { record r {} } in the first
  row_4 : group_fault walk (source (Some (foo (comments (at 0 5)) 14)) (one 44) (vec [] (lit< tt)) ∷ source (Some (foo (comments (at 53 58)) 67)) none (vec [] (lit< tt)) ∷ []) ≡ Some (fault 2 (at 53 58))
  row_4 = refl

  -- package foo:foo; package foo:foo {} interface i { record r {} }
  row_5 : group_fault walk (source (Some (foo no_comments 8)) (one 59) (vec (nested_in (foo no_comments 25) none (vec [] (lit< tt)) ∷ []) (lit< tt)) ∷ []) ≡ Some (fault 19 (at 59 60))
  row_5 = refl

  -- package foo:foo; package a:b {} package foo:foo {} package a:b {}
  row_6 : group_fault walk (source (Some (foo no_comments 8)) none (vec (nested_in (a_b 25) none (vec [] (lit< tt)) ∷ nested_in (foo no_comments 40) none (vec [] (lit< tt)) ∷ nested_in (a_b 59) none (vec [] (lit< tt)) ∷ []) (lit< tt)) ∷ []) ≡ Some (fault_in 53 (at 40 47) (codes "package `foo:foo` is defined more than once in this group"))
  row_6 = refl

  -- package a:b {} package a:b {}
  row_7 : group_fault walk (source None none (vec (nested_in (a_b 8) none (vec [] (lit< tt)) ∷ nested_in (a_b 23) none (vec [] (lit< tt)) ∷ []) (lit< tt)) ∷ []) ≡ Some (fault 4 (at 0 0))
  row_7 = refl
