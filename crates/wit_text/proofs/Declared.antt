-- Which declaration a token begins, and what is a declaration.
use Rattle.std.proofs.Common.{◌≡◌, ℕ, zero, suc, Bool, Option, List, true, false, ◌∙◌, sym, arith, refl}
use Rattle.std.specs.Prelude.{Err, ◌||◌, if◌then◌else◌}
use Rattle.wit_values.specs.declared.span.Span.{Span}
use Rattle.wit_lex.specs.declared.fault.ReadError.{ReadError}
use Rattle.wit_lex.specs.declared.fault.ReadError.TheVariants.{Fault, OutOfMemory}
use Rattle.wit_lex.specs.declared.kind.Kind.TheVariants as kind
use Rattle.wit_lex.specs.declared.word.Word.TheVariants as word
use Rattle.wit_lex.specs.Lexis.{Stops}
use Rattle.wit_grammar.specs.TokenKinds.{same_kind}
use Rattle.wit_grammar.specs.Trees.{Attribute, Documents, Prefix, Name, Path, InterfaceItem, WorldItem, Declaration, Item, declares, of_interface, of_world, of_use}
use Rattle.wit_grammar.specs.Leaves.{Read, Spot, docs_at}
use Rattle.wit_grammar.specs.Grammar.{Gram, act, both, docs, either, fits, of_kind, run, starts}
use Rattle.wit_grammar.specs.Rules.{attributes, prefix, top_used, top_use_of}
use Rattle.wit_grammar.specs.ItemRules.{declaration, interface_of, interface_rule, item_to, nest, package_names, package_to, two_names, world_of, world_rule}
use Rattle.wit_grammar.proofs.LeafReads.{docs_same, same_fits}
use Rattle.wit_reader.specs.declared.reader.Reader.{Reader}
use Rattle.wit_reader.specs.Reading.{Parses, ParsesOn, spot}
use Rattle.wit_reader.proofs.Courses.{first_way, second_way, starts_with}

-- ---- what begins with a word
use_starts : (r : Reader) (b : Bool) → same_kind r.token.kind (kind.Word word.Use) ≡ b → starts top_used (spot r) ≡ b
unfolding top_used
use_starts r b h = starts_with top_used (of_kind (kind.Word word.Use)) r b refl h

world_starts : (r : Reader) (b : Bool) → same_kind r.token.kind (kind.Word word.World) ≡ b → starts world_rule (spot r) ≡ b
unfolding world_rule
world_starts r b h = starts_with world_rule (of_kind (kind.Word word.World)) r b refl h

abbrev pub use_way : Span × Path × Option Name → Prefix → Declaration
use_way x f = of_use (top_use_of f.attributes x)

abbrev pub world_way : Name × List WorldItem → Prefix → Declaration
world_way x f = of_world (world_of f x)

abbrev pub interface_way : Name × List InterfaceItem → Prefix → Declaration
interface_way x f = of_interface (interface_of f x)

abbrev world_or_interface : Gram (Prefix → Declaration)
world_or_interface = either (act world_way world_rule) (act interface_way interface_rule)

abbrev pub any_declaration : Gram (Prefix → Declaration)
any_declaration = either (act use_way top_used) world_or_interface

pub at_use : {A : Type 0} {a r : Reader} {course : Read A} {v : A} → ParsesOn a course v r → same_kind r.token.kind (kind.Word word.Use) ≡ true → run any_declaration (spot r) ≡ run (act use_way top_used) (spot r)
at_use {A} {a} {r} p h = first_way (act use_way top_used) world_or_interface (spot r) (use_starts r true h)

pub at_world : {A : Type 0} {a r : Reader} {course : Read A} {v : A} → ParsesOn a course v r → same_kind r.token.kind (kind.Word word.Use) ≡ false → same_kind r.token.kind (kind.Word word.World) ≡ true → run any_declaration (spot r) ≡ run (act world_way world_rule) (spot r)
at_world {A} {a} {r} p h k =
    second_way (act use_way top_used) world_or_interface (spot r) (use_starts r false h) ∙ first_way (act world_way world_rule) (act interface_way interface_rule) (spot r) (world_starts r true k)

pub at_interface : {A : Type 0} {a r : Reader} {course : Read A} {v : A} → ParsesOn a course v r → same_kind r.token.kind (kind.Word word.Use) ≡ false → same_kind r.token.kind (kind.Word word.World) ≡ false → run any_declaration (spot r) ≡ run (act interface_way interface_rule) (spot r)
at_interface {A} {a} {r} p h k =
    second_way (act use_way top_used) world_or_interface (spot r) (use_starts r false h) ∙ second_way (act world_way world_rule) (act interface_way interface_rule) (spot r) (world_starts r false k)

-- ---- docs, and attributes after them
pub prefix_parsed : {a b c : Reader} {d : Documents} {xs : List Attribute} → ParsesOn a (docs_at (spot a)) d b → ParsesOn b (run attributes (spot b)) xs c →
    ParsesOn a (run prefix (spot a)) (record { docs = d; attributes = xs }) c
unfolding prefix
prefix_parsed {a} {b} {c} p q =
    let one = p.onward in
    let two = q.onward in
    record { source = q.source ∙ p.source; offset = q.offset ∙ p.offset; onward = omega arith; parses = rw (p.parses, q.parses) refl }

pub declaration_stops : {a b : Reader} {d : Documents} (e : ReadError) → ParsesOn a (docs_at (spot a)) d b → Stops (run attributes (spot b)) e → Stops (run declaration (spot a)) e
unfolding declaration prefix
declaration_stops {a} {b} (Fault f start end) p k = rw (p.parses, k) refl
declaration_stops OutOfMemory p k = tt

-- ---- declarations and packages
package_first : (n : ℕ) (s : Spot) → starts (package_to n) s ≡ fits (of_kind (kind.Word word.Package)) s || false
unfolding package_to package_names two_names
package_first zero s = refl
package_first (suc n) s = refl

abbrev pub any_package : (n : ℕ) → Gram Item
any_package n = both nest docs (package_to n)

pub or_none : (b : Bool) → (b || false) ≡ b
or_none true = refl
or_none false = refl

-- the token after docs says a package from a declaration
pub package_starts : {a b : Reader} {d : Documents} (n : ℕ) (is : Bool) → ParsesOn a (docs_at (spot a)) d b → same_kind b.token.kind (kind.Word word.Package) ≡ is → starts (any_package n) (spot a) ≡ is
package_starts {a} {b} {d} n is p h =
    let prefix = a.prefix in
    let order = a.within.order in
    let within = a.within.within in
    let here : fits (of_kind (kind.Word word.Package)) (spot b) ≡ is = rw b.next h in
    package_first n (spot a) ∙ or_none (fits (of_kind (kind.Word word.Package)) (spot a)) ∙ sym (same_fits (of_kind (kind.Word word.Package)) (spot a) (spot b) (docs_same d (spot a) (spot b) (omega arith) p.parses)) ∙ here

pub package_token : (n : ℕ) (r : Reader) (is : Bool) → same_kind r.token.kind (kind.Word word.Package) ≡ is → starts (any_package n) (spot r) ≡ is
package_token n r is h =
    let here : fits (of_kind (kind.Word word.Package)) (spot r) ≡ is = rw r.next h in
    package_first n (spot r) ∙ or_none (fits (of_kind (kind.Word word.Package)) (spot r)) ∙ here

pub item_declared : {a b : Reader} {d : Documents} (n : ℕ) → ParsesOn a (docs_at (spot a)) d b → same_kind b.token.kind (kind.Word word.Package) ≡ false → run (item_to n) (spot a) ≡ run (act declares declaration) (spot a)
unfolding item_to
item_declared {a} n p h = second_way (any_package n) (act declares declaration) (spot a) (package_starts n false p h)

pub item_packed : {a b : Reader} {d : Documents} (n : ℕ) → ParsesOn a (docs_at (spot a)) d b → same_kind b.token.kind (kind.Word word.Package) ≡ true → run (item_to n) (spot a) ≡ run (any_package n) (spot a)
unfolding item_to
item_packed {a} n p h = first_way (any_package n) (act declares declaration) (spot a) (package_starts n true p h)

-- a declaration is read as an item, and stops as one
pub declared_item : {a b c : Reader} {d : Documents} {declared : Declaration} (n : ℕ) → ParsesOn a (docs_at (spot a)) d b → same_kind b.token.kind (kind.Word word.Package) ≡ false →
    Parses a (run declaration (spot a)) declared c → Parses a (run (item_to n) (spot a)) (declares declared) c
declared_item {a} n p h r = record { source = r.source; offset = r.offset; onward = r.onward; parses = item_declared n p h ∙ rw r.parses refl }

pub declared_stops : {a b : Reader} {d : Documents} (n : ℕ) (e : ReadError) → ParsesOn a (docs_at (spot a)) d b → same_kind b.token.kind (kind.Word word.Package) ≡ false →
    Stops (run declaration (spot a)) e → Stops (run (item_to n) (spot a)) e
declared_stops {a} n (Fault f start end) p h k = item_declared n p h ∙ rw k refl
declared_stops n OutOfMemory p h k = tt

-- where docs stop, so does an item, whatever it is
either_stops : (b : Bool) (x y : Read Item) (e : ReadError) → x ≡ Err e → y ≡ Err e → (if b then x else y) ≡ Err e
either_stops true x y e h k = h
either_stops false x y e h k = k

pub docs_stop_item : (n : ℕ) (s : Spot) (e : ReadError) → Stops (docs_at s) e → Stops (run (item_to n) s) e
unfolding item_to declaration prefix
docs_stop_item n s (Fault f start end) h = either_stops (starts (any_package n) s) (run (any_package n) s) (run (act declares declaration) s) (Fault f start end) (rw h refl) (rw h refl)
docs_stop_item n s OutOfMemory h = tt
