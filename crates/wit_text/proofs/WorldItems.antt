-- Which item of a world a token begins.
use Rattle.std.proofs.Common.{◌≡◌, Bool, true, false, ◌∙◌, refl}
use Rattle.std.specs.Prelude.{List, Vec}
use Rattle.std.specs.declared.alloc.Global.{Global}
use Rattle.wit_tree.specs.declared.tree.WorldItem.{WorldItem as Written}
use Rattle.wit_tree.specs.declared.tree.WorldSide.{WorldSide}
use Rattle.wit_lex.specs.declared.fault.ReadError.{ReadError}
use Rattle.wit_lex.specs.declared.kind.Kind.TheVariants as kind
use Rattle.wit_lex.specs.declared.word.Word.TheVariants as word
use Rattle.wit_lex.specs.Lexis.{Stops}
use Rattle.wit_grammar.specs.TokenKinds.{same_kind}
use Rattle.wit_grammar.specs.Trees.{Name, Prefix, Body, Path, UsedName, RenamedName, ExternKind, WorldItem, crosses, world_uses, world_defines, includes}
use Rattle.wit_grammar.specs.Leaves.{Read, Spot}
use Rattle.wit_grammar.specs.Grammar.{Gram, act, either, of_kind, run, starts}
use Rattle.wit_grammar.specs.Rules.{prefix, used, use_of}
use Rattle.wit_grammar.specs.ItemRules.{definition, definition_of, include, include_of, extern, extern_of, side, world_item}
use Rattle.wit_reader.specs.declared.reader.Reader.{Reader}
use Rattle.wit_reader.specs.Reading.{ParsesOn, spot}
use Rattle.wit_reader.proofs.Courses.{first_way, second_way, starts_with}
use Rattle.wit_interface_reader.proofs.Prefixed.{read_after, stops_after}
use Rattle.wit_text.specs.WorldItems.{Adds}

use_starts : (r : Reader) (b : Bool) → same_kind r.token.kind (kind.Word word.Use) ≡ b → starts used (spot r) ≡ b
unfolding used
use_starts r b h = starts_with used (of_kind (kind.Word word.Use)) r b refl h

include_starts : (r : Reader) (b : Bool) → same_kind r.token.kind (kind.Word word.Include) ≡ b → starts include (spot r) ≡ b
unfolding include
include_starts r b h = starts_with include (of_kind (kind.Word word.Include)) r b refl h

side_starts : (s : Spot) → starts extern s ≡ starts side s
unfolding extern side
side_starts s = refl

abbrev pub used_item : Path × List UsedName → Prefix → WorldItem
used_item x f = world_uses (use_of f.attributes x)

abbrev pub included_item : Path × List RenamedName → Prefix → WorldItem
included_item x f = includes (include_of f.attributes x)

abbrev pub extern_part_item : WorldSide × ExternKind → Prefix → WorldItem
extern_part_item x f = crosses (extern_of f x)

abbrev pub defined_item : Name × Body → Prefix → WorldItem
defined_item x f = world_defines (definition_of f x)

abbrev extern_part_or_defined : Gram (Prefix → WorldItem)
extern_part_or_defined = either (act extern_part_item extern) (act defined_item definition)

abbrev included_or_more : Gram (Prefix → WorldItem)
included_or_more = either (act included_item include) extern_part_or_defined

abbrev pub any_item : Gram (Prefix → WorldItem)
any_item = either (act used_item used) included_or_more

pub at_use : {A : Type 0} {a r : Reader} {course : Read A} {v : A} → ParsesOn a course v r → same_kind r.token.kind (kind.Word word.Use) ≡ true → run any_item (spot r) ≡ run (act used_item used) (spot r)
at_use {A} {a} {r} p h = first_way (act used_item used) included_or_more (spot r) (use_starts r true h)

pub at_include : {A : Type 0} {a r : Reader} {course : Read A} {v : A} → ParsesOn a course v r → same_kind r.token.kind (kind.Word word.Use) ≡ false → same_kind r.token.kind (kind.Word word.Include) ≡ true → run any_item (spot r) ≡ run (act included_item include) (spot r)
at_include {A} {a} {r} p h k =
    second_way (act used_item used) included_or_more (spot r) (use_starts r false h) ∙ first_way (act included_item include) extern_part_or_defined (spot r) (include_starts r true k)

past_include : (r : Reader) → same_kind r.token.kind (kind.Word word.Use) ≡ false → same_kind r.token.kind (kind.Word word.Include) ≡ false → run any_item (spot r) ≡ run extern_part_or_defined (spot r)
past_include r h k =
    second_way (act used_item used) included_or_more (spot r) (use_starts r false h) ∙ second_way (act included_item include) extern_part_or_defined (spot r) (include_starts r false k)

pub at_side : {A : Type 0} {a r : Reader} {course : Read A} {v : A} → ParsesOn a course v r → same_kind r.token.kind (kind.Word word.Use) ≡ false → same_kind r.token.kind (kind.Word word.Include) ≡ false → starts side (spot r) ≡ true →
    run any_item (spot r) ≡ run (act extern_part_item extern) (spot r)
at_side {A} {a} {r} p h k m = past_include r h k ∙ first_way (act extern_part_item extern) (act defined_item definition) (spot r) (side_starts (spot r) ∙ m)

pub at_definition : {A : Type 0} {a r : Reader} {course : Read A} {v : A} → ParsesOn a course v r → same_kind r.token.kind (kind.Word word.Use) ≡ false → same_kind r.token.kind (kind.Word word.Include) ≡ false → starts side (spot r) ≡ false →
    run any_item (spot r) ≡ run (act defined_item definition) (spot r)
at_definition {A} {a} {r} p h k m = past_include r h k ∙ second_way (act extern_part_item extern) (act defined_item definition) (spot r) (side_starts (spot r) ∙ m)

-- an item was added after its prefix was read
pub item_added : {A : Type 0} {a b c : Reader} {f : Prefix} {before after : Vec Written Global} (item : Gram A) (way : A → Prefix → WorldItem) → run any_item (spot b) ≡ run (act way item) (spot b) →
    ParsesOn a (run prefix (spot a)) f b → Adds (act (λ x. way x f) item) b before after c → Adds world_item a before after c
unfolding world_item
item_added {A} {a} {b} {c} {f} item way goes r q = record { item = q.item; items = q.items; reads = read_after prefix any_item item (λ x. way x f) (λ y. y) way goes (λ x. refl) r q.reads }

pub item_stops : {A : Type 0} {a b : Reader} {f : Prefix} (item : Gram A) (way : A → Prefix → WorldItem) (e : ReadError) →
    run any_item (spot b) ≡ run (act way item) (spot b) → ParsesOn a (run prefix (spot a)) f b → Stops (run item (spot b)) e → Stops (run world_item (spot a)) e
unfolding world_item
item_stops item way e goes r h = stops_after prefix any_item item way e goes r h
