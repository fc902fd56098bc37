-- A file, from its beginning to the end of its source.
use Rattle.std.proofs.Common.{◌≡◌, Bool, Option, Some, None, List, [], ◌∷◌, true, false, ap, ◌∙◌, sym, arith, refl}
use Rattle.std.specs.Prelude.{Ok, Err, Result, Vec, ◌||◌}
use Rattle.std.specs.declared.alloc.Global.{Global}
use Rattle.std.specs.Option.{option_map}
use Rattle.wit_tree.specs.declared.tree.AstItem.{AstItem}
use Rattle.wit_tree.specs.declared.tree.NestedPackage.{NestedPackage}
use Rattle.wit_tree.specs.declared.tree.PackageName.{PackageName}
use Rattle.wit_lex.specs.declared.fault.ReadError.{ReadError}
use Rattle.wit_lex.specs.declared.fault.ReadError.TheVariants.{Fault, OutOfMemory}
use Rattle.wit_lex.specs.declared.fault.ReadFault.TheVariants as fault
use Rattle.wit_lex.specs.declared.kind.Kind.{Kind}
use Rattle.wit_lex.specs.declared.kind.Kind.TheVariants as kind
use Rattle.wit_lex.specs.declared.kind.Kind.TheVariants.{End}
use Rattle.wit_lex.specs.declared.word.Word.TheVariants as word
use Rattle.wit_lex.specs.Lexis.{Stops, lexeme}
use Rattle.wit_grammar.specs.TokenKinds.{same_kind}
use Rattle.wit_grammar.specs.Trees.{Item}
use Rattle.wit_grammar.specs.Seen.{see_package_id}
use Rattle.wit_grammar.specs.Leaves.{Spot, docs_at, docs_of, lexed, mark_at, moved, nothing_at}
use Rattle.wit_grammar.specs.Grammar.{Gram, Terminal, act, among, closes, either, first, fits, matches, matches_first, of_kind, run, seq, starts, until_at}
use Rattle.wit_grammar.specs.Rules.{attribute, attributes, prefix, top_used}
use Rattle.wit_grammar.specs.ItemRules.{Beginning, beginning, declaration, file, file_of, first_item, header, interface_rule, items_to_end, package_first, package_names, two_names, world_rule}
use Rattle.wit_grammar.proofs.Spelled.{sound}
use Rattle.wit_reader.specs.declared.reader.Reader.{Reader}
use Rattle.wit_reader.specs.Reading.{Parses, ParsesOn, spot}
use Rattle.wit_reader.proofs.Documented.{token_stays}
use Rattle.wit_reader.proofs.Courses.{second_way}
use Rattle.wit_reader.proofs.KindCodes.{same}
use Rattle.wit_text.specs.Files.{AreAdded, file_with, header_first, item_first}
use Rattle.wit_text.proofs.FileBeginning.{added_more, first_starts, item_way}
use Rattle.wit_text.proofs.Declared.{interface_way, or_none, use_way, world_way}

-- ---- what a file can begin with
abbrev content : Gram (Beginning × List Item)
content = seq beginning items_to_end

abbrev begins_with : Kind → Bool
begins_with k =
    same_kind k (kind.Word word.Package) || (same_kind k kind.At || (same_kind k (kind.Word word.Use) || (same_kind k (kind.Word word.World) || (same_kind k (kind.Word word.Interface) || false))))

content_starts : (r : Reader) → starts content (spot r) ≡ begins_with r.token.kind
unfolding beginning package_first package_names two_names declaration prefix attributes attribute top_used world_rule interface_rule
content_starts r = rw r.next refl

neither : (a b : Bool) → (a || b) ≡ false → (a ≡ false) × (b ≡ false)
neither true b h = absurd (cc)
neither false b h = (refl, h)

-- where the token is
abbrev here : Reader → Spot
here r = moved (spot r) r.token.start

starts_here : {A : Type 0} (g : Gram A) (k : Terminal) (r : Reader) (b : Bool) → first g ≡ k ∷ [] → matches k (here r) (lexeme r.token) ≡ b → starts g (here r) ≡ b
starts_here g k r b h m = rw (h, token_stays r, m) (or_none b)

attribute_here : (r : Reader) → same_kind r.token.kind kind.At ≡ false → starts attribute (here r) ≡ false
unfolding attribute
attribute_here r h = starts_here attribute (of_kind kind.At) r false refl h

use_here : (r : Reader) → same_kind r.token.kind (kind.Word word.Use) ≡ false → starts top_used (here r) ≡ false
unfolding top_used
use_here r h = starts_here top_used (of_kind (kind.Word word.Use)) r false refl h

world_here : (r : Reader) → same_kind r.token.kind (kind.Word word.World) ≡ false → starts world_rule (here r) ≡ false
unfolding world_rule
world_here r h = starts_here world_rule (of_kind (kind.Word word.World)) r false refl h

no_interface : (r : Reader) → same_kind r.token.kind (kind.Word word.Interface) ≡ false → run (act interface_way interface_rule) (here r) ≡ Err (Fault fault.Token r.token.start r.token.end)
unfolding interface_rule mark_at
no_interface r h = rw (token_stays r, h) refl

docs_here : (r : Reader) → docs_at (spot r) ≡ Ok (docs_of (spot r), here r)
unfolding docs_at
docs_here r = rw r.next refl

no_prefix : (r : Reader) → same_kind r.token.kind kind.At ≡ false → run prefix (spot r) ≡ Ok (record { docs = docs_of (spot r); attributes = [] }, here r)
unfolding prefix attributes
no_prefix r h = rw (docs_here r, attribute_here r h) refl

-- where none of these is, the token is refused
undeclared : (r : Reader) → same_kind r.token.kind kind.At ≡ false → same_kind r.token.kind (kind.Word word.Use) ≡ false → same_kind r.token.kind (kind.Word word.World) ≡ false →
    same_kind r.token.kind (kind.Word word.Interface) ≡ false → run declaration (spot r) ≡ Err (Fault fault.Token r.token.start r.token.end)
unfolding declaration
undeclared r b c d e =
    let one = second_way (act use_way top_used) (either (act world_way world_rule) (act interface_way interface_rule)) (here r) (use_here r c) in
    let two = second_way (act world_way world_rule) (act interface_way interface_rule) (here r) (world_here r d) in
    rw (no_prefix r b, one ∙ two ∙ no_interface r e) refl

unbegun : (r : Reader) → begins_with r.token.kind ≡ false → run beginning (spot r) ≡ Err (Fault fault.Token r.token.start r.token.end)
unfolding beginning
unbegun r h =
    let k = r.token.kind in
    let a = neither (same_kind k (kind.Word word.Package)) _ h in
    let b = neither (same_kind k kind.At) _ a.1 in
    let c = neither (same_kind k (kind.Word word.Use)) _ b.1 in
    let d = neither (same_kind k (kind.Word word.World)) _ c.1 in
    let e = neither (same_kind k (kind.Word word.Interface)) false d.1 in
    second_way package_first (act item_way declaration) (spot r) (first_starts r false a.0) ∙ rw (undeclared r b.0 c.0 d.0 e.0) refl

unbegun_file : (r : Reader) → begins_with r.token.kind ≡ false → same_kind r.token.kind End ≡ false → run file (spot r) ≡ Err (Fault fault.Token r.token.start r.token.end)
unfolding file until_at nothing_at
unbegun_file r h ends = rw (content_starts r ∙ h, r.next, ends) refl

abbrev bad : {A : Type 0} → ReadError → Result A ReadError
bad e = Err e

same_error : {A : Type 0} (x y : ReadError) → bad {A = A} x ≡ bad {A = A} y → x ≡ y
same_error x y h = cc

begins_or_not : (r : Reader) (is : Bool) (x : Beginning) (e : Spot) → begins_with r.token.kind ≡ is → run beginning (spot r) ≡ Ok (x, e) → is ≡ true
begins_or_not r true x e h k = refl
begins_or_not r false x e h k = absurd (let both = sym (unbegun r h) ∙ k in cc)

-- ---- a file
ends_content : begins_with End ≡ false
unfolding same_kind
ends_content = refl

empty_starts : (r : Reader) → r.token.kind ≡ End → starts content (spot r) ≡ false
empty_starts r h = content_starts r ∙ rw h ends_content

at_end : (r : Reader) → r.token.kind ≡ End → closes End (spot r) ≡ true
at_end r h = rw r.next (same r.token.kind End h)

pub empty_file : (r : Reader) → r.token.kind ≡ End → ParsesOn r (run file (spot r)) (file_of None) r
unfolding file until_at
empty_file r h = record { source = refl; offset = refl; onward = omega arith; parses = rw (empty_starts r h, at_end r h) refl }

ended : (xs : List Item) (s e : Spot) → run items_to_end s ≡ Ok (xs, e) → closes End e ≡ true
unfolding items_to_end
ended xs s e h = (sound items_to_end xs s e h).1

pub file_parsed : {a b c : Reader} {x : Beginning} {xs : List Item} → Parses a (run beginning (spot a)) x b → ParsesOn b (run items_to_end (spot b)) xs c → ParsesOn a (run file (spot a)) (file_of (Some (x, xs))) c
unfolding file until_at
file_parsed {a} {b} {c} {x} {xs} p q =
    let one = p.onward in
    let two = q.onward in
    let begins = content_starts a ∙ begins_or_not a (begins_with a.token.kind) x (spot b) refl p.parses in
    record {
      source = q.source ∙ p.source;
      offset = q.offset ∙ p.offset;
      onward = omega arith;
      parses = rw (begins, p.parses, q.parses, ended xs (spot b) (spot c) q.parses) refl;
    }

pub items_stop_file : {a b : Reader} {x : Beginning} (e : ReadError) → Parses a (run beginning (spot a)) x b → Stops (run items_to_end (spot b)) e → Stops (run file (spot a)) e
unfolding file
items_stop_file {a} {b} {x} (Fault f start end) p k =
    let begins = content_starts a ∙ begins_or_not a (begins_with a.token.kind) x (spot b) refl p.parses in
    rw (begins, p.parses, k) refl
items_stop_file OutOfMemory p k = tt

begins_stop : (r : Reader) (is : Bool) (e : ReadError) → begins_with r.token.kind ≡ is → same_kind r.token.kind End ≡ false → run beginning (spot r) ≡ Err e → run file (spot r) ≡ Err e
unfolding file
begins_stop r true e h ends k = rw (content_starts r ∙ h, k) refl
begins_stop r false e h ends k = unbegun_file r h ends ∙ ap (λ x. Err x) (same_error {A = Beginning × Spot} (Fault fault.Token r.token.start r.token.end) e (sym (unbegun r h) ∙ k))

pub begins_stop_file : (r : Reader) (e : ReadError) → same_kind r.token.kind End ≡ false → Stops (run beginning (spot r)) e → Stops (run file (spot r)) e
begins_stop_file r (Fault f start end) ends k = begins_stop r (begins_with r.token.kind) (Fault f start end) refl ends k
begins_stop_file r OutOfMemory ends k = tt

none_fits : (ks : List Terminal) (s : Spot) (e : ReadError) → lexed s ≡ Err e → among ks s ≡ false
none_fits [] s e h = refl
none_fits (k ∷ ks) s e h =
    let first : fits k s ≡ false = ap (matches_first k s) h in
    rw (first, none_fits ks s e h) refl

-- a source whose first token cannot be read
pub unlexed_file : (s : Spot) (e : ReadError) → lexed s ≡ Err e → run file s ≡ Err e
unfolding file until_at nothing_at
unlexed_file s e h = rw (none_fits (first content) s e h, h) refl

-- ---- its tree
pub file_made : {d0 d1 d2 : Vec AstItem Global} {n0 n1 n2 : Vec NestedPackage Global} (head : Option PackageName) (x : Beginning) (xs : List Item) → d0.items ≡ [] → n0.items ≡ [] → option_map see_package_id head ≡ header_first x →
    AreAdded (item_first x) d0 d1 n0 n1 → AreAdded xs d1 d2 n1 n2 → file_with head d2.items n2.items ≡ file_of (Some (x, xs))
file_made head (header p) xs d n h a b =
    let all = added_more a b in
    rw (h, all.declarations, all.nested, d, n) refl
file_made head (first_item y) xs d n h a b =
    let all = added_more a b in
    rw (h, all.declarations, all.nested, d, n) refl
