-- What a file begins with, and its items up to its end.
use Rattle.std.proofs.Common.{◌≡◌, suc, ◌+◌, Bool, Option, Some, None, List, [], ◌∷◌, ◌++◌, length, map, true, false, ap, ◌∙◌, sym, arith, refl, append_assoc}
use Rattle.std.specs.Prelude.{Ok, Vec}
use Rattle.std.specs.declared.alloc.Global.{Global}
use Rattle.std.specs.List.{flat_map}
use Rattle.std.proofs.lemmas.List.{append-nil}
use Rattle.std.proofs.lemmas.Grind.{flat_map-append}
use Rattle.wit_values.specs.declared.span.Span.{Span}
use Rattle.wit_tree.specs.declared.tree.AstItem.{AstItem}
use Rattle.wit_tree.specs.declared.tree.NestedPackage.{NestedPackage}
use Rattle.wit_tree.specs.declared.tree.PackageName.{PackageName}
use Rattle.wit_type_tree.specs.declared.leaves.Docs.{Docs}
use Rattle.wit_lex.specs.declared.fault.ReadError.{ReadError}
use Rattle.wit_lex.specs.declared.fault.ReadError.TheVariants.{Fault, OutOfMemory}
use Rattle.wit_lex.specs.declared.kind.Kind.TheVariants as kind
use Rattle.wit_lex.specs.declared.kind.Kind.TheVariants.{End, OpenBrace, Semicolon}
use Rattle.wit_lex.specs.declared.word.Word.TheVariants as word
use Rattle.wit_lex.specs.Lexis.{Stops}
use Rattle.wit_grammar.specs.TokenKinds.{same_kind}
use Rattle.wit_grammar.specs.Trees.{Declaration, Documents, Item, Name, Nested, PackageId, Release, declares, items_of, nests}
use Rattle.wit_grammar.specs.Seen.{see_declaration, see_docs, see_nested}
use Rattle.wit_grammar.specs.Leaves.{Read, docs_at, mark_at, ◌>>=◌}
use Rattle.wit_grammar.specs.Grammar.{Gram, act, either, mark, of_kind, run, starts}
use Rattle.wit_grammar.specs.ItemRules.{Beginning, beginning, braced, declaration, declaration_in, first_item, header, item_to, items_to_end, nested_in, nested_of, package_first, package_names, package_of, two_names}
use Rattle.wit_reader.specs.declared.reader.Reader.{Reader}
use Rattle.wit_reader.specs.Reading.{Parses, ParsesOn, Passes, spot}
use Rattle.wit_reader.proofs.Courses.{first_way, made, made_twice, second_way, starts_with, value_read}
use Rattle.wit_reader.proofs.Lists.{map_more}
use Rattle.wit_reader.proofs.Several.{IsSeveral, goes_on, goes_until, several_closed, several_more, several_opened, several_stops, until_is_many}
use Rattle.wit_text.specs.Files.{AddsItem, AddsItems, AddsPackage, AddsBeginning, AreAdded, item_first}
use Rattle.wit_text.specs.Packages.{Begins}
use Rattle.wit_text.proofs.Declared.{any_package, package_token}
use Rattle.wit_text.proofs.Kept.{inner_named_stops, inner_read, inner_stops, itself, map_itself, package_item_stops, package_read}
use Rattle.wit_text.proofs.Makings.{same_answer}

-- ---- a header, or a package
abbrev nested_way : List Item → Option (List Item)
nested_way xs = Some xs

abbrev header_way : Unit {0} → Option (List Item)
header_way _ = None

abbrev nested_or_header : Gram (Option (List Item))
nested_or_header = either (act nested_way (braced (item_to 99))) (act header_way (mark Semicolon))

brace_starts : (r : Reader) (b : Bool) → same_kind r.token.kind OpenBrace ≡ b → starts (braced (item_to 99)) (spot r) ≡ b
unfolding braced
brace_starts r b h = starts_with (braced (item_to 99)) (of_kind OpenBrace) r b refl h

at_brace : (r : Reader) → same_kind r.token.kind OpenBrace ≡ true → run nested_or_header (spot r) ≡ run (act nested_way (braced (item_to 99))) (spot r)
at_brace r h = first_way (act nested_way (braced (item_to 99))) (act header_way (mark Semicolon)) (spot r) (brace_starts r true h)

past_brace : (r : Reader) → same_kind r.token.kind OpenBrace ≡ false → run nested_or_header (spot r) ≡ run (act header_way (mark Semicolon)) (spot r)
past_brace r h = second_way (act nested_way (braced (item_to 99))) (act header_way (mark Semicolon)) (spot r) (brace_starts r false h)

nested_read : {a b c d : Reader} {doc : Documents} {x : Name × Name × Option (Span × Release)} {xs : List Item} → ParsesOn a (docs_at (spot a)) doc b → Parses b (run package_names (spot b)) x c →
    same_kind c.token.kind OpenBrace ≡ true → Parses c (run (braced (item_to 99)) (spot c)) xs d → Parses a (run package_first (spot a)) (first_item (nests (package_of doc x) (items_of xs))) d
unfolding package_first
nested_read {a} {b} {c} {d} docs named h inner =
    let one = docs.onward in
    let two = named.onward in
    let three = inner.onward in
    record {
      source = inner.source ∙ named.source ∙ docs.source;
      offset = inner.offset ∙ named.offset ∙ docs.offset;
      onward = omega arith;
      parses = rw (docs.parses, named.parses, at_brace c h, inner.parses) refl;
    }

pub nested_first : {a b c d : Reader} {doc : Documents} {p : PackageId} {n : Nested} → ParsesOn a (docs_at (spot a)) doc b → Parses b (run (act (package_of doc) package_names) (spot b)) p c →
    same_kind c.token.kind OpenBrace ≡ true → Parses c (run (act (nested_of p) (braced (item_to 99))) (spot c)) n d →
    (xs : List Item) × Parses a (run package_first (spot a)) (first_item (nests p (items_of xs))) d × (n ≡ nested_of p xs)
nested_first docs named h inner =
    let v = value_read named in
    let w = value_read inner in
    (w.0, same_answer (ap (λ q. first_item (nests q (items_of w.0))) (sym v.2)) (nested_read docs v.1 h w.1), w.2)

pub header_parsed : {a b c d : Reader} {doc : Documents} {p : PackageId} → ParsesOn a (docs_at (spot a)) doc b → Parses b (run (act (package_of doc) package_names) (spot b)) p c →
    same_kind c.token.kind OpenBrace ≡ false → Passes c (mark_at Semicolon (spot c)) d → Parses a (run package_first (spot a)) (header p) d
unfolding package_first
header_parsed {a} {b} {c} {d} {doc} {p} docs named h closed =
    let v = value_read named in
    let one = docs.onward in
    let two = named.onward in
    let three = closed.onward in
    record {
      source = closed.source ∙ named.source ∙ docs.source;
      offset = closed.offset ∙ named.offset ∙ docs.offset;
      onward = omega arith;
      parses = rw (docs.parses, v.1.parses, past_brace c h, closed.passes) (ap (λ q. Ok (header q, spot d)) (sym v.2));
    }

pub docs_stop : (a : Reader) (e : ReadError) → Stops (docs_at (spot a)) e → Stops (run package_first (spot a)) e
unfolding package_first
docs_stop a (Fault f start end) h = rw h refl
docs_stop a OutOfMemory h = tt

pub name_stops : {a b : Reader} {doc : Documents} (e : ReadError) → ParsesOn a (docs_at (spot a)) doc b → Stops (run package_names (spot b)) e → Stops (run package_first (spot a)) e
unfolding package_first
name_stops {a} {b} (Fault f start end) docs h = rw (docs.parses, h) refl
name_stops OutOfMemory docs h = tt

pub nested_stops : {a b c : Reader} {doc : Documents} {p : PackageId} (e : ReadError) → ParsesOn a (docs_at (spot a)) doc b → Parses b (run (act (package_of doc) package_names) (spot b)) p c →
    same_kind c.token.kind OpenBrace ≡ true → Stops (run (braced (item_to 99)) (spot c)) e → Stops (run package_first (spot a)) e
unfolding package_first
nested_stops {a} {b} {c} (Fault f start end) docs named h k =
    let v = value_read named in
    rw (docs.parses, v.1.parses, at_brace c h, k) refl
nested_stops OutOfMemory docs named h k = tt

pub header_stops : {a b c : Reader} {doc : Documents} {p : PackageId} (e : ReadError) → ParsesOn a (docs_at (spot a)) doc b → Parses b (run (act (package_of doc) package_names) (spot b)) p c →
    same_kind c.token.kind OpenBrace ≡ false → Stops (mark_at Semicolon (spot c)) e → Stops (run package_first (spot a)) e
unfolding package_first
header_stops {a} {b} {c} (Fault f start end) docs named h k =
    let v = value_read named in
    rw (docs.parses, v.1.parses, past_brace c h, k) refl
header_stops OutOfMemory docs named h k = tt

-- ---- a header, or an item
abbrev pub item_way : Declaration → Beginning
item_way d = first_item (declares d)

pub first_starts : (r : Reader) (b : Bool) → same_kind r.token.kind (kind.Word word.Package) ≡ b → starts package_first (spot r) ≡ b
unfolding package_first package_names two_names
first_starts r b h = starts_with package_first (of_kind (kind.Word word.Package)) r b refl h

pub at_package : (r : Reader) → same_kind r.token.kind (kind.Word word.Package) ≡ true → run beginning (spot r) ≡ run package_first (spot r)
unfolding beginning
at_package r h = first_way package_first (act item_way declaration) (spot r) (first_starts r true h)

pub at_item : (r : Reader) → same_kind r.token.kind (kind.Word word.Package) ≡ false → run beginning (spot r) ≡ run (act first_item (item_to 100)) (spot r)
unfolding beginning item_to
at_item r h =
    second_way package_first (act item_way declaration) (spot r) (first_starts r false h)
    ∙ sym (ap (λ (c : Read Item). c >>= made first_item) (second_way (any_package 100) (act declares declaration) (spot r) (package_token 100 r false h)) ∙ made_twice first_item declares (run declaration (spot r)))

pub begun_by_item : {a b : Reader} {x : Item} → same_kind a.token.kind (kind.Word word.Package) ≡ false → Parses a (run (item_to 100) (spot a)) x b → Parses a (run beginning (spot a)) (first_item x) b
begun_by_item {a} h r = record { source = r.source; offset = r.offset; onward = r.onward; parses = at_item a h ∙ rw r.parses refl }

pub item_stops : (a : Reader) (e : ReadError) → same_kind a.token.kind (kind.Word word.Package) ≡ false → Stops (run (item_to 100) (spot a)) e → Stops (run beginning (spot a)) e
item_stops a (Fault f start end) h k = at_item a h ∙ rw k refl
item_stops a OutOfMemory h k = tt

pub package_stops : (a : Reader) (e : ReadError) → same_kind a.token.kind (kind.Word word.Package) ≡ true → Stops (run package_first (spot a)) e → Stops (run beginning (spot a)) e
package_stops a (Fault f start end) h k = at_package a h ∙ k
package_stops a OutOfMemory h k = tt

-- ---- a package after its docs
pub whole_package : {a b c d : Reader} {docs : Docs} {p : PackageId} {n : Nested} → Begins a docs b → Parses b (run (act (package_of (see_docs docs)) package_names) (spot b)) p c →
    Parses c (run (act (nested_of p) (braced (item_to 99))) (spot c)) n d → (xs : List Item) × Parses a (run (item_to 100) (spot a)) (nests p (items_of xs)) d × (n ≡ nested_of p xs)
whole_package {a} {b} {c} {d} {docs} {p} {n} h named inner =
    let v = value_read named in
    let w = value_read inner in
    (w.0, same_answer (ap (λ q. nests q (items_of w.0)) (sym v.2)) (package_read 100 h (inner_read 99 v.1 w.1)), w.2)

pub name_stops_item : {a b : Reader} {docs : Docs} (e : ReadError) → Begins a docs b → Stops (run package_names (spot b)) e → Stops (run (item_to 100) (spot a)) e
name_stops_item {a} {b} e h k = package_item_stops 100 e h (inner_named_stops b 100 99 e refl k)

pub nested_stops_item : {a b c : Reader} {docs : Docs} {p : PackageId} (e : ReadError) → Begins a docs b → Parses b (run (act (package_of (see_docs docs)) package_names) (spot b)) p c →
    Stops (run (braced (item_to 99)) (spot c)) e → Stops (run (item_to 100) (spot a)) e
nested_stops_item {a} {b} {c} {docs} e h named k = package_item_stops 100 e h (inner_stops (see_docs docs) 100 99 e refl named k)

-- ---- what was added
pub none_more : {A B : Type 0} (see : A → B) (xs : List A) (more : List B) → more ≡ [] → map see xs ≡ map see xs ++ more
none_more see xs more e = sym (append-nil (map see xs)) ∙ ap (λ ys. map see xs ++ ys) (sym e)

one_more : {A B : Type 0} (see : A → B) (xs ys : List A) (x : A) → ys ≡ xs ++ x ∷ [] → map see ys ≡ map see xs ++ see x ∷ []
one_more see xs ys x e = ap (map see) e ∙ map_more see xs x

pub declaration_added : (declarations declared : Vec AstItem Global) (nested : Vec NestedPackage Global) (d : AstItem) → declared.items ≡ declarations.items ++ d ∷ [] →
    AreAdded (declares (see_declaration d) ∷ []) declarations declared nested nested
declaration_added declarations declared nested d e = record {
  declarations = one_more see_declaration declarations.items declared.items d e;
  nested = none_more see_nested nested.items [] refl;
}

pub one_nested : (nested extended : Vec NestedPackage Global) (n : NestedPackage) (p : PackageId) (xs : List Item) → extended.items ≡ nested.items ++ n ∷ [] → see_nested n ≡ nested_of p xs →
    map see_nested extended.items ≡ map see_nested nested.items ++ flat_map nested_in (nests p (items_of xs) ∷ [])
one_nested nested extended n p xs e same = one_more see_nested nested.items extended.items n e ∙ ap (λ k. map see_nested nested.items ++ k ∷ []) same

pub package_added : (declarations : Vec AstItem Global) (nested extended : Vec NestedPackage Global) (n : NestedPackage) (p : PackageId) (xs : List Item) → extended.items ≡ nested.items ++ n ∷ [] → see_nested n ≡ nested_of p xs →
    AreAdded (nests p (items_of xs) ∷ []) declarations declarations nested extended
package_added declarations nested extended n p xs e same = record {
  declarations = none_more see_declaration declarations.items [] refl;
  nested = one_nested nested extended n p xs e same;
}

pub begun : {a b : Reader} {head : Option PackageName} {declarations : Vec AstItem Global} {nested extended : Vec NestedPackage Global} → same_kind a.token.kind (kind.Word word.Package) ≡ true → AddsPackage a head nested extended b →
    AddsBeginning a head declarations declarations nested extended b
begun {a} {b} {head} {declarations} {nested} {extended} h p = record {
  begins = p.begins;
  reads = record { source = p.reads.source; offset = p.reads.offset; onward = p.reads.onward; parses = at_package a h ∙ p.reads.parses };
  header = p.header;
  added = record { declarations = none_more see_declaration declarations.items (flat_map declaration_in (item_first p.begins)) p.none; nested = p.added };
}

joined : {A B : Type 0} (f : A → List B) (xs ys : List A) (one two three : List B) → two ≡ one ++ flat_map f xs → three ≡ two ++ flat_map f ys → three ≡ one ++ flat_map f (xs ++ ys)
joined f xs ys one two three h k =
    k ∙ ap (λ zs. zs ++ flat_map f ys) h ∙ append_assoc one (flat_map f xs) (flat_map f ys) ∙ ap (λ zs. one ++ zs) (sym (flat_map-append f xs ys))

pub added_more : {xs ys : List Item} {d0 d1 d2 : Vec AstItem Global} {n0 n1 n2 : Vec NestedPackage Global} → AreAdded xs d0 d1 n0 n1 → AreAdded ys d1 d2 n1 n2 → AreAdded (xs ++ ys) d0 d2 n0 n2
added_more {xs} {ys} {d0} {d1} {d2} {n0} {n1} {n2} h k = record {
  declarations = joined declaration_in xs ys (map see_declaration d0.items) (map see_declaration d1.items) (map see_declaration d2.items) h.declarations k.declarations;
  nested = joined nested_in xs ys (map see_nested n0.items) (map see_nested n1.items) (map see_nested n2.items) h.nested k.nested;
}

-- ---- items up to the end
pub record AreItems (old : Reader) (declarations declared : Vec AstItem Global) (nested extended : Vec NestedPackage Global) (cur : Reader) : Type 0 where
  pub items : List Item
  pub reads : IsSeveral itself (goes_until End) (run (item_to 100)) old (run items_to_end (spot old)) items cur
  pub added : AreAdded items declarations declared nested extended

pub items_opened : (old : Reader) (declarations : Vec AstItem Global) (nested : Vec NestedPackage Global) → AreItems old declarations declarations nested nested old
unfolding items_to_end
items_opened old declarations nested = record {
  items = [];
  reads = several_opened itself (goes_until End) (run (item_to 100)) (until_is_many (run (item_to 100)) End (suc (length old.source.now)) (spot old));
  added = record { declarations = none_more see_declaration declarations.items [] refl; nested = none_more see_nested nested.items [] refl };
}

pub items_more : {old cur new : Reader} {d0 d1 d2 : Vec AstItem Global} {n0 n1 n2 : Vec NestedPackage Global} → AreItems old d0 d1 n0 n1 cur → same_kind cur.token.kind End ≡ false → AddsItem cur d1 d2 n1 n2 new →
    AreItems old d0 d2 n0 n2 new
items_more {old} {cur} {new} h more k = record {
  items = h.items ++ k.item ∷ [];
  reads = several_more (h.items ++ k.item ∷ []) k.item h.reads (goes_on End cur false more) k.reads refl;
  added = added_more h.added k.added;
}

pub items_closed : {old cur : Reader} {d0 d1 : Vec AstItem Global} {n0 n1 : Vec NestedPackage Global} → AreItems old d0 d1 n0 n1 cur → same_kind cur.token.kind End ≡ true → AddsItems old d0 d1 n0 n1 cur
items_closed {old} {cur} h ends =
    let all = several_closed h.reads (goes_on End cur true ends) in
    record {
      items = h.items;
      reads = record { source = all.source; offset = all.offset; onward = all.onward; parses = all.parses ∙ ap (λ xs. Ok (xs, spot cur)) (map_itself h.items) };
      added = h.added;
    }

pub items_stop : {old cur : Reader} {d0 d1 : Vec AstItem Global} {n0 n1 : Vec NestedPackage Global} (e : ReadError) → AreItems old d0 d1 n0 n1 cur → same_kind cur.token.kind End ≡ false → Stops (run (item_to 100) (spot cur)) e →
    Stops (run items_to_end (spot old)) e
items_stop {old} {cur} e h more k = several_stops e h.reads (goes_on End cur false more) k
