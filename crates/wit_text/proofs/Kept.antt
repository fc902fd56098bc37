-- Items in braces, and what is kept of them.
use Rattle.std.proofs.Common.{◌≡◌, ℕ, suc, ◌+◌, Option, List, [], ◌∷◌, ◌++◌, map, true, false, ap, ◌∙◌, sym, arith, refl, append_assoc, subst}
use Rattle.std.specs.Prelude.{Err, cond}
use Rattle.std.proofs.lemmas.List.{append-nil}
use Rattle.wit_values.specs.declared.span.Span.{Span}
use Rattle.wit_type_tree.specs.declared.leaves.Docs.{Docs}
use Rattle.wit_tree.specs.declared.tree.AstItem.{AstItem}
use Rattle.wit_tree.specs.declared.tree.PackageName.{PackageName}
use Rattle.wit_lex.specs.declared.fault.ReadError.{ReadError}
use Rattle.wit_lex.specs.declared.fault.ReadError.TheVariants.{Fault, OutOfMemory}
use Rattle.wit_lex.specs.declared.fault.ReadFault.TheVariants as fault
use Rattle.wit_lex.specs.declared.kind.Kind.TheVariants as kind
use Rattle.wit_lex.specs.declared.kind.Kind.TheVariants.{OpenBrace, CloseBrace}
use Rattle.wit_lex.specs.declared.word.Word.TheVariants as word
use Rattle.wit_lex.specs.Lexis.{Stops, lexeme}
use Rattle.wit_grammar.specs.TokenKinds.{same_kind}
use Rattle.wit_grammar.specs.Trees.{Declaration, Documents, Item, Name, Nested, PackageId, Release, declares, items_of, nests}
use Rattle.wit_grammar.specs.Seen.{see_declaration, see_docs, see_package_id}
use Rattle.wit_grammar.specs.Leaves.{Read, Spot, deeper_at, mark_at, past, ◌>>=◌}
use Rattle.wit_grammar.specs.Grammar.{Gram, act, run}
use Rattle.wit_grammar.specs.ItemRules.{braced, declaration_in, declarations_in, item_to, name_in, names_in, nest, nested_of, package_names, package_of, package_to}
use Rattle.wit_reader.specs.declared.reader.Reader.{Reader}
use Rattle.wit_reader.specs.Reading.{Parses, Passes, Reads, spot}
use Rattle.wit_reader.proofs.Courses.{made, made_twice, value_read}
use Rattle.wit_reader.proofs.KindCodes.{same}
use Rattle.wit_reader.proofs.Lists.{map_more}
use Rattle.wit_interface_reader.proofs.Braces.{IsInBraces, braces_closed, braces_more, braces_stop, braces_unclosed}
use Rattle.wit_text.specs.declared.declaration.PackageItem.{PackageItem}
use Rattle.wit_text.specs.declared.declaration.PackageItem.TheVariants.{Declaration as Declared, Package}
use Rattle.wit_text.specs.Packages.{Begins, ReadsItem, Skips, kept_items, level_fault}
use Rattle.wit_text.proofs.Declared.{item_packed, or_none}
use Rattle.wit_text.proofs.Makings.{acted, same_answer}

abbrev pub itself : {A : Type 0} → A → A
itself x = x

pub map_itself : {A : Type 0} (xs : List A) → map itself xs ≡ xs
map_itself [] = refl
map_itself (x ∷ xs) = ap (λ ys. x ∷ ys) (map_itself xs)

-- ---- which of the two an item is
pub declaration_read : {a b : Reader} (item : PackageItem) (d : AstItem) → item ≡ Declared d → ReadsItem a item b → (n : ℕ) → Reads (item_to n) a (declares (see_declaration d)) b
declaration_read {a} {b} item d is p = subst (λ found. ReadsItem a found b) is p

pub package_begun : {a b : Reader} (item : PackageItem) (docs : Docs) → item ≡ Package docs → ReadsItem a item b → Begins a docs b
package_begun {a} {b} item docs is p = subst (λ found. ReadsItem a found b) is p

-- ---- a package among the items
abbrev Names : Type 0
Names = Name × Name × Option (Span × Release)

-- what is read of a package whose docs were read before
abbrev pub inner_name : Documents → Names × List Item → PackageId
inner_name d x = package_of d x.0

abbrev is_package : Reader → Type 0
is_package r = same_kind r.token.kind (kind.Word word.Package) ≡ true

by_kind : (r : Reader) → r.token.kind ≡ kind.Word word.Package → is_package r
by_kind r h = same r.token.kind (kind.Word word.Package) h

pub package_read : {a b c : Reader} {docs : Docs} {x : Names × List Item} (left : ℕ) → Begins a docs b → Parses b (run (package_to left) (spot b)) x c → Parses a (run (item_to left) (spot a)) (nest (see_docs docs) x) c
package_read {a} {b} {c} left h r =
    let one = h.reads.onward in
    let two = r.onward in
    record {
      source = r.source ∙ h.reads.source;
      offset = r.offset ∙ h.reads.offset;
      onward = omega arith;
      parses = item_packed left h.reads (by_kind b h.word) ∙ rw (h.reads.parses, r.parses) refl;
    }

pub package_item : {a b c : Reader} {docs : Docs} {p : PackageId} (left : ℕ) → Begins a docs b → Parses b (run (act (inner_name (see_docs docs)) (package_to left)) (spot b)) p c →
    (xs : List Item) × Parses a (run (item_to left) (spot a)) (nests p (items_of xs)) c
package_item left h r =
    let v = value_read r in
    (v.0.1, same_answer (ap (λ q. nests q (items_of v.0.1)) (sym v.2)) (package_read left h v.1))

pub package_item_stops : {a b : Reader} {docs : Docs} (left : ℕ) (e : ReadError) → Begins a docs b → Stops (run (package_to left) (spot b)) e → Stops (run (item_to left) (spot a)) e
package_item_stops {a} {b} left (Fault f start end) h k = item_packed left h.reads (by_kind b h.word) ∙ rw (h.reads.parses, k) refl
package_item_stops left OutOfMemory h k = tt

-- a name, and items in braces
pub inner_read : {a b c : Reader} {x : Names} {xs : List Item} (n : ℕ) → Parses a (run package_names (spot a)) x b → Parses b (run (braced (item_to n)) (spot b)) xs c →
    Parses a (run (package_to (suc n)) (spot a)) (x, xs) c
unfolding package_to item_to
inner_read {a} {b} {c} n p q =
    let one = p.onward in
    let two = q.onward in
    record { source = q.source ∙ p.source; offset = q.offset ∙ p.offset; onward = omega arith; parses = rw (p.parses, q.parses) refl }

same_left : {A : Type 0} {a b : Reader} {v : A} (make : Names × List Item → A) (left n : ℕ) → left ≡ n → Parses a (run (act make (package_to n)) (spot a)) v b → Parses a (run (act make (package_to left)) (spot a)) v b
same_left {A} {a} {b} {v} make left n e p = subst (λ m. Parses a (run (act make (package_to m)) (spot a)) v b) (sym e) p

pub inner_parsed : {a b c : Reader} {p : PackageId} (d : Documents) (left n : ℕ) → left ≡ suc n → Parses a (run (act (package_of d) package_names) (spot a)) p b → Skips (braced (item_to n)) b c →
    Parses a (run (act (inner_name d) (package_to left)) (spot a)) p c
inner_parsed {a} {b} {c} {p} d left n e r s =
    let v = value_read r in
    same_left (inner_name d) left (suc n) e (same_answer (sym v.2) (acted (inner_name d) (package_to (suc n)) (inner_read n v.1 s.reads)))

pub inner_named_stops : (a : Reader) (left n : ℕ) (e : ReadError) → left ≡ suc n → Stops (run package_names (spot a)) e → Stops (run (package_to left) (spot a)) e
unfolding package_to
inner_named_stops a left n (Fault f start end) same h = rw (same, h) refl
inner_named_stops a left n OutOfMemory same h = tt

pub inner_stops : {a b : Reader} {p : PackageId} (d : Documents) (left n : ℕ) (e : ReadError) → left ≡ suc n → Parses a (run (act (package_of d) package_names) (spot a)) p b → Stops (run (braced (item_to n)) (spot b)) e →
    Stops (run (package_to left) (spot a)) e
unfolding package_to item_to
inner_stops {a} {b} d left n (Fault f start end) same r k =
    let v = value_read r in
    rw (same, v.1.parses, k) refl
inner_stops d left n OutOfMemory same r k = tt

-- a level too many
zero_deep : (r : Reader) → run (package_to 0) (spot r) ≡ Err (level_fault r.token)
unfolding package_to deeper_at
zero_deep r = rw r.next (ap (λ b. Err (Fault (cond b fault.Nesting fault.Token) r.token.start r.token.end)) (or_none (same_kind r.token.kind (kind.Word word.Package))))

pub inner_deeper : (r : Reader) (left : ℕ) → left ≡ 0 → Stops (run (package_to left) (spot r)) (level_fault r.token)
inner_deeper r left e = rw e (zero_deep r)

-- ---- items whose values are dropped
abbrev pub IsPassed : ℕ → Reader → Reader → Type 0
IsPassed left old cur = (xs : List Item) × IsInBraces itself (item_to left) old xs cur

pub passed_more : {old cur new : Reader} (left : ℕ) → IsPassed left old cur → same_kind cur.token.kind CloseBrace ≡ false → Skips (item_to left) cur new → IsPassed left old new
passed_more left h more s = (h.0 ++ s.value ∷ [], braces_more (item_to left) (h.0 ++ s.value ∷ []) s.value h.1 more s.reads refl)

pub passed_closed : {old cur new : Reader} (left : ℕ) → IsPassed left old cur → same_kind cur.token.kind CloseBrace ≡ true → Passes cur (past (spot cur) (lexeme cur.token)) new → Skips (braced (item_to left)) old new
unfolding braced
passed_closed left h ends r = record { value = map itself h.0; reads = braces_closed (item_to left) h.1 ends r }

-- a fault of an item stops the whole, and so does that of the mark
pub items_stop : {old cur : Reader} {xs : List Item} (left : ℕ) (e : ReadError) → IsInBraces itself (item_to left) old xs cur → same_kind cur.token.kind CloseBrace ≡ false →
    Stops (run (item_to left) (spot cur)) e → Stops (run (braced (item_to left)) (spot old)) e
unfolding braced
items_stop left e h more k = braces_stop (item_to left) e h more k

pub items_unclosed : {old cur : Reader} {xs : List Item} (left : ℕ) (e : ReadError) → IsInBraces itself (item_to left) old xs cur → same_kind cur.token.kind CloseBrace ≡ true →
    Stops (past (spot cur) (lexeme cur.token)) e → Stops (run (braced (item_to left)) (spot old)) e
unfolding braced
items_unclosed left e h ends k = braces_unclosed (item_to left) e h ends k

-- the mark that opens them is the first token
pub items_unopened : (s : Spot) (item : Gram Item) (e : ReadError) → Stops (mark_at OpenBrace s) e → Stops (run (braced item) s) e
unfolding braced
items_unopened s item (Fault f start end) h = rw h refl
items_unopened s item OutOfMemory h = tt

-- ---- declarations, and names of packages
declared_more : (xs : List Item) (x : Item) → declarations_in (items_of (xs ++ x ∷ [])) ≡ declarations_in (items_of xs) ++ declaration_in x
declared_more [] x = append-nil (declaration_in x)
declared_more (y ∷ xs) x = ap (λ ds. declaration_in y ++ ds) (declared_more xs x) ∙ sym (append_assoc (declaration_in y) (declarations_in (items_of xs)) (declaration_in x))

named_more : (xs : List Item) (x : Item) → names_in (items_of (xs ++ x ∷ [])) ≡ names_in (items_of xs) ++ name_in x
named_more [] x = append-nil (name_in x)
named_more (y ∷ xs) x = ap (λ ds. name_in y ++ ds) (named_more xs x) ∙ sym (append_assoc (name_in y) (names_in (items_of xs)) (name_in x))

-- of the items that were read these were kept
pub record AreKept (old : Reader) (declared : List AstItem) (named : List PackageName) (cur : Reader) : Type 0 where
  pub items : List Item
  pub reads : IsInBraces itself (item_to 99) old items cur
  pub declarations : map see_declaration declared ≡ declarations_in (items_of items)
  pub names : map see_package_id named ≡ names_in (items_of items)

pub declaration_kept : {old cur new : Reader} {declared : List AstItem} {named : List PackageName} (more : List AstItem) (d : AstItem) → AreKept old declared named cur → same_kind cur.token.kind CloseBrace ≡ false →
    Parses cur (run (item_to 99) (spot cur)) (declares (see_declaration d)) new → more ≡ declared ++ d ∷ [] → AreKept old more named new
declaration_kept {old} {cur} {new} {declared} {named} more d h goes r e =
    let x = declares (see_declaration d) in
    record {
      items = h.items ++ x ∷ [];
      reads = braces_more (item_to 99) (h.items ++ x ∷ []) x h.reads goes r refl;
      declarations = ap (map see_declaration) e ∙ map_more see_declaration declared d ∙ ap (λ ds. ds ++ see_declaration d ∷ []) h.declarations ∙ sym (declared_more h.items x);
      names = h.names ∙ sym (append-nil (names_in (items_of h.items))) ∙ sym (named_more h.items x);
    }

pub name_kept : {old cur new : Reader} {declared : List AstItem} {named : List PackageName} (more : List PackageName) (p : PackageName) (inner : List Item) → AreKept old declared named cur →
    same_kind cur.token.kind CloseBrace ≡ false → Parses cur (run (item_to 99) (spot cur)) (nests (see_package_id p) (items_of inner)) new → more ≡ named ++ p ∷ [] → AreKept old declared more new
name_kept {old} {cur} {new} {declared} {named} more p inner h goes r e =
    let x = nests (see_package_id p) (items_of inner) in
    record {
      items = h.items ++ x ∷ [];
      reads = braces_more (item_to 99) (h.items ++ x ∷ []) x h.reads goes r refl;
      declarations = h.declarations ∙ sym (append-nil (declarations_in (items_of h.items))) ∙ sym (declared_more h.items x);
      names = ap (map see_package_id) e ∙ map_more see_package_id named p ∙ ap (λ ps. ps ++ see_package_id p ∷ []) h.names ∙ sym (named_more h.items x);
    }

pub kept_closed : {old cur new : Reader} {declared : List AstItem} {named : List PackageName} → AreKept old declared named cur → same_kind cur.token.kind CloseBrace ≡ true →
    Passes cur (past (spot cur) (lexeme cur.token)) new → Parses old (run (act kept_items (braced (item_to 99))) (spot old)) (map see_declaration declared, map see_package_id named) new
unfolding braced
kept_closed {old} {cur} {new} {declared} {named} h ends r =
    let all = braces_closed (item_to 99) h.reads ends r in
    record { source = all.source; offset = all.offset; onward = all.onward; parses = rw (all.parses, map_itself h.items, h.declarations, h.names) refl }

-- with the name of the package
abbrev package_with : PackageId → List Declaration × List PackageId → Nested
package_with p k = record { name = p; declarations = k.0; nested = k.1 }

pub nested_parsed : {a b : Reader} {k : List Declaration × List PackageId} (p : PackageId) → Parses a (run (act kept_items (braced (item_to 99))) (spot a)) k b →
    Parses a (run (act (nested_of p) (braced (item_to 99))) (spot a)) (package_with p k) b
nested_parsed {a} {b} {k} p q = record {
  source = q.source;
  offset = q.offset;
  onward = q.onward;
  parses = sym (made_twice (package_with p) kept_items (run (braced (item_to 99)) (spot a))) ∙ ap (λ (c : Read (List Declaration × List PackageId)). c >>= made (package_with p)) q.parses;
}
