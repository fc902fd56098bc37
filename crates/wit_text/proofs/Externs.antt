-- What a world imports or exports, by the tokens after its name.
use Rattle.std.proofs.Common.{◌≡◌, Bool, true, false, Option, List, [], ◌∷◌, ap, ◌∙◌, sym, arith, refl}
use Rattle.std.specs.Prelude.{Ok, Err, codes, ◌&&◌, ◌||◌, if◌then◌else◌}
use Rattle.std.specs.Str.{bytes_eq}
use Rattle.wit_values.specs.declared.span.Span.{Span}
use Rattle.wit_type_tree.specs.declared.types.FuncForm.{FuncForm}
use Rattle.wit_lex.specs.declared.fault.ReadError.{ReadError}
use Rattle.wit_lex.specs.declared.fault.ReadError.TheVariants.{Fault, OutOfMemory}
use Rattle.wit_lex.specs.declared.fault.ReadFault.TheVariants as fault
use Rattle.wit_lex.specs.declared.kind.Kind.TheVariants as kind
use Rattle.wit_lex.specs.declared.kind.Kind.TheVariants.{Semicolon}
use Rattle.wit_lex.specs.declared.word.Word.TheVariants as word
use Rattle.wit_lex.specs.Lexis.{Stops, lexeme}
use Rattle.wit_grammar.specs.TokenKinds.{same_kind}
use Rattle.wit_grammar.specs.Trees.{Text, Name, Release, Ty, Parameter, Function, Path, InterfaceItem, ExternKind, inline_interface, by_path, by_func, named_path}
use Rattle.wit_grammar.specs.Leaves.{Read, Spot, mark_at, name_at, name_but_at, stop, text_of, ◌>>=◌}
use Rattle.wit_grammar.specs.Grammar.{Gram, act, applied, either, of_kind, run, starts, ◌◂◌}
use Rattle.wit_grammar.specs.Rules.{accessor, func_of, item_path, package_path, params, path_of, rest_of_path, signature}
use Rattle.wit_grammar.specs.ItemRules.{accessor_name, after_colon, after_second, closed_signature, extern_path, get_or_set, inline_items, worded_function}
use Rattle.wit_reader.specs.declared.reader.Reader.{Reader}
use Rattle.wit_reader.specs.Reading.{Parses, ParsesOn, Passes, spot}
use Rattle.wit_reader.proofs.Courses.{first_way, made, made_twice, second_way, starts_with, value_read}
use Rattle.wit_text.proofs.Makings.{value_on}

abbrev Texts : List Text
Texts = codes "get" ∷ codes "set" ∷ []

-- ---- after the second name
abbrev item_way : Name × Option (Span × Release) → Name → Name → ExternKind
item_way x first second = by_path (package_path first second x)

abbrev rest_way : Option (Name × Name × Option (Span × Release)) → Name → Name → ExternKind
rest_way x first second = named_path first (path_of second x)

slash_starts : (r : Reader) (b : Bool) → same_kind r.token.kind kind.Slash ≡ b → starts (item_path ◂ Semicolon) (spot r) ≡ b
unfolding item_path
slash_starts r b h = starts_with (item_path ◂ Semicolon) (of_kind kind.Slash) r b refl h

at_slash : (r : Reader) → same_kind r.token.kind kind.Slash ≡ true → run after_second (spot r) ≡ run (act item_way (item_path ◂ Semicolon)) (spot r)
unfolding after_second
at_slash r h = first_way (act item_way (item_path ◂ Semicolon)) (act rest_way (rest_of_path ◂ Semicolon)) (spot r) (slash_starts r true h)

at_rest : (r : Reader) → same_kind r.token.kind kind.Slash ≡ false → run after_second (spot r) ≡ run (act rest_way (rest_of_path ◂ Semicolon)) (spot r)
unfolding after_second
at_rest r h = second_way (act item_way (item_path ◂ Semicolon)) (act rest_way (rest_of_path ◂ Semicolon)) (spot r) (slash_starts r false h)

pub item_closed : {a b c : Reader} {answer : Path} (first second : Name) → same_kind a.token.kind kind.Slash ≡ true → Parses a (run (act (package_path first second) item_path) (spot a)) answer b →
    Passes b (mark_at Semicolon (spot b)) c → Parses a (run (act (λ x. x first second) after_second) (spot a)) (by_path answer) c
item_closed {a} {b} {c} {answer} first second h p r =
    let v = value_read p in
    let one = p.onward in
    let two = r.onward in
    record { source = r.source ∙ p.source; offset = r.offset ∙ p.offset; onward = omega arith; parses = rw (at_slash a h, v.1.parses, r.passes) (ap (λ x. Ok (by_path x, spot c)) (sym v.2)) }

pub rest_closed : {a b c : Reader} {answer : Path} (first second : Name) → same_kind a.token.kind kind.Slash ≡ false → ParsesOn a (run (act (path_of second) rest_of_path) (spot a)) answer b →
    Passes b (mark_at Semicolon (spot b)) c → Parses a (run (act (λ x. x first second) after_second) (spot a)) (named_path first answer) c
rest_closed {a} {b} {c} {answer} first second h p r =
    let v = value_on p in
    let one = p.onward in
    let two = r.onward in
    record { source = r.source ∙ p.source; offset = r.offset ∙ p.offset; onward = omega arith; parses = rw (at_rest a h, v.1.parses, r.passes) (ap (λ x. Ok (named_path first x, spot c)) (sym v.2)) }

pub item_stops : (a : Reader) (e : ReadError) → same_kind a.token.kind kind.Slash ≡ true → Stops (run item_path (spot a)) e → Stops (run after_second (spot a)) e
item_stops a (Fault f start end) h k = rw (at_slash a h, k) refl
item_stops a OutOfMemory h k = tt

pub rest_stops : (a : Reader) (e : ReadError) → same_kind a.token.kind kind.Slash ≡ false → Stops (run rest_of_path (spot a)) e → Stops (run after_second (spot a)) e
rest_stops a (Fault f start end) h k = rw (at_rest a h, k) refl
rest_stops a OutOfMemory h k = tt

pub item_unclosed : {a b : Reader} {answer : Path} (first second : Name) (e : ReadError) → Parses a (run (act (package_path first second) item_path) (spot a)) answer b →
    same_kind a.token.kind kind.Slash ≡ true → Stops (mark_at Semicolon (spot b)) e → Stops (run after_second (spot a)) e
item_unclosed {a} {b} first second (Fault f start end) p h k =
    let v = value_read p in
    rw (at_slash a h, v.1.parses, k) refl
item_unclosed first second OutOfMemory p h k = tt

pub rest_unclosed : {a b : Reader} {answer : Path} (second : Name) (e : ReadError) → ParsesOn a (run (act (path_of second) rest_of_path) (spot a)) answer b →
    same_kind a.token.kind kind.Slash ≡ false → Stops (mark_at Semicolon (spot b)) e → Stops (run after_second (spot a)) e
rest_unclosed {a} {b} second (Fault f start end) p h k =
    let v = value_on p in
    rw (at_rest a h, v.1.parses, k) refl
rest_unclosed second OutOfMemory p h k = tt

-- ---- after 'get' or 'set'
abbrev signed_way : List Parameter × Option Ty → Span × FuncForm → Name → ExternKind
signed_way x a n = by_func n (func_of a x)

abbrev path_way : (Name → Name → ExternKind) → Span × FuncForm → Name → ExternKind
path_way x a n = x n (accessor_name a)

abbrev signed_or_path : Gram (Span × FuncForm → Name → ExternKind)
signed_or_path = either (act signed_way closed_signature) (act path_way after_second)

signature_starts : (r : Reader) (b : Bool) → same_kind r.token.kind kind.OpenParen ≡ b → starts closed_signature (spot r) ≡ b
unfolding closed_signature signature params
signature_starts r b h = starts_with closed_signature (of_kind kind.OpenParen) r b refl h

at_paren : (r : Reader) → same_kind r.token.kind kind.OpenParen ≡ true → run signed_or_path (spot r) ≡ run (act signed_way closed_signature) (spot r)
at_paren r h = first_way (act signed_way closed_signature) (act path_way after_second) (spot r) (signature_starts r true h)

at_path : (r : Reader) → same_kind r.token.kind kind.OpenParen ≡ false → run signed_or_path (spot r) ≡ run (act path_way after_second) (spot r)
at_path r h = second_way (act signed_way closed_signature) (act path_way after_second) (spot r) (signature_starts r false h)

pub signed_parsed : {a b c : Reader} {f : Span × FuncForm} {x : List Parameter × Option Ty} (n : Name) → same_kind b.token.kind kind.OpenParen ≡ true → Parses a (run accessor (spot a)) f b →
    Parses b (run closed_signature (spot b)) x c → Parses a (run (act (λ x. x n) get_or_set) (spot a)) (by_func n (func_of f x)) c
unfolding get_or_set
signed_parsed {a} {b} {c} n h p r =
    let one = p.onward in
    let two = r.onward in
    record { source = r.source ∙ p.source; offset = r.offset ∙ p.offset; onward = omega arith; parses = rw (p.parses, at_paren b h, r.parses) refl }

thrice : (f : Span × FuncForm) (n : Name) (r : Read (Name → Name → ExternKind)) → (((r >>= made path_way) >>= made (applied f)) >>= made (λ x. x n)) ≡ (r >>= made (λ x. x n (accessor_name f)))
thrice f n (Ok x) = refl
thrice f n (Err e) = refl

pub path_parsed : {a b c : Reader} {f : Span × FuncForm} {k : ExternKind} (n m : Name) → same_kind b.token.kind kind.OpenParen ≡ false → m ≡ accessor_name f → Parses a (run accessor (spot a)) f b →
    Parses b (run (act (λ x. x n m) after_second) (spot b)) k c → Parses a (run (act (λ x. x n) get_or_set) (spot a)) k c
unfolding get_or_set
path_parsed {a} {b} {c} {f} {k} n m h e p r =
    let one = p.onward in
    let two = r.onward in
    record {
      source = r.source ∙ p.source;
      offset = r.offset ∙ p.offset;
      onward = omega arith;
      parses = rw (p.parses, at_path b h) (thrice f n (run after_second (spot b)) ∙ ap (λ m. run after_second (spot b) >>= made (λ x. x n m)) (sym e) ∙ r.parses);
    }

pub signed_stops : {a b : Reader} {f : Span × FuncForm} (e : ReadError) → Parses a (run accessor (spot a)) f b → same_kind b.token.kind kind.OpenParen ≡ true → Stops (run closed_signature (spot b)) e →
    Stops (run get_or_set (spot a)) e
unfolding get_or_set
signed_stops {a} {b} (Fault k start end) p h r = rw (p.parses, at_paren b h, r) refl
signed_stops OutOfMemory p h r = tt

pub path_stops : {a b : Reader} {f : Span × FuncForm} (e : ReadError) → Parses a (run accessor (spot a)) f b → same_kind b.token.kind kind.OpenParen ≡ false → Stops (run after_second (spot b)) e →
    Stops (run get_or_set (spot a)) e
unfolding get_or_set
path_stops {a} {b} (Fault k start end) p h r = rw (p.parses, at_path b h, r) refl
path_stops OutOfMemory p h r = tt

-- ---- after a name and ':'
abbrev pub inline_way : List InterfaceItem → Name → ExternKind
inline_way xs n = inline_interface n xs

abbrev pub worded_way : Function → Name → ExternKind
worded_way f n = by_func n f

abbrev path_after : Gram (Name → ExternKind)
path_after = either get_or_set extern_path

abbrev not_inline : Gram (Name → ExternKind)
not_inline = either (act worded_way worded_function) path_after

inline_starts : (r : Reader) (b : Bool) → same_kind r.token.kind (kind.Word word.Interface) ≡ b → starts inline_items (spot r) ≡ b
unfolding inline_items
inline_starts r b h = starts_with inline_items (of_kind (kind.Word word.Interface)) r b refl h

accessor_starts : (s : Spot) → starts get_or_set s ≡ starts accessor s
unfolding get_or_set accessor
accessor_starts s = refl

pub at_inline : (r : Reader) → same_kind r.token.kind (kind.Word word.Interface) ≡ true → run after_colon (spot r) ≡ run (act inline_way inline_items) (spot r)
unfolding after_colon
at_inline r h = first_way (act inline_way inline_items) not_inline (spot r) (inline_starts r true h)

past_inline : (r : Reader) → same_kind r.token.kind (kind.Word word.Interface) ≡ false → run after_colon (spot r) ≡ run not_inline (spot r)
unfolding after_colon
past_inline r h = second_way (act inline_way inline_items) not_inline (spot r) (inline_starts r false h)

pub at_worded : (r : Reader) → same_kind r.token.kind (kind.Word word.Interface) ≡ false → starts worded_function (spot r) ≡ true → run after_colon (spot r) ≡ run (act worded_way worded_function) (spot r)
at_worded r h k = past_inline r h ∙ first_way (act worded_way worded_function) path_after (spot r) k

past_worded : (r : Reader) → same_kind r.token.kind (kind.Word word.Interface) ≡ false → starts worded_function (spot r) ≡ false → run after_colon (spot r) ≡ run path_after (spot r)
past_worded r h k = past_inline r h ∙ second_way (act worded_way worded_function) path_after (spot r) k

pub at_accessor : (r : Reader) → same_kind r.token.kind (kind.Word word.Interface) ≡ false → starts worded_function (spot r) ≡ false → starts accessor (spot r) ≡ true →
    run after_colon (spot r) ≡ run get_or_set (spot r)
at_accessor r h k m = past_worded r h k ∙ first_way get_or_set extern_path (spot r) (accessor_starts (spot r) ∙ m)

pub at_second : (r : Reader) → same_kind r.token.kind (kind.Word word.Interface) ≡ false → starts worded_function (spot r) ≡ false → starts accessor (spot r) ≡ false →
    run after_colon (spot r) ≡ run extern_path (spot r)
at_second r h k m = past_worded r h k ∙ second_way get_or_set extern_path (spot r) (accessor_starts (spot r) ∙ m)

-- the kind of an alternative, with the first name
pub way_made : {A : Type 0} (n : Name) (way : A → Name → ExternKind) (g : Gram A) (s : Spot) → run after_colon s ≡ run (act way g) s → run (act (λ x. x n) after_colon) s ≡ run (act (λ x. way x n) g) s
way_made n way g s h = ap (λ (c : Read (Name → ExternKind)). c >>= made (λ x. x n)) h ∙ made_twice (λ x. x n) way (run g s)

pub same_made : (n : Name) (g : Gram (Name → ExternKind)) (s : Spot) → run after_colon s ≡ run g s → run (act (λ x. x n) after_colon) s ≡ run (act (λ x. x n) g) s
same_made n g s h = ap (λ (c : Read (Name → ExternKind)). c >>= made (λ x. x n)) h

-- a name that is neither 'get' nor 'set'
by_cases : {A : Type 0} (k get set : Bool) (x fault : A) → ((k && get) || ((k && set) || false)) ≡ false → (k ≡ false → x ≡ fault) → (if (get || (set || false)) then fault else x) ≡ x
by_cases true true set x fault h f = absurd (cc)
by_cases true false true x fault h f = absurd (cc)
by_cases true false false x fault h f = refl
by_cases false true set x fault h f = sym (f refl)
by_cases false false true x fault h f = sym (f refl)
by_cases false false false x fault h f = refl

no_name : (r : Reader) → same_kind r.token.kind kind.Name ≡ false → name_at (spot r) ≡ stop fault.Token (lexeme r.token)
unfolding name_at
no_name r h = rw (r.next, h) refl

pub other_name : (r : Reader) → starts accessor (spot r) ≡ false → name_but_at Texts (spot r) ≡ name_at (spot r)
unfolding name_but_at accessor
other_name r h =
    let neither : ((same_kind r.token.kind kind.Name && bytes_eq (text_of (spot r) (lexeme r.token)) (codes "get")) || ((same_kind r.token.kind kind.Name && bytes_eq (text_of (spot r) (lexeme r.token)) (codes "set")) || false)) ≡ false = rw r.next at h in
    rw r.next (by_cases (same_kind r.token.kind kind.Name) (bytes_eq (text_of (spot r) (lexeme r.token)) (codes "get")) (bytes_eq (text_of (spot r) (lexeme r.token)) (codes "set"))
    (name_at (spot r)) (stop fault.Token (lexeme r.token)) neither (no_name r))

pub second_parsed : {a b c : Reader} {second : Name} {k : ExternKind} (n : Name) → starts accessor (spot a) ≡ false → Parses a (name_at (spot a)) second b →
    Parses b (run (act (λ x. x n second) after_second) (spot b)) k c → Parses a (run (act (λ x. x n) extern_path) (spot a)) k c
unfolding extern_path
second_parsed {a} {b} {c} {second} {k} n h p r =
    let one = p.onward in
    let two = r.onward in
    record {
      source = r.source ∙ p.source;
      offset = r.offset ∙ p.offset;
      onward = omega arith;
      parses = rw (other_name a h, p.parses) (made_twice (λ x. x n) (λ x first. x first second) (run after_second (spot b)) ∙ r.parses);
    }

pub name_stops : (a : Reader) (e : ReadError) → starts accessor (spot a) ≡ false → Stops (name_at (spot a)) e → Stops (run extern_path (spot a)) e
unfolding extern_path
name_stops a (Fault f start end) h k = rw (other_name a h, k) refl
name_stops a OutOfMemory h k = tt

pub second_stops : {a b : Reader} {second : Name} (e : ReadError) → Parses a (name_at (spot a)) second b → starts accessor (spot a) ≡ false → Stops (run after_second (spot b)) e → Stops (run extern_path (spot a)) e
unfolding extern_path
second_stops {a} {b} (Fault f start end) p h k = rw (other_name a h, p.parses, k) refl
second_stops OutOfMemory p h k = tt
