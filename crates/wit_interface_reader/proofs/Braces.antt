-- Items in braces: a loop over them, up to the `}`.
use Rattle.std.proofs.Common.{◌≡◌, suc, List, [], ◌∷◌, ◌++◌, length, map, ap, ◌∙◌, sym, arith, refl, true, false}
use Rattle.std.specs.Prelude.{Result, Ok, Err}
use Rattle.wit_lex.specs.declared.fault.ReadError.{ReadError}
use Rattle.wit_lex.specs.declared.fault.ReadError.TheVariants.{Fault, OutOfMemory}
use Rattle.wit_lex.specs.declared.kind.Kind.TheVariants.{OpenBrace, CloseBrace}
use Rattle.wit_lex.specs.Lexis.{lexeme, Stops}
use Rattle.wit_grammar.specs.TokenKinds.{same_kind}
use Rattle.wit_grammar.specs.Leaves.{Spot, Read, mark_at, past, ◌>>=◌}
use Rattle.wit_grammar.specs.Grammar.{Gram, many_at, run, until, ◌▸◌, ◌◂◌}
use Rattle.wit_reader.specs.declared.reader.Reader.{Reader}
use Rattle.wit_reader.specs.Reading.{Parses, Passes, spot}
use Rattle.wit_reader.proofs.Courses.{stops_first}
use Rattle.wit_reader.proofs.Lists.{no_prefix}
use Rattle.wit_reader.proofs.Several.{IsSeveral, goes_on, goes_until, several_closed, several_more, several_stops, until_is_many}

abbrev pub braced : {V : Type 0} → Gram V → Gram (List V)
braced item = OpenBrace ▸ (until item CloseBrace ◂ CloseBrace)

-- '{', and the items after it
abbrev inside : {V : Type 0} → Gram V → Spot → Read (List V)
inside item s = mark_at OpenBrace s >>= run (until item CloseBrace)

abbrev kept : {V : Type 0} → List V → Spot → Read (List V)
kept xs n = Ok (xs, n)

abbrev closing : {V : Type 0} → List V × Spot → Read (List V)
closing x = mark_at CloseBrace x.1 >>= kept x.0

-- the steps of the rule
abbrev marked : Spot → Read (Unit {0})
marked n = Ok (tt, n)

abbrev kept_at : {V : Type 0} → List V → Unit {0} × Spot → Read (List V)
kept_at xs z = Ok (xs, z.1)

abbrev as_it_is : {V : Type 0} → List V × Spot → Read (List V)
as_it_is y = Ok (y.0, y.1)

abbrev marked_end : {V : Type 0} → List V × Spot → Read (List V)
marked_end x = mark_at CloseBrace x.1 >>= marked >>= kept_at x.0

abbrev after_mark : {V : Type 0} → Gram V → Unit {0} × Spot → Read (List V)
after_mark item x = run (until item CloseBrace ◂ CloseBrace) x.1 >>= as_it_is

close_flat : {V : Type 0} (xs : List V) (r : Result Spot ReadError) → (r >>= marked >>= kept_at xs >>= as_it_is) ≡ (r >>= kept xs)
close_flat xs (Ok n) = refl
close_flat xs (Err e) = refl

items_flat : {V : Type 0} (r : Read (List V)) → (r >>= marked_end >>= as_it_is) ≡ (r >>= closing)
items_flat (Ok x) = close_flat x.0 (mark_at CloseBrace x.1)
items_flat (Err e) = refl

open_flat : {V : Type 0} (item : Gram V) (r : Result Spot ReadError) → (r >>= marked >>= after_mark item) ≡ (r >>= run (until item CloseBrace) >>= closing)
open_flat item (Ok m) = items_flat (run (until item CloseBrace) m)
open_flat item (Err e) = refl

braces : {V : Type 0} (item : Gram V) (s : Spot) → run (braced item) s ≡ (inside item s >>= closing)
braces item s = open_flat item (mark_at OpenBrace s)

-- so far these were read after a '{'
abbrev pub IsInBraces : {A V : Type 0} → (A → V) → Gram V → Reader → List A → Reader → Type 0
IsInBraces view item old xs cur = IsSeveral view (goes_until CloseBrace) (run item) old (inside item (spot old)) xs cur

pub braces_opened : {A V : Type 0} {old cur : Reader} (view : A → V) (item : Gram V) → Passes old (mark_at OpenBrace (spot old)) cur → IsInBraces view item old [] cur
braces_opened {A} {V} {old} {cur} view item r =
    let len : length cur.source.now ≡ length old.source.now = ap (λ s. length s.now) r.source in
    let onward = r.onward in
    record {
      source = r.source;
      offset = r.offset;
      onward = omega arith;
      left = suc (length cur.source.now);
      enough = omega arith;
      rest = rw r.passes (until_is_many (run item) CloseBrace (suc (length cur.source.now)) (spot cur)
          ∙ sym (no_prefix (many_at (goes_until CloseBrace) (run item) (suc (length cur.source.now)) (spot cur))));
    }

pub braces_more : {A V : Type 0} {view : A → V} {old cur new : Reader} {xs : List A} (item : Gram V) (ys : List A) (x : A) → IsInBraces view item old xs cur → same_kind cur.token.kind CloseBrace ≡ false →
    Parses cur (run item (spot cur)) (view x) new → ys ≡ xs ++ x ∷ [] → IsInBraces view item old ys new
braces_more {A} {V} {view} {old} {cur} item ys x h more r e = several_more ys x h (goes_on CloseBrace cur false more) r e

-- a fault of an item stops the whole
pub braces_stop : {A V : Type 0} {view : A → V} {old cur : Reader} {xs : List A} (item : Gram V) (e : ReadError) → IsInBraces view item old xs cur → same_kind cur.token.kind CloseBrace ≡ false →
    Stops (run item (spot cur)) e → Stops (run (braced item) (spot old)) e
braces_stop {A} {V} {view} {old} {cur} item e h more k = rw (braces item (spot old)) (stops_first (inside item (spot old)) closing e (several_stops e h (goes_on CloseBrace cur false more) k))

-- the mark is the token
mark_here : (r : Reader) → same_kind r.token.kind CloseBrace ≡ true → mark_at CloseBrace (spot r) ≡ past (spot r) (lexeme r.token)
unfolding mark_at
mark_here r h = rw (r.next, h) refl

pub braces_closed : {A V : Type 0} {view : A → V} {old cur new : Reader} {xs : List A} (item : Gram V) → IsInBraces view item old xs cur → same_kind cur.token.kind CloseBrace ≡ true →
    Passes cur (past (spot cur) (lexeme cur.token)) new → Parses old (run (braced item) (spot old)) (map view xs) new
braces_closed {A} {V} {view} {old} {cur} {new} {xs} item h ends r =
    let all = several_closed h (goes_on CloseBrace cur true ends) in
    let one = all.onward in
    let two = r.onward in
    record {
      source = r.source ∙ all.source;
      offset = r.offset ∙ all.offset;
      onward = omega arith;
      parses = braces item (spot old) ∙ rw (all.parses, mark_here cur ends, r.passes) refl;
    }

-- so does that of the mark
pub braces_unclosed : {A V : Type 0} {view : A → V} {old cur : Reader} {xs : List A} (item : Gram V) (e : ReadError) → IsInBraces view item old xs cur → same_kind cur.token.kind CloseBrace ≡ true →
    Stops (past (spot cur) (lexeme cur.token)) e → Stops (run (braced item) (spot old)) e
braces_unclosed {A} {V} {view} {old} {cur} item (Fault f start end) h ends k =
    let all = several_closed h (goes_on CloseBrace cur true ends) in
    braces item (spot old) ∙ rw (all.parses, mark_here cur ends, k) refl
braces_unclosed item OutOfMemory h ends k = tt
