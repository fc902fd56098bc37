-- Grammars as data: what they spell, and how they are read from left to right by one token.
use Rattle.std.specs.Prelude.{◌≡◌, ℕ, zero, suc, Bool, true, false, ◌&&◌, ◌||◌, not, List, [], ◌∷◌, ◌++◌, length, map, Option, Some, None, Result, Ok, Err, if◌then◌else◌, ◌⊎◌}
use Rattle.std.specs.Str.{bytes_eq}
use Rattle.wit_values.specs.declared.span.Span.{Span}
use Rattle.wit_lex.specs.declared.fault.ReadError.{ReadError}
use Rattle.wit_lex.specs.declared.fault.ReadError.TheVariants.{OutOfMemory}
use Rattle.wit_lex.specs.declared.kind.Kind.{Kind}
use Rattle.wit_lex.specs.declared.kind.Kind.TheVariants.{Comma}
use Rattle.wit_lex.specs.declared.kind.Kind.TheVariants as kind
use Rattle.wit_lex.specs.declared.word.Word.TheVariants as word
use Rattle.wit_lex.specs.Lexis.{Lexeme}
use Rattle.wit_grammar.specs.TokenKinds.{same_kind}
use Rattle.wit_grammar.specs.Trees.{Text, Name, Documents, Release, Ty}
use Rattle.wit_grammar.specs.Leaves.{Spot, Read, lexed, past, text_of, is_in, mark_at, spanned_at, text_at, name_at, name_but_at, number_at, version_at, docs_at, primitive_at, deeper_at, nothing_at, ◌>>=◌}

pub data Gram : Type 0 → Type 1 where
  -- a sign or a word, and the same with its span
  mark : Kind → Gram (Unit {0})
  spanned : Kind → Gram Span
  -- a name of this very text
  says : Text → Gram Span
  name : Gram Name
  -- a name of none of these texts
  name_but : List Text → Gram Name
  number : Gram ℕ
  version : Gram (Span × Release)
  primitives : Gram Ty
  -- the docs before a token
  docs : Gram Documents
  -- nothing is spelled
  never : {A : Type 0} → Gram A
  -- nor is anything here, where a level too many would begin with one of these
  deeper : {A : Type 0} → List Kind → Gram A
  -- one after the other, and what is made of both
  both : {A B C : Type 0} → (A → B → C) → Gram A → Gram B → Gram C
  act : {A B : Type 0} → (A → B) → Gram A → Gram B
  either : {A : Type 0} → Gram A → Gram A → Gram A
  opt : {A : Type 0} → Gram A → Gram (Option A)
  -- several, as long as one begins
  many : {A : Type 0} → Gram A → Gram (List A)
  -- several up to a token of a kind, which is not read
  until : {A : Type 0} → Gram A → Kind → Gram (List A)
  -- several between two marks, with commas between them and perhaps one after the last
  listed : {A : Type 0} → (opening close : Kind) → Gram A → Gram (List A)

infixr 6 ◌▸◌
infixl 7 ◌◂◌
-- after a mark, and before one
abbrev pub ◌▸◌ : {A : Type 0} → Kind → Gram A → Gram A
k ▸ g = both (λ _ x. x) (mark k) g

abbrev pub ◌◂◌ : {A : Type 0} → Gram A → Kind → Gram A
g ◂ k = both (λ x _. x) g (mark k)

abbrev pub seq : {A B : Type 0} → Gram A → Gram B → Gram (A × B)
seq g h = both (λ x y. (x, y)) g h

-- what is made of what was spelled before
abbrev pub applied : {A B : Type 0} → A → (A → B) → B
applied a f = f a

-- ---- what a token is
pub data Terminal : Type 0 where
  of_kind : Kind → Terminal
  of_text : Text → Terminal
  of_other : List Text → Terminal

abbrev pub matches : Terminal → Spot → Lexeme → Bool
matches (of_kind k) s t = same_kind t.kind k
matches (of_text w) s t = same_kind t.kind kind.Name && bytes_eq (text_of s t) w
matches (of_other ws) s t = same_kind t.kind kind.Name && not (is_in (text_of s t) ws)

abbrev pub matches_first : Terminal → Spot → Result Lexeme ReadError → Bool
matches_first k s (Ok t) = matches k s t
matches_first k s (Err e) = false

abbrev pub fits : Terminal → Spot → Bool
fits k s = matches_first k s (lexed s)

abbrev pub among : List Terminal → Spot → Bool
among [] s = false
among (k ∷ ks) s = fits k s || among ks s

-- ---- what a grammar begins with
-- whether it can take no token
abbrev pub nullable : {A : Type 0} → Gram A → Bool
nullable docs = true
nullable (both f g h) = nullable g && nullable h
nullable (act f g) = nullable g
nullable (either g h) = nullable g || nullable h
nullable (opt g) = true
nullable (many g) = true
nullable (until g close) = true
nullable other = false

abbrev pub where_empty : Bool → List Terminal → List Terminal
where_empty true ks = ks
where_empty false ks = []

abbrev pub primitive_kinds : List Terminal
primitive_kinds =
    of_kind (kind.Word word.Bool) ∷ of_kind (kind.Word word.U8) ∷ of_kind (kind.Word word.U16) ∷ of_kind (kind.Word word.U32) ∷ of_kind (kind.Word word.U64)
    ∷ of_kind (kind.Word word.S8) ∷ of_kind (kind.Word word.S16) ∷ of_kind (kind.Word word.S32) ∷ of_kind (kind.Word word.S64)
    ∷ of_kind (kind.Word word.F32) ∷ of_kind (kind.Word word.F64) ∷ of_kind (kind.Word word.Char) ∷ of_kind (kind.Word word.String) ∷ of_kind (kind.Word word.ErrorContext) ∷ []

abbrev pub first : {A : Type 0} → Gram A → List Terminal
first (mark k) = of_kind k ∷ []
first (spanned k) = of_kind k ∷ []
first (says w) = of_text w ∷ []
first name = of_kind kind.Name ∷ []
first (name_but ws) = of_other ws ∷ []
first number = of_kind kind.Number ∷ []
first version = of_kind kind.Number ∷ []
first primitives = primitive_kinds
first docs = []
first never = []
first (deeper ks) = map of_kind ks
first (both f g h) = first g ++ where_empty (nullable g) (first h)
first (act f g) = first g
first (either g h) = first g ++ first h
first (opt g) = first g
first (many g) = first g
first (until g close) = first g ++ of_kind close ∷ []
first (listed opening close g) = of_kind opening ∷ []

abbrev pub starts : {A : Type 0} → Gram A → Spot → Bool
starts g s = among (first g) s

abbrev pub closes : Kind → Spot → Bool
closes k s = fits (of_kind k) s

-- ---- what it spells, from one spot to another
abbrev pub Many : {A : Type 0} → (A → Spot → Spot → Type 0) → List A → Spot → Spot → Type 0
Many f [] s e = s ≡ e
Many f (x ∷ xs) s e = (m : Spot) × f x s m × Many f xs m e

-- several, with commas between them, perhaps one after the last, and then a mark
abbrev pub AreListed : {A : Type 0} → (A → Spot → Spot → Type 0) → Kind → A → List A → Spot → Spot → Type 0
AreListed f close x [] s e = (m : Spot) × f x s m × ((mark_at close m ≡ Ok e) ⊎ ((n : Spot) × (mark_at Comma m ≡ Ok n) × (mark_at close n ≡ Ok e)))
AreListed f close x (y ∷ ys) s e = (m : Spot) × (n : Spot) × f x s m × (mark_at Comma m ≡ Ok n) × AreListed f close y ys n e

abbrev pub Listed : {A : Type 0} → (A → Spot → Spot → Type 0) → Kind → List A → Spot → Spot → Type 0
Listed f close [] s e = mark_at close s ≡ Ok e
Listed f close (x ∷ xs) s e = AreListed f close x xs s e

abbrev pub spells : {A : Type 0} → Gram A → A → Spot → Spot → Type 0
spells (mark k) a s e = mark_at k s ≡ Ok e
spells (spanned k) a s e = spanned_at k s ≡ Ok (a, e)
spells (says w) a s e = text_at w s ≡ Ok (a, e)
spells name a s e = name_at s ≡ Ok (a, e)
spells (name_but ws) a s e = name_but_at ws s ≡ Ok (a, e)
spells number a s e = number_at s ≡ Ok (a, e)
spells version a s e = version_at s ≡ Ok (a, e)
spells primitives a s e = primitive_at s ≡ Ok (a, e)
spells docs a s e = docs_at s ≡ Ok (a, e)
spells never a s e = ⊥
spells (deeper ks) a s e = ⊥
spells (both {A} {B} f g h) c s e = (a : A) × (b : B) × (m : Spot) × (c ≡ f a b) × spells g a s m × spells h b m e
spells (act {A} f g) b s e = (a : A) × (b ≡ f a) × spells g a s e
spells (either g h) a s e = spells g a s e ⊎ spells h a s e
spells (opt g) None s e = s ≡ e
spells (opt g) (Some a) s e = spells g a s e
spells (many g) xs s e = Many (spells g) xs s e
spells (until g close) xs s e = Many (spells g) xs s e × (closes close e ≡ true)
spells (listed opening close g) xs s e = (m : Spot) × (mark_at opening s ≡ Ok m) × Listed (spells g) close xs m e

-- ---- how it is read
abbrev pub many_at : {A : Type 0} → (Spot → Bool) → (Spot → Read A) → ℕ → Spot → Read (List A)
many_at goes item zero s = Err OutOfMemory
many_at goes item (suc n) s = if goes s then (item s >>= λ x. many_at goes item n x.1 >>= λ ys. Ok (x.0 ∷ ys.0, ys.1)) else Ok ([], s)

unfoldable pub until_at : {A : Type 0} → (Spot → Read A) → Kind → ℕ → Spot → Read (List A)
until_at item close zero s = Err OutOfMemory
until_at item close (suc n) s = if closes close s then Ok ([], s) else (item s >>= λ x. until_at item close n x.1 >>= λ ys. Ok (x.0 ∷ ys.0, ys.1))

-- after a mark: whether an item of a list follows, or the mark that closes the list, which is read too
unfoldable pub open_at : (opening close : Kind) → Spot → Read Bool
open_at opening close s = do
  a ← mark_at opening s
  t ← lexed a
  if same_kind t.kind close then (past a t >>= λ b. Ok (false, b)) else Ok (true, a)

-- after an item
unfoldable pub next_at : Kind → Spot → Read Bool
next_at close s = do
  t ← lexed s
  if same_kind t.kind Comma then open_at Comma close s else (mark_at close s >>= λ b. Ok (false, b))

unfoldable pub items_at : {A : Type 0} → (Spot → Read A) → Kind → ℕ → Bool × Spot → Read (List A)
items_at item close n (false, s) = Ok ([], s)
items_at item close zero (true, s) = Err OutOfMemory
items_at item close (suc n) (true, s) = do
  x ← item s
  m ← next_at close x.1
  xs ← items_at item close n m
  Ok (x.0 ∷ xs.0, xs.1)

unfoldable pub listed_at : {A : Type 0} → (Spot → Read A) → (opening close : Kind) → Spot → Read (List A)
listed_at item opening close s = do
  m ← open_at opening close s
  items_at item close (suc (length s.source)) m

-- each item takes a byte at least, so that there are no more of them than bytes
abbrev pub run : {A : Type 0} → Gram A → Spot → Read A
run (mark k) s = mark_at k s >>= λ next. Ok (tt, next)
run (spanned k) s = spanned_at k s
run (says w) s = text_at w s
run name s = name_at s
run (name_but ws) s = name_but_at ws s
run number s = number_at s
run version s = version_at s
run primitives s = primitive_at s
run docs s = docs_at s
run never s = nothing_at s
run (deeper ks) s = deeper_at ks s
run (both f g h) s = run g s >>= λ x. run h x.1 >>= λ y. Ok (f x.0 y.0, y.1)
run (act f g) s = run g s >>= λ x. Ok (f x.0, x.1)
run (either g h) s = if starts g s then run g s else run h s
run (opt g) s = if starts g s then (run g s >>= λ x. Ok (Some x.0, x.1)) else Ok (None, s)
run (many g) s = many_at (starts g) (run g) (suc (length s.source)) s
run (until g close) s = until_at (run g) close (suc (length s.source)) s
run (listed opening close g) s = listed_at (run g) opening close s
