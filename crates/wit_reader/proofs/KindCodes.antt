-- Kinds of tokens by their numbers: kinds with one number are one, and what is so of each kind of a list of all is so of each kind.
use Rattle.std.proofs.Common.{◌≡◌, ℕ, zero, suc, List, [], ◌∷◌, map, get_or, refl, ap, sym, ◌∙◌, true, false}
use Rattle.std.specs.Prelude.{Bool, IsTrue, ◌↔◌}
use Rattle.std.proofs.lemmas.Bool.{eq-eqb, eqb-true, ne_eqb}
use Rattle.wit_lex.specs.declared.kind.Kind.{Kind}
use Rattle.wit_lex.specs.declared.kind.Kind.TheVariants as kind
use Rattle.wit_lex.specs.declared.word.Word.{Word}
use Rattle.wit_lex.specs.declared.word.Word.TheVariants as word
use Rattle.wit_lex.specs.contracts.kind.KindPartialEq.TheImpl.{eq-value as kind_test}
use Rattle.wit_lex.specs.contracts.word.WordPartialEq.TheImpl.{eq-value as word_test}
use Rattle.wit_lex.specs.Lexis.{words}
use Rattle.wit_grammar.specs.TokenKinds.{kind_code, same_kind}

abbrev pub all_kinds : List Kind
all_kinds =
    kind.Name ∷ kind.Number ∷ kind.Arrow ∷ kind.Equals ∷ kind.Comma ∷ kind.Colon ∷ kind.Semicolon ∷ kind.OpenParen ∷ kind.CloseParen ∷ kind.OpenBrace ∷ kind.CloseBrace
    ∷ kind.OpenAngle ∷ kind.CloseAngle ∷ kind.Dot ∷ kind.Slash ∷ kind.At ∷ kind.Underscore ∷ kind.End ∷ map kind.Word words

decoded : (k : Kind) → get_or all_kinds (kind_code k) kind.End ≡ k
decoded kind.Name = refl
decoded kind.Number = refl
decoded kind.Arrow = refl
decoded kind.Equals = refl
decoded kind.Comma = refl
decoded kind.Colon = refl
decoded kind.Semicolon = refl
decoded kind.OpenParen = refl
decoded kind.CloseParen = refl
decoded kind.OpenBrace = refl
decoded kind.CloseBrace = refl
decoded kind.OpenAngle = refl
decoded kind.CloseAngle = refl
decoded kind.Dot = refl
decoded kind.Slash = refl
decoded kind.At = refl
decoded kind.Underscore = refl
decoded kind.End = refl
decoded (kind.Word word.Use) = refl
decoded (kind.Word word.Type) = refl
decoded (kind.Word word.Func) = refl
decoded (kind.Word word.Async) = refl
decoded (kind.Word word.Resource) = refl
decoded (kind.Word word.Own) = refl
decoded (kind.Word word.Borrow) = refl
decoded (kind.Word word.Record) = refl
decoded (kind.Word word.Flags) = refl
decoded (kind.Word word.Variant) = refl
decoded (kind.Word word.Enum) = refl
decoded (kind.Word word.Bool) = refl
decoded (kind.Word word.U8) = refl
decoded (kind.Word word.U16) = refl
decoded (kind.Word word.U32) = refl
decoded (kind.Word word.U64) = refl
decoded (kind.Word word.S8) = refl
decoded (kind.Word word.S16) = refl
decoded (kind.Word word.S32) = refl
decoded (kind.Word word.S64) = refl
decoded (kind.Word word.F32) = refl
decoded (kind.Word word.F64) = refl
decoded (kind.Word word.Char) = refl
decoded (kind.Word word.String) = refl
decoded (kind.Word word.Option) = refl
decoded (kind.Word word.Result) = refl
decoded (kind.Word word.Future) = refl
decoded (kind.Word word.Stream) = refl
decoded (kind.Word word.List) = refl
decoded (kind.Word word.Map) = refl
decoded (kind.Word word.Tuple) = refl
decoded (kind.Word word.ErrorContext) = refl
decoded (kind.Word word.As) = refl
decoded (kind.Word word.Static) = refl
decoded (kind.Word word.Interface) = refl
decoded (kind.Word word.Import) = refl
decoded (kind.Word word.Export) = refl
decoded (kind.Word word.World) = refl
decoded (kind.Word word.Package) = refl
decoded (kind.Word word.Constructor) = refl
decoded (kind.Word word.Include) = refl
decoded (kind.Word word.With) = refl

mapped : {A : Type 0} (f : Kind → A) (ks : List Kind) (n : ℕ) (k : Kind) → get_or (map f ks) n (f k) ≡ f (get_or ks n k)
mapped f [] n k = refl
mapped f (j ∷ ks) zero k = refl
mapped f (j ∷ ks) (suc n) k = mapped f ks n k

by_code : {A : Type 0} (f : Kind → A) (k : Kind) → f k ≡ get_or (map f all_kinds) (kind_code k) (f kind.End)
by_code f k = sym (mapped f all_kinds (kind_code k) kind.End ∙ ap f (decoded k))

-- two functions that say the same of each kind of the list are one
pub by_table : {A : Type 0} (f g : Kind → A) → map f all_kinds ≡ map g all_kinds → (k : Kind) → f k ≡ g k
by_table {A} f g h k =
    let last : f kind.End ≡ g kind.End = ap (λ (xs : List A). get_or xs 17 (f kind.End)) h in
    by_code f k ∙ ap (λ (xs : List A). get_or xs (kind_code k) (f kind.End)) h ∙ ap (λ (x : A). get_or (map g all_kinds) (kind_code k) x) last ∙ sym (by_code g k)

one_code : (a b : Kind) → kind_code a ≡ kind_code b → a ≡ b
one_code a b e = sym (decoded a) ∙ ap (λ n. get_or all_kinds n kind.End) e ∙ decoded b

pub same : (a b : Kind) → a ≡ b → same_kind a b ≡ true
unfolding same_kind
same a b e = eq-eqb (kind_code a) (kind_code b) (ap kind_code e)

pub other : (a b : Kind) → (a ≡ b → ⊥) → same_kind a b ≡ false
unfolding same_kind
other a b n = ne_eqb (kind_code a) (kind_code b) (λ e. n (one_code a b e))

-- what `==` says of two kinds
pub tested : (a b : Kind) → kind_test.it a b ≡ same_kind a b
unfolding same_kind
tested a b = by_table (kind_test.it a) (same_kind a) (by_table (λ (k : Kind). map (kind_test.it k) all_kinds) (λ (k : Kind). map (same_kind k) all_kinds) refl a) b

pub is_same : (r : Bool) (a b : Kind) → r ≡ same_kind a b → IsTrue r ↔ (a ≡ b)
unfolding same_kind
is_same r a b e = (λ t. one_code a b (eqb-true (kind_code a) (kind_code b) (sym e ∙ t)), λ s. e ∙ same a b s)

abbrev word_of : Kind → Word
word_of (kind.Word w) = w
word_of other = word.Use

pub other_word : {v w : Word} → (v ≡ w → ⊥) → kind.Word v ≡ kind.Word w → ⊥
other_word n e = n (ap word_of e)

-- and of the word of a token
pub tested_word : (k : Kind) (v w : Word) → k ≡ kind.Word v → word_test.it v w ≡ same_kind k (kind.Word w)
tested_word k v w e = tested (kind.Word v) (kind.Word w) ∙ ap (λ (j : Kind). same_kind j (kind.Word w)) (sym e)

pub stated_none : (k : Kind) (w : Word) → ((v : Word) → k ≡ kind.Word v → ⊥) → false ≡ same_kind k (kind.Word w)
stated_none k w h = sym (other k (kind.Word w) (h w))
