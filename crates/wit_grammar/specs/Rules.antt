-- The grammar of WIT, a line a rule, from types up to what items have in front.
use Rattle.std.specs.Prelude.{ℕ, zero, suc, List, [], ◌∷◌, Option, Some, None, codes}
use Rattle.wit_values.specs.declared.span.Span.{Span}
use Rattle.wit_type_tree.specs.declared.types.FuncForm.{FuncForm}
use Rattle.wit_type_tree.specs.declared.types.FuncForm.TheVariants.{Plain, Async, Getter, Setter}
use Rattle.wit_lex.specs.declared.kind.Kind.{Kind}
use Rattle.wit_lex.specs.declared.kind.Kind.TheVariants.{Comma, Colon, Semicolon, Arrow, Equals, Underscore, OpenAngle, CloseAngle, OpenParen, CloseParen, OpenBrace, CloseBrace, Dot, Slash, At, Word}
use Rattle.wit_lex.specs.declared.kind.Kind.TheVariants as kind
use Rattle.wit_lex.specs.declared.word.Word.TheVariants as word
use Rattle.wit_grammar.specs.Grammar.{Gram, mark, spanned, says, name, number, version, primitives, docs, deeper, both, act, either, opt, many, listed, seq, applied, ◌▸◌, ◌◂◌}
use Rattle.wit_grammar.specs.Trees.{Name, Documents, Release, Ty, named, list, fixed, maps, option, result, tuple, future, stream, own, borrow, Perhaps, nothing, this, tys, perhaps, Attribute, since, unstable, deprecated, Prefix, Parameter, Function, Path, by_name, by_package, UsedName, Use, TopUse}

-- from the first span to the end of the last
abbrev pub joined : Span → Span → Span
joined first last = record { start = first.start; end = last.end }

-- name ':'
unfoldable pub label : Gram Name
label = name ◂ Colon

-- ---- types
abbrev pub sized : Span → Ty → Option ℕ → Ty
sized s t None = list s t
sized s t (Some n) = fixed s t n

-- ( ',' number )? '>'
unfoldable pub size : Gram (Option ℕ)
size = opt (Comma ▸ number) ◂ CloseAngle

-- 'list' '<' type ( ',' number )? '>'
unfoldable pub lists : Gram Ty → Gram Ty
lists t = both (λ s x. sized s x.0 x.1) (spanned (Word word.List)) (OpenAngle ▸ seq t size)

-- 'map' '<' type ',' type '>'
unfoldable pub maps_of : Gram Ty → Gram Ty
maps_of t = both (λ s x. maps s x.0 x.1) (spanned (Word word.Map)) (OpenAngle ▸ seq (t ◂ Comma) (t ◂ CloseAngle))

-- 'option' '<' type '>'
unfoldable pub options : Gram Ty → Gram Ty
options t = both option (spanned (Word word.Option)) (OpenAngle ▸ (t ◂ CloseAngle))

-- '>' | ',' type '>'
unfoldable pub error_type : Gram Ty → Gram Perhaps
error_type t = either (act (λ _. nothing) (mark CloseAngle)) (act this (Comma ▸ (t ◂ CloseAngle)))

-- '_' ',' type '>' | type ( '>' | ',' type '>' )
unfoldable pub result_types : Gram Ty → Gram (Perhaps × Perhaps)
result_types t = either (act (λ x. (nothing, this x)) (Underscore ▸ Comma ▸ (t ◂ CloseAngle))) (both (λ x y. (this x, y)) t (error_type t))

abbrev pub result_of : Span → Option (Perhaps × Perhaps) → Ty
result_of s None = result s nothing nothing
result_of s (Some x) = result s x.0 x.1

-- 'result' ( '<' .. )?
unfoldable pub results : Gram Ty → Gram Ty
results t = both result_of (spanned (Word word.Result)) (opt (OpenAngle ▸ result_types t))

-- 'tuple' '<' type, .. '>'
unfoldable pub tuples : Gram Ty → Gram Ty
tuples t = both (λ s x. tuple s (tys x)) (spanned (Word word.Tuple)) (listed OpenAngle CloseAngle t)

-- ( '<' type '>' )?
unfoldable pub payload : Gram Ty → Gram Perhaps
payload t = act perhaps (opt (OpenAngle ▸ (t ◂ CloseAngle)))

unfoldable pub futures : Gram Ty → Gram Ty
futures t = both future (spanned (Word word.Future)) (payload t)

unfoldable pub streams : Gram Ty → Gram Ty
streams t = both stream (spanned (Word word.Stream)) (payload t)

-- '<' name '>'
unfoldable pub handled : Gram Name
handled = OpenAngle ▸ (name ◂ CloseAngle)

unfoldable pub owns : Gram Ty
owns = both own (spanned (Word word.Own)) handled

unfoldable pub borrows : Gram Ty
borrows = both borrow (spanned (Word word.Borrow)) handled

-- what a type begins with
abbrev pub type_kinds : List Kind
type_kinds =
    Word word.List ∷ Word word.Map ∷ Word word.Option ∷ Word word.Result ∷ Word word.Tuple ∷ Word word.Future ∷ Word word.Stream ∷ Word word.Own ∷ Word word.Borrow ∷ kind.Name
    ∷ Word word.Bool ∷ Word word.U8 ∷ Word word.U16 ∷ Word word.U32 ∷ Word word.U64 ∷ Word word.S8 ∷ Word word.S16 ∷ Word word.S32 ∷ Word word.S64
    ∷ Word word.F32 ∷ Word word.F64 ∷ Word word.Char ∷ Word word.String ∷ Word word.ErrorContext ∷ []

-- a type whose parts are these
abbrev pub type_of : Gram Ty → Gram Ty
type_of t =
    either (lists t) (either (maps_of t) (either (options t) (either (results t) (either (tuples t) (either (futures t) (either (streams t)
    (either owns (either borrows (either (act named name) primitives)))))))))

-- a type of at most so many levels
unfoldable pub types : ℕ → Gram Ty
types zero = deeper type_kinds
types (suc n) = type_of (types n)

-- ---- functions
unfoldable pub param : Gram Parameter
param = both (λ n t. record { name = n; ty = t }) label (types 100)

-- '(' name ':' type, .. ')'
unfoldable pub params : Gram (List Parameter)
params = listed OpenParen CloseParen param

-- ( '->' type )?
unfoldable pub returned : Gram (Option Ty)
returned = opt (Arrow ▸ types 100)

unfoldable pub signature : Gram (List Parameter × Option Ty)
signature = seq params returned

-- 'func' | 'async' 'func', with the span of 'func'
unfoldable pub func_word : Gram (Span × FuncForm)
func_word = either (act (λ s. (s, Async)) (Word word.Async ▸ spanned (Word word.Func))) (act (λ s. (s, Plain)) (spanned (Word word.Func)))

-- 'get' | 'set'
unfoldable pub accessor : Gram (Span × FuncForm)
accessor = either (act (λ s. (s, Getter)) (says (codes "get"))) (act (λ s. (s, Setter)) (says (codes "set")))

unfoldable pub form : Gram (Span × FuncForm)
form = either accessor func_word

abbrev pub func_of : Span × FuncForm → List Parameter × Option Ty → Function
func_of f x = record { span = f.0; form = f.1; params = x.0; returned = x.1 }

-- 'async'? 'func' signature, or 'get' or 'set' and a signature
unfoldable pub function : Gram Function
function = both func_of form signature

-- ---- what items have in front
-- '(' 'version' '=' version ')'
unfoldable pub since_version : Gram ((Span × Release) × Span)
since_version = OpenParen ▸ both (λ _ x. x) (says (codes "version")) (Equals ▸ seq version (spanned CloseParen))

-- '(' 'feature' '=' name ')'
unfoldable pub of_feature : Gram (Name × Span)
of_feature = OpenParen ▸ both (λ _ x. x) (says (codes "feature")) (Equals ▸ seq name (spanned CloseParen))

abbrev pub since_of : Span → (Span × Release) × Span → Attribute
since_of at x = since (joined at x.1) x.0.1

abbrev pub deprecated_of : Span → (Span × Release) × Span → Attribute
deprecated_of at x = deprecated (joined at x.1) x.0.1

abbrev pub unstable_of : Span → Name × Span → Attribute
unstable_of at x = unstable (joined at x.1) x.0

unfoldable pub since_attribute : Gram ((Span × Release) × Span)
since_attribute = both (λ _ x. x) (says (codes "since")) since_version

unfoldable pub unstable_attribute : Gram (Name × Span)
unstable_attribute = both (λ _ x. x) (says (codes "unstable")) of_feature

unfoldable pub deprecated_attribute : Gram ((Span × Release) × Span)
deprecated_attribute = both (λ _ x. x) (says (codes "deprecated")) since_version

-- what follows the '@', which is at a span
unfoldable pub after_at : Gram (Span → Attribute)
after_at =
    either (act (λ x at. since_of at x) since_attribute)
    (either (act (λ x at. unstable_of at x) unstable_attribute) (act (λ x at. deprecated_of at x) deprecated_attribute))

-- '@' 'since' '(' .. ')', and the like
unfoldable pub attribute : Gram Attribute
attribute = both applied (spanned At) after_at

unfoldable pub attributes : Gram (List Attribute)
attributes = many attribute

-- docs, and attributes after them
unfoldable pub prefix : Gram Prefix
prefix = both (λ d xs. record { docs = d; attributes = xs }) docs attributes

-- ---- paths and uses
-- ( '@' version )?
unfoldable pub at_version : Gram (Option (Span × Release))
at_version = opt (At ▸ version)

abbrev pub release_of : Option (Span × Release) → Option Release
release_of None = None
release_of (Some x) = Some x.1

abbrev pub no_docs : Documents
no_docs = record { texts = []; span = record { start = 0; end = 0 } }

-- '/' name ( '@' version )?
unfoldable pub item_path : Gram (Name × Option (Span × Release))
item_path = Slash ▸ seq name at_version

abbrev pub package_path : Name → Name → Name × Option (Span × Release) → Path
package_path namespace owner x =
    by_package (record { docs = no_docs; span = joined namespace.span owner.span; namespace = namespace; name = owner; version = release_of x.1 }) x.0

-- ( ':' name '/' name ( '@' version )? )?
unfoldable pub rest_of_path : Gram (Option (Name × Name × Option (Span × Release)))
rest_of_path = opt (Colon ▸ both (λ n x. (n, x.0, x.1)) name item_path)

abbrev pub path_of : Name → Option (Name × Name × Option (Span × Release)) → Path
path_of n None = by_name n
path_of n (Some x) = package_path n x.0 (x.1, x.2)

unfoldable pub path : Gram Path
path = both path_of name rest_of_path

-- ( 'as' name )?
unfoldable pub local : Gram (Option Name)
local = opt (Word word.As ▸ name)

unfoldable pub used_name : Gram UsedName
used_name = both (λ n x. record { name = n; local = x }) name local

-- '{' name ( 'as' name )?, .. '}'
unfoldable pub used_names : Gram (List UsedName)
used_names = listed OpenBrace CloseBrace used_name

-- 'use' path '.' '{' .. '}' ';'
unfoldable pub used : Gram (Path × List UsedName)
used = Word word.Use ▸ seq path (Dot ▸ (used_names ◂ Semicolon))

abbrev pub use_of : List Attribute → Path × List UsedName → Use
use_of xs x = record { attributes = xs; from = x.0; names = x.1 }

-- 'use' path ( 'as' name )? ';'
unfoldable pub top_used : Gram (Span × Path × Option Name)
top_used = both (λ s x. (s, x.0, x.1)) (spanned (Word word.Use)) (seq path (local ◂ Semicolon))

abbrev pub top_use_of : List Attribute → Span × Path × Option Name → TopUse
top_use_of xs x = record { span = x.0; attributes = xs; item = x.1; local = x.2 }
