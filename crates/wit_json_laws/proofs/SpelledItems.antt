-- What the grammar spells from attributes up to definitions has plain names and versions by SemVer.
use Rattle.std.proofs.Common.{Bool, true, false, List, [], Option, Some, None}
use Rattle.wit_arena.proofs.Common.{All, IfSome, IsValid, Span, codes, ⊤}
use Rattle.wit_lex.specs.declared.kind.Kind.TheVariants.{Colon, Semicolon, Equals, OpenParen, CloseParen, OpenBrace, CloseBrace, Dot, Slash, At, Word}
use Rattle.wit_lex.specs.declared.word.Word.TheVariants as word
use Rattle.wit_grammar.specs.Grammar.{mark, spanned, says, name, version, docs, both, act, either, until, listed, seq, applied, ◌▸◌, ◌◂◌}
use Rattle.wit_grammar.specs.Trees.{Name, Documents, Release, Ty, Attribute, Prefix, Parameter, Function, ResourceFunction, Body, alias, of_fields, of_flags, of_cases, of_labels, of_funcs, Field, Flag, Case, Path, UsedName}
use Rattle.wit_grammar.specs.Rules.{label, types, since_version, since_of, deprecated_of, unstable_of, since_attribute, unstable_attribute, deprecated_attribute, after_at, attribute, attributes, prefix, at_version, release_of, item_path, package_path, rest_of_path, path_of, path, local, used_name, used_names, used, top_used}
use Rattle.wit_grammar.specs.ItemRules.{alias_definition, field, record_definition, flag, flags_definition, case, variant_definition, enum_definition, closed_function, constructed, is_static, member, maker_of, member_of, resource_function, braced_functions, resource_body, resource_definition, definition}
use Rattle.wit_json_laws.specs.PlainTrees.{ArePlainAttributes, IsPlainAttribute, IsPlainBody, IsPlainMember, IsPlainPath, IsPlainUsed, IsPlainWord}
use Rattle.wit_json_laws.proofs.Gives.{Gives, IsPlainRelease, gives_act, gives_after, gives_any, gives_before, gives_both, gives_either, gives_listed, gives_many, gives_name, gives_opt, gives_second, gives_seq, gives_until, gives_version}
use Rattle.wit_json_laws.proofs.Lists.{all_none}

pub gives_label : Gives IsPlainWord label
unfolding label
gives_label = gives_before IsPlainWord name Colon gives_name

-- ---- attributes
abbrev IsSince : (Span × Release) × Span → Type 0
IsSince x = IsValid x.0.1

gives_since_version : Gives IsSince since_version
unfolding since_version
gives_since_version =
    let last = seq version (spanned CloseParen) in
    let one : Gives IsSince last = gives_both IsSince IsPlainRelease (λ (x : Span). ⊤) (λ (x : Span × Release) (y : Span). (x, y)) version (spanned CloseParen) gives_version (gives_any (spanned CloseParen)) (λ a b q r. q) in
    gives_after IsSince OpenParen (both (λ (y : Span) (x : (Span × Release) × Span). x) (says (codes "version")) (Equals ▸ last))
    (gives_second IsSince (says (codes "version")) (Equals ▸ last) (gives_after IsSince Equals last one))

gives_since : Gives IsSince since_attribute
unfolding since_attribute
gives_since = gives_second IsSince (says (codes "since")) since_version gives_since_version

gives_deprecated : Gives IsSince deprecated_attribute
unfolding deprecated_attribute
gives_deprecated = gives_second IsSince (says (codes "deprecated")) since_version gives_since_version

-- what makes a plain attribute of a span
abbrev MakesPlain : (Span → Attribute) → Type 0
MakesPlain f = (at : Span) → IsPlainAttribute (f at)

gives_after_at : Gives MakesPlain after_at
unfolding after_at
gives_after_at =
    let f : (Span × Release) × Span → Span → Attribute = λ x at. since_of at x in
    let g : Name × Span → Span → Attribute = λ x at. unstable_of at x in
    let k : (Span × Release) × Span → Span → Attribute = λ x at. deprecated_of at x in
    let b = act g unstable_attribute in
    let c = act k deprecated_attribute in
    gives_either MakesPlain (act f since_attribute) (either b c) (gives_act MakesPlain f since_attribute (λ x s e h at. gives_since x s e h))
    (gives_either MakesPlain b c (gives_act MakesPlain g unstable_attribute (λ x s e h at. tt)) (gives_act MakesPlain k deprecated_attribute (λ x s e h at. gives_deprecated x s e h)))

gives_attribute : Gives IsPlainAttribute attribute
unfolding attribute
gives_attribute = gives_both IsPlainAttribute (λ (x : Span). ⊤) MakesPlain applied (spanned At) after_at (gives_any (spanned At)) gives_after_at (λ a f q r. r a)

gives_attributes : Gives ArePlainAttributes attributes
unfolding attributes
gives_attributes = gives_many IsPlainAttribute attribute gives_attribute

abbrev pub IsPlainPrefix : Prefix → Type 0
IsPlainPrefix f = ArePlainAttributes f.attributes

pub gives_prefix : Gives IsPlainPrefix prefix
unfolding prefix
gives_prefix = gives_both IsPlainPrefix (λ (d : Documents). ⊤) ArePlainAttributes (λ (d : Documents) (xs : List Attribute). (record { docs = d; attributes = xs })) docs attributes (gives_any docs) gives_attributes (λ a b q r. r)

-- ---- paths and uses
abbrev pub IsPlainReleaseIf : Option (Span × Release) → Type 0
IsPlainReleaseIf o = IfSome o IsPlainRelease

pub gives_at_version : Gives IsPlainReleaseIf at_version
unfolding at_version
gives_at_version = gives_opt IsPlainRelease (At ▸ version) (gives_after IsPlainRelease At version gives_version)

pub release_plain : (o : Option (Span × Release)) → IsPlainReleaseIf o → IfSome (release_of o) IsValid
release_plain None h = tt
release_plain (Some x) h = h

abbrev pub IsPlainEnd : Name × Option (Span × Release) → Type 0
IsPlainEnd x = IsPlainReleaseIf x.1

pub gives_item_path : Gives IsPlainEnd item_path
unfolding item_path
gives_item_path =
    let both_of = seq name at_version in
    gives_after IsPlainEnd Slash both_of (gives_both IsPlainEnd IsPlainWord IsPlainReleaseIf (λ (x : Name) (y : Option (Span × Release)). (x, y)) name at_version gives_name gives_at_version (λ a b q r. r))

pub package_plain : (namespace owner : Name) (x : Name × Option (Span × Release)) → IsPlainWord namespace → IsPlainWord owner → IsPlainEnd x → IsPlainPath (package_path namespace owner x)
package_plain namespace owner x n o v = record { namespace = n; name = o; version = release_plain x.1 v }

-- the rest of a path, where there is more than a name
abbrev Rest : Type 0
Rest = Name × Name × Option (Span × Release)

abbrev pub IsPlainRest : Name × Name × Option (Span × Release) → Type 0
IsPlainRest x = IsPlainWord x.0 × IsPlainReleaseIf x.2

abbrev pub IsPlainRestIf : Option (Name × Name × Option (Span × Release)) → Type 0
IsPlainRestIf o = IfSome o IsPlainRest

pub gives_rest_of_path : Gives IsPlainRestIf rest_of_path
unfolding rest_of_path
gives_rest_of_path =
    let f : Name → Name × Option (Span × Release) → Rest = λ n x. (n, x.0, x.1) in
    let more = both f name item_path in
    gives_opt IsPlainRest (Colon ▸ more) (gives_after IsPlainRest Colon more (gives_both IsPlainRest IsPlainWord IsPlainEnd f name item_path gives_name gives_item_path (λ a b q r. (q, r))))

pub path_plain : (n : Name) (o : Option (Name × Name × Option (Span × Release))) → IsPlainWord n → IsPlainRestIf o → IsPlainPath (path_of n o)
path_plain n None w h = tt
path_plain n (Some x) w h = package_plain n x.0 (x.1, x.2) w h.0 h.1

pub gives_path : Gives IsPlainPath path
unfolding path
gives_path = gives_both IsPlainPath IsPlainWord IsPlainRestIf path_of name rest_of_path gives_name gives_rest_of_path path_plain

abbrev IsPlainNameIf : Option Name → Type 0
IsPlainNameIf o = IfSome o IsPlainWord

pub gives_local : Gives IsPlainNameIf local
unfolding local
gives_local = gives_opt IsPlainWord (Word word.As ▸ name) (gives_after IsPlainWord (Word word.As) name gives_name)

gives_used_name : Gives IsPlainUsed used_name
unfolding used_name
gives_used_name = gives_both IsPlainUsed IsPlainWord IsPlainNameIf (λ (n : Name) (x : Option Name). (record { name = n; local = x })) name local gives_name gives_local (λ a b q r. (q, r))

abbrev AreUsed : List UsedName → Type 0
AreUsed xs = All IsPlainUsed xs

gives_used_names : Gives AreUsed used_names
unfolding used_names
gives_used_names = gives_listed IsPlainUsed OpenBrace CloseBrace used_name gives_used_name

abbrev pub IsPlainUsing : Path × List UsedName → Type 0
IsPlainUsing x = IsPlainPath x.0 × All IsPlainUsed x.1

pub gives_used : Gives IsPlainUsing used
unfolding used
gives_used =
    let names = Dot ▸ (used_names ◂ Semicolon) in
    gives_after IsPlainUsing (Word word.Use) (seq path names) (gives_seq IsPlainPath AreUsed path names gives_path
    (gives_after AreUsed Dot (used_names ◂ Semicolon) (gives_before AreUsed used_names Semicolon gives_used_names)))

abbrev pub IsPlainTop : Span × Path × Option Name → Type 0
IsPlainTop x = IsPlainPath x.1

pub gives_top_used : Gives IsPlainTop top_used
unfolding top_used
gives_top_used =
    let f : Span → Path × Option Name → Span × Path × Option Name = λ s x. (s, x.0, x.1) in
    let last = local ◂ Semicolon in
    let leads : Path × Option Name → Type 0 = λ x. IsPlainPath x.0 in
    gives_both IsPlainTop (λ (s : Span). ⊤) leads f (spanned (Word word.Use)) (seq path last) (gives_any (spanned (Word word.Use)))
    (gives_both leads IsPlainPath (λ (o : Option Name). ⊤) (λ (x : Path) (y : Option Name). (x, y)) path last gives_path (gives_any last) (λ a b q r. q)) (λ a b q r. r)

-- ---- definitions
abbrev pub IsPlainNamed : Name × Body → Type 0
IsPlainNamed x = IsPlainWord x.0 × IsPlainBody x.1

gives_alias : Gives IsPlainNamed alias_definition
unfolding alias_definition
gives_alias =
    let f : Name → Ty → Name × Body = λ n t. (n, alias t) in
    let last = Equals ▸ (types 100 ◂ Semicolon) in
    gives_after IsPlainNamed (Word word.Type) (both f name last) (gives_both IsPlainNamed IsPlainWord (λ (t : Ty). ⊤) f name last gives_name (gives_any last) (λ a b q r. (q, tt)))

gives_record : Gives IsPlainNamed record_definition
unfolding record_definition
gives_record =
    let f : Name → List Field → Name × Body = λ n xs. (n, of_fields n.span xs) in
    let last = listed OpenBrace CloseBrace field in
    gives_after IsPlainNamed (Word word.Record) (both f name last) (gives_both IsPlainNamed IsPlainWord (λ (xs : List Field). ⊤) f name last gives_name (gives_any last) (λ a b q r. (q, tt)))

gives_flags : Gives IsPlainNamed flags_definition
unfolding flags_definition
gives_flags =
    let f : Name → List Flag → Name × Body = λ n xs. (n, of_flags n.span xs) in
    let last = listed OpenBrace CloseBrace flag in
    gives_after IsPlainNamed (Word word.Flags) (both f name last) (gives_both IsPlainNamed IsPlainWord (λ (xs : List Flag). ⊤) f name last gives_name (gives_any last) (λ a b q r. (q, tt)))

gives_variant : Gives IsPlainNamed variant_definition
unfolding variant_definition
gives_variant =
    let f : Name → List Case → Name × Body = λ n xs. (n, of_cases n.span xs) in
    let last = listed OpenBrace CloseBrace case in
    gives_after IsPlainNamed (Word word.Variant) (both f name last) (gives_both IsPlainNamed IsPlainWord (λ (xs : List Case). ⊤) f name last gives_name (gives_any last) (λ a b q r. (q, tt)))

gives_enum : Gives IsPlainNamed enum_definition
unfolding enum_definition
gives_enum =
    let f : Name → List Flag → Name × Body = λ n xs. (n, of_labels n.span xs) in
    let last = listed OpenBrace CloseBrace flag in
    gives_after IsPlainNamed (Word word.Enum) (both f name last) (gives_both IsPlainNamed IsPlainWord (λ (xs : List Flag). ⊤) f name last gives_name (gives_any last) (λ a b q r. (q, tt)))

-- what makes a plain function of a resource, after plain attributes
abbrev MakesMember : (Prefix → ResourceFunction) → Type 0
MakesMember f = (d : Prefix) → IsPlainPrefix d → IsPlainMember (f d)

abbrev IsNamedFirst : Name × Bool × Function → Type 0
IsNamedFirst x = IsPlainWord x.0

gives_member : Gives IsNamedFirst member
unfolding member
gives_member =
    let f : Name → Bool × Function → Name × Bool × Function = λ n x. (n, x.0, x.1) in
    let last = seq is_static closed_function in
    gives_both IsNamedFirst IsPlainWord (λ (x : Bool × Function). ⊤) f label last gives_label (gives_any last) (λ a b q r. q)

member_plain : (d : Prefix) (x : Name × Bool × Function) → IsPlainPrefix d → IsPlainWord x.0 → IsPlainMember (member_of d x)
member_plain d (n, false, x) f w = record { attributes = f; name = w }
member_plain d (n, true, x) f w = record { attributes = f; name = w }

gives_resource_function : Gives IsPlainMember resource_function
unfolding resource_function
gives_resource_function =
    let f : Span × List Parameter × Option Ty → Prefix → ResourceFunction = λ x f. maker_of f x in
    let g : Name × Bool × Function → Prefix → ResourceFunction = λ x f. member_of f x in
    let body = either (act f constructed) (act g member) in
    gives_both IsPlainMember IsPlainPrefix MakesMember applied prefix body gives_prefix
    (gives_either MakesMember (act f constructed) (act g member)
    (gives_act MakesMember f constructed (λ x s e h a p. p))
    (gives_act MakesMember g member (λ x s e h a p. member_plain a x p (gives_member x s e h))))
    (λ a b q r. r a q)

abbrev AreMembers : List ResourceFunction → Type 0
AreMembers xs = All IsPlainMember xs

gives_braced : Gives AreMembers braced_functions
unfolding braced_functions
gives_braced =
    let xs = until resource_function CloseBrace in
    gives_after AreMembers OpenBrace (xs ◂ CloseBrace) (gives_before AreMembers xs CloseBrace (gives_until IsPlainMember resource_function CloseBrace gives_resource_function))

gives_resource_body : Gives AreMembers resource_body
unfolding resource_body
gives_resource_body =
    let none : Unit {0} → List ResourceFunction = λ _. [] in
    gives_either AreMembers (act none (mark Semicolon)) braced_functions (gives_act AreMembers none (mark Semicolon) (λ x s e h. all_none IsPlainMember)) gives_braced

gives_resource : Gives IsPlainNamed resource_definition
unfolding resource_definition
gives_resource =
    let f : Name → List ResourceFunction → Name × Body = λ n xs. (n, of_funcs xs) in
    gives_after IsPlainNamed (Word word.Resource) (both f name resource_body) (gives_both IsPlainNamed IsPlainWord AreMembers f name resource_body gives_name gives_resource_body (λ a b q r. (q, r)))

pub gives_definition : Gives IsPlainNamed definition
unfolding definition
gives_definition =
    let enums = either enum_definition resource_definition in
    let variants = either variant_definition enums in
    let flags = either flags_definition variants in
    let records = either record_definition flags in
    gives_either IsPlainNamed alias_definition records gives_alias
    (gives_either IsPlainNamed record_definition flags gives_record
    (gives_either IsPlainNamed flags_definition variants gives_flags
    (gives_either IsPlainNamed variant_definition enums gives_variant
    (gives_either IsPlainNamed enum_definition resource_definition gives_enum gives_resource))))
