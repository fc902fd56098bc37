-- So has what it spells from interfaces up to files.
use Rattle.std.proofs.Common.{ℕ, zero, suc, List, [], ◌∷◌, Option, Some, None, refl}
use Rattle.wit_arena.proofs.Common.{All, Async, FuncForm, Getter, IfSome, Span, WorldSide, codes, flat_map, ⊤}
use Rattle.wit_type_tree.specs.declared.types.FuncForm.TheVariants.{Plain, Setter}
use Rattle.wit_lex.specs.declared.kind.Kind.TheVariants.{Colon, Semicolon, OpenBrace, CloseBrace, End, Word}
use Rattle.wit_lex.specs.declared.word.Word.TheVariants as word
use Rattle.wit_grammar.specs.Grammar.{Gram, mark, name, name_but, docs, never, both, act, either, opt, until, seq, applied, ◌▸◌, ◌◂◌}
use Rattle.wit_grammar.specs.Laws.{IsSpelled, start}
use Rattle.wit_grammar.specs.Trees.{Name, Documents, Release, Ty, Prefix, Parameter, Function, Body, PackageId, Path, by_name, UsedName, InterfaceItem, uses, defines, has_func, ExternKind, inline_interface, by_path, by_func, named_path, RenamedName, WorldItem, crosses, world_uses, world_defines, includes, Declaration, of_interface, of_world, of_use, Item, declares, nests, Items, no_more, then_item, items_of, Nested, File}
use Rattle.wit_grammar.specs.Rules.{accessor, func_of, prefix, at_version, item_path, package_path, rest_of_path, path_of, path, label, used, use_of, top_used, top_use_of}
use Rattle.wit_grammar.specs.ItemRules.{closed_function, closed_signature, named_func_of, definition, definition_of, named_function, interface_item, interface_items, interface_rule, interface_of, after_second, extern_path, accessor_name, get_or_set, worded_function, inline_items, after_colon, extern_kind, side, extern, extern_of, renames, include, include_of, world_item, world_items, world_rule, world_of, declaration, two_names, package_names, package_of, braced, nest, item_of, package_to, item_to, Beginning, header, first_item, header_or_nested, package_first, beginning, declaration_in, declarations_in, nested_in, names_in, file_from, file_of, items_to_end, file}
use Rattle.wit_json_laws.specs.PlainTrees.{IsPlainDeclaration, IsPlainFile, IsPlainItem, IsPlainKind, IsPlainNested, IsPlainPackageId, IsPlainPath, IsPlainWord, IsPlainWorldItem}
use Rattle.wit_json_laws.proofs.Gives.{Gives, gives_act, gives_after, gives_any, gives_before, gives_both, gives_either, gives_name, gives_none, gives_opt, gives_other, gives_seq, gives_until}
use Rattle.wit_json_laws.proofs.Lists.{all_both, all_more, all_none, all_tail, at_all}
use Rattle.wit_json_laws.proofs.SpelledItems.{IsPlainEnd, IsPlainPrefix, IsPlainReleaseIf, IsPlainRestIf, gives_at_version, gives_definition, gives_prefix, gives_item_path, gives_label, gives_path, gives_rest_of_path, gives_top_used, gives_used, package_plain, path_plain, release_plain}

-- ---- interfaces
abbrev IsNamedFunction : Name × Function → Type 0
IsNamedFunction x = IsPlainWord x.0

gives_named_function : Gives IsNamedFunction named_function
unfolding named_function
gives_named_function = gives_both IsNamedFunction IsPlainWord (λ (f : Function). ⊤) (λ (x : Name) (y : Function). (x, y)) label closed_function gives_label (gives_any closed_function) (λ a b q r. q)

-- what makes a plain item of an interface, after plain attributes
abbrev MakesItem : (Prefix → InterfaceItem) → Type 0
MakesItem f = (d : Prefix) → IsPlainPrefix d → IsPlainItem (f d)

gives_interface_item : Gives IsPlainItem interface_item
unfolding interface_item
gives_interface_item =
    let a : Path × List UsedName → Prefix → InterfaceItem = λ x f. uses (use_of f.attributes x) in
    let b : Name × Function → Prefix → InterfaceItem = λ x f. has_func (named_func_of f x.0 x.1) in
    let c : Name × Body → Prefix → InterfaceItem = λ x f. defines (definition_of f x) in
    let rest = either (act b named_function) (act c definition) in
    gives_both IsPlainItem IsPlainPrefix MakesItem applied prefix (either (act a used) rest) gives_prefix
    (gives_either MakesItem (act a used) rest
    (gives_act MakesItem a used (λ x s e h d p. (let u = gives_used x s e h in record { attributes = p; from = u.0; names = u.1 })))
    (gives_either MakesItem (act b named_function) (act c definition)
    (gives_act MakesItem b named_function (λ x s e h d p. record { attributes = p; name = gives_named_function x s e h }))
    (gives_act MakesItem c definition (λ x s e h d p. (let n = gives_definition x s e h in record { attributes = p; name = n.0; body = n.1 })))))
    (λ d f q r. r d q)

abbrev AreItems : List InterfaceItem → Type 0
AreItems xs = All IsPlainItem xs

gives_interface_items : Gives AreItems interface_items
unfolding interface_items
gives_interface_items =
    let xs = until interface_item CloseBrace in
    gives_after AreItems OpenBrace (xs ◂ CloseBrace) (gives_before AreItems xs CloseBrace (gives_until IsPlainItem interface_item CloseBrace gives_interface_item))

abbrev HasItems : Name × List InterfaceItem → Type 0
HasItems x = All IsPlainItem x.1

gives_interface_rule : Gives HasItems interface_rule
unfolding interface_rule
gives_interface_rule =
    gives_after HasItems (Word word.Interface) (seq name interface_items) (gives_both HasItems IsPlainWord AreItems (λ (x : Name) (y : List InterfaceItem). (x, y)) name interface_items gives_name gives_interface_items (λ a b q r. r))

-- ---- worlds
-- what makes a plain import or export of two plain names
abbrev MakesOfTwo : (Name → Name → ExternKind) → Type 0
MakesOfTwo f = (first second : Name) → IsPlainWord first → IsPlainWord second → IsPlainKind (f first second)

abbrev MakesOfOne : (Name → ExternKind) → Type 0
MakesOfOne f = (n : Name) → IsPlainWord n → IsPlainKind (f n)

gives_after_second : Gives MakesOfTwo after_second
unfolding after_second
gives_after_second =
    let a : Name × Option (Span × Release) → Name → Name → ExternKind = λ x first second. by_path (package_path first second x) in
    let b : Option (Name × Name × Option (Span × Release)) → Name → Name → ExternKind = λ x first second. named_path first (path_of second x) in
    let one = item_path ◂ Semicolon in
    let other = rest_of_path ◂ Semicolon in
    gives_either MakesOfTwo (act a one) (act b other)
    (gives_act MakesOfTwo a one (λ x s e h first second p q. package_plain first second x p q (gives_before IsPlainEnd item_path Semicolon gives_item_path x s e h)))
    (gives_act MakesOfTwo b other (λ x s e h first second p q. (p, path_plain second x q (gives_before IsPlainRestIf rest_of_path Semicolon gives_rest_of_path x s e h))))

gives_extern_path : Gives MakesOfOne extern_path
unfolding extern_path
gives_extern_path =
    let ws = codes "get" ∷ codes "set" ∷ [] in
    let f : Name → (Name → Name → ExternKind) → Name → ExternKind = λ second x first. x first second in
    gives_both MakesOfOne IsPlainWord MakesOfTwo f (name_but ws) after_second (gives_other ws) gives_after_second (λ second x q r first p. r first second p q)

accessor_plain : (a : Span × FuncForm) → IsPlainWord (accessor_name a)
accessor_plain (s, Plain) = refl
accessor_plain (s, Async) = refl
accessor_plain (s, Getter) = refl
accessor_plain (s, Setter) = refl

abbrev MakesOfAccessor : (Span × FuncForm → Name → ExternKind) → Type 0
MakesOfAccessor f = (a : Span × FuncForm) → MakesOfOne (f a)

gives_get_or_set : Gives MakesOfOne get_or_set
unfolding get_or_set
gives_get_or_set =
    let f : List Parameter × Option Ty → Span × FuncForm → Name → ExternKind = λ x a n. by_func n (func_of a x) in
    let g : (Name → Name → ExternKind) → Span × FuncForm → Name → ExternKind = λ x a n. x n (accessor_name a) in
    gives_both MakesOfOne (λ (a : Span × FuncForm). ⊤) MakesOfAccessor applied accessor (either (act f closed_signature) (act g after_second)) (gives_any accessor)
    (gives_either MakesOfAccessor (act f closed_signature) (act g after_second)
    (gives_act MakesOfAccessor f closed_signature (λ x s e h a n p. p))
    (gives_act MakesOfAccessor g after_second (λ x s e h a n p. gives_after_second x s e h n (accessor_name a) p (accessor_plain a))))
    (λ a h q r. r a)

gives_inline_items : Gives AreItems inline_items
unfolding inline_items
gives_inline_items = gives_after AreItems (Word word.Interface) interface_items gives_interface_items

gives_after_colon : Gives MakesOfOne after_colon
unfolding after_colon
gives_after_colon =
    let a : List InterfaceItem → Name → ExternKind = λ xs n. inline_interface n xs in
    let b : Function → Name → ExternKind = λ f n. by_func n f in
    let paths = either get_or_set extern_path in
    let rest = either (act b worded_function) paths in
    gives_either MakesOfOne (act a inline_items) rest
    (gives_act MakesOfOne a inline_items (λ xs s e h n p. (p, gives_inline_items xs s e h)))
    (gives_either MakesOfOne (act b worded_function) paths (gives_act MakesOfOne b worded_function (λ f s e h n p. p))
    (gives_either MakesOfOne get_or_set extern_path gives_get_or_set gives_extern_path))

gives_extern_kind : Gives IsPlainKind extern_kind
unfolding extern_kind
gives_extern_kind =
    let f : Unit {0} → Name → ExternKind = λ _ n. by_path (by_name n) in
    let colon = Colon ▸ after_colon in
    gives_both IsPlainKind IsPlainWord MakesOfOne applied name (either colon (act f (mark Semicolon))) gives_name
    (gives_either MakesOfOne colon (act f (mark Semicolon)) (gives_after MakesOfOne Colon after_colon gives_after_colon) (gives_act MakesOfOne f (mark Semicolon) (λ x s e h n p. tt)))
    (λ n g q r. r n q)

abbrev IsPlainExternPart : WorldSide × ExternKind → Type 0
IsPlainExternPart x = IsPlainKind x.1

gives_extern : Gives IsPlainExternPart extern
unfolding extern
gives_extern = gives_both IsPlainExternPart (λ (s : WorldSide). ⊤) IsPlainKind (λ (x : WorldSide) (y : ExternKind). (x, y)) side extern_kind (gives_any side) gives_extern_kind (λ a b q r. r)

abbrev IsPlainIncluding : Path × List RenamedName → Type 0
IsPlainIncluding x = IsPlainPath x.0

gives_include : Gives IsPlainIncluding include
unfolding include
gives_include =
    gives_after IsPlainIncluding (Word word.Include) (seq path renames) (gives_both IsPlainIncluding IsPlainPath (λ (xs : List RenamedName). ⊤) (λ (x : Path) (y : List RenamedName). (x, y)) path renames gives_path (gives_any renames) (λ a b q r. q))

abbrev MakesWorldItem : (Prefix → WorldItem) → Type 0
MakesWorldItem f = (d : Prefix) → IsPlainPrefix d → IsPlainWorldItem (f d)

gives_world_item : Gives IsPlainWorldItem world_item
unfolding world_item
gives_world_item =
    let a : Path × List UsedName → Prefix → WorldItem = λ x f. world_uses (use_of f.attributes x) in
    let b : Path × List RenamedName → Prefix → WorldItem = λ x f. includes (include_of f.attributes x) in
    let c : WorldSide × ExternKind → Prefix → WorldItem = λ x f. crosses (extern_of f x) in
    let d : Name × Body → Prefix → WorldItem = λ x f. world_defines (definition_of f x) in
    let last = either (act c extern) (act d definition) in
    let rest = either (act b include) last in
    gives_both IsPlainWorldItem IsPlainPrefix MakesWorldItem applied prefix (either (act a used) rest) gives_prefix
    (gives_either MakesWorldItem (act a used) rest
    (gives_act MakesWorldItem a used (λ x s e h f p. (let u = gives_used x s e h in record { attributes = p; from = u.0; names = u.1 })))
    (gives_either MakesWorldItem (act b include) last
    (gives_act MakesWorldItem b include (λ x s e h f p. record { attributes = p; from = gives_include x s e h }))
    (gives_either MakesWorldItem (act c extern) (act d definition)
    (gives_act MakesWorldItem c extern (λ x s e h f p. record { attributes = p; kind = gives_extern x s e h }))
    (gives_act MakesWorldItem d definition (λ x s e h f p. (let n = gives_definition x s e h in record { attributes = p; name = n.0; body = n.1 }))))))
    (λ f g q r. r f q)

abbrev AreWorldItems : List WorldItem → Type 0
AreWorldItems xs = All IsPlainWorldItem xs

gives_world_items : Gives AreWorldItems world_items
unfolding world_items
gives_world_items =
    let xs = until world_item CloseBrace in
    gives_after AreWorldItems OpenBrace (xs ◂ CloseBrace) (gives_before AreWorldItems xs CloseBrace (gives_until IsPlainWorldItem world_item CloseBrace gives_world_item))

abbrev HasWorldItems : Name × List WorldItem → Type 0
HasWorldItems x = All IsPlainWorldItem x.1

gives_world_rule : Gives HasWorldItems world_rule
unfolding world_rule
gives_world_rule =
    gives_after HasWorldItems (Word word.World) (seq name world_items) (gives_both HasWorldItems IsPlainWord AreWorldItems (λ (x : Name) (y : List WorldItem). (x, y)) name world_items gives_name gives_world_items (λ a b q r. r))

-- ---- files
abbrev MakesDeclaration : (Prefix → Declaration) → Type 0
MakesDeclaration f = (d : Prefix) → IsPlainPrefix d → IsPlainDeclaration (f d)

gives_declaration : Gives IsPlainDeclaration declaration
unfolding declaration
gives_declaration =
    let a : Span × Path × Option Name → Prefix → Declaration = λ x f. of_use (top_use_of f.attributes x) in
    let b : Name × List WorldItem → Prefix → Declaration = λ x f. of_world (world_of f x) in
    let c : Name × List InterfaceItem → Prefix → Declaration = λ x f. of_interface (interface_of f x) in
    let rest = either (act b world_rule) (act c interface_rule) in
    gives_both IsPlainDeclaration IsPlainPrefix MakesDeclaration applied prefix (either (act a top_used) rest) gives_prefix
    (gives_either MakesDeclaration (act a top_used) rest
    (gives_act MakesDeclaration a top_used (λ x s e h f p. record { attributes = p; item = gives_top_used x s e h }))
    (gives_either MakesDeclaration (act b world_rule) (act c interface_rule)
    (gives_act MakesDeclaration b world_rule (λ x s e h f p. record { attributes = p; items = gives_world_rule x s e h }))
    (gives_act MakesDeclaration c interface_rule (λ x s e h f p. record { attributes = p; items = gives_interface_rule x s e h }))))
    (λ f g q r. r f q)

abbrev ArePlainNames : Name × Name → Type 0
ArePlainNames x = IsPlainWord x.0 × IsPlainWord x.1

gives_two_names : Gives ArePlainNames two_names
unfolding two_names
gives_two_names = gives_after ArePlainNames (Word word.Package) (seq label name) (gives_seq IsPlainWord IsPlainWord label name gives_label gives_name)

abbrev Names : Type 0
Names = Name × Name × Option (Span × Release)

abbrev IsPlainNames : Names → Type 0
IsPlainNames x = IsPlainWord x.0 × IsPlainWord x.1 × IsPlainReleaseIf x.2

gives_package_names : Gives IsPlainNames package_names
unfolding package_names
gives_package_names =
    let f : Name × Name → Option (Span × Release) → Names = λ x v. (x.0, x.1, v) in
    gives_both IsPlainNames ArePlainNames IsPlainReleaseIf f two_names at_version gives_two_names gives_at_version (λ a b q r. (q.0, q.1, r))

package_of_plain : (d : Documents) (x : Names) → IsPlainNames x → IsPlainPackageId (package_of d x)
package_of_plain d x h = record { namespace = h.0; name = h.1; version = release_plain x.2 h.2 }

-- what a package holds, to any depth
abbrev mutual
  IsPlainTree : Item → Type 0
  IsPlainTree (declares d) = IsPlainDeclaration d
  IsPlainTree (nests p items) = IsPlainPackageId p × ArePlainTrees items

  ArePlainTrees : Items → Type 0
  ArePlainTrees no_more = ⊤
  ArePlainTrees (then_item x rest) = IsPlainTree x × ArePlainTrees rest

trees_plain : (xs : List Item) → All IsPlainTree xs → ArePlainTrees (items_of xs)
trees_plain [] h = tt
trees_plain (x ∷ xs) h = (at_all IsPlainTree (x ∷ xs) h 0 x refl, trees_plain xs (all_tail IsPlainTree x xs h))

abbrev AreTrees : List Item → Type 0
AreTrees xs = All IsPlainTree xs

abbrev Inner : Type 0
Inner = Names × List Item

abbrev IsPlainInner : Inner → Type 0
IsPlainInner x = IsPlainNames x.0 × All IsPlainTree x.1

nest_plain : (d : Documents) (x : Inner) → IsPlainInner x → IsPlainTree (nest d x)
nest_plain d x h = (package_of_plain d x.0 h.0, trees_plain x.1 h.1)

gives_item_of : (inner : Gram Inner) → Gives IsPlainInner inner → Gives IsPlainTree (item_of inner)
gives_item_of inner one =
    gives_either IsPlainTree (both nest docs inner) (act declares declaration)
    (gives_both IsPlainTree (λ (d : Documents). ⊤) IsPlainInner nest docs inner (gives_any docs) one (λ d x q r. nest_plain d x r))
    (gives_act IsPlainTree declares declaration gives_declaration)

gives_braced_items : (item : Gram Item) → Gives IsPlainTree item → Gives AreTrees (braced item)
unfolding braced
gives_braced_items item one =
    let xs = until item CloseBrace in
    gives_after AreTrees OpenBrace (xs ◂ CloseBrace) (gives_before AreTrees xs CloseBrace (gives_until IsPlainTree item CloseBrace one))

gives_package_to : (n : ℕ) → Gives IsPlainInner (package_to n)
unfolding package_to
gives_package_to zero = gives_none IsPlainInner (Word word.Package ∷ [])
gives_package_to (suc n) =
    let items = item_of (package_to n) in
    gives_seq IsPlainNames AreTrees package_names (braced items) gives_package_names (gives_braced_items items (gives_item_of (package_to n) (gives_package_to n)))

gives_item_to : (n : ℕ) → Gives IsPlainTree (item_to n)
unfolding item_to
gives_item_to n = gives_item_of (package_to n) (gives_package_to n)

abbrev IsPlainBeginning : Beginning → Type 0
IsPlainBeginning (header p) = IsPlainPackageId p
IsPlainBeginning (first_item x) = IsPlainTree x

abbrev AreTreesIf : Option (List Item) → Type 0
AreTreesIf o = IfSome o AreTrees

header_plain : (p : PackageId) (o : Option (List Item)) → IsPlainPackageId p → AreTreesIf o → IsPlainBeginning (header_or_nested p o)
header_plain p None h q = h
header_plain p (Some xs) h q = (h, trees_plain xs q)

abbrev IsPlainFirst : Names × Option (List Item) → Type 0
IsPlainFirst x = IsPlainNames x.0 × AreTreesIf x.1

gives_package_first : Gives IsPlainBeginning package_first
unfolding package_first
gives_package_first =
    let f : Documents → Names × Option (List Item) → Beginning = λ d x. header_or_nested (package_of d x.0) x.1 in
    let some : List Item → Option (List Item) = λ xs. Some xs in
    let none : Unit {0} → Option (List Item) = λ _. None in
    let items = braced (item_to 99) in
    let rest = either (act some items) (act none (mark Semicolon)) in
    gives_both IsPlainBeginning (λ (d : Documents). ⊤) IsPlainFirst f docs (seq package_names rest) (gives_any docs)
    (gives_seq IsPlainNames AreTreesIf package_names rest gives_package_names
    (gives_either AreTreesIf (act some items) (act none (mark Semicolon))
    (gives_act AreTreesIf some items (gives_braced_items (item_to 99) (gives_item_to 99)))
    (gives_act AreTreesIf none (mark Semicolon) (λ x s e h. tt))))
    (λ d x q r. header_plain (package_of d x.0) x.1 (package_of_plain d x.0 r.0) r.1)

gives_beginning : Gives IsPlainBeginning beginning
unfolding beginning
gives_beginning =
    let f : Declaration → Beginning = λ d. first_item (declares d) in
    gives_either IsPlainBeginning package_first (act f declaration) gives_package_first (gives_act IsPlainBeginning f declaration gives_declaration)

gives_items_to_end : Gives AreTrees items_to_end
unfolding items_to_end
gives_items_to_end = gives_until IsPlainTree (item_to 100) End (gives_item_to 100)

-- ---- what is kept of it
declaration_kept : (x : Item) → IsPlainTree x → All IsPlainDeclaration (declaration_in x)
declaration_kept (declares d) h = all_more IsPlainDeclaration d [] h (all_none IsPlainDeclaration)
declaration_kept (nests p items) h = all_none IsPlainDeclaration

declarations_kept : (items : Items) → ArePlainTrees items → All IsPlainDeclaration (declarations_in items)
declarations_kept no_more h = all_none IsPlainDeclaration
declarations_kept (then_item x rest) h = all_both IsPlainDeclaration (declaration_in x) (declarations_in rest) (declaration_kept x h.0) (declarations_kept rest h.1)

nested_kept : (x : Item) → IsPlainTree x → All IsPlainNested (nested_in x)
nested_kept (declares d) h = all_none IsPlainNested
nested_kept (nests p items) h =
    let one : Nested = record { name = p; declarations = declarations_in items; nested = names_in items } in
    all_more IsPlainNested one [] (record { name = h.0; declarations = declarations_kept items h.1 }) (all_none IsPlainNested)

all_declarations : (xs : List Item) → All IsPlainTree xs → All IsPlainDeclaration (flat_map declaration_in xs)
all_declarations [] h = all_none IsPlainDeclaration
all_declarations (x ∷ xs) h = all_both IsPlainDeclaration (declaration_in x) (flat_map declaration_in xs) (declaration_kept x (at_all IsPlainTree (x ∷ xs) h 0 x refl)) (all_declarations xs (all_tail IsPlainTree x xs h))

all_nested : (xs : List Item) → All IsPlainTree xs → All IsPlainNested (flat_map nested_in xs)
all_nested [] h = all_none IsPlainNested
all_nested (x ∷ xs) h = all_both IsPlainNested (nested_in x) (flat_map nested_in xs) (nested_kept x (at_all IsPlainTree (x ∷ xs) h 0 x refl)) (all_nested xs (all_tail IsPlainTree x xs h))

from_plain : (h : Option PackageId) (xs : List Item) → IfSome h IsPlainPackageId → All IsPlainTree xs → IsPlainFile (file_from h xs)
from_plain h xs p all = record { header = p; declarations = all_declarations xs all; nested = all_nested xs all }

abbrev IsPlainStart : Beginning × List Item → Type 0
IsPlainStart x = IsPlainBeginning x.0 × All IsPlainTree x.1

file_plain : (o : Option (Beginning × List Item)) → IfSome o IsPlainStart → IsPlainFile (file_of o)
file_plain None h = from_plain None [] tt (all_none IsPlainTree)
file_plain (Some (header p, xs)) h = from_plain (Some p) xs h.0 h.1
file_plain (Some (first_item x, xs)) h = from_plain None (x ∷ xs) tt (all_more IsPlainTree x xs h.0 h.1)

gives_file : Gives IsPlainFile file
unfolding file
gives_file =
    let f : Option (Beginning × List Item) → List Item → File = λ x _. file_of x in
    let whole = seq beginning items_to_end in
    let last = until (never {A = Item}) End in
    gives_both IsPlainFile (λ (o : Option (Beginning × List Item)). IfSome o IsPlainStart) (λ (xs : List Item). ⊤) f (opt whole) last
    (gives_opt IsPlainStart whole (gives_seq IsPlainBeginning AreTrees beginning items_to_end gives_beginning gives_items_to_end)) (gives_any last) (λ o xs q r. file_plain o q)

-- each tree that a source spells is plain
pub spelled_plain : (source : List ℕ) (offset : ℕ) (tree : File) → IsSpelled source offset tree → IsPlainFile tree
spelled_plain source offset tree h = gives_file tree (start source offset) h.0 h.1
