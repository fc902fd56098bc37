-- Sources that are stated alike come to one first fault, whatever is read of them: what is read is one but for addresses, and alike trees come to one fault.
use Rattle.std.proofs.Common.{◌≡◌, ℕ, suc, Bool, not, cond, ◌&&◌, ◌||◌, ◌==◌, List, [], ◌∷◌, ◌++◌, map, length, Bor, Option, Some, None, refl, sym, ap, ap₂, ◌∙◌, subst}
use Rattle.wit_items.proofs.Common.{AllZip, Fault, IsOr, NestedPackage, PackageFile, PackageName, SourceFile, Span, earliest, fault, fault_in, have_docs, headers, is_documented, last_header, list_any, mismatch, option_map, option_or, other_fault, package_of, package_words, same_package, second_docs_fault}
use Rattle.wit_walk.proofs.Common.{AstItem}
use Rattle.wit_tree.specs.declared.tree.PackageName.{PackageName as Header}
use Rattle.wit_lex.specs.declared.fault.ReadFault.{ReadFault}
use Rattle.wit_lex.specs.declared.source.Source.{Source}
use Rattle.wit_lex.specs.Sources.{stated_of}
use Rattle.wit_grammar.specs.Laws.{IsSpelled, StopsAt}
use Rattle.wit_grammar.specs.Trees.{File, Nested, PackageId}
use Rattle.wit_grammar.specs.Seen.{see_declaration, see_file, see_nested, see_package_id}
use Rattle.wit_alike.proofs.Lists.{zip_after, zip_any, zip_append, zip_first, zip_flat, zip_map, zip_of}
use Rattle.wit_alike.proofs.Paths.{SameAst, SameHeader, ast_of, same_package_of}
use Rattle.wit_alike.proofs.Items.{SameFile}
use Rattle.wit_alike.proofs.Walk.{one_of_alike, same_last}
use Rattle.wit_alike_packages.proofs.Others.{same_headers}
use Rattle.wit_groups.specs.GroupFaults.{joined_faults, names_fault, nested_names, repeat_fault}
use Rattle.wit_groups.specs.Nested.{file_of}
use Rattle.wit_groups.specs.PushFaults.{IsWalk, file_fault, files_of, inner_fault, nested_fault, nested_of, source_fault}
use Rattle.wit_groups.specs.SourceFaults.{Read, Tree, Stop, IsRead, AreAlike, SequenceComesTo, stop_fault}
use Rattle.wit_groups.proofs.Sequences.{or_two}
use Rattle.wit_group_walk.proofs.ByPath.{Stated}
use Rattle.wit_group_walk.proofs.Texts.{one_reading}

abbrev pub SameSource : SourceFile → SourceFile → Type 0
SameSource s t = see_file s ≡ see_file t

abbrev pub SameNested : NestedPackage → NestedPackage → Type 0
SameNested n m = see_nested n ≡ see_nested m

-- ---- the parts of sources
asts : (xs ys : List AstItem) → AllZip (λ (a b : AstItem). see_declaration a ≡ see_declaration b) xs ys → AllZip SameAst xs ys
asts [] [] h = tt
asts [] (y ∷ ys) h = absurd h
asts (x ∷ xs) [] h = absurd h
asts (x ∷ xs) (y ∷ ys) h = (ast_of x y h.0, asts xs ys h.1)

same_file : (s t : SourceFile) → SameSource s t → SameFile s.file t.file
same_file s t h = (
  ap (λ (f : File). f.header) h,
  asts s.file.decl_list.items.items t.file.decl_list.items.items (zip_of see_declaration s.file.decl_list.items.items t.file.decl_list.items.items (ap (λ (f : File). f.declarations) h)),
)

pub same_nested : (s t : SourceFile) → SameSource s t → AllZip SameNested s.nested.items t.nested.items
same_nested s t h = zip_of see_nested s.nested.items t.nested.items (ap (λ (f : File). f.nested) h)

same_name : (n m : NestedPackage) → SameNested n m → SameHeader n.name m.name
same_name n m h = ap (λ (x : Nested). x.name) h

pub same_file_of : (n m : NestedPackage) → SameNested n m → SameFile (file_of n) (file_of m)
same_file_of n m h = (
  ap (λ (x : Nested). Some x.name) h,
  asts n.decl_list.items.items m.decl_list.items.items (zip_of see_declaration n.decl_list.items.items m.decl_list.items.items (ap (λ (x : Nested). x.declarations) h)),
)

pub same_files_of : (ss ts : List SourceFile) → AllZip SameSource ss ts → AllZip SameFile (files_of ss) (files_of ts)
same_files_of ss ts h = zip_map SameSource SameFile (λ (s : SourceFile). s.file) (λ (s : SourceFile). s.file) same_file ss ts h

same_nested_names : (ss ts : List SourceFile) → AllZip SameSource ss ts → AllZip SameHeader (nested_names ss) (nested_names ts)
same_nested_names ss ts h =
    zip_map SameNested SameHeader (λ (n : NestedPackage). n.name) (λ (n : NestedPackage). n.name) same_name (nested_of ss) (nested_of ts)
    (zip_flat SameSource SameNested (λ (s : SourceFile). s.nested.items) (λ (s : SourceFile). s.nested.items) same_nested ss ts h)

-- ---- headers
abbrev about_other : PackageName → PackageName → Span → Option Fault
about_other before own span = cond (same_package before own) None (Some (fault_in 1 span (mismatch own before)))

same_other : (o p q r : Option Header) → option_map see_package_id o ≡ option_map see_package_id q → option_map see_package_id p ≡ option_map see_package_id r → other_fault o p ≡ other_fault q r
same_other None p None r e f = refl
same_other None p (Some q) r e f = absurd (let wrong : ⊥ = cc in wrong)
same_other (Some o) p None r e f = absurd (let wrong : ⊥ = cc in wrong)
same_other (Some o) None (Some q) None e f = refl
same_other (Some o) None (Some q) (Some r) e f = absurd (let wrong : ⊥ = cc in wrong)
same_other (Some o) (Some p) (Some q) None e f = absurd (let wrong : ⊥ = cc in wrong)
same_other (Some o) (Some p) (Some q) (Some r) e f = (
    let before : SameHeader o q = cc in
    let own : SameHeader p r = cc in
    ap₂ (λ (a b : PackageName). about_other a b p.span) (same_package_of o q before) (same_package_of p r own) ∙ ap (λ (x : PackageId). about_other (package_of q) (package_of r) x.span) own)

-- a header has docs by what is seen of it
written_docs : {A B : Type 0} (f : A → B) (xs : List A) → length (map f xs) ≡ length xs
written_docs f [] = refl
written_docs f (x ∷ xs) = ap suc (written_docs f xs)

by_texts : (p : Header) → is_documented p ≡ not (length (see_package_id p).docs.texts == 0)
by_texts p = ap (λ (n : ℕ). not (n == 0)) (sym (written_docs (λ (t : Bor (List ℕ)). t.now) p.docs.docs.items))

same_documented : (p q : Header) → SameHeader p q → is_documented p ≡ is_documented q
same_documented p q h = by_texts p ∙ ap (λ (x : PackageId). not (length x.docs.texts == 0)) h ∙ sym (by_texts q)

same_have_docs : (ps qs : List Header) → AllZip SameHeader ps qs → have_docs ps ≡ have_docs qs
same_have_docs [] [] h = refl
same_have_docs [] (q ∷ qs) h = absurd h
same_have_docs (p ∷ ps) [] h = absurd h
same_have_docs (p ∷ ps) (q ∷ qs) h = ap₂ (λ a b. a || b) (same_documented p q h.0) (same_have_docs ps qs h.1)

same_second : (ps qs : List Header) (o p : Option Header) → AllZip SameHeader ps qs → option_map see_package_id o ≡ option_map see_package_id p → second_docs_fault ps o ≡ second_docs_fault qs p
same_second ps qs None None h e = refl
same_second ps qs None (Some q) h e = absurd (let wrong : ⊥ = cc in wrong)
same_second ps qs (Some p) None h e = absurd (let wrong : ⊥ = cc in wrong)
same_second ps qs (Some p) (Some q) h e = (
    let own : SameHeader p q = cc in
    ap₂ (λ (a b : Bool). cond (a && b) (Some (fault 2 p.docs.span)) None) (same_have_docs ps qs h) (same_documented p q own)
    ∙ ap (λ (x : PackageId). cond (have_docs qs && is_documented q) (Some (fault 2 x.docs.span)) None) own)

same_file_fault : (files others : List PackageFile) (f g : PackageFile) → AllZip SameFile files others → SameFile f g → file_fault files f ≡ file_fault others g
same_file_fault files others f g h same = ap₂ option_or (same_other (last_header files) f.package_id (last_header others) g.package_id (same_last files others h) same.0) (same_second (headers files) (headers others) f.package_id g.package_id (same_headers files others h) same.0)

-- ---- names of packages
same_repeat : (before others : List Header) (p q : Header) → AllZip SameHeader before others → SameHeader p q → repeat_fault before p ≡ repeat_fault others q
same_repeat before others p q h same =
    ap₂ (λ (there : Bool) (own : PackageName). cond there (Some (fault_in 53 p.span (package_words own))) None)
    (zip_any SameHeader (λ (x : Header). same_package (package_of x) (package_of p)) (λ (x : Header). same_package (package_of x) (package_of q)) (λ x y one. ap₂ same_package (same_package_of x y one) (same_package_of p q same)) before others h) (same_package_of p q same)
    ∙ ap (λ (x : PackageId). cond (list_any (λ (y : Header). same_package (package_of y) (package_of q)) others) (Some (fault_in 53 x.span (package_words (package_of q)))) None) same

same_names_fault : (o p : Option Header) (ns ms : List Header) → option_map see_package_id o ≡ option_map see_package_id p → AllZip SameHeader ns ms → names_fault o ns ≡ names_fault p ms
same_names_fault None None ns ms e h = refl
same_names_fault None (Some q) ns ms e h = absurd (let wrong : ⊥ = cc in wrong)
same_names_fault (Some p) None ns ms e h = absurd (let wrong : ⊥ = cc in wrong)
same_names_fault (Some p) (Some q) ns ms e h = (let main : SameHeader p q = cc in zip_after SameHeader repeat_fault repeat_fault same_repeat (p ∷ []) ns (q ∷ []) ms (main, tt) h)

-- ---- sources
abbrev pub AreStatedAlike : Source → Source → Type 0
AreStatedAlike s t = stated_of s ≡ stated_of t

-- what is read of a source is read of each that is stated alike
moved : (s t : Source) (r : Read) → AreStatedAlike s t → IsRead t r → IsRead s r
moved s t (Tree tree) same h = subst (λ (x : Stated). IsSpelled x.1 x.2 (see_file tree)) (sym same) h
moved s t (Stop f) same h = subst (λ (x : Stated). (stop : ReadFault) × (from : ℕ) × (to : ℕ) × StopsAt x.1 x.2 stop from to × (f ≡ stop_fault x.2 stop from to)) (sym same) h

pub one_read : (s t : Source) (one other : Read) → AreStatedAlike s t → IsRead s one → IsRead t other → AreAlike one other
one_read s t one other same a b = one_reading s one other a (moved s t other same b)

module _ (walk : List PackageFile → Option Fault) (walks : IsWalk walk) where
  same_walked : (files others : List PackageFile) → AllZip SameFile files others → walk files ≡ walk others
  same_walked files others h = one_of_alike files others h (walk files) (walk others) (walks.each files) (walks.each others)

  same_inner : (ps qs : List Header) → AllZip SameHeader ps qs → inner_fault ps ≡ inner_fault qs
  same_inner [] [] h = refl
  same_inner [] (q ∷ qs) h = absurd h
  same_inner (p ∷ ps) [] h = absurd h
  same_inner (p ∷ ps) (q ∷ qs) h = ap (λ (x : PackageId). Some (fault 3 x.span)) h.0

  same_nested_fault : (n m : NestedPackage) → SameNested n m → nested_fault walk n ≡ nested_fault walk m
  same_nested_fault n m h =
      ap₂ option_or (same_inner n.nested.items m.nested.items (zip_of see_package_id n.nested.items m.nested.items (ap (λ (x : Nested). x.nested) h)))
      (same_walked (file_of n ∷ []) (file_of m ∷ []) (same_file_of n m h, tt))

  same_source_fault : (files others : List PackageFile) → AllZip SameFile files others → (s t : SourceFile) → SameSource s t → source_fault walk files s ≡ source_fault walk others t
  same_source_fault files others h s t same =
      ap₂ option_or (zip_first SameNested (nested_fault walk) (nested_fault walk) same_nested_fault s.nested.items t.nested.items (same_nested s t same)) (same_file_fault files others s.file t.file h (same_file s t same))

  same_joined : (ss ts : List SourceFile) → AllZip SameSource ss ts → earliest (joined_faults walk ss) ≡ earliest (joined_faults walk ts)
  same_joined ss ts h =
      let files = same_files_of ss ts h in
      ap₂ option_or (same_walked (files_of ss) (files_of ts) files)
      (ap (λ (o : Option Fault). option_or o None) (same_names_fault (last_header (files_of ss)) (last_header (files_of ts)) (nested_names ss) (nested_names ts) (same_last (files_of ss) (files_of ts) files) (same_nested_names ss ts h)))

  -- what sequences come to that are stated alike, whatever is read of them
  pub one_sequence : (before after : List SourceFile) → AllZip SameSource before after → (sources others : List Source) → AllZip AreStatedAlike sources others → (reads known : List Read) (x y : Option Fault) → SequenceComesTo walk before sources reads x → SequenceComesTo walk after others known y → x ≡ y
  one_sequence before after h [] [] e [] [] x y a b = a ∙ same_joined before after h ∙ sym b
  one_sequence before after h [] [] e [] (r ∷ known) x y a b = absurd b
  one_sequence before after h [] [] e (r ∷ reads) known x y a b = absurd a
  one_sequence before after h [] (n ∷ others) e reads known x y a b = absurd e
  one_sequence before after h (s ∷ sources) [] e reads known x y a b = absurd e
  one_sequence before after h (s ∷ sources) (n ∷ others) e [] known x y a b = absurd a
  one_sequence before after h (s ∷ sources) (n ∷ others) e (r ∷ reads) [] x y a b = absurd b
  one_sequence before after h (s ∷ sources) (n ∷ others) e (Stop f ∷ reads) (Stop g ∷ known) x y a b = a.1 ∙ ap Some (one_read s n (Stop f) (Stop g) e.0 a.0 b.0) ∙ sym b.1
  one_sequence before after h (s ∷ sources) (n ∷ others) e (Stop f ∷ reads) (Tree t ∷ known) x y a b = absurd (one_read s n (Stop f) (Tree t) e.0 a.0 b.0)
  one_sequence before after h (s ∷ sources) (n ∷ others) e (Tree t ∷ reads) (Stop g ∷ known) x y a b = absurd (one_read s n (Tree t) (Stop g) e.0 a.0 b.0)
  one_sequence before after h (s ∷ sources) (n ∷ others) e (Tree t ∷ reads) (Tree u ∷ known) x y a b =
      let same : SameSource t u = one_read s n (Tree t) (Tree u) e.0 a.0 b.0 in
      let faults = same_source_fault (files_of before) (files_of after) (same_files_of before after h) t u same in
      let longer = zip_append SameSource before (t ∷ []) after (u ∷ []) h (same, tt) in
      or_two (source_fault walk (files_of before) t) (SequenceComesTo walk (before ++ t ∷ []) sources reads) (SequenceComesTo walk (after ++ u ∷ []) others known)
      (one_sequence (before ++ t ∷ []) (after ++ u ∷ []) longer sources others e.1 reads known) x y a.1 (subst (λ (o : Option Fault). IsOr o (SequenceComesTo walk (after ++ u ∷ []) others known) y) (sym faults) b.1)
