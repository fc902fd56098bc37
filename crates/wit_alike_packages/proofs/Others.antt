-- What alike files name of other packages, and what they require of them.
use Rattle.std.proofs.Common.{◌≡◌, ℕ, ◌+◌, Bool, not, cond, List, [], ◌∷◌, ◌++◌, map, length, Bor, Option, Some, None, refl, ap, ap₂, sym, ◌∙◌, subst}
use Rattle.wit_arena.proofs.Common.{Address, AllZip, AreRequired, AstItem, AtForeign, AtResource, Contains, Docs, EndsAt, ForeignUse, ForeignVisit, HandleRequires, Id, Item, Key, PackageFile, PackageName, Span, Stability, Word, address, at_contains, contains_at, dep, docs_of, filter, first_docs, first_foreign_uses, foreign_entry, foreign_interface, foreign_interfaces, foreign_items, foreign_packages, foreign_visits, foreign_world, foreign_worlds, headers, if◌then◌else◌, interface, interface_scopes, length-map, name_places, own_interfaces, package_of, prefix_len, same_address, same_item, same_package, scope, shape_end, slice_get, stability_of, visited, world, world_scopes, worlds_of, ◌==◌, metadata, no_docs, position_or_len}
use Rattle.wit_walk.proofs.Common.{End}
use Rattle.wit_tree.specs.declared.tree.PackageName.{PackageName as Header}
use Rattle.wit_model.specs.declared.ast_item.AstItem.TheVariants as entry
use Rattle.wit_grammar.specs.Trees.{PackageId}
use Rattle.wit_grammar.specs.Seen.{see_package_id}
use Rattle.wit_alike.proofs.Lists.{Both, both_of, consed, zip_at, zip_filter, zip_same}
use Rattle.wit_alike.proofs.Leaves.{SameId, same_span, same_text}
use Rattle.wit_alike.proofs.Paths.{SameHeader, same_package_of}
use Rattle.wit_alike.proofs.Items.{SameFile, SameItem, same_item_address}
use Rattle.wit_alike.proofs.Foreign.{SameForeignUse, SameVisit, same_first_uses, same_foreign_items, same_scope, same_visited, same_visits, zip_firsts}
use Rattle.wit_alike.proofs.Scopes.{same_end, same_worlds}
use Rattle.wit_alike_packages.proofs.Entries.{same_name_places}
use Rattle.wit_alike_packages.proofs.Stated.{same_docs_of, same_stability_of}
use Rattle.wit_alike_packages.proofs.Turns.{SameHandle, same_own_interfaces}

-- ---- lists
module _ {A B : Type 0} (R : A → B → Type 0) where
  pub zip_back : (xs : List A) (ys : List B) → AllZip R xs ys → AllZip (λ (y : B) (x : A). R x y) ys xs
  zip_back [] [] h = tt
  zip_back [] (y ∷ ys) h = absurd h
  zip_back (x ∷ xs) [] h = absurd h
  zip_back (x ∷ xs) (y ∷ ys) h = (h.0, zip_back xs ys h.1)

  there : (o : Option A) (p : Option B) (x : A) → Both R o p → o ≡ Some x → (y : B) × (p ≡ Some y) × R x y
  there None p x h e = absurd (let wrong : ⊥ = cc in wrong)
  there (Some z) None x h e = absurd h
  there (Some z) (Some y) x h e = (let same : z ≡ x = cc in (y, refl, subst (λ (w : A). R w y) same h))

  -- what is at a place of the one, or among its elements, has its like in the other
  pub like_at : (xs : List A) (ys : List B) → AllZip R xs ys → (k : ℕ) (x : A) → slice_get xs k ≡ Some x → (y : B) × (slice_get ys k ≡ Some y) × R x y
  like_at xs ys h k x at = there (slice_get xs k) (slice_get ys k) x (zip_at R xs ys k h) at

  pub like_among : (xs : List A) (ys : List B) → AllZip R xs ys → (x : A) → Contains xs x → (y : B) × Contains ys y × R x y
  like_among xs ys h x among =
      let at = at_contains xs x among in
      let it = like_at xs ys h at.0 x at.1 in
      (it.0, contains_at ys at.0 it.0 it.1, it.2)

  counted : (p q : Bool) (n m : ℕ) → p ≡ q → n ≡ m → cond p (1 + n) 0 ≡ cond q (1 + m) 0
  counted p q n m h e = ap₂ (λ (b : Bool) (k : ℕ). cond b (1 + k) 0) h e

  pub zip_prefix : (test : A → Bool) (other : B → Bool) → ((x : A) (y : B) → R x y → test x ≡ other y) → (xs : List A) (ys : List B) → AllZip R xs ys → prefix_len test xs ≡ prefix_len other ys
  zip_prefix test other one [] [] h = refl
  zip_prefix test other one [] (y ∷ ys) h = absurd h
  zip_prefix test other one (x ∷ xs) [] h = absurd h
  zip_prefix test other one (x ∷ xs) (y ∷ ys) h = counted (test x) (other y) (prefix_len test xs) (prefix_len other ys) (one x y h.0) (zip_prefix test other one xs ys h.1)

-- ---- headers
pub same_headers : (files others : List PackageFile) → AllZip SameFile files others → AllZip SameHeader (headers files) (headers others)
same_headers [] [] h = tt
same_headers [] (g ∷ others) h = absurd h
same_headers (f ∷ files) [] h = absurd h
same_headers (f ∷ files) (g ∷ others) h = consed SameHeader f.package_id g.package_id (headers files) (headers others) (both_of see_package_id f.package_id g.package_id h.0.0) (same_headers files others h.1)

-- how many comments there are
by_texts : (p : Header) → length p.docs.docs.items ≡ length (see_package_id p).docs.texts
by_texts p = sym (length-map p.docs.docs.items (λ (t : Bor (List ℕ)). t.now))

same_comments : (p q : Header) → SameHeader p q → length p.docs.docs.items ≡ length q.docs.docs.items
same_comments p q h = by_texts p ∙ ap (λ (x : PackageId). length x.docs.texts) h ∙ sym (by_texts q)

abbrev docs_or : ℕ → Docs → Docs → Docs
docs_or n rest own = if n == 0 then rest else own

first_documented : (ps qs : List Header) → AllZip SameHeader ps qs → first_docs ps ≡ first_docs qs
first_documented [] [] h = refl
first_documented [] (q ∷ qs) h = absurd h
first_documented (p ∷ ps) [] h = absurd h
first_documented (p ∷ ps) (q ∷ qs) h =
    ap₂ (λ (n : ℕ) (rest : Docs). docs_or n rest (docs_of p.docs)) (same_comments p q h.0) (first_documented ps qs h.1)
    ∙ ap (docs_or (length q.docs.docs.items) (first_docs qs)) (same_docs_of p.docs q.docs (ap (λ (x : PackageId). x.docs) h.0))

pub same_first_docs : (files others : List PackageFile) → AllZip SameFile files others → first_docs (headers files) ≡ first_docs (headers others)
same_first_docs files others h = first_documented (headers files) (headers others) (same_headers files others h)

-- ---- other packages
abbrev Stated : Type 0
Stated = List ℕ × (AstItem × List Stability)

abbrev stated_by : List ℕ → AstItem → List Stability → Stated
stated_by name is known = (name, (is, known))

module _ (files others : List PackageFile) (h : AllZip SameFile files others) where
  pub same_foreign_interfaces : AllZip SameVisit (foreign_interfaces files) (foreign_interfaces others)
  same_foreign_interfaces = zip_filter SameVisit (λ (v : ForeignVisit). not v.wants_world) (λ (v : ForeignVisit). not v.wants_world) (λ v w same. ap not same.wants_world) (foreign_items files) (foreign_items others) (same_foreign_items files others h)

  pub same_foreign_worlds : AllZip SameVisit (foreign_worlds files) (foreign_worlds others)
  same_foreign_worlds = zip_filter SameVisit (λ (v : ForeignVisit). v.wants_world) (λ (v : ForeignVisit). v.wants_world) (λ v w same. same.wants_world) (foreign_items files) (foreign_items others) (same_foreign_items files others h)

  same_packages : AllZip SameVisit (foreign_packages files) (foreign_packages others)
  same_packages =
      zip_firsts SameVisit (λ (a b : ForeignVisit). same_package (package_of a.of) (package_of b.of))
      (λ x y z w one two. ap₂ same_package (same_package_of x.of z.of one.of) (same_package_of y.of w.of two.of)) (foreign_visits files) (foreign_visits others) (same_visits files others h)

  -- which of these an item is
  same_foreign_place : (us vs : List ForeignVisit) → AllZip SameVisit us vs → (v w : ForeignVisit) → SameVisit v w → position_or_len (λ (y : ForeignVisit). same_item y v) us ≡ position_or_len (λ (y : ForeignVisit). same_item y w) vs
  same_foreign_place us vs there v w same =
      zip_prefix SameVisit (λ (u : ForeignVisit). not (same_item u v)) (λ (u : ForeignVisit). not (same_item u w))
      (λ x y one. ap not (ap₂ same_address (same_visited x y one) (same_visited v w same))) us vs there

  abbrev entry_by : Bool → ℕ → ℕ → AstItem
  entry_by world w i = if world then entry.World w else entry.Interface i

  same_foreign_entry : (v w : ForeignVisit) → SameVisit v w → foreign_entry files v ≡ foreign_entry others w
  same_foreign_entry v w same =
      let world_place = same_foreign_place (foreign_worlds files) (foreign_worlds others) same_foreign_worlds v w same in
      let interface_place = same_foreign_place (foreign_interfaces files) (foreign_interfaces others) same_foreign_interfaces v w same in
      ap (λ (world : Bool). entry_by world (position_or_len (λ (y : ForeignVisit). same_item y v) (foreign_worlds files)) (position_or_len (λ (y : ForeignVisit). same_item y v) (foreign_interfaces files))) same.wants_world
      ∙ ap₂ (λ (n m : ℕ). entry_by w.wants_world n m) world_place interface_place

  abbrev stabilities : List PackageFile → ForeignVisit → List Stability
  stabilities fs i = map (λ (u : ForeignVisit). stability_of u.attributes) (filter (λ (u : ForeignVisit). same_address (visited u) (visited i)) (foreign_visits fs))

  same_stabilities : (v w : ForeignVisit) → SameVisit v w → stabilities files v ≡ stabilities others w
  same_stabilities v w same =
      zip_same SameVisit (λ (u : ForeignVisit). stability_of u.attributes) (λ (u : ForeignVisit). stability_of u.attributes) (λ x y one. same_stability_of x.attributes y.attributes one.attributes)
      (filter (λ (u : ForeignVisit). same_address (visited u) (visited v)) (foreign_visits files)) (filter (λ (u : ForeignVisit). same_address (visited u) (visited w)) (foreign_visits others))
      (zip_filter SameVisit (λ (u : ForeignVisit). same_address (visited u) (visited v)) (λ (u : ForeignVisit). same_address (visited u) (visited w))
      (λ x y one. ap₂ same_address (same_visited x y one) (same_visited v w same)) (foreign_visits files) (foreign_visits others) (same_visits files others h))

  abbrev item_of : List PackageFile → ForeignVisit → Stated
  item_of fs i = stated_by i.id.name.now (foreign_entry fs i) (stabilities fs i)

  same_item_of : (v w : ForeignVisit) → SameVisit v w → item_of files v ≡ item_of others w
  same_item_of v w same =
      ap₂ (λ (name : List ℕ) (is : AstItem). stated_by name is (stabilities files v)) (same_text v.id w.id same.id) (same_foreign_entry v w same)
      ∙ ap (stated_by w.id.name.now (foreign_entry others w)) (same_stabilities v w same)

  same_dep : (v w : ForeignVisit) → SameVisit v w → dep files v ≡ dep others w
  same_dep v w same =
      let own : package_of v.of ≡ package_of w.of = same_package_of v.of w.of same.of in
      let among = zip_filter SameVisit (λ (u : ForeignVisit). same_package (package_of u.of) (package_of v.of)) (λ (u : ForeignVisit). same_package (package_of u.of) (package_of w.of))
      (λ x y one. ap₂ same_package (same_package_of x.of y.of one.of) own) (foreign_items files) (foreign_items others) (same_foreign_items files others h) in
      ap₂ (λ (of : PackageName) (items : List Stated). (of, items)) own
      (zip_same SameVisit (item_of files) (item_of others) same_item_of
      (filter (λ (u : ForeignVisit). same_package (package_of u.of) (package_of v.of)) (foreign_items files)) (filter (λ (u : ForeignVisit). same_package (package_of u.of) (package_of w.of)) (foreign_items others)) among)

  pub same_deps : map (dep files) (foreign_packages files) ≡ map (dep others) (foreign_packages others)
  same_deps = zip_same SameVisit (dep files) (dep others) same_dep (foreign_packages files) (foreign_packages others) same_packages

  pub same_dep_spans : map (λ (v : ForeignVisit). v.of.span) (foreign_packages files) ≡ map (λ (v : ForeignVisit). v.of.span) (foreign_packages others)
  same_dep_spans = zip_same SameVisit (λ (v : ForeignVisit). v.of.span) (λ (v : ForeignVisit). v.of.span) (λ v w same. ap (λ (x : PackageId). x.span) same.of) (foreign_packages files) (foreign_packages others) same_packages

  pub same_unknown : map (λ (t : ForeignUse). t.id.span) (first_foreign_uses files) ≡ map (λ (t : ForeignUse). t.id.span) (first_foreign_uses others)
  same_unknown = zip_same SameForeignUse (λ (t : ForeignUse). t.id.span) (λ (t : ForeignUse). t.id.span) (λ t u same. same_span t.id u.id same.id) (first_foreign_uses files) (first_foreign_uses others) (same_first_uses files others h)

  -- ---- their interfaces and worlds, and all scopes
  same_foreign_interface : (id : Key → ℕ) (v w : ForeignVisit) → SameVisit v w → foreign_interface files id v ≡ foreign_interface others id w
  same_foreign_interface id v w same =
      let scopes : scope others (visited v) ≡ scope others (visited w) = ap (scope others) (same_visited v w same) in
      let names : name_places id (visited v) (scope files (visited v)) ≡ name_places id (visited w) (scope others (visited w)) =
      same_name_places id (visited v) (visited w) (same_visited v w same) (scope files (visited v)) (scope others (visited v)) (same_scope files others h (visited v)) ∙ ap (name_places id (visited w)) scopes in
      ap₂ (λ (l : List (List ℕ × ℕ)) (span : Span). interface None l [] (metadata no_docs []) span) names (same_span v.id w.id same.id)

  pub all_foreign_interfaces : (id : Key → ℕ) → map (foreign_interface files id) (foreign_interfaces files) ≡ map (foreign_interface others id) (foreign_interfaces others)
  all_foreign_interfaces id = zip_same SameVisit (foreign_interface files id) (foreign_interface others id) (same_foreign_interface id) (foreign_interfaces files) (foreign_interfaces others) same_foreign_interfaces

  pub all_foreign_worlds : map foreign_world (foreign_worlds files) ≡ map foreign_world (foreign_worlds others)
  all_foreign_worlds = zip_same SameVisit foreign_world foreign_world (λ v w same. ap (λ (span : Span). world [] [] [] [] (metadata no_docs []) span) (same_span v.id w.id same.id)) (foreign_worlds files) (foreign_worlds others) same_foreign_worlds

  pub same_interface_scopes : (is js : List Item) → AllZip SameItem is js → interface_scopes files is ≡ interface_scopes others js
  same_interface_scopes is js items =
      ap₂ (λ (l m : List Address). l ++ m) (zip_same SameVisit visited visited same_visited (foreign_interfaces files) (foreign_interfaces others) same_foreign_interfaces)
      (zip_same SameItem address address same_item_address (own_interfaces is) (own_interfaces js) (same_own_interfaces is js items))

  pub same_world_scopes : (is js : List Item) → AllZip SameItem is js → world_scopes files is ≡ world_scopes others js
  same_world_scopes is js items =
      ap₂ (λ (l m : List Address). l ++ m) (zip_same SameVisit visited visited same_visited (foreign_worlds files) (foreign_worlds others) same_foreign_worlds)
      (zip_same SameItem address address same_item_address (worlds_of is) (worlds_of js) (same_worlds is js items))

  -- ---- what names in handles require
  ends_alike : (s t : Address) (a b : Id) (end : End) → s ≡ t → SameId a b → EndsAt files s a end → EndsAt others t b end
  ends_alike s t a b end e same at =
      (at.0, ap (λ (x : Address). shape_end others at.0 x (Word b)) (sym e) ∙ sym (same_end files others h at.0 s (Word a) (Word b) same) ∙ at.1)

  requires_alike : (ks : List Key) (x y : Address × Id) (r : Option (ℕ × Span)) → SameHandle x y → HandleRequires files ks x r → HandleRequires others ks y r
  requires_alike ks x y None same own = ends_alike x.0 y.0 x.1 y.1 AtResource same.0 same.1 own
  requires_alike ks x y (Some r) same far = (far.0, far.1, ends_alike x.0 y.0 x.1 y.1 (AtForeign far.0 far.1) same.0 same.1 far.2, far.3, far.4 ∙ same_span x.1 y.1 same.1)

  pub required_alike : (ks : List Key) (hs gs : List (Address × Id)) (rs : List (ℕ × Span)) → AllZip SameHandle hs gs → AreRequired files ks hs rs → AreRequired others ks gs rs
  required_alike ks hs gs rs handles required = (
    required.0,
    each hs gs required.0 handles required.1,
    required.2,
  )
    where
      each : (hs gs : List (Address × Id)) (rs : List (Option (ℕ × Span))) → AllZip SameHandle hs gs → AllZip (HandleRequires files ks) hs rs → AllZip (HandleRequires others ks) gs rs
      each [] [] [] same h = tt
      each [] [] (r ∷ rs) same h = absurd h
      each [] (g ∷ gs) rs same h = absurd same
      each (x ∷ hs) [] rs same h = absurd same
      each (x ∷ hs) (g ∷ gs) [] same h = absurd h
      each (x ∷ hs) (g ∷ gs) (r ∷ rs) same h = (requires_alike ks x g r same.0 h.0, each hs gs rs same.1 h.1)
