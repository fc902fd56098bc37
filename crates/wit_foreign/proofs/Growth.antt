-- The items of the visits so far, with a visit more.
use Rattle.std.proofs.Common.{◌≡◌, ℕ, ◌+◌, Bool, true, false, cond, not, nat_lt, nat_eq, List, [], ◌∷◌, ◌++◌, length, map, if◌then◌else◌, refl, sym, ap, ◌∙◌, arith, lt-ltb, le-ltb, length-append}
use Rattle.wit_syntax.proofs.Common.{ForeignVisit, Span, filter, is_some, length-map, lookup, map-append, package_of, pointwise, same_package, unwrap_or}
use Rattle.wit_model.specs.declared.ast_item.AstItem.{AstItem}
use Rattle.wit_model.specs.declared.ast_item.AstItem.TheVariants as entry
use Rattle.wit_foreign.specs.declared.package_table.Deps.{Deps}
use Rattle.wit_foreign.specs.Kept.{table_more, interfaces_in, worlds_in, packages_of, table_in, visit_stability, row_in}
use Rattle.wit_foreign.specs.Growing.{AreDeps}
use Rattle.wit_foreign.proofs.Extended.{entry_next, is_known, is_named, table_in-more, is_known-lookup, packages_of-more, worlds_in-more, interfaces_in-more}

abbrev one : List (Unit {0})
one = tt ∷ []

abbrev nothing : List (Unit {0})
nothing = []

-- a visit is counted with its kind if its item is new
worlds_counted : (known : Bool) (x : ForeignVisit) → length (cond (not known) (cond x.wants_world one nothing) nothing) ≡ length (filter (λ (v : ForeignVisit). v.wants_world) (cond known [] (x ∷ [])))
worlds_counted true x = refl
worlds_counted false x = go x.wants_world
  where
    go : (b : Bool) → length (cond b one nothing) ≡ length (cond b (x ∷ []) [])
    go true = refl
    go false = refl

interfaces_counted : (known : Bool) (x : ForeignVisit) → length (cond (not known) (cond x.wants_world nothing one) nothing) ≡ length (filter (λ v. not v.wants_world) (cond known [] (x ∷ [])))
interfaces_counted true x = refl
interfaces_counted false x = go x.wants_world
  where
    go : (b : Bool) → length (cond b nothing one) ≡ length (cond (not b) (x ∷ []) [])
    go true = refl
    go false = refl

-- there is one package more than spans exactly where the package is new
longer : (named : Bool) (n : ℕ) (x : ForeignVisit) → nat_lt n (n + length (cond named [] (x ∷ []))) ≡ not named
longer true n x = le-ltb n (n + 0) (omega arith)
longer false n x = lt-ltb n (n + 1) (omega arith)

noted : (named : Bool) (x : ForeignVisit) → cond (not named) (x.of.span ∷ []) [] ≡ map (λ v. v.of.span) (cond named [] (x ∷ []))
noted true x = refl
noted false x = refl

-- how a visit changes what there is
pub record Adds (x : ForeignVisit) (fresh : Bool) (e : AstItem) (d d' : Deps) : Type 0 where
  pub entry_is : e ≡ if x.wants_world then entry.World (length d.worlds) else entry.Interface (length d.interfaces)
  pub fresh_is : fresh ≡ not (is_some (lookup (pointwise nat_eq x.id.name.now) (unwrap_or (lookup (same_package (package_of x.of)) d.packages) [])))
  pub packages : d'.packages ≡ table_more d.packages (package_of x.of) x.id.name.now e (visit_stability x)
  pub spans : d'.spans ≡ d.spans ++ cond (nat_lt (length d.spans) (length d'.packages)) (x.of.span ∷ []) []
  pub interfaces : d'.interfaces ≡ d.interfaces ++ cond fresh (cond x.wants_world nothing one) nothing
  pub worlds : d'.worlds ≡ d.worlds ++ cond fresh (cond x.wants_world one nothing) nothing

-- what a visit adds makes the items of the visits with it
pub deps_more : (vs : List ForeignVisit) (x : ForeignVisit) (fresh : Bool) (e : AstItem) (d d' : Deps) → Adds x fresh e d d' → AreDeps vs d → AreDeps (vs ++ x ∷ []) d'
deps_more vs x fresh e d d' adds are =
    let entry_same : e ≡ entry_next vs x = adds.entry_is ∙ (λ i. if x.wants_world then entry.World (are.worlds i) else entry.Interface (are.interfaces i)) in
    let table : d'.packages ≡ table_in (vs ++ x ∷ []) = adds.packages ∙ ((λ i. table_more (are.packages i) (package_of x.of) x.id.name.now (entry_same i) (visit_stability x)) ∙ sym (table_in-more vs x)) in
    let new : fresh ≡ not (is_known vs x) = adds.fresh_is ∙ (ap (λ t. not (is_some (lookup (pointwise nat_eq x.id.name.now) (unwrap_or (lookup (same_package (package_of x.of)) t) [])))) are.packages ∙ ap not (is_known-lookup vs x)) in
    let span : ForeignVisit → Span = λ v. v.of.span in
    let spans_len : length d.spans ≡ length (packages_of vs) = ap (λ (l : List Span). length l) are.spans ∙ length-map (packages_of vs) span in
    let packages_len : length d'.packages ≡ length (packages_of vs) + length (cond (is_named vs x) [] (x ∷ [])) = ap length table ∙ (length-map (packages_of (vs ++ x ∷ [])) (λ v. (package_of v.of, row_in (vs ++ x ∷ []) (package_of v.of))) ∙ (ap length (packages_of-more vs x) ∙ length-append (packages_of vs) (cond (is_named vs x) [] (x ∷ [])))) in
    let is_longer : nat_lt (length d.spans) (length d'.packages) ≡ not (is_named vs x) = (λ i. nat_lt (spans_len i) (packages_len i)) ∙ longer (is_named vs x) (length (packages_of vs)) x in
    let back : cond (nat_lt (length d.spans) (length d'.packages)) (x.of.span ∷ []) [] ≡ map span (cond (is_named vs x) [] (x ∷ [])) = ap (λ b. cond b (x.of.span ∷ []) []) is_longer ∙ noted (is_named vs x) x in
    let spans_are : d'.spans ≡ map span (packages_of (vs ++ x ∷ [])) = adds.spans ∙ ((λ i. are.spans i ++ back i) ∙ (sym (map-append span (packages_of vs) (cond (is_named vs x) [] (x ∷ []))) ∙ sym (ap (map span) (packages_of-more vs x)))) in
    let is_more : List (Unit {0}) = cond fresh (cond x.wants_world nothing one) nothing in
    let ws_more : List (Unit {0}) = cond fresh (cond x.wants_world one nothing) nothing in
    let interfaces_are : length d'.interfaces ≡ length (interfaces_in (vs ++ x ∷ [])) =
    ap (λ (l : List (Unit {0})). length l) adds.interfaces ∙ (length-append d.interfaces is_more
    ∙ ((λ i. are.interfaces i + (ap (λ b. length (cond b (cond x.wants_world nothing one) nothing)) new ∙ interfaces_counted (is_known vs x) x) i)
    ∙ (sym (length-append (interfaces_in vs) (filter (λ v. not v.wants_world) (cond (is_known vs x) [] (x ∷ [])))) ∙ sym (ap length (interfaces_in-more vs x))))) in
    let worlds_are : length d'.worlds ≡ length (worlds_in (vs ++ x ∷ [])) =
    ap (λ (l : List (Unit {0})). length l) adds.worlds ∙ (length-append d.worlds ws_more
    ∙ ((λ i. are.worlds i + (ap (λ b. length (cond b (cond x.wants_world one nothing) nothing)) new ∙ worlds_counted (is_known vs x) x) i)
    ∙ (sym (length-append (worlds_in vs) (filter (λ (v : ForeignVisit). v.wants_world) (cond (is_known vs x) [] (x ∷ [])))) ∙ sym (ap length (worlds_in-more vs x))))) in
    record { packages = table; spans = spans_are; interfaces = interfaces_are; worlds = worlds_are }
