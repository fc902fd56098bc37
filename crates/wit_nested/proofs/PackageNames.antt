-- Nested packages and their names.
use Rattle.std.proofs.Common.{◌≡◌, List, [], ◌∷◌, Some, None, refl, ap, sym, ◌∙◌, map}
use Rattle.wit_items.proofs.Common.{Contains, Fault, NestedPackage, at_contains, contains_at, fault, option_map, slice_get, slice_get-map}
use Rattle.wit_tree.specs.declared.tree.PackageName.{PackageName as Header}
use Rattle.wit_parser.specs.Stray.{IsNesting}
use Rattle.wit_nested.specs.Nested.{IsInner}

-- nothing is in an empty list
pub none_among : {A : Type 0} (x : A) → Contains [] x → ⊥
none_among x h = let at : None ≡ Some x = (at_contains [] x h).1 in let f : ⊥ = cc in f

-- where nothing is nested, that is the empty list
pub none_nested : (ns : List NestedPackage) → ((f : Fault) → IsNesting ns f → ⊥) → ns ≡ []
none_nested [] none = refl
none_nested (n ∷ ns) none = absurd (none (fault 3 n.name.span) (record { inner = n; among = contains_at (n ∷ ns) 0 n refl; is = refl }))

-- the name of a package that is nested is among the names
pub named_among : (n : NestedPackage) (ns : List NestedPackage) (f : Fault) → map (λ (i : NestedPackage). i.name) ns ≡ n.nested.items → IsNesting ns f → IsInner n f
named_among n ns f same nesting =
    let at = at_contains ns nesting.inner nesting.among in
    let named : slice_get n.nested.items at.0 ≡ Some nesting.inner.name = ap (λ (hs : List Header). slice_get hs at.0) (sym same) ∙ (slice_get-map (λ (i : NestedPackage). i.name) ns at.0 ∙ ap (option_map (λ (i : NestedPackage). i.name)) at.1) in
    record { inner = nesting.inner.name; among = contains_at n.nested.items at.0 nesting.inner.name named; is = nesting.is }
