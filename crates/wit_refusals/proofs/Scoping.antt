-- Scopes: what a key finds among their names, and setters with their getters.
use Rattle.std.proofs.Common.{◌≡◌, ℕ, ◌<◌, Bool, true, false, List, [], ◌∷◌, ◌++◌, length, take, drop, Some, None, Option, nat_eq, inl, inr, IfNone, IfSome, refl, subst, sym, ap, ◌∙◌}
use Rattle.wit_syntax.proofs.Common.{ParseError, Refused, at_either, at_within, cases_Bool, codes, differ_at, differ_more, find, find_passes, folded_key, getter_of, is_after, is_dotted, is_label, is_mangled, is_setter, keys_of, lone_setter, lookup, map, map-append, map_at, name_equal, option_map, passes, pointwise, position, rest_after, slice_get, slice_get-map, starts_with, take-append-drop}
use Rattle.wit_names.proofs.MadeNames.{is_mangled-get, is_mangled-method_get, is_mangled-static_get}
use Rattle.indexmap.proofs.MapLemmas.{Found-position}
use Rattle.wit_maps.proofs.Indexed.{lookup_nowhere}
use Rattle.std.proofs.lemmas.List.Folds.{find_at}
use Rattle.wit_refusals.specs.declared.name_scope.DefinedName.{DefinedName}
use Rattle.wit_refusals.specs.NameScopes.{Name, AreUsed, IsLoneSetter, IsFirstLoneSetter}
use Rattle.wit_refusals.specs.KeyedNames.{Entry, spelled, name_of, names_of, IsKeyed, HasName}
use Rattle.wit_refusals.proofs.Tables.{lookup-at, lookup-none}

abbrev key : Entry → List ℕ
key e = e.0

-- the entry after a name
entry_at : (es : List Entry) (i : ℕ) (n : Name) → slice_get (names_of es) i ≡ Some n → (e : Entry) × (slice_get es i ≡ Some e) × (name_of e ≡ n)
entry_at es i n h = map_at name_of es i n h

-- a new key more
pub keyed-more : (es : List Entry) (k : List ℕ) (d : DefinedName) → IsKeyed es → lookup (pointwise nat_eq k) es ≡ None → k ≡ folded_key (spelled k d) → IsKeyed (es ++ (k, d) ∷ [])
keyed-more es k d is none fits = record {
  keyed = λ i e h. elim (at_either es (k, d) i e h) [
    | inl old ↦ is.keyed i e old
    | inr new ↦ (let here = new.1 in ap (λ (x : Entry). x.0) here ∙ fits ∙ ap (λ (x : Entry). folded_key (spelled x.0 x.1)) (sym here))
  ];
  differ = rw (map-append key es ((k, d) ∷ [])) (differ_more (map key es) k is.differ (λ i h. (
      let found = map_at key es i k h in
      lookup-none es k i found.0 none found.1 found.2)));
}

-- a new key more, unless it is somewhere
pub keyed-put : (es new : List Entry) (name k : List ℕ) (d : DefinedName) (place : Option ℕ) → IsKeyed es → k ≡ folded_key name → spelled k d ≡ name → place ≡ position (pointwise nat_eq k) (keys_of es) → IfNone place (new ≡ es ++ (k, d) ∷ []) → IfSome place (λ i. new ≡ es) → IsKeyed new
keyed-put es new name k d (Some i) is fits named at fresh there = subst IsKeyed (sym there) is
keyed-put es new name k d None is fits named at fresh there = subst IsKeyed (sym fresh) (keyed-more es k d is (lookup_nowhere (pointwise nat_eq k) es (sym at)) (fits ∙ ap folded_key (sym named)))

-- what is at the place of a key has it
pub used-at : (es : List Entry) (name k : List ℕ) (place : ℕ) → IsKeyed es → k ≡ folded_key name → position (pointwise nat_eq k) (keys_of es) ≡ Some place → (e : Entry) × (slice_get es place ≡ Some e) × (folded_key (spelled e.0 e.1) ≡ folded_key name)
used-at es name k place is fits h =
    let found = Found-position (pointwise nat_eq k) es place h in
    let there = at_within es place found.within in
    let here : find (pointwise nat_eq k) (keys_of es) ≡ Some there.0.0 = find_at (pointwise nat_eq k) (keys_of es) ∙ ap (slice_get (keys_of es)) found.or_len ∙ slice_get-map key es place ∙ ap (option_map key) there.1 in
    let same : k ≡ there.0.0 = name_equal k there.0.0 (find_passes (pointwise nat_eq k) (keys_of es) there.0.0 here) in
    (there.0, there.1, sym (is.keyed place there.0 there.1) ∙ sym same ∙ fits)

-- and no other place has a name with that key
pub used-only : (es : List Entry) (name : List ℕ) (place : ℕ) (e : Entry) → IsKeyed es → slice_get es place ≡ Some e → folded_key (spelled e.0 e.1) ≡ folded_key name → (i : ℕ) (n : Name) → slice_get (names_of es) i ≡ Some n → folded_key n.0 ≡ folded_key name → i ≡ place
used-only es name place e is at same i n at_i same_i =
    let it = entry_at es i n at_i in
    let named : folded_key (spelled it.0.0 it.0.1) ≡ folded_key name = ap (λ (m : Name). folded_key m.0) it.2 ∙ same_i in
    differ_at key es is.differ i place it.0 e it.1 at (is.keyed i it.0 it.1 ∙ named ∙ sym same ∙ sym (is.keyed place e at))

-- a key that is not found is free
pub free-none : (es : List Entry) (name k : List ℕ) → IsKeyed es → k ≡ folded_key name → lookup (pointwise nat_eq k) es ≡ None → AreUsed (names_of es) name → ⊥
free-none es name k is fits none in_use =
    let found = entry_at es in_use.place in_use.earlier in_use.at in
    let same : folded_key (spelled found.0.0 found.0.1) ≡ folded_key name = ap (λ (n : Name). folded_key n.0) found.2 ∙ in_use.same in
    lookup-none es k in_use.place found.0 none found.1 (is.keyed in_use.place found.0 found.1 ∙ same ∙ sym fits)

-- what a key finds has the name, where a name of the scope is spelled so
pub has-found : (es : List Entry) (name k : List ℕ) (d : DefinedName) → IsKeyed es → k ≡ folded_key name → lookup (pointwise nat_eq k) es ≡ Some d → spelled k d ≡ name → HasName (names_of es) name
has-found es name k d is fits h same =
    let found = lookup-at es k d h in
    record { place = found.0; span = d.span; at = slice_get-map name_of es found.0 ∙ ap (option_map name_of) found.1 ∙ ap (λ (n : List ℕ). Some (n, d.span)) same }

pub found-has : (es : List Entry) (name k : List ℕ) (d : DefinedName) → IsKeyed es → k ≡ folded_key name → lookup (pointwise nat_eq k) es ≡ Some d → HasName (names_of es) name → spelled k d ≡ name
found-has es name k d is fits h has =
    let found = lookup-at es k d h in
    let other = entry_at es has.place (name, has.span) has.at in
    let as_stated : spelled other.0.0 other.0.1 ≡ name = ap (λ (n : Name). n.0) other.2 in
    let keyed : other.0.0 ≡ k = is.keyed has.place other.0 other.1 ∙ ap folded_key as_stated ∙ sym fits in
    let at_found : slice_get (map key es) found.0 ≡ Some k = slice_get-map key es found.0 ∙ ap (option_map key) found.1 in
    let at_other : slice_get (map key es) has.place ≡ Some k = slice_get-map key es has.place ∙ ap (option_map key) other.1 ∙ ap Some keyed in
    let place : found.0 ≡ has.place = is.differ.differ found.0 has.place k at_found at_other in
    let both : Some (k, d) ≡ Some other.0 = sym found.1 ∙ ap (λ i. slice_get es i) place ∙ other.1 in
    let one : (k, d) ≡ other.0 = cc in
    ap (λ (e : Entry). spelled e.0 e.1) one ∙ as_stated

pub none-has : (es : List Entry) (name k : List ℕ) → IsKeyed es → k ≡ folded_key name → lookup (pointwise nat_eq k) es ≡ None → HasName (names_of es) name → ⊥
none-has es name k is fits none has = free-none es name k is fits none (record { place = has.place; earlier = (name, has.span); at = has.at; same = refl })

-- the text after a prefix comes after it
pub rest_after-some : (prefix text rest : List ℕ) → rest_after prefix text ≡ Some rest → text ≡ prefix ++ rest
rest_after-some prefix text rest h = by (starts_with nat_eq text prefix) refl
  where
    by : (b : Bool) → starts_with nat_eq text prefix ≡ b → text ≡ prefix ++ rest
    by true e =
        let some : Some (drop (length prefix) text) ≡ Some rest = rw e at h in
        let is : drop (length prefix) text ≡ rest = cc in
        let starts : prefix ≡ take (length prefix) text = name_equal prefix (take (length prefix) text) e in
        sym (take-append-drop (length prefix) text) ∙ ap (λ t. t ++ drop (length prefix) text) (sym starts) ∙ ap (λ t. prefix ++ t) is
    by false e = absurd (let wrong : None ≡ Some rest = rw e at h in let f : ⊥ = cc in f)

-- a text that has a prefix with what passes after it
prefix-parts : (test : List ℕ → Bool) (prefix text : List ℕ) → is_after test prefix text ≡ true → (rest : List ℕ) × (text ≡ prefix ++ rest) × (test rest ≡ true)
prefix-parts test prefix text h = by (rest_after prefix text) refl
  where
    by : (o : Option (List ℕ)) → rest_after prefix text ≡ o → (rest : List ℕ) × (text ≡ prefix ++ rest) × (test rest ≡ true)
    by None e = absurd (let wrong : false ≡ true = sym (ap (passes test) e) ∙ h in let f : ⊥ = cc in f)
    by (Some rest) e = (rest, rest_after-some prefix text rest e, sym (ap (passes test) e) ∙ h)

-- a setter's getter is a mangled name
pub is_mangled-getter : (name : List ℕ) → is_setter name ≡ true → is_mangled (getter_of name) ≡ true
is_mangled-getter name h = elim (cases_Bool (is_after is_label (codes "[set]") name)) [
  | inl free ↦ (let p = prefix-parts is_label (codes "[set]") name free in rw p.1 (is_mangled-get p.0 p.2))
  | inr other ↦ elim (cases_Bool (is_after is_dotted (codes "[method][set]") name)) [
    | inl method ↦ (let p = prefix-parts is_dotted (codes "[method][set]") name method in rw p.1 (is_mangled-method_get p.0 p.2))
    | inr neither ↦ (
        let last : is_after is_dotted (codes "[static][set]") name ≡ true = rw (other, neither) at h in
        let p = prefix-parts is_dotted (codes "[static][set]") name last in
        rw p.1 (is_mangled-static_get p.0 p.2))
  ]
]

-- a setter that is first without its getter, and setters that have theirs
pub paired-more : (names : List Name) (place : ℕ) (n : Name) → slice_get names place ≡ Some n → (is_setter n.0 ≡ true → HasName names (getter_of n.0)) → IsLoneSetter names place → ⊥
paired-more names place n at paired lone =
    let both : Some n ≡ Some lone.setter = sym at ∙ lone.at in
    let one : n ≡ lone.setter = cc in
    let sets : is_setter n.0 ≡ true = ap (λ (m : Name). is_setter m.0) one ∙ lone.sets in
    let has = paired sets in
    lone.none has.place has.span (has.at ∙ ap (λ (m : Name). Some (getter_of m.0, has.span)) one)

pub first-lone : (names : List Name) (place : ℕ) (n : Name) (e : ParseError) → slice_get names place ≡ Some n → ((i : ℕ) → i < place → IsLoneSetter names i → ⊥) → Refused (λ f. (is_setter n.0 ≡ true) × (HasName names (getter_of n.0) → ⊥) × (f ≡ lone_setter n.0 n.1)) e → Refused (IsFirstLoneSetter names) e
first-lone names place n e at first r = elim r [
  | inl memory ↦ inl memory
  | inr h ↦ inr (record {
    place = place;
    lone = record { setter = n; at = at; sets = h.0; none = λ i span there. h.1 (record { place = i; span = span; at = there }) };
    first = first;
    is = h.2;
  })
]
