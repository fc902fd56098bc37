-- Lists of what is borrowed, one more, and one by one.
use Rattle.std.proofs.Common.{◌≡◌, List, [], ◌∷◌, ◌++◌, map, sym, ap, ◌∙◌, append_assoc, ℕ, zero, suc, ◌+◌, ◌<◌, ◌≤◌, length, take, Some, inl, inr, refl, subst, arith, length-append, Bool, true, Option, None, IsSome, Contains, Vec}
use Rattle.wit_arena.proofs.Common.{map-append, Id, IsEdge, IsOrder, Leads, Row, ScopeName, at_prefix, at_seam, at_take, at_within, cases_lt, cons_option, defined, get_or_from_slice_get, greedy_least, greedy_sorted, in_order, in_order-append, length-map, local_id, map_at, needed_ids, nil_from_length, own_greedy, row_of, rows_of, same_Some, slice_get, slice_get-take, take_all, take_next, used, Address, at_either, flat_map, flat_map_at, AllDiffer, slice_get_within, AreDistinct, AreOwn, Defined, Env, Fault, ForeignName, HasNames, Used, all_words, body_of, cases_Bool, cond-false, cond-true, either_at, filter, in_order_among, in_order_at, in_turn_distinct, is_defined, local_name, local_names, map, map_map, missing_type_at, names_within, needed_earlier, used_has, used_is, Case, Global, Span, Tuple, all_shapes, all_words-append, append-nil, case_types, filter_map_more, option_to_list, shape_of, tuple_inner, words, «Type» as Written, filter-append, flat_map-append}
use Rattle.wit_scopes.specs.DefinitionOrder.{AreOrdered, NeedNone, AreInTurn}
use Rattle.wit_scopes.specs.declared.scope_name.UsedName.{UsedName}
use Rattle.wit_scopes.specs.BorrowedNames.{Borrowed, own_use, IsPlaced, IsNamePlaced, AreNamesPlaced, name_view, use_view}
use Rattle.wit_type_tree.specs.declared.types.TypeDef.{TypeDef as Definition}
use Rattle.wit_scopes.specs.declared.scope_name.Named.TheVariants as borrowed

-- what comes after a list that grew by one
pub one_more : {X Y : Type 0} (f : X → Y) (old : List Y) (out new : List X) (x : X) (ys all : List Y) (y : Y) → new ≡ out ++ x ∷ [] → map f out ≡ old ++ ys → f x ≡ y → all ≡ ys ++ y ∷ [] → map f new ≡ old ++ all
one_more f old out new x ys all y extended before own is = ap (map f) extended ∙ map-append f out (x ∷ []) ∙ ap (λ l. l ++ f x ∷ []) before ∙ append_assoc old ys (f x ∷ []) ∙ ap (λ z. old ++ (ys ++ z ∷ [])) own ∙ ap (λ l. old ++ l) (sym is)

-- Scopes whose names need none: their order is that in which they are written.
-- the first n places in their own order
abbrev own : ℕ → List ℕ
own zero = []
own (suc n) = own n ++ n ∷ []

own-long : (n : ℕ) → length (own n) ≡ n
own-long zero = refl
own-long (suc n) = omega (arith, length-append (own n) (n ∷ []), own-long n)

own-at : (n i : ℕ) → i < n → slice_get (own n) i ≡ Some i
own-at zero i lt = absurd (omega arith)
own-at (suc n) i lt = elim (cases_lt i n) [
  | inl less ↦ at_prefix (own n) (n ∷ []) i i (own-at n i less)
  | inr end ↦ (
      let is : i ≡ n = omega arith in
      ap (slice_get (own n ++ n ∷ [])) (is ∙ sym (own-long n)) ∙ at_seam (own n) n ∙ ap Some (sym is))
]

no_edge : (rs : List Row) → ((i : ℕ) (row : Row) → slice_get rs i ≡ Some row → row.needs ≡ []) → (i k : ℕ) (id : Id) → IsEdge rs i k id → ⊥
no_edge rs none i k id e =
    let there : slice_get [] k ≡ Some id = ap (λ (l : List Id). slice_get l k) (sym (none i e.0 e.1)) ∙ e.2 in
    cc

own_order : (rs : List Row) → ((i : ℕ) (row : Row) → slice_get rs i ≡ Some row → row.needs ≡ []) → IsOrder rs (own (length rs))
own_order rs none =
    let n = length rs in
    let greedy = own_greedy (Leads rs) n (own n) (own-long n) (λ i lt. get_or_from_slice_get (own n) i i 0 (own-at n i lt)) (λ a b l. absurd (no_edge rs none a l.0 l.1 l.2)) in
    record {
      complete = λ i k id e. absurd (no_edge rs none i k id e);
      sorted = greedy_sorted (Leads rs) n (own n) greedy (own-long n);
      least = greedy_least (Leads rs) n (own n) greedy (own-long n);
    }

next : (n : ℕ) → n + 1 ≡ suc n
next n = omega arith

in_order-own : {X : Type 0} (xs : List X) (n : ℕ) → n ≤ length xs → in_order xs (own n) ≡ take n xs
in_order-own xs zero le = refl
in_order-own xs (suc n) le =
    let x = at_within xs n (omega arith) in
    in_order-append xs (own n) (n ∷ []) ∙ ap (λ o. in_order xs (own n) ++ cons_option o []) x.1 ∙ ap (λ l. l ++ x.0 ∷ []) (in_order-own xs n (omega arith)) ∙ sym (take_next xs n x.0 x.1) ∙ ap (λ k. take k xs) (next n)

-- the definitions as they are written are in the least order
pub as_written : (xs : List ScopeName) → NeedNone xs → AreOrdered xs (defined xs)
as_written xs none = record {
  order = own (length (rows_of xs));
  least = own_order (rows_of xs) (λ i row at. (let p = map_at row_of xs i row at in ap (λ (r : Row). r.needs) (sym p.2) ∙ none i p.0 p.1));
  are = ap defined (sym (ap (λ n. in_order xs (own n)) (length-map xs row_of) ∙ in_order-own xs (length xs) (omega arith) ∙ take_all (length xs) xs (omega arith)));
}

-- definitions as they are written
pub written_in_turn : (xs ds : List ScopeName) → ds ≡ defined xs → NeedNone xs → AreOrdered xs ds
written_in_turn xs ds are none = subst (AreOrdered xs) (sym are) (as_written xs none)

-- one name more that needs none
pub none_more : (xs : List ScopeName) (n : ℕ) (x : ScopeName) → NeedNone (take n xs) → slice_get xs n ≡ Some x → length (needed_ids x) ≡ 0 → NeedNone (take (n + 1) xs)
none_more xs n x before at none = λ i y there. (
    let p = at_take xs (n + 1) i y there in
    elim (cases_lt i n) [
      | inl less ↦ before i y (slice_get-take xs n i less ∙ p.0)
      | inr end ↦ (
          let is : i ≡ n = omega (arith, p.1) in
          let same : y ≡ x = same_Some y x (sym p.0 ∙ ap (slice_get xs) is ∙ at) in
          ap needed_ids same ∙ nil_from_length (needed_ids x) none)
    ])

-- a name that needs some
pub some_needed : (xs : List ScopeName) (n k : ℕ) (x : ScopeName) → slice_get xs n ≡ Some x → length (needed_ids x) ≡ k → (k ≡ 0 → ⊥) → NeedNone xs → ⊥
some_needed xs n k x at long some none = some (sym long ∙ ap length (none n x at))

-- Names of scopes, and the interfaces of other packages at their places.
-- one name more
pub names_more : (prefix : List Address) (names new : List Borrowed) (x : Borrowed) → new ≡ names ++ x ∷ [] → AreNamesPlaced prefix names → IsNamePlaced prefix x → AreNamesPlaced prefix new
names_more prefix names new x extended placed one = rw extended (record {
  each = λ k y at. elim (at_either names x k y at) [
    | inl early ↦ placed.each k y early
    | inr last ↦ subst (IsNamePlaced prefix) (sym last.1) one
  ];
})

-- so are the used names of placed names
pub uses_placed : (prefix : List Address) (names : List Borrowed) → AreNamesPlaced prefix names → (k : ℕ) (u : UsedName) → slice_get (flat_map own_use names) k ≡ Some u → IsPlaced prefix u.from
uses_placed prefix names placed k u at =
    let it = flat_map_at own_use names k u at in
    use_placed prefix it.1 it.3.0 u (placed.each it.0 it.1 it.2) it.3.1
  where
    use_placed : (prefix : List Address) (x : Borrowed) (j : ℕ) (u : UsedName) → IsNamePlaced prefix x → slice_get (own_use x) j ≡ Some u → IsPlaced prefix u.from
    use_placed prefix (borrowed.Used v) zero u placed at = (let same : v ≡ u = cc in subst (λ (w : UsedName). IsPlaced prefix w.from) same placed)
    use_placed prefix (borrowed.Used v) (suc j) u placed at = absurd (let f : ⊥ = cc in f)
    use_placed prefix (borrowed.Defined d) j u placed at = absurd (let f : ⊥ = cc in f)

-- Names whose texts differ.
-- one name is not twice
pub few_differ : {X Y : Type 0} (f : X → Y) (xs : List X) → length xs < 2 → AllDiffer (map f xs)
few_differ f xs few = record {
  differ = λ i j y at_i at_j. omega (arith, few, length-map xs f, slice_get_within (map f xs) i y at_i, slice_get_within (map f xs) j y at_j);
}

-- Definitions of a scope in their order: what each needs comes before it.
-- a name means nothing yet
pub record IsUnknown (env : Env) (ids : List Id) (f : Fault) : Type 0 where
  pub id : Id
  pub among : Contains ids id
  pub free : env id.name.now ≡ None
  pub is : f ≡ missing_type_at id

-- what is at the first n places
in_order-take : {X : Type 0} (xs : List X) (places : List ℕ) (n : ℕ) → ((j p : ℕ) → slice_get places j ≡ Some p → p < length xs) → in_order xs (take n places) ≡ take n (in_order xs places)
in_order-take xs places zero within = refl
in_order-take xs [] (suc n) within = refl
in_order-take xs (k ∷ ks) (suc n) within =
    let y = at_within xs k (within 0 k refl) in
    ap (λ o. cons_option o (in_order xs (take n ks))) y.1 ∙ ap (λ l. y.0 ∷ l) (in_order-take xs ks n (λ j p h. within (suc j) p h)) ∙ ap (λ o. take (suc n) (cons_option o (in_order xs ks))) (sym y.1)

abbrev IsKeptAt : (ScopeName → Bool) → List ScopeName → ℕ → ScopeName → Type 0
IsKeptAt test xs k x = (p : ℕ) × (slice_get xs p ≡ Some x) × (filter test (take p xs) ≡ take k (filter test xs))

kept_after : (test : ScopeName → Bool) (y : ScopeName) (ys : List ScopeName) (k : ℕ) (x : ScopeName) → test y ≡ true → ((j : ℕ) → slice_get (filter test ys) j ≡ Some x → IsKeptAt test ys j x) → slice_get (y ∷ filter test ys) k ≡ Some x → (p : ℕ) × (slice_get (y ∷ ys) p ≡ Some x) × (filter test (take p (y ∷ ys)) ≡ take k (y ∷ filter test ys))
kept_after test y ys zero x hit rest at = (0, at, refl)
kept_after test y ys (suc k) x hit rest at =
    let it = rest k at in
    (suc it.0, it.1, cond-true (test y) (y ∷ filter test (take it.0 ys)) (filter test (take it.0 ys)) hit ∙ ap (λ l. y ∷ l) it.2)

-- what is kept comes after what is kept before it
kept_before : (test : ScopeName → Bool) (xs : List ScopeName) (k : ℕ) (x : ScopeName) → slice_get (filter test xs) k ≡ Some x → IsKeptAt test xs k x
kept_before test [] k x at = absurd (let f : ⊥ = cc in f)
kept_before test (y ∷ ys) k x at = elim (cases_Bool (test y)) [
  | inl hit ↦ (
      let all = cond-true (test y) (y ∷ filter test ys) (filter test ys) hit in
      let it = kept_after test y ys k x hit (λ j h. kept_before test ys j x h) (sym (ap (λ zs. slice_get zs k) all) ∙ at) in
      (it.0, it.1, it.2 ∙ ap (take k) (sym all)))
  | inr miss ↦ (
      let all = cond-false (test y) (y ∷ filter test ys) (filter test ys) miss in
      let it = kept_before test ys k x (sym (ap (λ zs. slice_get zs k) all) ∙ at) in
      (suc it.0, it.1, cond-false (test y) (y ∷ filter test (take it.0 ys)) (filter test (take it.0 ys)) miss ∙ it.2 ∙ ap (take k) (sym all)))
]

-- in its order, each name that a definition needs is used, or a definition before it has it
pub in_their_turn : (xs ds : List ScopeName) (env : Env) → AreOwn xs → AreOrdered xs ds → HasNames env (used xs) → AreInTurn env ds
in_their_turn xs ds env own o has = record {
  known = used xs;
  has = has;
  earlier = λ k d id at among fresh. (
      let ordered = in_order xs o.order in
      let it = kept_before is_defined ordered k (Defined d) (sym (ap (λ l. slice_get l k) o.are) ∙ at) in
      let p = in_order_at xs o.order it.0 (Defined d) (names_within xs o.order o.least) it.1 in
      let y = needed_earlier xs o.order it.0 p.0 (Defined d) id o.least p.1 p.2 among in
      let prefix : slice_get (take it.0 ordered) y.0 ≡ Some y.1 = ap (λ l. slice_get l y.0) (sym (in_order-take xs o.order it.0 (names_within xs o.order o.least))) ∙ y.2 in
      elim (either_at (take it.0 ordered) y.0 y.1 prefix) [
        | inl u ↦ absurd (
            let is = used_is (take it.0 ordered) (λ i attributes id at_i. (let q = in_order_among xs o.order o.least i (ForeignName attributes id) (at_take ordered it.0 i (ForeignName attributes id) at_i).0 in own q.0 attributes id q.1)) u.0 y.1 u.1 in
            let q = in_order_among xs o.order o.least y.0 y.1 (at_take ordered it.0 y.0 y.1 prefix).0 in
            let there = used_has xs q.0 is.0 is.1 is.2 (q.1 ∙ ap Some is.3) in
            fresh there.0 (Used is.0 is.1 is.2) there.1 (ap local_name (sym is.3) ∙ y.3))
        | inr e ↦ (e.0, y.1, ap (λ l. slice_get l e.0) (ap (take k) o.are ∙ sym it.2) ∙ e.1, y.3)
      ]);
}

-- the names that are borrowed are used or defined
pub own_borrowed : (names : List Borrowed) → AreOwn (map name_view names)
own_borrowed names i attributes id at = let x = map_at name_view names i (ForeignName attributes id) at in not_used x.0 x.2
  where
    not_used : (x : Borrowed) → name_view x ≡ ForeignName attributes id → ⊥
    not_used (borrowed.Used u) h = let f : ⊥ = cc in f
    not_used (borrowed.Defined d) h = let f : ⊥ = cc in f

-- so none is unknown
pub none_unknown : (old env : Env) (ds : List ScopeName) (k : ℕ) (d : Definition) (f : Fault) → AreInTurn old ds → slice_get ds k ≡ Some (Defined d) → ((xs : List ScopeName) → HasNames old xs → HasNames env xs) → HasNames env (take k ds) → IsUnknown env (all_words (body_of d.body).parts) f → ⊥
none_unknown old env ds k d f turn at kept has u =
    let free : (y : ScopeName) → local_name y ≡ u.id.name.now → IsSome (env (local_name y)) → ⊥ = λ y same some. (
    let wrong : IsSome {T = ℕ} None = subst (λ (o : Option ℕ). IsSome o) (ap env same ∙ u.free) some in
    let g : ⊥ = cc in
    g) in
    let e = turn.earlier k d u.id at u.among (λ i y there same. free y same ((kept turn.known turn.has).has i y there)) in
    free e.1 e.3 (has.has e.0 e.1 e.2)

abbrev text : Id → List ℕ
text id = id.name.now

-- where texts differ, the names do
pub differ_names : (xs : List ScopeName) (ids : List Id) → ids ≡ map local_id (used xs ++ defined xs) → AllDiffer (map text ids) → AllDiffer (map local_name (used xs ++ defined xs))
differ_names xs ids are differ = subst AllDiffer (ap (map text) are ∙ map_map text local_id (used xs ++ defined xs)) differ

-- so those of a table with the used names differ from the definitions, in their order
pub turn_differs : (xs ds : List ScopeName) (names : List (List ℕ)) → AreOrdered xs ds → names ≡ local_names (used xs) → AreDistinct xs → AllDiffer (names ++ local_names ds)
turn_differs xs ds names o are distinct = rw (are, o.are) (subst AllDiffer (map-append local_name (used xs) (defined (in_order xs o.order))) (in_turn_distinct xs o.order o.least distinct))

-- Names written in types, by their parts.
-- of types in turn
abbrev pub type_words : List Written → List Id
type_words ts = all_words (all_shapes ts)

-- the names in a tuple are those in its types
pub tuple_words : (span : Span) (v : Vec Written Global) → words (shape_of (Tuple span v)) ≡ type_words v.items
tuple_words span v = ap all_words (tuple_inner span v)

-- one type more
pub words_more : (old now new : List Id) (ts us : List Written) (t : Written) → us ≡ ts ++ t ∷ [] → now ≡ old ++ type_words ts → new ≡ now ++ words (shape_of t) → new ≡ old ++ type_words us
words_more old now new ts us t more so next =
    let own = words (shape_of t) in
    let all : type_words us ≡ type_words ts ++ own = ap type_words more ∙ all_words-append ts (t ∷ []) ∙ ap (λ ids. type_words ts ++ ids) (append-nil own) in
    next ∙ ap (λ ids. ids ++ own) so ∙ append_assoc old (type_words ts) own ∙ ap (λ ids. old ++ ids) (sym all)

-- a case that holds something, and one that holds nothing
pub cases_more : (cs : List Case) (c : Case) (t : Written) → c.ty ≡ Some t → case_types (cs ++ c ∷ []) ≡ case_types cs ++ t ∷ []
cases_more cs c t h = filter_map_more (λ x. x.ty) cs c ∙ ap (λ o. case_types cs ++ option_to_list o) h

pub cases_same : (cs : List Case) (c : Case) → c.ty ≡ None → case_types (cs ++ c ∷ []) ≡ case_types cs
cases_same cs c h = filter_map_more (λ x. x.ty) cs c ∙ ap (λ o. case_types cs ++ option_to_list o) h ∙ append-nil (case_types cs)

-- Used names that are among those of a scope.
-- the used ones of some names, as they are borrowed
pub uses_viewed : (xs : List Borrowed) → map use_view (flat_map own_use xs) ≡ used (map name_view xs)
uses_viewed [] = refl
uses_viewed (borrowed.Used u ∷ xs) = ap (λ l. use_view u ∷ l) (uses_viewed xs)
uses_viewed (borrowed.Defined d ∷ xs) = uses_viewed xs

-- one name more
pub uses_more : (xs : List Borrowed) (i : ℕ) (x : Borrowed) → slice_get xs i ≡ Some x → flat_map own_use (take (i + 1) xs) ≡ flat_map own_use (take i xs) ++ own_use x
uses_more xs i x at = ap (flat_map own_use) (take_next xs i x at) ∙ flat_map-append own_use (take i xs) (x ∷ []) ∙ ap (λ l. flat_map own_use (take i xs) ++ l) (append-nil (own_use x))

-- the definitions among some names, one name more
pub defined_more : (xs : List Borrowed) (i : ℕ) (x : Borrowed) → slice_get xs i ≡ Some x → defined (map name_view (take (i + 1) xs)) ≡ defined (map name_view (take i xs)) ++ defined (name_view x ∷ [])
defined_more xs i x at = ap (λ (l : List Borrowed). defined (map name_view l)) (take_next xs i x at) ∙ ap defined (map-append name_view (take i xs) (x ∷ [])) ∙ filter-append is_defined (map name_view (take i xs)) (name_view x ∷ [])
