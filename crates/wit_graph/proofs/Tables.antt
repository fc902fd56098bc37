-- A table, its rows, and their graph have the same edges.
use Rattle.std.proofs.Common.{◌≡◌, ℕ, zero, suc, ◌+◌, ◌<◌, Bool, not, cond, List, [], ◌∷◌, ◌++◌, length, take, map, arith, sym, ◌∙◌, ap, refl, subst, inl, inr, Option, Some, None, IsSome, Vec, Global, Bor, slice_get}
use Rattle.std.specs.Prelude.{position, nat_lt}
use Rattle.std.specs.List.{prefix_len, position_or_len}
use Rattle.std.specs.Str.{bytes_eq}
use Rattle.std.specs.Option.{option_map}
use Rattle.std.proofs.lemmas.List.{take_more, map-append, length-map, append_assoc}
use Rattle.std.proofs.lemmas.Option.{slice_get_within, get_or_from_slice_get, slice_get-map, same_Some, none-some}
use Rattle.std.specs.Map.Iter.{deref_pair}
use Rattle.std.proofs.lemmas.Bool.{false≢true}
use Rattle.wit_type_tree.specs.declared.leaves.Id.{Id}
use Rattle.wit_graph.specs.declared.table_fault.OrderFault.{OrderFault}
use Rattle.wit_graph.specs.declared.table_fault.OrderFault.TheVariants.{Missing}
use Rattle.wit_graph.specs.Graph.{Graph}
use Rattle.wit_graph.specs.Table.{Row, entry_row, rows, target, place_of}
use Rattle.wit_graph.specs.PlaceGraph.{AddsRow, MissesFirst, Misses, Resolves}

-- the step of a loop that maps a list
pub map_step : {A B C : Type 0} (f : A → C) (g : B → C) (xs : List A) (ys : List B) (i : ℕ) (x : A) (y : B) → map f xs ≡ map g (take i ys) → slice_get ys i ≡ Some y → f x ≡ g y
    → map f (xs ++ x ∷ []) ≡ map g (take (i + 1) ys)
map_step f g xs ys i x y same at e =
    let t : take (i + 1) ys ≡ take i ys ++ y ∷ [] = take_more ys i y (slice_get_within ys i y at) ∙ ap (λ z. take i ys ++ z ∷ []) (get_or_from_slice_get ys i y y at) in
    map-append f xs (x ∷ []) ∙ ap (λ z. z ++ f x ∷ []) same ∙ ap (λ z. map g (take i ys) ++ z ∷ []) e ∙ sym (map-append g (take i ys) (y ∷ [])) ∙ ap (map g) (sym t)

-- the key of what was got at a place
pub key_at : {K V : Type 0} (es : List (K × V)) (i : ℕ) (r : Option (Bor K × Bor V)) (p : Bor K × Bor V)
    → option_map deref_pair r ≡ slice_get es i → r ≡ Some p → slice_get (map (λ e. e.0) es) i ≡ Some p.0.now
key_at es i r p entry some = slice_get-map (λ e. e.0) es i ∙ ap (option_map (λ e. e.0)) (sym entry ∙ ap (option_map deref_pair) some)

-- the row of what was got at a place
pub row_at_place : (es : List (Bor (List ℕ) × Vec Id Global)) (i : ℕ) (r : Option (Bor (Bor (List ℕ)) × Bor (Vec Id Global))) (p : Bor (Bor (List ℕ)) × Bor (Vec Id Global))
    → option_map deref_pair r ≡ slice_get es i → r ≡ Some p → slice_get (rows es) i ≡ Some (entry_row (deref_pair p))
row_at_place es i r p entry some = slice_get-map entry_row es i ∙ ap (option_map entry_row) (sym entry ∙ ap (option_map deref_pair) some)

-- where a test first passes by name, and by key
same_prefix : (test : List ℕ → Bool) (es : List (Bor (List ℕ) × Vec Id Global)) → prefix_len (λ (row : Row). not (test row.name)) (map entry_row es) ≡ prefix_len (λ (k : Bor (List ℕ)). not (test k.now)) (map (λ e. e.0) es)
same_prefix test [] = refl
same_prefix test (e ∷ es) = ap (λ n. cond (not (test e.0.now)) (1 + n) 0) (same_prefix test es)

-- a name's place among the rows is its key's index in the table
pub place_by_key : (es : List (Bor (List ℕ) × Vec Id Global)) (name : List ℕ) → place_of (rows es) name ≡ position (λ (k : Bor (List ℕ)). bytes_eq name k.now) (map (λ e. e.0) es)
place_by_key es name =
    let ks : List (Bor (List ℕ)) = map (λ e. e.0) es in
    let p : position_or_len (λ (row : Row). bytes_eq name row.name) (rows es) ≡ position_or_len (λ (k : Bor (List ℕ)). bytes_eq name k.now) ks = same_prefix (bytes_eq name) es in
    let l : length (rows es) ≡ length ks = length-map es entry_row ∙ sym (length-map es (λ e. e.0)) in
    ap (λ n. cond (nat_lt n (length (rows es))) (Some n) None) p ∙ ap (λ n. cond (nat_lt (position_or_len (λ (k : Bor (List ℕ)). bytes_eq name k.now) ks) n) (Some (position_or_len (λ (k : Bor (List ℕ)). bytes_eq name k.now) ks)) None) l

pub some_from_map : {A C : Type 0} (f : A → C) (o : Option A) (z : C) → option_map f o ≡ Some z → (x : A) × (o ≡ Some x) × (f x ≡ z)
some_from_map f None z e = absurd (none-some z e)
some_from_map f (Some x) z e = (x, refl, same_Some (f x) z e)

-- lists that map to the same list have elements at the same places
pub matched : {A B C : Type 0} (f : A → C) (g : B → C) (xs : List A) (ys : List B) → map f xs ≡ map g ys → (k : ℕ) (y : B) → slice_get ys k ≡ Some y
    → (x : A) × (slice_get xs k ≡ Some x) × (f x ≡ g y)
matched {C} f g xs ys same k y at =
    let there : slice_get (map g ys) k ≡ Some (g y) = slice_get-map g ys k ∙ ap (option_map g) at in
    some_from_map f (slice_get xs k) (g y) (sym (slice_get-map f xs k) ∙ ap (λ (l : List C). slice_get l k) same ∙ there)

-- one place more of a row
pub row_more : (rs : List Row) (ids : List Id) (old now new : List ℕ) (k : ℕ) (id : Id) (p : ℕ) → AddsRow rs (take k ids) old now → slice_get ids k ≡ Some id → target rs id ≡ Some p → new ≡ now ++ p ∷ []
    → AddsRow rs (take (k + 1) ids) old new
row_more rs ids old now new k id p added at found is = (
  added.0 ++ p ∷ [],
  is ∙ ap (λ l. l ++ p ∷ []) added.1 ∙ append_assoc old added.0 (p ∷ []),
  map_step Some (target rs) added.0 ids k p id added.2 at (sym found),
)

pub slice_get-take : {A : Type 0} (xs : List A) (i k : ℕ) → k < i → slice_get (take i xs) k ≡ slice_get xs k
slice_get-take xs zero k h = absurd (omega arith)
slice_get-take [] (suc i) k h = refl
slice_get-take (x ∷ xs) (suc i) zero h = refl
slice_get-take (x ∷ xs) (suc i) (suc k) h = slice_get-take xs i k (omega (arith, h))

pub known : (o : Option ℕ) (p : ℕ) → o ≡ Some p → IsSome o
known o p e = subst (λ (x : Option ℕ). IsSome x) (sym e) refl

-- the first id that is missing
pub miss_first : (rs : List Row) (ids : List Id) (row : List ℕ) (place i : ℕ) (id : Id)
    → Resolves rs (take i ids) row → slice_get ids i ≡ Some id → target rs id ≡ None → MissesFirst rs ids place (Missing place i)
miss_first rs ids row place i id r at gone = record {
  index = i;
  id = id;
  at = at;
  missing = gone;
  is = refl;
  earlier = λ k other h there. let x = matched Some (target rs) row (take i ids) r k other (slice_get-take ids i k h ∙ there) in known (target rs other) x.0 (sym x.2);
}

-- the places that a row wants, and those that a row of the graph has
abbrev pub wants : List Row → Row → List (Option ℕ)
wants rs row = map (target rs) row.needs

abbrev pub has : List ℕ → List (Option ℕ)
has row = map Some row

-- an id of an earlier place is known
pub known_edge : (rs : List Row) (g : Graph) (vs : List Row) → map has g ≡ map (wants rs) vs → (j l : ℕ) (row : Row) (id : Id) → slice_get vs j ≡ Some row → slice_get row.needs l ≡ Some id
    → IsSome (target rs id)
known_edge rs g vs same j l row id at there =
    let found = matched has (wants rs) g vs same j row at in
    let x = matched Some (target rs) found.0 row.needs found.2 l id there in
    known (target rs id) x.0 (sym x.2)

pub not_missing : (o : Option ℕ) → IsSome o → o ≡ None → ⊥
not_missing None h e = false≢true h
not_missing (Some x) h e = none-some x (sym e)

pub miss_edge : (rs : List Row) (g : Graph) (fault : OrderFault) (i : ℕ) (row : Row)
    → map has g ≡ map (wants rs) (take i rs) → slice_get rs i ≡ Some row → MissesFirst rs row.needs i fault → Misses rs fault
miss_edge rs g fault i row same at r = record {
  place = i;
  index = r.index;
  is = r.is;
  first = record {
    id = r.id;
    first = record {
      is = (row, at, r.at);
      holds = r.missing;
      earlier = λ j l y e before gone. elim before [
        | inl less ↦ not_missing (target rs y) (known_edge rs g (take i rs) same j l e.0 y (slice_get-take rs i j less ∙ e.1) e.2) gone
        | inr here ↦
            let same_row : Some e.0 ≡ Some row = sym e.1 ∙ ap (slice_get rs) here.0 ∙ at in
            let there : e.0 ≡ row = same_Some e.0 row same_row in
            not_missing (target rs y) (r.earlier l y here.1 (ap (λ (v : Row). slice_get v.needs l) (sym there) ∙ e.2)) gone
      ];
    };
  };
}
