-- The versions of the types that plain trees make are by SemVer.
use Rattle.std.proofs.Common.{◌≡◌, ℕ, zero, suc, ◌<◌, List, [], ◌∷◌, length, map, take, Option, Some, None, Contains, refl, sym, ap, ◌∙◌, subst, arith}
use Rattle.wit_arena.proofs.Common.{Address, All, Def, ForeignName, ForeignNamed, ForeignUse, InlineAt, InterfaceNamed, IsEntryOf, IsLegal, IsOrder, Item, Key, Makes, Occurrence, PackageFile, ScopeName, Shape, Shapes, SideFunction, SideInline, SideItem, SideLink, SourceFunction, Span, Stability, Turned, TypeDef, TypeOwner, UnresolvedPackage, Whole, WorldNamed, about_name, address, all_function_occurrences, all_items, all_occurrences, all_scopes, at_contains, at_prefix, at_take, at_within, contains_at, exprs_of, filter, find_among, first_foreign_uses, first_known, firsts_at, flat_map, foreign_use_occurrence, foreign_uses, in_order, in_turn_among, inline_items, interface_scopes, interface_turn, interfaces_of, item_at, item_rows, item_turns, kept_at, map_at, name_occurrences, names_in_turn, option_map_or, owner_at, rows_of, same_address, same_foreign_use, scope, scope_names, scopes_declared, scopes_inline, shape_occurrences, shapes_occurrences, side_items, signature, slice_get, slice_get_within, stability_at, stability_of, turn_occurrences, turns_of_world, turns_on_sides, turns_walked, types_of, unwrap_or, used_names, world_scopes, worlds_of}
use Rattle.wit_types.specs.declared.stability.Stability.TheVariants as stability
use Rattle.wit_types.specs.declared.types.«Type».{«Type» as Ty}
use Rattle.wit_types.specs.declared.types.«Type».TheVariants as ty
use Rattle.wit_syntax.specs.Shape as shape
use Rattle.wit_json.specs.PlainPackages.{HasVersions}
use Rattle.wit_json_laws.specs.PlainTrees.{HasPlainNames}
use Rattle.wit_json_laws.proofs.Lists.{all_at, all_both, all_map, all_more, all_none, at_all}
use Rattle.wit_json_laws.proofs.Members.{interfaces_among, worlds_declared}
use Rattle.wit_json_laws.proofs.PlainItems.{names_plain, scope_plain, foreign_uses_plain}
use Rattle.wit_json_laws.proofs.PlainMetadata.{ArePlain, all_flat, stability_plain}
use Rattle.wit_json_laws.proofs.PlainParts.{IsPlainScopeName}

-- ---- what occurs
abbrev HasGiven : Occurrence → Type 0
HasGiven m = HasVersions m.given

abbrev occurrence_of : Address → Stability → Span → Key → Occurrence
occurrence_of s given span k = record { key = k; span = span; given = given }

mutual
  shape_given : (s : Address) (given : Stability) (x : Shape) → HasVersions given → All HasGiven (shape_occurrences s given x)
  shape_given s given (shape.Prim p) h = all_none HasGiven
  shape_given s given (shape.Word id) h = all_none HasGiven
  shape_given s given (shape.Of span form parts) h =
      let whole = occurrence_of s given span (Whole form (exprs_of s parts)) in
      all_both HasGiven (shapes_occurrences s given parts) (whole ∷ []) (shapes_given s given parts h) (all_more HasGiven whole [] h (all_none HasGiven))

  shapes_given : (s : Address) (given : Stability) (xs : Shapes) → HasVersions given → All HasGiven (shapes_occurrences s given xs)
  shapes_given s given shape.End h = all_none HasGiven
  shapes_given s given (shape.More x xs) h = all_both HasGiven (shape_occurrences s given x) (shapes_occurrences s given xs) (shape_given s given x h) (shapes_given s given xs h)

abbrev pub HasStability : ScopeName → Type 0
HasStability x = HasVersions (about_name x).metadata.stability

name_given : (s : Address) (x : ScopeName) → HasStability x → All HasGiven (name_occurrences s x)
name_given s x h =
    let own : Occurrence = record { key = Def s (about_name x).id.name.now; span = (about_name x).span; given = (about_name x).metadata.stability } in
    let before = shapes_occurrences (unwrap_or (about_name x).from s) (about_name x).metadata.stability (about_name x).body.parts in
    all_both HasGiven before (own ∷ []) (shapes_given (unwrap_or (about_name x).from s) (about_name x).metadata.stability (about_name x).body.parts h) (all_more HasGiven own [] h (all_none HasGiven))

functions_given : (s : Address) (fns : List SourceFunction) → All HasGiven (all_function_occurrences s fns)
functions_given s fns =
    all_flat HasGiven (λ (fn : SourceFunction). flat_map (shape_occurrences s stability.Unknown) (signature fn)) fns
    (λ k fn at. all_flat HasGiven (shape_occurrences s stability.Unknown) (signature fn) (λ j x there. shape_given s stability.Unknown x tt))

abbrev HasNames : Turned → Type 0
HasNames t = All HasStability t.names

turn_given : (t : Turned) → HasNames t → All HasGiven (turn_occurrences t)
turn_given t h =
    all_both HasGiven (flat_map (name_occurrences t.address) t.names) (all_function_occurrences t.address t.functions)
    (all_flat HasGiven (name_occurrences t.address) t.names (λ k x at. name_given t.address x (at_all HasStability t.names h k x at))) (functions_given t.address t.functions)

-- ---- entries
known_first : (xs : List Stability) → All HasVersions xs → HasVersions (first_known xs)
known_first [] h = tt
known_first (stability.Unknown ∷ xs) h = known_first xs (all_at HasVersions xs (λ i x at. at_all HasVersions (stability.Unknown ∷ xs) h (suc i) x at))
known_first (stability.Unstable feature deprecated ∷ xs) h = at_all HasVersions (stability.Unstable feature deprecated ∷ xs) h 0 (stability.Unstable feature deprecated) refl
known_first (stability.Stable since deprecated ∷ xs) h = at_all HasVersions (stability.Stable since deprecated ∷ xs) h 0 (stability.Stable since deprecated) refl

abbrev AreBefore : List TypeDef → Type 0
AreBefore es = (k : ℕ) (e : TypeDef) → slice_get es k ≡ Some e → HasVersions e.stability

entry_stability : (es : List TypeDef) → AreBefore es → (i : ℕ) (o : Option TypeDef) → slice_get es i ≡ o → HasVersions (option_map_or (λ (e : TypeDef). e.stability) o stability.Unknown)
entry_stability es before i None is = tt
entry_stability es before i (Some e) is = before i e is

type_stability : (es : List TypeDef) → AreBefore es → (t : Ty) → HasVersions (stability_at es t)
type_stability es before ty.Bool = tt
type_stability es before ty.U8 = tt
type_stability es before ty.U16 = tt
type_stability es before ty.U32 = tt
type_stability es before ty.U64 = tt
type_stability es before ty.S8 = tt
type_stability es before ty.S16 = tt
type_stability es before ty.S32 = tt
type_stability es before ty.S64 = tt
type_stability es before ty.F32 = tt
type_stability es before ty.F64 = tt
type_stability es before ty.Char = tt
type_stability es before ty.String = tt
type_stability es before ty.ErrorContext = tt
type_stability es before (ty.Id i) = entry_stability es before i (slice_get es i) refl

entry_plain : (names : Address → List ScopeName) (owner_of : Address → TypeOwner) (id : Key → ℕ) (es : List TypeDef) → AreBefore es → ((s : Address) (x : ScopeName) → Contains (names s) x → HasStability x) →
    (k : Key) (span : Span) (given : Stability) (e : TypeDef) → HasVersions given → IsEntryOf names owner_of id es k span given e → HasVersions e.stability
entry_plain names owner_of id es before known (Def s name) span given e h is = subst (λ (d : TypeDef). HasVersions d.stability) (sym is.5) (known s is.0 is.2)
entry_plain names owner_of id es before known (Whole form parts) span given e h is =
    let others = map (stability_at es) (types_of id parts) in
    subst (λ (d : TypeDef). HasVersions d.stability) (sym is.2) (known_first (given ∷ others) (all_more HasVersions given others h (all_map HasVersions (stability_at es) (types_of id parts) (λ k t at. type_stability es before t))))

module _ (files : List PackageFile) (plain : All HasPlainNames files) where
  -- ---- the names of scopes
  found_stability : (s : Address) (x : ScopeName) (o : Option Item) → item_at (all_scopes files) s ≡ o → Contains (option_map_or scope_names o []) x → HasStability x
  found_stability s x None is among = absurd (let it = at_contains [] x among in let wrong = it.1 in let f : ⊥ = cc in f)
  found_stability s x (Some i) is among =
      let there = find_among (λ (v : Item). same_address (address v) s) (all_scopes files) i is in
      let k = at_contains (scope_names i) x among in
      (at_all IsPlainScopeName (scope_names i) (names_plain i (scope_plain files plain i there)) k.0 x k.1).stability

  foreign_use_stability : (t : ForeignUse) (k : ℕ) → slice_get (first_foreign_uses files) k ≡ Some t → HasVersions (stability_of t.attributes)
  foreign_use_stability t k at =
      let p = firsts_at same_foreign_use (foreign_uses files) k t at in
      stability_plain t.attributes (at_all (λ (u : ForeignUse). ArePlain u.attributes) (foreign_uses files) (foreign_uses_plain files plain) p.0 t p.1)

  used_stability : (s : Address) (x : ScopeName) → Contains (used_names files s) x → HasStability x
  used_stability s x among =
      let kept = filter (λ (t : ForeignUse). same_address t.from s) (first_foreign_uses files) in
      let k = at_contains (used_names files s) x among in
      let it = map_at (λ (t : ForeignUse). ForeignName t.attributes t.id) kept k.0 x k.1 in
      let p = kept_at (λ (t : ForeignUse). same_address t.from s) (first_foreign_uses files) k.0 it.0 it.1 in
      subst HasStability it.2 (foreign_use_stability it.0 p.0 p.1)

  scope_stability : (s : Address) (x : ScopeName) → Contains (scope files s) x → HasStability x
  scope_stability (InterfaceNamed name) x among = found_stability (InterfaceNamed name) x (item_at (all_scopes files) (InterfaceNamed name)) refl among
  scope_stability (WorldNamed name) x among = found_stability (WorldNamed name) x (item_at (all_scopes files) (WorldNamed name)) refl among
  scope_stability (InlineAt world side place) x among = found_stability (InlineAt world side place) x (item_at (all_scopes files) (InlineAt world side place)) refl among
  scope_stability (ForeignNamed p name) x among = used_stability (ForeignNamed p name) x among

  module _ (order : Item → List ℕ) (orders : ((i : Item) → Contains (all_scopes files) i → IsOrder (rows_of (scope_names i)) (order i))) where
    -- the names of a scope in turn are plain
    pub turn_names : (i : Item) → Contains (all_scopes files) i → All IsPlainScopeName (names_in_turn order i)
    turn_names i among = all_at IsPlainScopeName (names_in_turn order i) (λ k x at. (
        let p = in_turn_among (scope_names i) (order i) (orders i among) k x at in
        at_all IsPlainScopeName (scope_names i) (names_plain i (scope_plain files plain i among)) p.0 x p.1))

    turn_stability : (i : Item) → Contains (all_scopes files) i → All HasStability (names_in_turn order i)
    turn_stability i among = all_at HasStability (names_in_turn order i) (λ k x at. (at_all IsPlainScopeName (names_in_turn order i) (turn_names i among) k x at).stability)

    sides_turned : (s : Address) (xs : List SideItem) (is : List Item) → ((k : ℕ) (i : Item) → slice_get is k ≡ Some i → Contains (all_scopes files) i) → All HasNames (turns_on_sides order s xs is)
    sides_turned s [] is among = all_none HasNames
    sides_turned s (SideFunction fn ∷ xs) is among = all_more HasNames (record { address = s; names = []; functions = fn ∷ [] }) (turns_on_sides order s xs is) (all_none HasStability) (sides_turned s xs is among)
    sides_turned s (SideLink link ∷ xs) is among = sides_turned s xs is among
    sides_turned s (SideInline x name items ∷ xs) [] among = sides_turned s xs [] among
    sides_turned s (SideInline x name items ∷ xs) (i ∷ is) among = all_more HasNames (interface_turn order i) (turns_on_sides order s xs is) (turn_stability i (among 0 i refl)) (sides_turned s xs is (λ k v at. among (suc k) v at))

    world_turned : (w : Item) → Contains (all_scopes files) w → ((k : ℕ) (i : Item) → slice_get (inline_items w) k ≡ Some i → Contains (all_scopes files) i) → All HasNames (turns_of_world order w)
    world_turned w among inside = subst (All HasNames) (sym (turns_walked w order)) (all_more HasNames (record { address = address w; names = names_in_turn order w; functions = [] }) (turns_on_sides order (address w) (side_items w) (inline_items w)) (turn_stability w among) (sides_turned (address w) (side_items w) (inline_items w) inside))

    module _ (legal : IsLegal files) (items : List Item) (ordered : ((places : List ℕ) × IsOrder (item_rows files) places × (items ≡ in_order (all_items files) places))) where
      all_turned : All HasNames (item_turns order items)
      all_turned = all_both HasNames (map (interface_turn order) (interfaces_of items)) (flat_map (turns_of_world order) (worlds_of items))
          (all_map HasNames (interface_turn order) (interfaces_of items) (λ k i at. turn_stability i (interfaces_among files legal items ordered k i (at_prefix (interfaces_of items) (flat_map inline_items (worlds_of items)) k i at)).0))
          (all_flat HasNames (turns_of_world order) (worlds_of items) (λ k w at. (
          let among = worlds_declared files legal items ordered k w at in
          world_turned w (scopes_declared files w among) (λ j i there. scopes_inline files w i among (contains_at (inline_items w) j i there)))))

      all_given : All HasGiven (all_occurrences files (item_turns order items))
      all_given = all_both HasGiven (map foreign_use_occurrence (foreign_uses files)) (flat_map turn_occurrences (item_turns order items))
          (all_map HasGiven foreign_use_occurrence (foreign_uses files) (λ k t at. stability_plain t.attributes (at_all (λ (u : ForeignUse). ArePlain u.attributes) (foreign_uses files) (foreign_uses_plain files plain) k t at)))
          (all_flat HasGiven turn_occurrences (item_turns order items) (λ k t at. turn_given t (at_all HasNames (item_turns order items) all_turned k t at)))

  module _ (legal : IsLegal files) (p : UnresolvedPackage) (m : Makes files p) where
    seen_given : (n : ℕ) (x : Occurrence) → slice_get m.seen n ≡ Some x → HasGiven x
    seen_given n x at =
        let same = λ (a b : Occurrence). m.same a.key b.key in
        let all = all_occurrences files (item_turns m.order m.items) in
        let k = firsts_at same all n x (ap (λ (l : List Occurrence). slice_get l n) (sym m.first) ∙ at) in
        at_all HasGiven all (all_given m.order m.names_in_order legal m.items m.in_order) k.0 x k.1

    before : (n k : ℕ) (e : TypeDef) → k < n → slice_get p.types k ≡ Some e → HasVersions e.stability
    before zero k e less at = absurd (let f : ⊥ = omega (arith, less) in f)
    before (suc n) k e less at =
        let within : k < length p.types = slice_get_within p.types k e at in
        let count : length p.types ≡ length m.seen = m.count in
        let x = at_within m.seen k (omega (arith, within, count)) in
        let earlier : AreBefore (take k p.types) = λ j f there. (let it = at_take p.types k j f there in let lower = it.1 in before n j f (omega (arith, less, lower)) it.0) in
        entry_plain (scope files) (owner_at (interface_scopes files m.items) (world_scopes files m.items)) m.id (take k p.types) earlier scope_stability x.0.key x.0.span x.0.given e (seen_given k x.0 x.1) (m.types k x.0 e x.1 at)

    pub types_plain : All (λ (t : TypeDef). HasVersions t.stability) p.types
    types_plain = all_at (λ (t : TypeDef). HasVersions t.stability) p.types (λ k e at. before (suc k) k e (omega arith) at)
