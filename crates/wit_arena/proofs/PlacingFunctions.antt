-- Where a function gives the place of each key, what means written functions and for names is stated.
use Rattle.std.proofs.Common.{◌≡◌, ℕ, suc, List, [], ◌∷◌, ◌++◌, length, Option, Some, None, refl, sym, ap, ◌∙◌, arith}
use Rattle.wit_arena.proofs.Names.{Address, AllDiffer, AreFunctions, AreMetadata, Def, Docs, Function, FunctionKind, GivesPlaces, Id, IsAt, Key, OneByOne, Param, ScopeName, Shape, SourceFunction, SourceParam, Span, Stability, Turned, all_params, docs_of, expr_of, exprs_of, function_in, function_types, gathered, length-map, local_name, map, map-append, map_map, metadata, name_places, option_map, option_to_list, role_kind, signature, slice_get, slice_get-map, type_of, types_of, ForeignVisit, Interface, PackageFile, map_at, no_docs, scope, visited, interface, AreDistinct, AreNames, differ_at, env_of, lookup-at}
use Rattle.wit_types.specs.declared.types.«Type».{«Type» as Ty}
use Rattle.wit_arena.proofs.OneKind.{same_some}
use Rattle.wit_arena.proofs.Placing.{at_places, gives_in, place_in, place_seen}

-- what is one by one beside a list, where what is beside each of its elements is stated, is its image
pub one_by_one-image : {X Y : Type 0} (Holds : X → Y → Type 0) (f : X → Y) (xs : List X) (ys : List Y) → ((k : ℕ) (x : X) (y : Y) → slice_get xs k ≡ Some x → Holds x y → y ≡ f x) → OneByOne Holds xs ys → ys ≡ map f xs
one_by_one-image Holds f [] [] as_stated h = refl
one_by_one-image Holds f (x ∷ xs) (y ∷ ys) as_stated h = cc (as_stated 0 x y refl (h.each 0 x y refl refl), one_by_one-image Holds f xs ys (λ k. as_stated (suc k)) (record { count = omega (arith, h.count); each = λ k. h.each (suc k) }))
one_by_one-image Holds f xs ys as_stated h = absurd (omega (arith, h.count))

-- what is at a place of an image
pub one_mapped : {X Y : Type 0} (g : X → Y) (xs : List X) (ys : List Y) → ys ≡ map g xs → (k : ℕ) (x : X) (y : Y) → slice_get xs k ≡ Some x → slice_get ys k ≡ Some y → y ≡ g x
one_mapped {X} {Y} g xs ys same k x y at there = same_some (sym there ∙ ap (λ (l : List Y). slice_get l k) same ∙ slice_get-map g xs k ∙ ap (option_map g) at)

abbrev param : List ℕ → Ty → Span → Param
param name ty span = record { name = name; ty = ty; span = span }

abbrev function : List ℕ → FunctionKind → List Param → Option Ty → Docs → Stability → Span → Option (List ℕ) → Function
function name kind params result docs stability span id = record { name = name; kind = kind; params = params; result = result; docs = docs; stability = stability; span = span; external_id = id }

-- what a parameter of the package says apart from its type, and what the written one does
abbrev pub said : Param → List ℕ × Span
said p = (p.name, p.span)

abbrev pub as_written : SourceParam → List ℕ × Span
as_written w = (w.name, w.span)

module _ (id : Key → ℕ) (s : Address) where
  abbrev pub type_in : Shape → Ty
  type_in x = type_of id (expr_of s x)

  abbrev param_in : SourceParam → Param
  param_in x = param x.name (type_in x.shape) x.span

  listed : (o : Option Shape) → option_to_list (option_map type_in o) ≡ map type_in (option_to_list o)
  listed None = refl
  listed (Some x) = refl

  -- the types of a function are those of its signature
  pub types_in : (fn : SourceFunction) → function_types (function_in id s fn) ≡ map type_in (signature fn)
  types_in fn =
      let shapes = map (λ (x : SourceParam). x.shape) (all_params fn) in
      ap (λ (l : List Ty). l ++ option_to_list (option_map type_in fn.result)) (map_map (λ (p : Param). p.ty) param_in (all_params fn) ∙ sym (map_map type_in (λ (x : SourceParam). x.shape) (all_params fn)))
      ∙ ap (λ (l : List Ty). map type_in shapes ++ l) (listed fn.result)
      ∙ sym (map-append type_in shapes (option_to_list fn.result))

  pub types_gathered : (xs : List Shape) → types_of id (exprs_of s (gathered xs)) ≡ map type_in xs
  types_gathered [] = refl
  types_gathered (x ∷ xs) = ap (λ (l : List Ty). type_in x ∷ l) (types_gathered xs)

  -- parameters and a result are given by what they say and by their types
  parts_same : (ws : List SourceParam) (ps : List Param) (x : Option Shape) (t : Option Ty) → map said ps ≡ map as_written ws → map (λ (p : Param). p.ty) ps ++ option_to_list t ≡ map type_in (map (λ (w : SourceParam). w.shape) ws ++ option_to_list x) → (ps ≡ map param_in ws) × (t ≡ option_map type_in x)
  parts_same [] [] None None alike typed = (refl, refl)
  parts_same [] [] (Some x) (Some t) alike typed = (refl, (let same : t ≡ type_in x = cc in ap Some same))
  parts_same (w ∷ ws) (p ∷ ps) x t alike typed =
      let rest = parts_same ws ps x t (cc) (cc) in
      let head : said p ≡ as_written w = cc in
      let ty : p.ty ≡ type_in w.shape = cc in
      let name : p.name ≡ w.name = ap (λ (n : List ℕ × Span). n.0) head in
      let span : p.span ≡ w.span = ap (λ (n : List ℕ × Span). n.1) head in
      let same : param p.name p.ty p.span ≡ param_in w = cc (name, ty, span) in
      (ap (λ (q : Param). q ∷ ps) same ∙ ap (λ (l : List Param). param_in w ∷ l) rest.0, rest.1)
  parts_same ws ps x t alike typed = absurd (let f : ⊥ = cc in f)

  -- and so is a function
  pub function_same : (fn : SourceFunction) (f : Function) → f.name ≡ fn.name → f.kind ≡ role_kind (λ (of : Id). id (Def s of.name.now)) fn.role → map said f.params ≡ map as_written (all_params fn) → function_types f ≡ map type_in (signature fn) → f.span ≡ fn.span → AreMetadata (metadata (docs_of fn.docs) fn.attributes) f.docs f.stability f.external_id → f ≡ function_in id s fn
  function_same fn f name kind alike typed span noted =
      let both = parts_same (all_params fn) f.params fn.result f.result alike typed in
      let same : function f.name f.kind f.params f.result f.docs f.stability f.span f.external_id ≡ function_in id s fn = cc (name, kind, both.0, both.1, noted.docs, noted.stability, span, noted.external_id) in
      same

-- over the places of these keys, this is a function of a scope
abbrev pub IsFunction : List Key → Address → SourceFunction → Function → Type 0
IsFunction ks s written f = (id : Key → ℕ) → GivesPlaces id ks → f ≡ function_in id s written

-- types are at the places of shapes, one for each
abbrev pub AreTyped : List Key → Address → List Shape → List Ty → Type 0
AreTyped ks s xs ts = OneByOne (λ (x : Shape) (t : Ty). IsAt ks (expr_of s x) t) xs ts

module _ (ks : List Key) (s : Address) where
  -- functions are the written ones exactly where each is
  module _ (fns : List SourceFunction) (fs : List Function) where
    pub function_of : AreFunctions ks s fns fs → (k : ℕ) (fn : SourceFunction) (f : Function) → slice_get fns k ≡ Some fn → slice_get fs k ≡ Some f → IsFunction ks s fn f
    function_of are k fn f at there = λ id gives. one_mapped (function_in id s) fns fs (are id gives) k fn f at there

    pub functions_by : length fs ≡ length fns → ((k : ℕ) (fn : SourceFunction) (f : Function) → slice_get fns k ≡ Some fn → slice_get fs k ≡ Some f → IsFunction ks s fn f) → AreFunctions ks s fns fs
    functions_by count each = λ id gives. one_by_one-image (IsFunction ks s) (function_in id s) fns fs (λ k fn f at is. is id gives) (record { count = count; each = each })

  module _ (differ : AllDiffer ks) where
    pub made_count : (fns : List SourceFunction) (fs : List Function) → AreFunctions ks s fns fs → length fs ≡ length fns
    made_count fns fs are = ap length (are (place_in ks 0) (gives_in ks 0 differ)) ∙ length-map fns (function_in (place_in ks 0) s)

    module _ (fn : SourceFunction) (f : Function) (is : IsFunction ks s fn f) where
      pub made_name : f.name ≡ fn.name
      made_name = ap (λ (g : Function). g.name) (is (place_in ks 0) (gives_in ks 0 differ))

      types_over : (far : ℕ) → function_types f ≡ map (type_in (place_in ks far) s) (signature fn)
      types_over far = ap function_types (is (place_in ks far) (gives_in ks far differ)) ∙ types_in (place_in ks far) s fn

      -- the types of a function are at the places of its signature
      pub function_typed : AreTyped ks s (signature fn) (function_types f)
      function_typed = record {
        count = ap length (types_over 0) ∙ length-map (signature fn) (type_in (place_in ks 0) s);
        each = λ k x t at there. at_places ks (expr_of s x) t (one_mapped (type_in (place_in ks 0) s) (signature fn) (function_types f) (types_over 0) k x t at there) (one_mapped (type_in (place_in ks 1) s) (signature fn) (function_types f) (types_over 1) k x t at there);
      }

-- these are the names of a scope in turn, and they mean their places
pub record HasTypes (ks : List Key) (t : Turned) (types : List (List ℕ × ℕ)) : Type 0 where
  pub names : map (λ n. n.0) types ≡ map local_name t.names
  pub places : (k : ℕ) (name : List ℕ) (id : ℕ) → slice_get types k ≡ Some (name, id) → slice_get ks id ≡ Some (Def t.address name)

-- so it is of names that mean their places, each once
pub types_named : (ks : List Key) (s : Address) (xs : List ScopeName) (fns : List SourceFunction) (types : List (List ℕ × ℕ)) → AreDistinct xs → map (λ n. n.0) types ≡ map local_name xs → AreNames ks s (env_of types) → HasTypes ks (record { address = s; names = xs; functions = fns }) types
types_named ks s xs fns types distinct listed present = record {
  names = listed;
  places = λ k name id kat. present.present name id (lookup-at types k name id (λ a b n ata atb. (
      let x = map_at local_name xs a n (ap (λ (l : List (List ℕ)). slice_get l a) (sym listed) ∙ ata) in
      let y = map_at local_name xs b n (ap (λ (l : List (List ℕ)). slice_get l b) (sym listed) ∙ atb) in
      differ_at local_name xs distinct a b x.0 y.0 x.1 y.1 (x.2 ∙ sym y.2))) kat);
}

-- names that are so over the places of these keys, whatever others may be, mean their places
pub types_present : (ks : List Key) → AllDiffer ks → (t : Turned) (types : List (List ℕ × ℕ)) → ((id : Key → ℕ) → GivesPlaces id ks → types ≡ name_places id t.address t.names) → HasTypes ks t types
types_present ks differ t types is = record {
  names = ap (map (λ (n : List ℕ × ℕ). n.0)) (over 0) ∙ map_map (λ (n : List ℕ × ℕ). n.0) (λ (x : ScopeName). (local_name x, place_in ks 0 (Def t.address (local_name x)))) t.names;
  places = λ k name i at. (
      let key = Def t.address name in
      ap (slice_get ks) (sym (here k name i at 0)) ∙ place_seen ks key (here k name i at 0 ∙ sym (here k name i at 1)));
}
  where
    over : (far : ℕ) → types ≡ name_places (place_in ks far) t.address t.names
    over far = is (place_in ks far) (gives_in ks far differ)

    here : (k : ℕ) (name : List ℕ) (i : ℕ) → slice_get types k ≡ Some (name, i) → (far : ℕ) → place_in ks far (Def t.address name) ≡ i
    here k name i at far =
        let x = map_at (λ (x : ScopeName). (local_name x, place_in ks far (Def t.address (local_name x)))) t.names k (name, i) (ap (λ (l : List (List ℕ × ℕ)). slice_get l k) (sym (over far)) ∙ at) in
        ap (λ (n : List ℕ). place_in ks far (Def t.address n)) (sym (ap (λ (n : List ℕ × ℕ). n.0) x.2)) ∙ ap (λ (n : List ℕ × ℕ). n.1) x.2

-- an interface of another package, where a path first leads to it, with the names that are used from it
abbrev pub IsForeignInterface : List PackageFile → List Key → ForeignVisit → Interface → Type 0
IsForeignInterface files ks v i = (i ≡ interface None i.types i.functions (metadata no_docs []) v.id.span) × HasTypes ks (record { address = visited v; names = scope files (visited v); functions = [] }) i.types × (i.functions ≡ [])

module _ (id : Key → ℕ) (ks : List Key) (gives : GivesPlaces id ks) where
  places_stated : (s : Address) (xs : List ScopeName) (types : List (List ℕ × ℕ)) → map (λ n. n.0) types ≡ map local_name xs → ((k : ℕ) (name : List ℕ) (i : ℕ) → slice_get types k ≡ Some (name, i) → slice_get ks i ≡ Some (Def s name)) → types ≡ name_places id s xs
  places_stated s (x ∷ xs) ((name, i) ∷ ts) names at = cc (gives.at i (Def s name) (at 0 name i refl), places_stated s xs ts (cc) (λ k. at (suc k)))
  places_stated s [] [] names at = refl
  places_stated s xs ts names at = cc

  pub types-places : (t : Turned) (types : List (List ℕ × ℕ)) → HasTypes ks t types → types ≡ name_places id t.address t.names
  types-places t types h = places_stated t.address t.names types h.names h.places

  -- names of a scope that mean their places, each once
  pub names_placed : (s : Address) (xs : List ScopeName) (types : List (List ℕ × ℕ)) → AreDistinct xs → map (λ n. n.0) types ≡ map local_name xs → AreNames ks s (env_of types) → types ≡ name_places id s xs
  names_placed s xs types distinct listed present = types-places (record { address = s; names = xs; functions = [] }) types (types_named ks s xs [] types distinct listed present)
