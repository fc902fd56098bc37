-- What follows for a package whose scopes are done.
use Rattle.std.proofs.Common.{◌≡◌, ◌↔◌, ◌<◌, ℕ, List, [], ◌∷◌, length, map, take, Option, Some, None, ◌⊎◌, Contains, arith, inl, inr, refl, sym, ap, ◌∙◌, subst}
use Rattle.wit_arena.proofs.Names.{Address, AllDiffer, Decls, Def, Expr, Exprs, Form, Function, FunctionKey, HasType, IsAnonymousForm, IsAt, IsBelow, IsEntry, IsFaithful, IsRoot, Key, Names, Occurrence, OfFunction, OfName, PackageFile, Place, ScopeName, Shape, SourceFunction, TypeDef, TypeOwner, UnknownForm, UnresolvedPackage, Whole, Word, about_name, at_contains, at_within, contains_at, differ_at, expr_of, first_foreign_uses, function_key, function_types, functions_at, functions_of, keys, kind_of, local_id, local_name, lookup-place, named_node, names_of, node_parts, owner_of, role_side, scope, signature, slice_get, slice_get_within, unwrap_or}
use Rattle.wit_types.specs.declared.types.«Type».{«Type» as Ty}
use Rattle.wit_types.specs.declared.types.«Type».TheVariants.{Id}
use Rattle.wit_arena.proofs.Resolving.{keyed_in, type_of, DoneScope, IsWholeOf, IsInSignatureOf, IsPresent}
use Rattle.wit_arena.proofs.PlacingFunctions.{IsFunction, function_of, function_typed, made_count, made_name}
use Rattle.wit_arena.proofs.OneKind.{Extended, at_injective, at_functional, same_some}
use Rattle.wit_arena.proofs.Occurrence.{Has, collects_from}
use Rattle.wit_arena.proofs.Parts.{all_parts}
use Rattle.wit_arena.proofs.Shape.{key_of, backward, interned}
use Rattle.wit_arena.proofs.Forms.{seen_anonymous, name_anonymous, signature_anonymous}
use Rattle.wit_arena.proofs.Depth.{IsScope, same_tree}
use Rattle.wit_arena.proofs.Positions.{type_parts, means, below_at, leads, all_lead}
use Rattle.wit_arena.proofs.PackageIfDone.{has_types, function_at, named_at, entry_of, owner_at_name, parts_at}
use Rattle.wit_arena.proofs.ForeignUses.{foreign_use_key}
use Rattle.wit_arena.proofs.Unknowns.{unknown_prefix}

-- an owner is that of one of these scopes
pub record IsOwnerOf (cs : List DoneScope) (o : TypeOwner) (s : Address) : Type 0 where
  pub place : ℕ
  pub resolved_scope : DoneScope
  pub at : slice_get cs place ≡ Some resolved_scope
  pub whose : resolved_scope.owner ≡ o
  pub scope : resolved_scope.address ≡ s

-- the owners of a package are those of these scopes, and have their names and their functions
pub record AreOwners (p : UnresolvedPackage) (cs : List DoneScope) : Type 0 where
  pub called : (t : ℕ) (c : DoneScope) → slice_get cs t ≡ Some c → owner_of p c.owner ≡ Some c.address
  pub names : (t : ℕ) (c : DoneScope) → slice_get cs t ≡ Some c → names_of p c.owner ≡ c.types
  pub functions : (t : ℕ) (c : DoneScope) → slice_get cs t ≡ Some c → functions_of p c.owner ≡ c.stated
  pub all : (o : TypeOwner) (s : Address) → owner_of p o ≡ Some s → IsOwnerOf cs o s

module _ (files : List PackageFile) (decls : Decls) (written : List Occurrence) (cs : List DoneScope) (p : UnresolvedPackage) (d : IsPresent files decls written cs p.types) (owners : AreOwners p cs) (wholes : (form : Form) (parts : Exprs) → Has (keys written) (Whole form parts) → IsWholeOf cs form parts ⊎ IsInSignatureOf cs form parts) where
  abbrev ks : List Key
  ks = keys d.seen

  whole_key : (j : ℕ) (k : Key) (e : TypeDef) → IsEntry decls (take j ks) k e → e.name ≡ None → (parts : Exprs) × (k ≡ Whole (kind_of e.kind).0 parts)
  whole_key j (Def s name) e it none = absurd (let named = it.4 in let f : ⊥ = cc in f)
  whole_key j (Whole form parts) e it none = (parts, ap (λ (f : Form). Whole f parts) (sym it.2))

  named_key : (j : ℕ) (k : Key) (e : TypeDef) (name : List ℕ) → IsEntry decls (take j ks) k e → e.name ≡ Some name → (s : Address) × (k ≡ Def s name)
  named_key j (Def s called) e name it some = (s, ap (Def s) (same_some (sym it.4 ∙ some)))
  named_key j (Whole form parts) e name it some = absurd (let none = it.0 in let f : ⊥ = cc in f)

  was_seen : (j : ℕ) (form : Form) (parts : Exprs) → slice_get ks j ≡ Some (Whole form parts) → Has (keys written) (Whole form parts)
  was_seen j form parts at = elim (collects_from written [] d.seen d.collects j (Whole form parts) at) [
    | inl none ↦ absurd (let wrong = none.1 in let f : ⊥ = cc in f)
    | inr listed ↦ listed
  ]

  -- an unnamed entry is that of an unnamed type, which is in a name of a scope or in a function
  whole_at : (j : ℕ) (e : TypeDef) → slice_get p.types j ≡ Some e → e.name ≡ None → (parts : Exprs) × (slice_get ks j ≡ Some (Whole (kind_of e.kind).0 parts)) × (IsWholeOf cs (kind_of e.kind).0 parts ⊎ IsInSignatureOf cs (kind_of e.kind).0 parts)
  whole_at j e at none =
      let k = key_of decls ks p.types (keyed_in d) j e at in
      let w = whole_key j k.0 e ((keyed_in d).each j k.0 e k.1 at) none in
      let there : slice_get ks j ≡ Some (Whole (kind_of e.kind).0 w.0) = k.1 ∙ ap Some w.1 in
      (w.0, there, wholes (kind_of e.kind).0 w.0 (was_seen j (kind_of e.kind).0 w.0 there))

  -- the function of a scope that one of the package is
  at_made : (t : ℕ) (c : DoneScope) → slice_get cs t ≡ Some c → (k : ℕ) (f : Function) → slice_get c.made k ≡ Some f → (j : ℕ) × (fn : SourceFunction) × (slice_get c.functions j ≡ Some fn) × (j ≡ k) × IsFunction ks c.address fn f
  at_made t c at k f made =
      let are = d.made t c at in
      let lt = slice_get_within c.made k f made in
      let count = made_count ks c.address d.occurrence.once c.functions c.made are in
      let fn = at_within c.functions k (omega arith) in
      (k, fn.0, fn.1, refl, function_of ks c.address c.functions c.made are k fn.0 f fn.1 made)

  formed : (j : ℕ) (e : TypeDef) → slice_get p.types j ≡ Some e → e.name ≡ None → IsAnonymousForm (kind_of e.kind).0
  formed j e at none =
      let it = whole_at j e at none in
      elim it.2 [
        | inl w ↦ name_anonymous w.resolved_scope.address w.x (kind_of e.kind).0 it.0 w.has
        | inr w ↦ (
            let c = w.resolved_scope in
            let there = ap (λ (l : List SourceFunction). slice_get l w.inside.index) (sym (d.each w.place c w.at).functions) ∙ w.inside.among in
            seen_anonymous c.address w.inside.shape (kind_of e.kind).0 it.0 (signature_anonymous files c.address w.inside.index w.inside.fn there w.inside.position w.inside.shape w.inside.written) w.inside.has)
      ]

  -- a function of a scope is under its side and name among those of its owner
  stated_at : (t : ℕ) (c : DoneScope) (k : ℕ) (fn : SourceFunction) (f : Function) → slice_get cs t ≡ Some c → slice_get c.functions k ≡ Some fn → slice_get c.made k ≡ Some f → IsFunction ks c.address fn f → Contains (functions_of p c.owner) (function_key fn, f)
  stated_at t c k fn f at fat made is =
      let place = (d.each t c at).stated.has k fn f fat made in
      contains_at (functions_of p c.owner) place.0 (function_key fn, f) (ap (λ (l : List (FunctionKey × Function)). slice_get l place.0) (owners.functions t c at) ∙ place.1 ∙ ap (λ (n : List ℕ). Some ((role_side fn.role, n), f)) (made_name ks c.address d.occurrence.once fn f is))

  -- what a name of a scope is written with is below it
  reached_from : (j : ℕ) (form : Form) (parts : Exprs) → slice_get ks j ≡ Some (Whole form parts) → IsWholeOf cs form parts → (x : Place) × HasType files p x (Id j)
  reached_from j form parts there w =
      let c = w.resolved_scope in
      let s = c.address in
      let x = w.x in
      let id = named_at files decls written cs p.types d w.place c w.index x w.at w.among in
      let q = (d.each w.place c w.at).turn.among w.index x w.among in
      let top = entry_of files decls written cs p.types d id.0 s (local_name x) id.2 in
      let inner = parts_at files decls written cs p.types d w.place c q.0 x id.0 top.0 w.at q.1 id.2 top.1 in
      let one = all_lead files decls written cs p d (unwrap_or (about_name x).from s) (about_name x).body.parts (kind_of top.0.kind).1 j form parts inner there w.has in
      let found = ap (λ (o : Option ScopeName). node_parts (named_node s o)) (means files decls written cs p d w.place c w.index x (local_name x) w.at w.among refl) in (
        one.leads.inner,
        record {
          top = (s, Word (local_id x));
          whole = Id id.0;
          root = OfName c.owner x id.0 (owners.called w.place c w.at) (contains_at (scope files s) q.0 x q.1) (contains_at (names_of p c.owner) w.index (local_name x, id.0) (ap (λ (l : Names). slice_get l w.index) (owners.names w.place c w.at) ∙ id.1)) refl refl;
          path = one.number ∷ one.leads.path;
          below = (one.x, ap (λ (l : List Place). slice_get l one.number) found ∙ one.source, one.leads.below);
          is = (one.t, ap (λ (l : List Ty). slice_get l one.number) (type_parts p id.0 top.0 top.1) ∙ one.present, one.leads.is);
        },
      )

  -- and what a function is written with, below a type of it
  reached_by : (j : ℕ) (form : Form) (parts : Exprs) → slice_get ks j ≡ Some (Whole form parts) → IsInSignatureOf cs form parts → (x : Place) × HasType files p x (Id j)
  reached_by j form parts there w =
      let c = w.resolved_scope in
      let i = w.inside in
      let f = function_at files decls written cs p.types d w.place c i.index i.fn w.at i.among in
      let typed = function_typed ks c.address d.occurrence.once i.fn f.0 f.2 in
      let ty = type_of typed i.position i.shape i.written in
      let lead = leads files decls written cs p d c.address i.shape ty.0 j form parts (typed.each i.position i.shape ty.0 i.written ty.1) there i.has in
      let among : Contains (functions_at files c.address) i.fn = contains_at (functions_at files c.address) i.index i.fn (ap (λ (l : List SourceFunction). slice_get l i.index) (sym (d.each w.place c w.at).functions) ∙ i.among) in (
        lead.inner,
        record {
          top = (c.address, i.shape);
          whole = ty.0;
          root = OfFunction c.owner i.fn f.0 i.position (owners.called w.place c w.at) among (stated_at w.place c i.index i.fn f.0 w.at i.among f.1 f.2) i.written ty.1;
          path = lead.path;
          below = lead.below;
          is = lead.is;
        },
      )

  covered : (j : ℕ) (e : TypeDef) → slice_get p.types j ≡ Some e → e.name ≡ None → (x : Place) × HasType files p x (Id j)
  covered j e at none =
      let it = whole_at j e at none in
      elim it.2 [
        | inl w ↦ reached_from j (kind_of e.kind).0 it.0 it.1 w
        | inr w ↦ reached_by j (kind_of e.kind).0 it.0 it.1 w
      ]

  -- a name of a scope is under its name among those of its owner
  owned : (j : ℕ) (e : TypeDef) (name : List ℕ) (t : ℕ) (c : DoneScope) → slice_get cs t ≡ Some c → slice_get ks j ≡ Some (Def c.address name) → slice_get p.types j ≡ Some e → Contains (names_of p e.owner) (name, j)
  owned j e name t c at here there =
      let are_present = d.are_present t c at in
      let env = are_present.has j name here in
      let same : env.0 ≡ j = d.occurrence.once.differ env.0 j (Def c.address name) (are_present.present name env.0 env.1) here in
      let place = lookup-place c.types name env.0 env.1 in
      let own = owner_at_name files decls written cs p.types d t c j name e at here there in
      contains_at (names_of p e.owner) place.0 (name, j) (ap (λ (l : Names). slice_get l place.0) (ap (names_of p) own ∙ owners.names t c at) ∙ place.1 ∙ ap (λ (x : ℕ). Some (name, x)) same)

  named : (j : ℕ) (e : TypeDef) (name : List ℕ) → slice_get p.types j ≡ Some e → e.name ≡ Some name → Contains (names_of p e.owner) (name, j)
  named j e name at some =
      let k = key_of decls ks p.types (keyed_in d) j e at in
      let it = named_key j k.0 e name ((keyed_in d).each j k.0 e k.1 at) some in
      let here : slice_get ks j ≡ Some (Def it.0 name) = k.1 ∙ ap Some it.1 in
      let of = d.before j it.0 name here in
      owned j e name of.place of.resolved_scope of.at (here ∙ ap (λ (s : Address). Some (Def s name)) (sym of.scope)) at

  -- the scope of a name that occurred is known
  scopes : (j : ℕ) (s : Address) (name : List ℕ) → slice_get ks j ≡ Some (Def s name) → IsScope files decls p s
  scopes j s name here =
      let it = d.before j s name here in
      subst (λ (z : Address). IsScope files decls p z) it.scope (record {
        distinct = (d.each it.place it.resolved_scope it.at).turn.distinct;
        whose = it.resolved_scope.owner;
        own = d.own it.place it.resolved_scope it.at;
        called = owners.called it.place it.resolved_scope it.at;
      })

  -- each name of a scope is one of its owner
  name_present : (o : TypeOwner) (s : Address) (x : ScopeName) → owner_of p o ≡ Some s → Contains (scope files s) x → (id : ℕ) × Contains (names_of p o) (local_name x, id)
  name_present o s x called among =
      let w = owners.all o s called in
      let k = at_contains (scope files s) x among in
      let q = (d.each w.place w.resolved_scope w.at).turn.has k.0 x (ap (λ (z : Address). slice_get (scope files z) k.0) w.scope ∙ k.1) in
      let id = named_at files decls written cs p.types d w.place w.resolved_scope q.0 x w.at q.1 in
      (id.0, contains_at (names_of p o) q.0 (local_name x, id.0) (ap (λ (l : Names). slice_get l q.0) (ap (names_of p) (sym w.whose) ∙ owners.names w.place w.resolved_scope w.at) ∙ id.1))

  -- the place of a function of a scope
  function_place : (s : Address) (fn : SourceFunction) (t : ℕ) (c : DoneScope) → slice_get cs t ≡ Some c → c.address ≡ s → Contains (functions_at files s) fn → (k : ℕ) × (slice_get c.functions k ≡ Some fn)
  function_place s fn t c at same among =
      let k = at_contains (functions_at files s) fn among in
      (k.0, ap (λ (l : List SourceFunction). slice_get l k.0) (d.each t c at).functions ∙ ap (λ (z : Address). slice_get (functions_at files z) k.0) same ∙ k.1)

  -- so is each function, with a type for each of its own
  function_present : (o : TypeOwner) (s : Address) (fn : SourceFunction) → owner_of p o ≡ Some s → Contains (functions_at files s) fn → (f : Function) × Contains (functions_of p o) (function_key fn, f) × (length (function_types f) ≡ length (signature fn))
  function_present o s fn called among =
      let w = owners.all o s called in
      let k = function_place s fn w.place w.resolved_scope w.at w.scope among in
      let f = function_at files decls written cs p.types d w.place w.resolved_scope k.0 fn w.at k.1 in
      let stated = stated_at w.place w.resolved_scope k.0 fn f.0 w.at k.1 f.1 f.2 in
      (f.0, subst (λ (z : TypeOwner). Contains (functions_of p z) (function_key fn, f.0)) w.whose stated, (function_typed ks w.resolved_scope.address d.occurrence.once fn f.0 f.2).count)

  -- a name of an owner means the place where it occurred
  pub name_at : (o : TypeOwner) (s : Address) (k : ℕ) (name : List ℕ) (id : ℕ) → owner_of p o ≡ Some s → slice_get (names_of p o) k ≡ Some (name, id) → slice_get ks id ≡ Some (Def s name)
  name_at o s k name id called at =
      let w = owners.all o s called in
      let types : names_of p o ≡ w.resolved_scope.types = ap (names_of p) (sym w.whose) ∙ owners.names w.place w.resolved_scope w.at in
      let there = (has_types files decls written cs p.types d w.place w.resolved_scope w.at).places k name id (ap (λ (l : Names). slice_get l k) (sym types) ∙ at) in
      subst (λ (z : Address). slice_get ks id ≡ Some (Def z name)) w.scope there

  -- where no two functions of a scope go by one side and name
  module _ (apart : (t : ℕ) (c : DoneScope) → slice_get cs t ≡ Some c → AllDiffer (map function_key c.functions)) where
    -- the function of an owner that goes by the key of one of its scope is that one
    function_is : (o : TypeOwner) (s : Address) (fn : SourceFunction) (f : Function) → owner_of p o ≡ Some s → Contains (functions_at files s) fn → Contains (functions_of p o) (function_key fn, f) → IsFunction ks s fn f
    function_is o s fn f called among present =
        let w = owners.all o s called in
        let c = w.resolved_scope in
        let k = function_place s fn w.place c w.at w.scope among in
        let there = at_contains (functions_of p o) (function_key fn, f) present in
        let made = (d.each w.place c w.at).stated.from there.0 (function_key fn) f (ap (λ (l : List (FunctionKey × Function)). slice_get l there.0) (sym (ap (functions_of p) (sym w.whose) ∙ owners.functions w.place w.resolved_scope w.at)) ∙ there.1) in
        let index = at_made w.place c w.at made.0 f made.1 in
        let key : function_key index.1 ≡ function_key fn = ap (λ (n : List ℕ). (role_side index.1.role, n)) (sym (made_name ks c.address d.occurrence.once index.1 f index.4)) ∙ made.2 index.1 (ap (slice_get c.functions) (sym index.3) ∙ index.2) in
        let place = differ_at function_key c.functions (apart w.place c w.at) index.0 k.0 index.1 fn index.2 k.1 key in
        let one = same_some (sym index.2 ∙ ap (slice_get c.functions) place ∙ k.1) in
        subst (λ (z : Address). IsFunction ks z fn f) w.scope (subst (λ (g : SourceFunction). IsFunction ks c.address g f) one index.4)

    -- the type of a root
    root_at : (s : Address) (x : Shape) (ty : Ty) → IsRoot files p s x ty → IsAt ks (expr_of s x) ty
    root_at s x ty (OfName o n id called among present written is) =
        let k = at_contains (names_of p o) (local_name n, id) present in
        subst (λ (z : Shape). IsAt ks (expr_of s z) ty) (sym written) (id, is, name_at o s k.0 (local_name n) id called k.1)
    root_at s x ty (OfFunction o fn f k called among present written is) = (function_typed ks s d.occurrence.once fn f (function_is o s fn f called among present)).each k x ty written is

    pub type_at : (x : Place) (ty : Ty) → HasType files p x ty → IsAt ks (expr_of x.0 x.1) ty
    type_at x ty h = below_at files decls written cs p d h.path h.top x h.whole ty (root_at h.top.0 h.top.1 h.whole h.root) h.below h.is

    -- where what is taken occurred first, and the package says where it is used
    module _ (first : Extended (map foreign_use_key (first_foreign_uses files)) ks) (count : length p.unknown_type_spans ≡ length (first_foreign_uses files)) where
      prefix : (i : ℕ) (e : TypeDef) → slice_get p.types i ≡ Some e → ((kind_of e.kind).0 ≡ UnknownForm) ↔ (i < length p.unknown_type_spans)
      prefix i e at = subst (λ (n : ℕ). ((kind_of e.kind).0 ≡ UnknownForm) ↔ (i < n)) (sym count) (unknown_prefix files decls written cs p.types d first formed i e at)

      pub faithful : IsFaithful files p
      faithful = record {
        backward = λ i e at. all_parts (IsBelow i) (kind_of e.kind).1 (λ part has. backward decls ks p.types (keyed_in d) i e part (record { is = at }) has);
        interned = λ i j e f ati atj. interned decls ks p.types (keyed_in d) i j e f (record { is = ati }) (record { is = atj });
        formed = formed;
        prefix = prefix;
        named = named;
        covered = covered;
        names = name_present;
        functions = function_present;
        same = λ x y t u h k. (λ same. at_injective ks (expr_of x.0 x.1) (expr_of y.0 y.1) u (subst (IsAt ks (expr_of x.0 x.1)) same (type_at x t h)) (type_at y u k), λ same. at_functional ks d.occurrence.once (expr_of y.0 y.1) t u (subst (λ (z : Expr). IsAt ks z t) same (type_at x t h)) (type_at y u k));
        trees = λ x t n h. same_tree files decls ks p (keyed_in d) scopes n x.0 x.1 t (type_at x t h);
      }
