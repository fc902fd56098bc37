-- The functions of a package that files make have the marks of their kinds in their names.
use Rattle.std.proofs.Common.{◌≡◌, ℕ, zero, suc, List, [], ◌∷◌, ◌++◌, map, Option, Some, None, inl, inr, refl, ap, subst, ◌==◌, sym, ◌∙◌}
use Rattle.wit_items.proofs.Common.{Address, Def, Docs, Exported, Function, FunctionKey, HasMarkOf, Imported, Interface, Key, Link, Makes, PackageFile, SourceFunction, Span, Stability, TypeOwner, UnresolvedPackage, World, WorldKey, WorldSide, address, at_split, flat_map, flat_map_at, foreign_interface, foreign_interfaces, foreign_world, foreign_worlds, function_in, functions, functions_of, interface_functions, interface_scopes, item_functions, item_link, keyed, link_item, map_at, mark_of, names_in_turn, option_map_or, own_interface, own_interfaces, own_world, path_scope, scope_place, side_items, slice_get, world_functions, world_scopes, worlds_of, DefinitionPart, ExternPart, FuncForm, FunctionPart, HasMark, Id, Part, ResourceFunc, TypeBody, accessor, codes, definition_functions, extern_at, freestanding_kind, list_any, list_any-append, method_kind, or_left, or_right, part_functions, resource_function, role_kind, same_some, static_kind, part_of_function}
use Rattle.wit_arena.proofs.Common.{Item}
use Rattle.wit_parser.proofs.EachMade.{Each, Entry, exports_each, imports_each, members_each}
use Rattle.wit_parser.proofs.Images.{images_at}
use Rattle.wit_parser.specs.Marks.{HaveMarks}
use Rattle.wit_types.specs.declared.types.TypeOwner.TheVariants as owner
use Rattle.wit_model.specs.declared.world.WorldItem.TheVariants as item
use Rattle.wit_model.specs.declared.world.WorldKey.TheVariants as key
use Rattle.wit_type_tree.specs.declared.types.FuncForm.TheVariants as form
use Rattle.wit_type_tree.specs.declared.types.TypeBody.TheVariants as body
use Rattle.wit_type_tree.specs.declared.types.ResourceFunc.TheVariants as resource

-- A written function has the mark of its role in its name.
-- a mark in one of two texts is in both together
mark_before : (mark : ℕ) (text more : List ℕ) → HasMark mark text → HasMark mark (text ++ more)
mark_before mark text more has = list_any-append (λ b. b == mark) text more ∙ or_left (list_any (λ b. b == mark) text) (list_any (λ b. b == mark) more) has

mark_after : (mark : ℕ) (prefix text : List ℕ) → HasMark mark text → HasMark mark (prefix ++ text)
mark_after mark prefix text has = list_any-append (λ b. b == mark) prefix text ∙ or_right (list_any (λ b. b == mark) prefix) (list_any (λ b. b == mark) text) has

-- the name of a resource's function has a dot
dot_named : (prefix back : List ℕ) (r f : Id) → HasMark 46 (prefix ++ (back ++ (r.name.now ++ codes "." ++ f.name.now)))
dot_named prefix back r f = mark_after 46 prefix (back ++ (r.name.now ++ codes "." ++ f.name.now)) (mark_after 46 back (r.name.now ++ codes "." ++ f.name.now) (mark_before 46 (r.name.now ++ codes ".") f.name.now (mark_after 46 r.name.now (codes ".") refl)))

method_mark : (form : FuncForm) (r : ℕ) → mark_of (method_kind form r) ≡ Some 46
method_mark form.Plain r = refl
method_mark _ r = refl

static_mark : (form : FuncForm) (r : ℕ) → mark_of (static_kind form r) ≡ Some 46
static_mark form.Plain r = refl
static_mark _ r = refl

free_mark : (form : FuncForm) (name : List ℕ) → HasMarkOf (mark_of (freestanding_kind form)) (accessor form ++ name)
free_mark form.Getter name = refl
free_mark form.Setter name = refl
free_mark _ name = tt

-- its name has the mark of the kind that its role makes
abbrev pub IsMarked : SourceFunction → Type 0
IsMarked fn = (place : Id → ℕ) → HasMarkOf (mark_of (role_kind place fn.role)) fn.name

resource_marked : (r : Id) (g : ResourceFunc) → IsMarked (resource_function r g)
resource_marked r (resource.Method f) place = subst (λ (o : Option ℕ). HasMarkOf o (resource_function r (resource.Method f)).name) (sym (method_mark f.func.form (place r))) (dot_named (codes "[method]") (accessor f.func.form) r f.name)
resource_marked r (resource.Static f) place = subst (λ (o : Option ℕ). HasMarkOf o (resource_function r (resource.Static f)).name) (sym (static_mark f.func.form (place r))) (dot_named (codes "[static]") (accessor f.func.form) r f.name)
resource_marked r (resource.Constructor docs attributes span params result) place = tt

definition_marked : (r : Id) (b : TypeBody) (k : ℕ) (fn : SourceFunction) → slice_get (definition_functions r b) k ≡ Some fn → IsMarked fn
definition_marked r (body.Resource funcs) k fn at = (let g = map_at (resource_function r) funcs.items k fn at in subst IsMarked g.2 (resource_marked r g.0))
definition_marked r _ k fn at = absurd (let f : ⊥ = cc in f)

part_marked : (p : Part) (k : ℕ) (fn : SourceFunction) → slice_get (part_functions p) k ≡ Some fn → IsMarked fn
part_marked (DefinitionPart d) k fn at = definition_marked d.name d.body k fn at
part_marked (ExternPart x) k fn at = (let it = extern_at x x.kind k fn at in subst IsMarked it.2 (λ place. free_mark it.1.form it.0.name.now))
part_marked (FunctionPart g) zero fn at = subst IsMarked (same_some at) (λ place. free_mark g.func.form g.name.name.now)
part_marked _ k fn at = absurd (let f : ⊥ = cc in f)

-- so it is with the functions of an item
pub written_marked : (i : Item) (k : ℕ) (fn : SourceFunction) → slice_get (functions i) k ≡ Some fn → IsMarked fn
written_marked i k fn at =
    let it = part_of_function i k fn at in
    part_marked it.1 it.3.0 fn it.3.1

abbrev IsMarkedFunction : Function → Type 0
IsMarkedFunction f = HasMarkOf (mark_of f.kind) f.name

-- functions under their names have the marks of their kinds
abbrev AreMarked : List (List ℕ × Function) → Type 0
AreMarked es = (place : ℕ) (name : List ℕ) (f : Function) → slice_get es place ≡ Some (name, f) → IsMarkedFunction f

none_marked : (es : List (List ℕ × Function)) → es ≡ [] → AreMarked es
none_marked es none place name f at = absurd (let h : ⊥ = cc in h)

one_marked : (n : List ℕ) (f : Function) → IsMarkedFunction f → AreMarked ((n, f) ∷ [])
one_marked n f has zero name g at = (let same : (n, f) ≡ (name, g) = cc in subst IsMarkedFunction (ap (λ (e : List ℕ × Function). e.1) same) has)
one_marked n f has (suc place) name g at = absurd (let h : ⊥ = cc in h)

-- so do functions under their sides and names
abbrev AreKeyed : List (FunctionKey × Function) → Type 0
AreKeyed es = (place : ℕ) (key : FunctionKey) (f : Function) → slice_get es place ≡ Some (key, f) → IsMarkedFunction f

none_keyed : (es : List (FunctionKey × Function)) → es ≡ [] → AreKeyed es
none_keyed es none place key f at = absurd (let h : ⊥ = cc in h)

marked_keyed : (side : WorldSide) (es : List (List ℕ × Function)) → AreMarked es → AreKeyed (map (keyed side) es)
marked_keyed side es marked place key f at =
    let e = map_at (keyed side) es place (key, f) at in
    subst IsMarkedFunction (ap (λ (x : FunctionKey × Function). x.1) e.2) (marked place e.0.0 e.0.1 e.1)

both_keyed : (xs ys : List (FunctionKey × Function)) → AreKeyed xs → AreKeyed ys → AreKeyed (xs ++ ys)
both_keyed xs ys first second place key f at = elim (at_split xs ys place (key, f) at) [
  | inl prefix ↦ first place key f prefix
  | inr back ↦ second back.0 key f back.2
]

-- neither an interface nor a type is a function
no_function : (k : WorldKey) (place : ℕ) (stability : Stability) (external_id : Option (List ℕ)) (docs : Docs) (span : Span) → AreMarked (item_functions (k, item.Interface place stability external_id docs span))
no_function (key.Name name) place stability external_id docs span = none_marked [] refl
no_function (key.Interface id) place stability external_id docs span = none_marked [] refl

-- what is among imports and exports, and the functions that these are
abbrev IsMarkedEntry : Entry → Type 0
IsMarkedEntry e = AreMarked (item_functions e)

entries_marked : (es : List Entry) → Each IsMarkedEntry es → AreMarked (flat_map item_functions es)
entries_marked es each place name f at = (let it = flat_map_at item_functions es place (name, f) at in each it.0 it.1 it.2 it.3.0 name f it.3.1)

-- the functions of an item, where this gives the places of types
module _ (id : Key → ℕ) (i : Item) where
  made_marked : (k : ℕ) (fn : SourceFunction) → slice_get (functions i) k ≡ Some fn → IsMarkedFunction ((function_in id (address i)) fn)
  made_marked k fn at = written_marked i k fn at (λ of. id (Def (address i) of.name.now))

  fns_marked : (k : ℕ) (fn : SourceFunction) → slice_get (functions i) k ≡ Some fn → IsMarkedEntry (key.Name fn.name, item.Function ((function_in id (address i)) fn))
  fns_marked k fn at = one_marked fn.name ((function_in id (address i)) fn) (made_marked k fn at)

  links_marked : (ss : List Address) (k : ℕ) (link : Link) → slice_get (flat_map item_link (side_items i)) k ≡ Some link → IsMarkedEntry (link_item link (scope_place ss (path_scope i.top link.path)))
  links_marked ss k link at = (let e = link_item link (scope_place ss (path_scope i.top link.path)) in no_function e.0 _ _ _ _ _)

  sides_marked : (order : Item → List ℕ) (ss ws : List Address) → AreKeyed (world_functions (own_world id order ss ws i))
  sides_marked order ss ws =
      let w = own_world id order ss ws i in
      both_keyed (map (keyed Imported) (flat_map item_functions w.imports)) (map (keyed Exported) (flat_map item_functions w.exports))
      (marked_keyed Imported (flat_map item_functions w.imports) (entries_marked w.imports (imports_each IsMarkedEntry id ss i fns_marked (links_marked ss) (λ k j at x name. none_marked [] refl) (names_in_turn order i) (λ k x at. none_marked [] refl))))
      (marked_keyed Exported (flat_map item_functions w.exports) (entries_marked w.exports (exports_each IsMarkedEntry id ss i fns_marked (links_marked ss) (λ k j at x name. none_marked [] refl))))

module _ (files : List PackageFile) (p : UnresolvedPackage) (m : Makes files p) where
  interface_marked : (k : ℕ) (i : Interface) → slice_get p.interfaces k ≡ Some i → AreMarked i.functions
  interface_marked = images_at (foreign_interface files m.id) (own_interface m.id m.order) (foreign_interfaces files) (own_interfaces m.items) p.interfaces m.interfaces (λ k i. AreMarked i.functions) (λ k v at. none_marked [] refl) (λ k i at. members_each (function_in m.id (address i)) IsMarkedFunction (functions i) (made_marked m.id i))

  world_marked : (k : ℕ) (w : World) → slice_get p.worlds k ≡ Some w → AreKeyed (world_functions w)
  world_marked = images_at foreign_world (own_world m.id m.order (interface_scopes files m.items) (world_scopes files m.items)) (foreign_worlds files) (worlds_of m.items) p.worlds m.worlds (λ k w. AreKeyed (world_functions w)) (λ k v at. none_keyed [] refl) (λ k w at. sides_marked m.id w m.order (interface_scopes files m.items) (world_scopes files m.items))

  -- what one of these has, if there is one
  found_marked : {X : Type 0} (of : X → List (FunctionKey × Function)) (o : Option X) → ((x : X) → o ≡ Some x → AreKeyed (of x)) → AreKeyed (option_map_or of o [])
  found_marked of None each = none_keyed [] refl
  found_marked of (Some x) each = each x refl

  owner_marked : (o : TypeOwner) → AreKeyed (functions_of p o)
  owner_marked (owner.Interface k) = found_marked interface_functions (slice_get p.interfaces k) (λ i at. marked_keyed Imported i.functions (interface_marked k i at))
  owner_marked (owner.World k) = found_marked world_functions (slice_get p.worlds k) (world_marked k)
  owner_marked owner.None = none_keyed [] refl

  pub functions_marked : HaveMarks p
  functions_marked = record { each = owner_marked }
