-- What occurs in a type without a name: forms that an unnamed type can have.
use Rattle.std.proofs.Common.{◌≡◌, ℕ, zero, suc, List, [], ◌∷◌, map, Option, Some, None, inl, inr, subst}
use Rattle.wit_arena.proofs.Names.{Address, Both', Defined, DefinitionPart, Err', Exprs, ExternPart, Form, FunctionPart, Id, IsAnonymousForm, Item, Neither, None', Ok', PackageFile, Part, Plain, Record, ResourceFunc, Row_of-Type, ScopeName, Shape, Shapes, Some', SourceFunction, SourceParam, TypeBody, UnknownForm, Variant, Whole, Word, all_params, all_scopes, all_seen, all_shapes, at_split, body_of, case_types, definition_functions, end_of-Type, expr_of, exprs_of, extern_at, field_types, functions, functions_at, head, item_at, map_at, more_of-Type, name_exprs, option_map, option_map_or, option_to_list, part_functions, parts, resource_function, row_shapes, seen, self_param, shape_of, signature, slice_get, written_param, «Type» as Written, part_of_function}
use Rattle.wit_syntax.proofs.Common.{Param}
use Rattle.wit_type_tree.specs.declared.types.TypeBody.TheVariants as body
use Rattle.wit_type_tree.specs.declared.types.ResourceFunc.TheVariants as resource
use Rattle.wit_arena.proofs.OneKind.{same_some}
use Rattle.wit_type_tree.specs.declared.types.«Type».TheVariants as written
use Rattle.wit_syntax.specs.Shape as shape
use Rattle.wit_arena.proofs.Occurrence.{Has, has_either}

-- each form in a type is one that an unnamed type can have
abbrev mutual
  pub AreAnonymous : Shape → Type 0
  AreAnonymous (shape.Prim p) = Unit {0}
  AreAnonymous (shape.Word id) = Unit {0}
  AreAnonymous (shape.Of span form parts) = IsAnonymousForm form × AllAnonymous parts

  pub AllAnonymous : Shapes → Type 0
  AllAnonymous shape.End = Unit {0}
  AllAnonymous (shape.More x xs) = AreAnonymous x × AllAnonymous xs

-- so it is for a written type
mutual
  pub written_anonymous : (t : Written) → AreAnonymous (shape_of t)
  written_anonymous (written.Borrow span id) = (tt, (tt, tt))
  written_anonymous (written.List' span p t) = (tt, (written_anonymous t, tt))
  written_anonymous (written.FixedLengthList' span p t size) = (tt, (written_anonymous t, tt))
  written_anonymous (written.Map' span p key q value) = (tt, (written_anonymous key, (written_anonymous value, tt)))
  written_anonymous (written.Option' span p t) = (tt, (written_anonymous t, tt))
  written_anonymous (written.Result span Neither) = (tt, tt)
  written_anonymous (written.Result span (Ok' p t)) = (tt, (written_anonymous t, tt))
  written_anonymous (written.Result span (Err' p t)) = (tt, (written_anonymous t, tt))
  written_anonymous (written.Result span (Both' p t q u)) = (tt, (written_anonymous t, (written_anonymous u, tt)))
  written_anonymous (written.Tuple' span shape ts) = (tt, row_anonymous ts)
  written_anonymous (written.Future' span None') = (tt, tt)
  written_anonymous (written.Future' span (Some' p t)) = (tt, (written_anonymous t, tt))
  written_anonymous (written.Stream' span None') = (tt, tt)
  written_anonymous (written.Stream' span (Some' p t)) = (tt, (written_anonymous t, tt))
  written_anonymous _ = tt

  row_anonymous : {m : _} (ts : Row_of-Type m) → AllAnonymous (row_shapes ts)
  row_anonymous end_of-Type = tt
  row_anonymous (more_of-Type t rest) = (written_anonymous t, row_anonymous rest)

all_anonymous_shapes : (ts : List Written) → AllAnonymous (all_shapes ts)
all_anonymous_shapes [] = tt
all_anonymous_shapes (t ∷ ts) = (written_anonymous t, all_anonymous_shapes ts)

head_anonymous : (x : Shape) → AreAnonymous x → AllAnonymous (head x).parts
head_anonymous (shape.Of span form parts) h = h.1
head_anonymous _ h = (tt, tt)

body_anonymous : (b : TypeBody) → AllAnonymous (body_of b).parts
body_anonymous (Record span fields) = all_anonymous_shapes (field_types fields.items)
body_anonymous (Variant span cases) = all_anonymous_shapes (case_types cases.items)
body_anonymous (Plain (written.Own span id)) = (tt, tt)
body_anonymous (Plain t) = head_anonymous (shape_of t) (written_anonymous t)
body_anonymous _ = tt

-- what a definition says is known
head_known : (x : Shape) → AreAnonymous x → (head x).form ≡ UnknownForm → ⊥
head_known (shape.Of span form parts) a h = subst IsAnonymousForm h a.0
head_known _ a h = cc

pub body_known : (b : TypeBody) → (body_of b).form ≡ UnknownForm → ⊥
body_known (Plain (written.Own span id)) h = cc
body_known (Plain t) h = head_known (shape_of t) (written_anonymous t) h
body_known _ h = cc

-- what occurs in such types has such a form
mutual
  pub seen_anonymous : (s : Address) (x : Shape) (form : Form) (parts : Exprs) → AreAnonymous x → Has (seen (expr_of s x)) (Whole form parts) → IsAnonymousForm form
  seen_anonymous s (shape.Of span own inner) form parts a h = elim (has_either (all_seen (exprs_of s inner)) (Whole own (exprs_of s inner) ∷ []) (Whole form parts) h) [
    | inl within ↦ all_anonymous s inner form parts a.1 within
    | inr last ↦ elim last [
      | inl here ↦ (let same : own ≡ form = cc in subst (λ (f : Form). IsAnonymousForm f) same a.0)
      | inr none ↦ absurd none
    ]
  ]
  seen_anonymous s _ form parts a h = absurd h

  all_anonymous : (s : Address) (xs : Shapes) (form : Form) (parts : Exprs) → AllAnonymous xs → Has (all_seen (exprs_of s xs)) (Whole form parts) → IsAnonymousForm form
  all_anonymous s shape.End form parts a h = absurd h
  all_anonymous s (shape.More x xs) form parts a h = elim (has_either (seen (expr_of s x)) (all_seen (exprs_of s xs)) (Whole form parts) h) [
    | inl first ↦ seen_anonymous s x form parts a.0 first
    | inr rest ↦ all_anonymous s xs form parts a.1 rest
  ]

-- a used name has no unnamed type, and a taken one neither
pub name_anonymous : (s : Address) (x : ScopeName) (form : Form) (parts : Exprs) → Has (all_seen (name_exprs s x)) (Whole form parts) → IsAnonymousForm form
name_anonymous s (Defined d) form parts h = all_anonymous s (body_of d.body).parts form parts (body_anonymous d.body) h
name_anonymous s _ form parts h = absurd h

-- of a function
record IsPlain (fn : SourceFunction) : Type 0 where
  given : (k : ℕ) (p : SourceParam) → slice_get fn.given k ≡ Some p → AreAnonymous p.shape
  result : (x : Shape) → fn.result ≡ Some x → AreAnonymous x

plain_result : (o : Option Shape) → ((x : Shape) → o ≡ Some x → AreAnonymous x) → (k : ℕ) (x : Shape) → slice_get (option_to_list o) k ≡ Some x → AreAnonymous x
plain_result (Some y) h zero x at = h x at
plain_result _ h k x at = absurd (let f : ⊥ = cc in f)

plain_params : (ps : List Param) (k : ℕ) (p : SourceParam) → slice_get (map written_param ps) k ≡ Some p → AreAnonymous p.shape
plain_params ps k p at =
    let q = map_at written_param ps k p at in
    subst (λ (x : SourceParam). AreAnonymous x.shape) q.2 (written_anonymous q.0.ty)

plain_signature : (fn : SourceFunction) → IsPlain fn → (k : ℕ) (x : Shape) → slice_get (signature fn) k ≡ Some x → AreAnonymous x
plain_signature fn h k x at = elim (at_split (map (λ (p : SourceParam). p.shape) (all_params fn)) (option_to_list fn.result) k x at) [
  | inl prefix ↦ (
      let p = map_at (λ (p : SourceParam). p.shape) (all_params fn) k x prefix in
      subst AreAnonymous p.2 (elim (at_split fn.given (map written_param fn.func.params.items) k p.0 p.1) [
        | inl g ↦ h.given k p.0 g
        | inr g ↦ plain_params fn.func.params.items g.0 p.0 g.2
      ]))
  | inr back ↦ plain_result fn.result h.result back.0 x back.2
]

plain_written : (t : Option Written) (x : Shape) → option_map shape_of t ≡ Some x → AreAnonymous x
plain_written None x h = absurd (let f : ⊥ = cc in f)
plain_written (Some t) x h = let same : shape_of t ≡ x = cc in subst AreAnonymous same (written_anonymous t)

plain_made : (r : Id) (t : Option Written) (x : Shape) → Some (option_map_or shape_of t (Word r)) ≡ Some x → AreAnonymous x
plain_made r None x h = let same : Word r ≡ x = cc in subst AreAnonymous same tt
plain_made r (Some t) x h = let same : shape_of t ≡ x = cc in subst AreAnonymous same (written_anonymous t)

none_given : (k : ℕ) (p : SourceParam) → slice_get [] k ≡ Some p → AreAnonymous p.shape
none_given k p at = absurd (let f : ⊥ = cc in f)

one_given : (q : SourceParam) → AreAnonymous q.shape → (k : ℕ) (p : SourceParam) → slice_get (q ∷ []) k ≡ Some p → AreAnonymous p.shape
one_given q h zero p at = let same : q ≡ p = cc in subst (λ (x : SourceParam). AreAnonymous x.shape) same h
one_given q h (suc k) p at = absurd (let f : ⊥ = cc in f)

plain_resource : (r : Id) (g : ResourceFunc) → IsPlain (resource_function r g)
plain_resource r (resource.Method f) = record { given = one_given (self_param r f.func.span) (tt, (tt, tt)); result = plain_written f.func.result }
plain_resource r (resource.Static f) = record { given = none_given; result = plain_written f.func.result }
plain_resource r (resource.Constructor docs attributes span params result) = record { given = none_given; result = plain_made r result }

plain_definition : (r : Id) (b : TypeBody) (k : ℕ) (fn : SourceFunction) → slice_get (definition_functions r b) k ≡ Some fn → IsPlain fn
plain_definition r (body.Resource funcs) k fn at =
    let g = map_at (resource_function r) funcs.items k fn at in
    subst IsPlain g.2 (plain_resource r g.0)
plain_definition r _ k fn at = absurd (let f : ⊥ = cc in f)

plain_part : (p : Part) (k : ℕ) (fn : SourceFunction) → slice_get (part_functions p) k ≡ Some fn → IsPlain fn
plain_part (DefinitionPart d) k fn at = plain_definition d.name d.body k fn at
plain_part (ExternPart x) k fn at =
    let it = extern_at x x.kind k fn at in
    subst IsPlain it.2 (record { given = none_given; result = plain_written it.1.result })
plain_part (FunctionPart g) zero fn at = subst IsPlain (same_some at) (record { given = none_given; result = plain_written g.func.result })
plain_part _ k fn at = absurd (let f : ⊥ = cc in f)

-- so it is in the functions of a scope
pub signature_anonymous : (files : List PackageFile) (s : Address) (k : ℕ) (fn : SourceFunction) → slice_get (functions_at files s) k ≡ Some fn → (j : ℕ) (x : Shape) → slice_get (signature fn) j ≡ Some x → AreAnonymous x
signature_anonymous files s k fn at j x written = of_item (item_at (all_scopes files) s) at
  where
    of_item : (o : Option Item) → slice_get (option_map_or functions o []) k ≡ Some fn → AreAnonymous x
    of_item None there = absurd (let f : ⊥ = cc in f)
    of_item (Some i) there =
        let it = part_of_function i k fn there in
        plain_signature fn (plain_part it.1 it.3.0 fn it.3.1) j x written
