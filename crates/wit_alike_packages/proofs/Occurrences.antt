-- What occurs in names and functions that are alike is equal.
use Rattle.std.proofs.Common.{◌≡◌, ℕ, List, [], ◌∷◌, ◌++◌, map, Option, Some, None, refl, ap, ap₂, ◌∙◌}
use Rattle.wit_arena.proofs.Common.{Address, AllZip, Def, Exprs, ForeignUse, Form, Metadata, More, Occurrence, Of, Prim, ScopeName, Shape, Shapes, SourceFunction, Span, Stability, Unknown, Use, Whole, about_name, all_function_occurrences, all_params, expr_of, exprs_of, flat_map, foreign_use_occurrence, local_name, name_exprs, name_occurrences, option_to_list, shape_occurrences, shapes_occurrences, signature, stability_of, unwrap_or, written_param}
use Rattle.wit_walk.proofs.Common.{Param}
use Rattle.wit_grammar.specs.Trees.{Function}
use Rattle.wit_grammar.specs.Seen.{see_param}
use Rattle.wit_syntax.specs.Shape as shape
use Rattle.wit_alike.proofs.Lists.{Both, zip_append, zip_map, zip_of}
use Rattle.wit_alike.proofs.Leaves.{same_span, same_text}
use Rattle.wit_alike.proofs.Types.{SameShape, SameShapes}
use Rattle.wit_alike.proofs.Items.{SameName, same_from, same_local_name, same_name_body}
use Rattle.wit_alike.proofs.Functions.{SameFunction, SameParam, same_written_param}
use Rattle.wit_alike.proofs.Foreign.{SameForeignUse}
use Rattle.wit_alike.proofs.Walk.{flat_same}
use Rattle.wit_alike_packages.proofs.Stated.{same_name_metadata, same_name_span, same_stability_of}

-- ---- expressions
mutual
  pub same_expr : (s : Address) (x y : Shape) → SameShape x y → expr_of s x ≡ expr_of s y
  same_expr s (shape.Prim p) (shape.Prim q) h = ap Prim h
  same_expr s (shape.Word a) (shape.Word b) h = ap (Use s) (same_text a b h)
  same_expr s (shape.Of r f xs) (shape.Of t g ys) h = ap₂ Of h.1 (same_exprs s xs ys h.2)
  same_expr s x y h = absurd h

  pub same_exprs : (s : Address) (xs ys : Shapes) → SameShapes xs ys → exprs_of s xs ≡ exprs_of s ys
  same_exprs s shape.End shape.End h = refl
  same_exprs s (shape.More x xs) (shape.More y ys) h = ap₂ More (same_expr s x y h.0) (same_exprs s xs ys h.1)
  same_exprs s xs ys h = absurd h

pub same_name_exprs : (s : Address) (x y : ScopeName) → SameName x y → name_exprs s x ≡ name_exprs s y
same_name_exprs s x y h =
    ap (λ (from : Option Address). exprs_of (unwrap_or from s) (about_name x).body.parts) (same_from x y h)
    ∙ same_exprs (unwrap_or (about_name y).from s) (about_name x).body.parts (about_name y).body.parts (same_name_body x y h).1

-- ---- occurrences
abbrev whole_at : Stability → Span → Form → Exprs → Occurrence
whole_at given span form es = record { key = Whole form es; span = span; given = given }

mutual
  pub same_shape_occurrences : (s : Address) (given : Stability) (x y : Shape) → SameShape x y → shape_occurrences s given x ≡ shape_occurrences s given y
  same_shape_occurrences s given (shape.Prim p) (shape.Prim q) h = refl
  same_shape_occurrences s given (shape.Word a) (shape.Word b) h = refl
  same_shape_occurrences s given (shape.Of r f xs) (shape.Of t g ys) h =
      let itself : whole_at given r f (exprs_of s xs) ≡ whole_at given t g (exprs_of s ys) =
      ap (λ (at : Span). whole_at given at f (exprs_of s xs)) h.0 ∙ ap₂ (λ (form : Form) (es : Exprs). whole_at given t form es) h.1 (same_exprs s xs ys h.2) in
      ap₂ (λ (l : List Occurrence) (o : Occurrence). l ++ o ∷ []) (same_shapes_occurrences s given xs ys h.2) itself
  same_shape_occurrences s given x y h = absurd h

  pub same_shapes_occurrences : (s : Address) (given : Stability) (xs ys : Shapes) → SameShapes xs ys → shapes_occurrences s given xs ≡ shapes_occurrences s given ys
  same_shapes_occurrences s given shape.End shape.End h = refl
  same_shapes_occurrences s given (shape.More x xs) (shape.More y ys) h =
      ap₂ (λ (l m : List Occurrence). l ++ m) (same_shape_occurrences s given x y h.0) (same_shapes_occurrences s given xs ys h.1)
  same_shapes_occurrences s given xs ys h = absurd h

abbrev defined_at : Address → List ℕ → Span → Stability → Occurrence
defined_at s name span given = record { key = Def s name; span = span; given = given }

pub same_name_occurrences : (s : Address) (x y : ScopeName) → SameName x y → name_occurrences s x ≡ name_occurrences s y
same_name_occurrences s x y h =
    let known : (about_name x).metadata.stability ≡ (about_name y).metadata.stability = ap (λ (m : Metadata). m.stability) (same_name_metadata x y h) in
    let parts : shapes_occurrences (unwrap_or (about_name x).from s) (about_name x).metadata.stability (about_name x).body.parts ≡ shapes_occurrences (unwrap_or (about_name y).from s) (about_name y).metadata.stability (about_name y).body.parts =
    ap₂ (λ (from : Option Address) (given : Stability). shapes_occurrences (unwrap_or from s) given (about_name x).body.parts) (same_from x y h) known
    ∙ same_shapes_occurrences (unwrap_or (about_name y).from s) (about_name y).metadata.stability (about_name x).body.parts (about_name y).body.parts (same_name_body x y h).1 in
    let itself : defined_at s (local_name x) (about_name x).span (about_name x).metadata.stability ≡ defined_at s (local_name y) (about_name y).span (about_name y).metadata.stability =
    ap (λ (name : List ℕ). defined_at s name (about_name x).span (about_name x).metadata.stability) (same_local_name x y h)
    ∙ ap₂ (λ (span : Span) (given : Stability). defined_at s (local_name y) span given) (same_name_span x y h) known in
    ap₂ (λ (l : List Occurrence) (o : Occurrence). l ++ o ∷ []) parts itself

-- ---- functions
pub same_all_params : (f g : SourceFunction) → SameFunction f g → AllZip SameParam (all_params f) (all_params g)
same_all_params f g h =
    zip_append SameParam f.given (map written_param f.func.params.items) g.given (map written_param g.func.params.items) h.given
    (zip_map (λ (p q : Param). see_param p ≡ see_param q) SameParam written_param written_param same_written_param f.func.params.items g.func.params.items
    (zip_of see_param f.func.params.items g.func.params.items (ap (λ (x : Function). x.params) h.func)))

pub zip_option : {A B : Type 0} (R : A → B → Type 0) (o : Option A) (p : Option B) → Both R o p → AllZip R (option_to_list o) (option_to_list p)
zip_option R None None h = tt
zip_option R None (Some y) h = absurd h
zip_option R (Some x) None h = absurd h
zip_option R (Some x) (Some y) h = (h, tt)

same_signature : (f g : SourceFunction) → SameFunction f g → AllZip SameShape (signature f) (signature g)
same_signature f g h =
    zip_append SameShape (map (λ p. p.shape) (all_params f)) (option_to_list f.result) (map (λ p. p.shape) (all_params g)) (option_to_list g.result)
    (zip_map SameParam SameShape (λ p. p.shape) (λ p. p.shape) (λ p q one. one.2) (all_params f) (all_params g) (same_all_params f g h)) (zip_option SameShape f.result g.result h.result)

same_in_function : (s : Address) (f g : SourceFunction) → SameFunction f g → flat_map (shape_occurrences s Unknown) (signature f) ≡ flat_map (shape_occurrences s Unknown) (signature g)
same_in_function s f g h = flat_same SameShape (shape_occurrences s Unknown) (same_shape_occurrences s Unknown) (signature f) (signature g) (same_signature f g h)

pub same_function_occurrences : (s : Address) (fns gns : List SourceFunction) → AllZip SameFunction fns gns → all_function_occurrences s fns ≡ all_function_occurrences s gns
same_function_occurrences s fns gns h = flat_same SameFunction (λ (fn : SourceFunction). flat_map (shape_occurrences s Unknown) (signature fn)) (same_in_function s) fns gns h

-- ---- names of other packages
pub same_foreign_occurrence : (t u : ForeignUse) → SameForeignUse t u → foreign_use_occurrence t ≡ foreign_use_occurrence u
same_foreign_occurrence t u h =
    ap₂ (λ (s : Address) (name : List ℕ). defined_at s name t.id.span (stability_of t.attributes)) h.from (same_text t.id u.id h.id)
    ∙ ap₂ (λ (span : Span) (given : Stability). defined_at u.from u.id.name.now span given) (same_span t.id u.id h.id) (same_stability_of t.attributes u.attributes h.attributes)
