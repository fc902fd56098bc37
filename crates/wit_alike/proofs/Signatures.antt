-- The first faults of definitions and functions that are alike.
use Rattle.std.proofs.Common.{◌≡◌, ℕ, Bool, cond, List, [], ◌∷◌, ◌++◌, map, Option, Some, None, refl, ap, ap₂, ◌∙◌, codes, is_none}
use Rattle.wit_walk.proofs.Common.{AllZip, Constructor, Defined, Fault, ForeignName, Freestanding, FuncForm, Id, Missing, Param, Role, ScopeName, SourceFunction, SourceParam, Span, TypeBody, Used, body_ok, body_types, bytes_eq, definition_fault, fault, fault_in, function_fault, getter_fault, given_fault, if◌then◌else◌, is_free, is_written_as, lost_word, lower_case, made_fault, meaning, meant_ok, name_word, option_or, param_fault, param_twice, params_fault, result_fault, result_ok, return_fault, signed_fault, type_fault, word_fault, written_param, «Type» as Written}
use Rattle.wit_type_tree.specs.declared.types.FuncForm.TheVariants as form
use Rattle.wit_type_tree.specs.declared.types.TypeBody.TheVariants as body
use Rattle.wit_type_tree.specs.declared.types.«Type».TheVariants as written
use Rattle.wit_grammar.specs.Trees.{Name, Definition, Function, Parameter}
use Rattle.wit_grammar.specs.Seen.{see_attribute, see_param, see_type}
use Rattle.wit_first.specs.FunctionFaults.{setter_fault}
use Rattle.wit_alike.proofs.Lists.{Both, both_of, zip_after, zip_any, zip_append, zip_first, zip_map, zip_of}
use Rattle.wit_alike.proofs.Leaves.{SameId, same_metadata, same_text}
use Rattle.wit_alike.proofs.Types.{SameType, type_of, same_ok_of, same_ok_span, same_type_span}
use Rattle.wit_alike.proofs.Bodies.{SameBody, body_same, same_body_types, same_list_fault, same_type_fault}
use Rattle.wit_alike.proofs.Items.{SameName, same_meant}
use Rattle.wit_alike.proofs.Functions.{SameFunction, SameParam, SameRole, same_written_param}
use Rattle.wit_alike.proofs.Files.{zip_repeat}

-- ---- definitions
pub same_definition_fault : (handle other : Id → Option Fault) → ((a b : Id) → SameId a b → handle a ≡ other b) → (x y : ScopeName) → SameName x y → definition_fault handle x ≡ definition_fault other y
same_definition_fault handle other handles (Used s marks n) (Used t others m) h = refl
same_definition_fault handle other handles (Defined d) (Defined e) h =
    let bodies = body_same d.body e.body (ap (λ (x : Definition). x.body) h) in
    ap₂ option_or (same_metadata d.attributes.items e.attributes.items (zip_of see_attribute d.attributes.items e.attributes.items (ap (λ (x : Definition). x.prefix.attributes) h))) (ap₂ option_or (same_list_fault d.body e.body bodies)
    (zip_first SameType (type_fault (λ (id : Id). None) handle) (type_fault (λ (id : Id). None) other) (same_type_fault (λ (id : Id). None) handle (λ (id : Id). None) other (λ a b same. refl) handles) (body_types d.body) (body_types e.body) (same_body_types d.body e.body bodies)))
same_definition_fault handle other handles (ForeignName marks a) (ForeignName others b) h = refl
same_definition_fault handle other handles x y h = absurd h

-- ---- names in signatures
pub same_free_name : (name other : List ℕ) (r s : Role) → name ≡ other → SameRole r s → is_free name r ≡ is_free other s
same_free_name name other (Freestanding a f) (Freestanding b g) e h = ap₂ bytes_eq (same_text a b h.0) e
same_free_name name other (Freestanding a f) s e h = absurd h
same_free_name name other r (Freestanding b g) e h = absurd h
same_free_name name other r s e h = refl

same_lost_word : (fns gns : List SourceFunction) (a b : Id) → AllZip SameFunction fns gns → SameId a b → lost_word fns a ≡ lost_word gns b
same_lost_word fns gns a b h same =
    ap₂ (λ (there : Bool) (n : Name). cond there (fault_in 28 n.span (codes "cannot use function `" ++ (n.text ++ codes "` as a type"))) (record { rule = 29; span = n.span; says = Missing n.text name_word None }))
    (zip_any SameFunction (λ (fn : SourceFunction). is_free a.name.now fn.role) (λ (fn : SourceFunction). is_free b.name.now fn.role) (λ f g one. same_free_name a.name.now b.name.now f.role g.role (same_text a b same) one.role) fns gns h) same

pub same_unless_meant : (o p : Option ScopeName) (f g : Fault) → Both SameName o p → f ≡ g → (if is_none o then Some f else None) ≡ (if is_none p then Some g else None)
same_unless_meant None None f g h e = ap Some e
same_unless_meant None (Some y) f g h e = absurd h
same_unless_meant (Some x) None f g h e = absurd h
same_unless_meant (Some x) (Some y) f g h e = refl

-- ---- results
same_body_ok : (b c : TypeBody) → SameBody b c → Both (Both SameType) (body_ok b) (body_ok c)
same_body_ok (body.Plain t) (body.Plain u) same = same_ok_of t u same
same_body_ok (body.Plain t) c same = absurd same
same_body_ok b (body.Plain u) same = absurd same
same_body_ok b c same = tt

same_meant_ok : (o p : Option ScopeName) → Both SameName o p → Both (Both SameType) (meant_ok o) (meant_ok p)
same_meant_ok None None h = tt
same_meant_ok None (Some y) h = absurd h
same_meant_ok (Some x) None h = absurd h
same_meant_ok (Some (Used s marks n)) (Some (Used t others m)) h = tt
same_meant_ok (Some (Defined d)) (Some (Defined e)) h = same_body_ok d.body e.body (body_same d.body e.body (ap (λ (x : Definition). x.body) h))
same_meant_ok (Some (ForeignName marks a)) (Some (ForeignName others b)) h = tt
same_meant_ok (Some x) (Some y) h = absurd h

module _ (xs ys : List ScopeName) (names : AllZip SameName xs ys) where
  same_result_ok : (t u : Written) → SameType t u → Both (Both SameType) (result_ok xs t) (result_ok ys u)
  same_result_ok (written.Name a) (written.Name b) h = same_meant_ok (meaning xs a.name.now) (meaning ys b.name.now) (same_meant xs ys a.name.now b.name.now names (same_text a b h))
  same_result_ok (written.Name a) u h = absurd h
  same_result_ok t (written.Name b) h = absurd h
  same_result_ok t u h = same_ok_of t u h

  same_setter : (t u : Written) (o p : Option (Option Written)) → SameType t u → Both (Both SameType) o p → setter_fault t o ≡ setter_fault u p
  same_setter t u None None h same = ap (λ (at : Span). Some (fault 40 at)) (same_type_span t u h)
  same_setter t u None (Some p) h same = absurd same
  same_setter t u (Some o) None h same = absurd same
  same_setter t u (Some None) (Some None) h same = refl
  same_setter t u (Some None) (Some (Some p)) h same = absurd same
  same_setter t u (Some (Some o)) (Some None) h same = absurd same
  same_setter t u (Some (Some o)) (Some (Some p)) h same = ap (λ (at : Span). Some (fault 40 at)) (same_type_span t u h)

  same_written_as : (a b : Id) → SameId a b → (o p : Option Written) → Both SameType o p → is_written_as a o ≡ is_written_as b p
  same_written_as a b same None None h = refl
  same_written_as a b same None (Some u) h = absurd h
  same_written_as a b same (Some t) None h = absurd h
  same_written_as a b same (Some (written.Name c)) (Some (written.Name d)) h = ap₂ bytes_eq (same_text c d h) (same_text a b same)
  same_written_as a b same (Some (written.Name c)) (Some u) h = absurd h
  same_written_as a b same (Some t) (Some (written.Name d)) h = absurd h
  same_written_as a b same (Some (written.Own s c)) (Some (written.Own r d)) h = ap₂ bytes_eq (same_text c d h.1) (same_text a b same)
  same_written_as a b same (Some (written.Own s c)) (Some u) h = absurd h
  same_written_as a b same (Some t) (Some (written.Own r d)) h = absurd h
  same_written_as a b same (Some t) (Some u) h = refl

  same_made : (a b : Id) (t u : Written) (o p : Option (Option Written)) → SameId a b → SameType t u → Both (Both SameType) o p → made_fault a t o ≡ made_fault b u p
  same_made a b t u None None same h k = ap (λ (at : Span). Some (fault 41 at)) (same_type_span t u h)
  same_made a b t u None (Some p) same h k = absurd k
  same_made a b t u (Some o) None same h k = absurd k
  same_made a b t u (Some o) (Some p) same h k = ap₂ (λ (fine : Bool) (at : Span). cond fine None (Some (fault 42 at))) (same_written_as a b same o p k) (same_ok_span t u h)

  same_of_role : (how : FuncForm) (r s : Role) (t u : Written) (o p : Option (Option Written)) → SameRole r s → SameType t u → Both (Both SameType) o p → result_fault how r t o ≡ result_fault how s u p
  same_of_role form.Setter r s t u o p h same k = same_setter t u o p same k
  same_of_role how (Constructor a) (Constructor b) t u o p h same k = same_made a b t u o p h same k
  same_of_role how (Constructor a) s t u o p h same k = absurd h
  same_of_role how r (Constructor b) t u o p h same k = absurd h
  same_of_role how r s t u o p h same k = refl

  same_gives : (fn gn : SourceFunction) → SameFunction fn gn → (t u : Written) → SameType t u → result_fault fn.func.form fn.role t (result_ok xs t) ≡ result_fault gn.func.form gn.role u (result_ok ys u)
  same_gives fn gn h t u same =
      ap (λ (f : Function). result_fault f.form fn.role t (result_ok xs t)) h.func ∙ same_of_role gn.func.form fn.role gn.role t u (result_ok xs t) (result_ok ys u) h.role same (same_result_ok t u same)

  -- ---- functions
  same_no_result : (fn gn : SourceFunction) → SameFunction fn gn → getter_fault fn.func.form fn.func.span ≡ getter_fault gn.func.form gn.func.span
  same_no_result fn gn h = ap (λ (f : Function). getter_fault f.form f.span) h.func

  same_return : (wrong other : Written → Option Fault) → ((t u : Written) → SameType t u → wrong t ≡ other u) → (fn gn : SourceFunction) → SameFunction fn gn → (o p : Option Written) → Both (λ (t u : Written). see_type t ≡ see_type u) o p
      → return_fault wrong xs fn o ≡ return_fault other ys gn p
  same_return wrong other each fn gn h None None same = same_no_result fn gn h
  same_return wrong other each fn gn h None (Some u) same = absurd same
  same_return wrong other each fn gn h (Some t) None same = absurd same
  same_return wrong other each fn gn h (Some t) (Some u) same = ap₂ option_or (each t u (type_of t u same)) (same_gives fn gn h t u (type_of t u same))

  same_params : (how : FuncForm) (ps qs : List Param) (s r : Span) → AllZip (λ (p q : Param). see_param p ≡ see_param q) ps qs → s ≡ r → params_fault how ps s ≡ params_fault how qs r
  same_params form.Getter [] [] s r h e = refl
  same_params form.Getter (p ∷ ps) (q ∷ qs) s r h e = ap (λ (x : Parameter). Some (fault 36 x.name.span)) h.0
  same_params form.Setter [] [] s r h e = ap (λ (at : Span). Some (fault 37 at)) e
  same_params form.Setter (p ∷ []) (q ∷ []) s r h e = refl
  same_params form.Setter (p ∷ p2 ∷ ps) (q ∷ q2 ∷ qs) s r h e = ap (λ (x : Parameter). Some (fault 37 x.name.span)) h.1.0
  same_params form.Plain ps qs s r h e = refl
  same_params form.Async ps qs s r h e = refl
  same_params form.Setter (p ∷ []) (q ∷ q2 ∷ qs) s r h e = absurd h.1
  same_params form.Setter (p ∷ p2 ∷ ps) (q ∷ []) s r h e = absurd h.1
  same_params how ps qs s r h e = absurd h

  same_given : (fn gn : SourceFunction) → SameFunction fn gn → given_fault fn ≡ given_fault gn
  same_given fn gn h =
      ap (λ (f : Function). params_fault f.form fn.func.params.items fn.func.span) h.func
      ∙ same_params gn.func.form fn.func.params.items gn.func.params.items fn.func.span gn.func.span (zip_of see_param fn.func.params.items gn.func.params.items (ap (λ (f : Function). f.params) h.func)) (ap (λ (f : Function). f.span) h.func)

  same_param_fault : (wrong other : Written → Option Fault) → ((t u : Written) → SameType t u → wrong t ≡ other u) → (fn gn : SourceFunction) → SameFunction fn gn → (before others : List Param) (p q : Param)
      → AllZip (λ (p q : Param). see_param p ≡ see_param q) before others → see_param p ≡ see_param q → param_fault wrong fn before p ≡ param_fault other gn others q
  same_param_fault wrong other each fn gn h before others p q earlier same =
      ap₂ option_or
      (zip_repeat SameParam (λ (x : SourceParam). lower_case x.name) (λ (x : SourceParam). lower_case x.name) (λ (x : SourceParam). param_twice x.name x.span) (λ (x : SourceParam). param_twice x.name x.span)
      (λ x y one. ap lower_case one.0) (λ x y one. ap₂ param_twice one.0 one.1) (fn.given ++ map written_param before) (gn.given ++ map written_param others) (written_param p) (written_param q)
      (zip_append SameParam fn.given (map written_param before) gn.given (map written_param others) h.given (zip_map (λ (p q : Param). see_param p ≡ see_param q) SameParam written_param written_param same_written_param before others earlier)) (same_written_param p q same))
      (each p.ty q.ty (type_of p.ty q.ty (ap (λ (x : Parameter). x.ty) same)))

  pub same_function_fault : (wrong other : Written → Option Fault) → ((t u : Written) → SameType t u → wrong t ≡ other u) → (fn gn : SourceFunction) → SameFunction fn gn → function_fault wrong xs fn ≡ function_fault other ys gn
  same_function_fault wrong other each fn gn h =
      let params = zip_of see_param fn.func.params.items gn.func.params.items (ap (λ (f : Function). f.params) h.func) in
      ap₂ option_or (same_metadata fn.attributes gn.attributes h.attributes) (ap₂ option_or (same_given fn gn h) (ap₂ option_or
      (zip_after (λ (p q : Param). see_param p ≡ see_param q) (param_fault wrong fn) (param_fault other gn) (same_param_fault wrong other each fn gn h) [] fn.func.params.items [] gn.func.params.items tt params)
      (same_return wrong other each fn gn h fn.func.result gn.func.result (both_of see_type fn.func.result gn.func.result (ap (λ (f : Function). f.returned) h.func)))))

  module _ (fns gns : List SourceFunction) (functions : AllZip SameFunction fns gns) where
    same_word_fault : (a b : Id) → SameId a b → word_fault xs fns a ≡ word_fault ys gns b
    same_word_fault a b same = same_unless_meant (meaning xs a.name.now) (meaning ys b.name.now) (lost_word fns a) (lost_word gns b) (same_meant xs ys a.name.now b.name.now names (same_text a b same)) (same_lost_word fns gns a b functions same)

    pub same_signed : (handle other : Id → Option Fault) → ((a b : Id) → SameId a b → handle a ≡ other b) → (t u : Written) → SameType t u → signed_fault xs fns handle t ≡ signed_fault ys gns other u
    same_signed handle other handles t u h =
        same_type_fault (word_fault xs fns) (λ (id : Id). option_or (word_fault xs fns id) (handle id)) (word_fault ys gns) (λ (id : Id). option_or (word_fault ys gns id) (other id)) same_word_fault
        (λ a b same. ap₂ option_or (same_word_fault a b same) (handles a b same)) t u h
