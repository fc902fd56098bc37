-- The first fault of what a function is given, and of what it gives, is a broken rule; and where there is none, no rule is broken.
use Rattle.std.proofs.Common.{◌≡◌, ◌⊎◌, Bool, true, false, List, [], ◌∷◌, length, Option, Some, None, inl, inr, refl, sym, ap, ◌∙◌, subst, arith}
use Rattle.wit_syntax.proofs.Common.{Both', Constructor, Err', Fault, Freestanding, FuncForm, Id, IsConstructorOfOther, IsConstructorWithoutResult, IsGetterGiven, IsGetterWithoutResult, IsSetterGiven, IsSetterWithResult, IsWrittenAs, Method, Neither, None', Ok', OnSide, Param, Role, ScopeName, Some', SourceFunction, Span, Static, Word, bytes_eq, fault, name_equal, name_itself, ok_span, option_map_or, result_ok, slice_get, type_span, «Type» as Written}
use Rattle.wit_type_tree.specs.declared.types.FuncForm.TheVariants as form
use Rattle.wit_type_tree.specs.declared.types.«Type».TheVariants as written
use Rattle.wit_first.specs.FunctionFaults.{params_fault, given_fault, getter_fault, setter_fault, is_written_as, made_fault, result_fault}
use Rattle.wit_first.specs.Laws.{Agrees}

-- what a function is given
abbrev IsGiven : FuncForm → List Param → Span → Fault → Type 0
IsGiven w params span f =
    ((w ≡ form.Getter) × (first : Param) × (slice_get params 0 ≡ Some first) × (f ≡ fault 36 first.name.span))
    ⊎ ((w ≡ form.Setter) × (length params ≡ 1 → ⊥) × (f ≡ fault 37 (option_map_or (λ (p : Param). p.name.span) (slice_get params 1) span)))

params_broken : (w : FuncForm) (params : List Param) (span : Span) (f : Fault) → params_fault w params span ≡ Some f → IsGiven w params span f
params_broken form.Getter [] span f h = absurd (let g : ⊥ = cc in g)
params_broken form.Getter (x ∷ rest) span f h = inl (refl, x, refl, (let same : Some (fault 36 x.name.span) ≡ Some f = h in let is : f ≡ fault 36 x.name.span = cc in is))
params_broken form.Setter [] span f h = inr (refl, (λ one. (let g : ⊥ = omega arith in g)), (let same : Some (fault 37 span) ≡ Some f = h in let is : f ≡ fault 37 span = cc in is))
params_broken form.Setter (x ∷ []) span f h = absurd (let g : ⊥ = cc in g)
params_broken form.Setter (x ∷ y ∷ rest) span f h = inr (refl, (λ one. (let g : ⊥ = omega arith in g)), (let same : Some (fault 37 y.name.span) ≡ Some f = h in let is : f ≡ fault 37 y.name.span = cc in is))
params_broken form.Plain params span f h = absurd (let g : ⊥ = cc in g)
params_broken form.Async params span f h = absurd (let g : ⊥ = cc in g)

getter_none : (w : FuncForm) (params : List Param) (span : Span) → params_fault w params span ≡ None → w ≡ form.Getter → (first : Param) → slice_get params 0 ≡ Some first → ⊥
getter_none form.Getter [] span h is first at = (let g : ⊥ = cc in g)
getter_none form.Getter (x ∷ rest) span h is first at = (let g : ⊥ = cc in g)
getter_none form.Setter params span h is first at = (let g : ⊥ = cc in g)
getter_none form.Plain params span h is first at = (let g : ⊥ = cc in g)
getter_none form.Async params span h is first at = (let g : ⊥ = cc in g)

setter_none : (w : FuncForm) (params : List Param) (span : Span) → params_fault w params span ≡ None → w ≡ form.Setter → (length params ≡ 1 → ⊥) → ⊥
setter_none form.Setter [] span h is other = (let g : ⊥ = cc in g)
setter_none form.Setter (x ∷ []) span h is other = other refl
setter_none form.Setter (x ∷ y ∷ rest) span h is other = (let g : ⊥ = cc in g)
setter_none form.Getter params span h is other = (let g : ⊥ = cc in g)
setter_none form.Plain params span h is other = (let g : ⊥ = cc in g)
setter_none form.Async params span h is other = (let g : ⊥ = cc in g)

pub given_agrees : (fn : SourceFunction) → Agrees (given_fault fn) (λ f. IsGetterGiven fn f ⊎ IsSetterGiven fn f)
given_agrees fn = record {
  broken = λ f h. params_broken fn.func.form fn.func.params.items fn.func.span f h;
  unbroken = λ none f h. elim h [
    | inl getter ↦ getter_none fn.func.form fn.func.params.items fn.func.span none getter.0 getter.1 getter.2
    | inr setter ↦ setter_none fn.func.form fn.func.params.items fn.func.span none setter.0 setter.1
  ];
}

-- a function without a result
getter_broken : (w : FuncForm) (span : Span) (f : Fault) → getter_fault w span ≡ Some f → (w ≡ form.Getter) × (f ≡ fault 39 span)
getter_broken form.Getter span f h = (refl, (let same : Some (fault 39 span) ≡ Some f = h in let is : f ≡ fault 39 span = cc in is))
getter_broken form.Setter span f h = absurd (let g : ⊥ = cc in g)
getter_broken form.Plain span f h = absurd (let g : ⊥ = cc in g)
getter_broken form.Async span f h = absurd (let g : ⊥ = cc in g)

no_getter : (w : FuncForm) (span : Span) → getter_fault w span ≡ None → w ≡ form.Getter → ⊥
no_getter form.Getter span h is = (let g : ⊥ = cc in g)
no_getter form.Setter span h is = (let g : ⊥ = cc in g)
no_getter form.Plain span h is = (let g : ⊥ = cc in g)
no_getter form.Async span h is = (let g : ⊥ = cc in g)

pub no_result_agrees : (fn : SourceFunction) → fn.func.result ≡ None → Agrees (getter_fault fn.func.form fn.func.span) (IsGetterWithoutResult fn)
no_result_agrees fn none = record {
  broken = λ f h. (let it = getter_broken fn.func.form fn.func.span f h in (it.0, none, it.1));
  unbroken = λ first f h. no_getter fn.func.form fn.func.span first h.0;
}

-- a type that is written as a name, or as a handle that owns it
word_equal : (word id : Id) → bytes_eq word.name.now id.name.now ≡ true → (w : Id) × (Word word ≡ Word w) × (w.name.now ≡ id.name.now)
word_equal word id h = (word, refl, name_equal word.name.now id.name.now h)

word_same : (word id w : Id) → Word word ≡ Word w → w.name.now ≡ id.name.now → bytes_eq word.name.now id.name.now ≡ true
word_same word id w same is =
    let one : word ≡ w = cc in
    ap (λ (x : Id). bytes_eq x.name.now id.name.now) one ∙ ap (λ n. bytes_eq n id.name.now) is ∙ name_itself id.name.now

pub written_is : (id : Id) (t : Written) → is_written_as id (Some t) ≡ true → IsWrittenAs id t
written_is id (written.Name word) h = word_equal word id h
written_is id (written.Own span word) h = word_equal word id h
written_is id (written.Primitive span p) h = absurd (let g : ⊥ = cc in g)
written_is id (written.List' span p t) h = absurd (let g : ⊥ = cc in g)
written_is id (written.FixedLengthList' span p t size) h = absurd (let g : ⊥ = cc in g)
written_is id (written.Map' span p key q value) h = absurd (let g : ⊥ = cc in g)
written_is id (written.Option' span p t) h = absurd (let g : ⊥ = cc in g)
written_is id (written.Result span of) h = absurd (let g : ⊥ = cc in g)
written_is id (written.Tuple' span shape ts) h = absurd (let g : ⊥ = cc in g)
written_is id (written.Future' span t) h = absurd (let g : ⊥ = cc in g)
written_is id (written.Stream' span t) h = absurd (let g : ⊥ = cc in g)
written_is id (written.Borrow span word) h = absurd (let g : ⊥ = cc in g)

pub is_written : (id : Id) (t : Written) → IsWrittenAs id t → is_written_as id (Some t) ≡ true
is_written id (written.Name word) h = word_same word id h.0 h.1 h.2
is_written id (written.Own span word) h = word_same word id h.0 h.1 h.2
is_written id (written.Primitive span p) h = (let wrong = h.1 in absurd (let g : ⊥ = cc in g))
is_written id (written.List' span p t) h = (let wrong = h.1 in absurd (let g : ⊥ = cc in g))
is_written id (written.FixedLengthList' span p t size) h = (let wrong = h.1 in absurd (let g : ⊥ = cc in g))
is_written id (written.Map' span p key q value) h = (let wrong = h.1 in absurd (let g : ⊥ = cc in g))
is_written id (written.Option' span p t) h = (let wrong = h.1 in absurd (let g : ⊥ = cc in g))
is_written id (written.Result span Neither) h = (let wrong = h.1 in absurd (let g : ⊥ = cc in g))
is_written id (written.Result span (Ok' p t)) h = (let wrong = h.1 in absurd (let g : ⊥ = cc in g))
is_written id (written.Result span (Err' p t)) h = (let wrong = h.1 in absurd (let g : ⊥ = cc in g))
is_written id (written.Result span (Both' p t q u)) h = (let wrong = h.1 in absurd (let g : ⊥ = cc in g))
is_written id (written.Tuple' span shape ts) h = (let wrong = h.1 in absurd (let g : ⊥ = cc in g))
is_written id (written.Future' span None') h = (let wrong = h.1 in absurd (let g : ⊥ = cc in g))
is_written id (written.Future' span (Some' p t)) h = (let wrong = h.1 in absurd (let g : ⊥ = cc in g))
is_written id (written.Stream' span None') h = (let wrong = h.1 in absurd (let g : ⊥ = cc in g))
is_written id (written.Stream' span (Some' p t)) h = (let wrong = h.1 in absurd (let g : ⊥ = cc in g))
is_written id (written.Borrow span word) h = (let wrong = h.1 in absurd (let g : ⊥ = cc in g))

-- the result of a setter
setter_broken : (t : Written) (ok : Option (Option Written)) (f : Fault) → setter_fault t ok ≡ Some f → (ok ≡ Some None → ⊥) × (f ≡ fault 40 (type_span t))
setter_broken t None f h = ((λ is. (let g : ⊥ = cc in g)), (let same : Some (fault 40 (type_span t)) ≡ Some f = h in let is : f ≡ fault 40 (type_span t) = cc in is))
setter_broken t (Some None) f h = absurd (let g : ⊥ = cc in g)
setter_broken t (Some (Some u)) f h = ((λ is. (let g : ⊥ = cc in g)), (let same : Some (fault 40 (type_span t)) ≡ Some f = h in let is : f ≡ fault 40 (type_span t) = cc in is))

setter_right : (t : Written) (ok : Option (Option Written)) → setter_fault t ok ≡ None → (ok ≡ Some None → ⊥) → ⊥
setter_right t None h other = (let g : ⊥ = cc in g)
setter_right t (Some None) h other = other refl
setter_right t (Some (Some u)) h other = (let g : ⊥ = cc in g)

-- that of a constructor
abbrev IsMadeOther : Id → Written → Option (Option Written) → Fault → Type 0
IsMadeOther of t ok f = (u : Option Written) × (ok ≡ Some u) × ((v : Written) → u ≡ Some v → IsWrittenAs of v → ⊥) × (f ≡ fault 42 (ok_span t))

other_broken : (of : Id) (t : Written) (u : Option Written) (f : Fault) → made_fault of t (Some u) ≡ Some f → IsMadeOther of t (Some u) f
other_broken of t u f h = by (is_written_as of u) refl
  where
    by : (b : Bool) → is_written_as of u ≡ b → IsMadeOther of t (Some u) f
    by true is = (let wrong : None ≡ Some f = rw is at h in let g : ⊥ = cc in absurd g)
    by false is = (
      u,
      refl,
      (λ v some own. (let passes : is_written_as of u ≡ true = ap (is_written_as of) some ∙ is_written of v own in let wrong : true ≡ false = sym passes ∙ is in let g : ⊥ = cc in g)),
      (let same : Some (fault 42 (ok_span t)) ≡ Some f = rw is at h in let it : f ≡ fault 42 (ok_span t) = cc in it),
    )

made_broken : (of : Id) (t : Written) (ok : Option (Option Written)) (f : Fault) → made_fault of t ok ≡ Some f → ((ok ≡ None) × (f ≡ fault 41 (type_span t))) ⊎ IsMadeOther of t ok f
made_broken of t None f h = inl (refl, (let same : Some (fault 41 (type_span t)) ≡ Some f = h in let is : f ≡ fault 41 (type_span t) = cc in is))
made_broken of t (Some u) f h = inr (other_broken of t u f h)

made_some : (of : Id) (t : Written) (ok : Option (Option Written)) → made_fault of t ok ≡ None → ok ≡ None → ⊥
made_some of t None h is = (let g : ⊥ = cc in g)
made_some of t (Some u) h is = (let g : ⊥ = cc in g)

made_right : (of : Id) (t : Written) (u : Option Written) → made_fault of t (Some u) ≡ None → ((v : Written) → u ≡ Some v → IsWrittenAs of v → ⊥) → ⊥
made_right of t None h other = (let g : ⊥ = cc in g)
made_right of t (Some v) h other = by (is_written_as of (Some v)) refl
  where
    by : (b : Bool) → is_written_as of (Some v) ≡ b → ⊥
    by true is = other v refl (written_is of v is)
    by false is = (let wrong : Some (fault 42 (ok_span t)) ≡ None = rw is at h in let g : ⊥ = cc in g)

-- that of a function of any form and role
abbrev IsOfRole : FuncForm → Role → Written → Option (Option Written) → Fault → Type 0
IsOfRole w r t ok f = ((w ≡ form.Setter) × ((ok ≡ Some None → ⊥) × (f ≡ fault 40 (type_span t)))) ⊎ ((of : Id) × (r ≡ Constructor of) × (((ok ≡ None) × (f ≡ fault 41 (type_span t))) ⊎ IsMadeOther of t ok f))

result_broken : (w : FuncForm) (r : Role) (t : Written) (ok : Option (Option Written)) (f : Fault) → result_fault w r t ok ≡ Some f → IsOfRole w r t ok f
result_broken form.Setter r t ok f h = inl (refl, setter_broken t ok f h)
result_broken form.Getter (Constructor of) t ok f h = inr (of, refl, made_broken of t ok f h)
result_broken form.Getter (Freestanding id w) t ok f h = absurd (let g : ⊥ = cc in g)
result_broken form.Getter (Method of w) t ok f h = absurd (let g : ⊥ = cc in g)
result_broken form.Getter (Static of w) t ok f h = absurd (let g : ⊥ = cc in g)
result_broken form.Getter (OnSide side id w) t ok f h = absurd (let g : ⊥ = cc in g)
result_broken form.Plain (Constructor of) t ok f h = inr (of, refl, made_broken of t ok f h)
result_broken form.Plain (Freestanding id w) t ok f h = absurd (let g : ⊥ = cc in g)
result_broken form.Plain (Method of w) t ok f h = absurd (let g : ⊥ = cc in g)
result_broken form.Plain (Static of w) t ok f h = absurd (let g : ⊥ = cc in g)
result_broken form.Plain (OnSide side id w) t ok f h = absurd (let g : ⊥ = cc in g)
result_broken form.Async (Constructor of) t ok f h = inr (of, refl, made_broken of t ok f h)
result_broken form.Async (Freestanding id w) t ok f h = absurd (let g : ⊥ = cc in g)
result_broken form.Async (Method of w) t ok f h = absurd (let g : ⊥ = cc in g)
result_broken form.Async (Static of w) t ok f h = absurd (let g : ⊥ = cc in g)
result_broken form.Async (OnSide side id w) t ok f h = absurd (let g : ⊥ = cc in g)

setter_result : (r : Role) (w : FuncForm) (t : Written) (ok : Option (Option Written)) → w ≡ form.Setter → result_fault w r t ok ≡ None → setter_fault t ok ≡ None
setter_result r w t ok is none = subst (λ (x : FuncForm). result_fault x r t ok ≡ None) is none

made_result : (of : Id) (w : FuncForm) (t : Written) (ok : Option (Option Written)) → (w ≡ form.Setter → ⊥) → result_fault w (Constructor of) t ok ≡ None → made_fault of t ok ≡ None
made_result of form.Setter t ok other none = absurd (other refl)
made_result of form.Getter t ok other none = none
made_result of form.Plain t ok other none = none
made_result of form.Async t ok other none = none

made_as : (of : Id) (w : FuncForm) (r : Role) (t : Written) (ok : Option (Option Written)) → r ≡ Constructor of → (w ≡ form.Setter → ⊥) → result_fault w r t ok ≡ None → made_fault of t ok ≡ None
made_as of w r t ok is other none = made_result of w t ok other (subst (λ (x : Role). result_fault w x t ok ≡ None) is none)

pub gives_agrees : (xs : List ScopeName) (fn : SourceFunction) (t : Written) → fn.func.result ≡ Some t → ((of : Id) → fn.role ≡ Constructor of → fn.func.form ≡ form.Setter → ⊥) → Agrees (result_fault fn.func.form fn.role t (result_ok xs t)) (λ f. IsSetterWithResult xs fn f ⊎ (IsConstructorWithoutResult xs fn f ⊎ IsConstructorOfOther xs fn f))
gives_agrees xs fn t given apart = record {
  broken = λ f h. elim (result_broken fn.func.form fn.role t (result_ok xs t) f h) [
    | inl setter ↦ inl (setter.0, t, given, setter.1.0, setter.1.1)
    | inr made ↦ elim made.2 [
      | inl none ↦ inr (inl (made.0, made.1, t, given, none.0, none.1))
      | inr other ↦ inr (inr (made.0, made.1, t, given, other.0, other.1, other.2, other.3))
    ]
  ];
  unbroken = λ none f h. elim h [
    | inl setter ↦ (
        let same : Some t ≡ Some setter.1 = sym given ∙ setter.2 in
        let type : setter.1 ≡ t = cc in
        setter_right t (result_ok xs t) (setter_result fn.role fn.func.form t (result_ok xs t) setter.0 none) (subst (λ (u : Written). result_ok xs u ≡ Some None → ⊥) type setter.3))
    | inr made ↦ elim made [
      | inl absent ↦ (
          let same : Some t ≡ Some absent.2 = sym given ∙ absent.3 in
          let type : absent.2 ≡ t = cc in
          made_some absent.0 t (result_ok xs t) (made_as absent.0 fn.func.form fn.role t (result_ok xs t) absent.1 (apart absent.0 absent.1) none) (ap (result_ok xs) (sym type) ∙ absent.4))
      | inr other ↦ (
          let same : Some t ≡ Some other.2 = sym given ∙ other.3 in
          let type : other.2 ≡ t = cc in
          let ok : result_ok xs t ≡ Some other.4 = ap (result_ok xs) (sym type) ∙ other.5 in
          made_right other.0 t other.4 (subst (λ (o : Option (Option Written)). made_fault other.0 t o ≡ None) ok (made_as other.0 fn.func.form fn.role t (result_ok xs t) other.1 (apart other.0 other.1) none)) other.6)
    ]
  ];
}
