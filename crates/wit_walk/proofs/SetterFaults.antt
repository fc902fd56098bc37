-- What the first setter without its getter breaks.
use Rattle.std.proofs.Common.{if◌then◌else◌, ◌≡◌, ℕ, Bool, true, false, ◌&&◌, not, List, [], ◌∷◌, Some, None, inl, inr, refl, sym, ap, ◌∙◌, Contains, length, ◌==◌}
use Rattle.wit_syntax.proofs.Common.{Exported, Fault, FuncForm, Imported, Include, IsSetterAlone, IsUnpairedSetter, Item, SourceFunction, WorldSide, and_parts, at_contains, bytes_eq, contains_at, eqb-suc-zero, functions, getter_of, includes, list_any, lone_setter, name_itself, not-true, on_side, option_or, slice_get}
use Rattle.wit_type_tree.specs.declared.types.FuncForm.TheVariants as form
use Rattle.wit_first.proofs.Bridge.{in_some, or_some}
use Rattle.wit_first.proofs.First.{any_some}
use Rattle.wit_walk.specs.Setters.{is_setter, setter_fault, setters_fault, side_setters_fault}
use Rattle.wit_walk.proofs.ScopeFaults.{if_some}

form_is : (it : FuncForm) → is_setter it ≡ true → it ≡ form.Setter
form_is form.Setter h = refl
form_is form.Plain h = absurd (let f : ⊥ = cc in f)
form_is form.Async h = absurd (let f : ⊥ = cc in f)
form_is form.Getter h = absurd (let f : ⊥ = cc in f)

-- a setter, and no function is its getter
pub record IsAlone (fns : List SourceFunction) (fn : SourceFunction) : Type 0 where
  pub setter : fn.func.form ≡ form.Setter
  pub none : (other : SourceFunction) → Contains fns other → other.name ≡ getter_of fn.name → ⊥

-- what it is that is wrong
pub setter_alone_at : (fns : List SourceFunction) (fn : SourceFunction) (f : Fault) → setter_fault fns fn ≡ Some f → IsAlone fns fn × (f ≡ lone_setter fn.name fn.span)
setter_alone_at fns fn f h =
    let getters = list_any (λ (g : SourceFunction). bytes_eq g.name (getter_of fn.name)) fns in
    let found = if_some (is_setter fn.func.form && not getters) (lone_setter fn.name fn.span) f h in
    let parts = and_parts (is_setter fn.func.form) (not getters) found.0 in
    let alone = not-true getters parts.1 in (
      record {
        setter = form_is fn.func.form parts.0;
        none = λ g among name. (
            let j = at_contains fns g among in
            let passes : bytes_eq g.name (getter_of fn.name) ≡ true = ap (λ n. bytes_eq n (getter_of fn.name)) name ∙ name_itself (getter_of fn.name) in
            let wrong : false ≡ true = sym alone ∙ any_some (λ (g : SourceFunction). bytes_eq g.name (getter_of fn.name)) fns j.0 g j.1 passes in
            let e : ⊥ = cc in
            e);
      },
      found.1,
    )

pub setter_wrong : (fns : List SourceFunction) (k : ℕ) (fn : SourceFunction) (f : Fault) → slice_get fns k ≡ Some fn → setter_fault fns fn ≡ Some f → IsUnpairedSetter fns f
setter_wrong fns k fn f at h =
    let it = setter_alone_at fns fn f h in
    (fn, contains_at fns k fn at, it.0.setter, it.0.none, it.1)

side_wrong : (i : Item) (side : WorldSide) (f : Fault) → side_setters_fault i side ≡ Some f → IsUnpairedSetter (on_side side (functions i)) f
side_wrong i side f h =
    let fns = on_side side (functions i) in
    let it = in_some (setter_fault fns) fns f h in
    setter_wrong fns it.0 it.1 f it.2 it.3

alone_by : (i : Item) (ns : List Include) (f : Fault) → includes i ≡ ns → (if length ns == 0 then option_or (side_setters_fault i Imported) (side_setters_fault i Exported) else None) ≡ Some f → IsSetterAlone i f
alone_by i [] f none h = elim (or_some (side_setters_fault i Imported) (side_setters_fault i Exported) f h) [
  | inl own ↦ (none, Imported, side_wrong i Imported f own)
  | inr far ↦ (none, Exported, side_wrong i Exported f far.1)
]
alone_by i (n ∷ ns) f some h = absurd (let wrong : None ≡ Some f = sym (ap (λ (b : Bool). if b then option_or (side_setters_fault i Imported) (side_setters_fault i Exported) else None) (eqb-suc-zero (length ns))) ∙ h in let g : ⊥ = cc in g)

pub setter_alone : (i : Item) (f : Fault) → setters_fault i ≡ Some f → IsSetterAlone i f
setter_alone i f h = alone_by i (includes i) f refl h
