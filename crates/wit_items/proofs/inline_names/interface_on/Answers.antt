use Rattle.std.proofs.Common.{◌≡◌, refl, sym, ◌∙◌, true, false, subst}
use Rattle.wit_arena.proofs.Common.{ExternKind, definition_functions, extern_items, filter, is_interface}
use Rattle.wit_items.proofs.Inlined.{extern_on, no_interfaces}
use Rattle.wit_items.proofs.inline_names.interface_on.Goals as goal

pub returns-then-not-is_same_side : goal.returns-then-not-is_same_side
returns-then-not-is_same_side c = rw c.in-Extern.is (extern_on c.args.side c.in-Extern.written false (sym c.is_same_side.ensures ∙ c.if-not-is_same_side.true))

pub returns-in-Func : goal.returns-in-Func
returns-in-Func c = rw c.in-Extern.is (extern_on c.args.side c.in-Extern.written true (sym c.is_same_side.ensures ∙ c.if-not-is_same_side.false) ∙ rw c.in-Func.is refl)

pub returns-in-Interface : goal.returns-in-Interface
returns-in-Interface c =
    let x = c.in-Extern.written in
    rw c.in-Extern.is (extern_on c.args.side x true (sym c.is_same_side.ensures ∙ c.if-not-is_same_side.false) ∙ subst (λ (k : ExternKind). filter is_interface (extern_items x k) ≡ extern_items x k) (sym c.in-Interface.is) refl)

pub returns-in-Path : goal.returns-in-Path
returns-in-Path c = rw c.in-Extern.is (extern_on c.args.side c.in-Extern.written true (sym c.is_same_side.ensures ∙ c.if-not-is_same_side.false) ∙ rw c.in-Path.is refl)

pub returns-in-NamedPath : goal.returns-in-NamedPath
returns-in-NamedPath c = rw c.in-Extern.is (extern_on c.args.side c.in-Extern.written true (sym c.is_same_side.ensures ∙ c.if-not-is_same_side.false) ∙ rw c.in-NamedPath.is refl)

pub returns-in-TypeDef : goal.returns-in-TypeDef
returns-in-TypeDef c = rw c.in-TypeDef.is (no_interfaces c.args.side (definition_functions c.in-TypeDef.field-0.name c.in-TypeDef.field-0.body))
