-- One arena of types is what some first occurrences make, where each scope has one name that is called so.
use Rattle.std.proofs.Common.{◌≡◌, ℕ, List, length, take, Some, sym, ap, ◌∙◌, subst, arith, Contains}
use Rattle.wit_arena.proofs.Names.{Address, AreDistinct, Def, Form, IsEntryOf, Key, Occurrence, ScopeName, Span, Stability, TypeDef, TypeDefKind, TypeOwner, Whole, about_name, at_contains, at_within, differ_at, kind_of, local_name, name_exprs, slice_get, slice_get_within, types_of}
use Rattle.wit_types.specs.declared.types.«Type».{«Type» as Ty}
use Rattle.wit_arena.proofs.OneKind.{one_kind, same_some}
use Rattle.wit_arena.proofs.OneList.{same_by_prefixes}

-- of distinct names one is called so
pub one_called : (xs : List ScopeName) → AreDistinct xs → (x y : ScopeName) → Contains xs x → Contains xs y → local_name x ≡ local_name y → x ≡ y
one_called xs differ x y in_x in_y same =
    let a = at_contains xs x in_x in
    let b = at_contains xs y in_y in
    let place : a.0 ≡ b.0 = differ_at local_name xs differ a.0 b.0 x y a.1 b.1 same in
    same_some (sym a.1 ∙ ap (slice_get xs) place ∙ b.1)

same_kind : (k l : TypeDefKind) → kind_of k ≡ kind_of l → k ≡ l
same_kind k l same = one_kind k l (ap (λ (t : Form × List Ty). t.0) same) (ap (λ (t : Form × List Ty). t.1) same)

module _ (names : Address → List ScopeName) (differ : (s : Address) → AreDistinct (names s)) (owner_of : Address → TypeOwner) (id : Key → ℕ) where
  -- there is one entry of what occurs, after the same ones
  one_entry : (es : List TypeDef) (k : Key) (span : Span) (given : Stability) (e f : TypeDef) → IsEntryOf names owner_of id es k span given e → IsEntryOf names owner_of id es k span given f → e ≡ f
  one_entry es (Def s name) span given e f a b =
      let one : a.0 ≡ b.0 = one_called (names s) (differ s) a.0 b.0 a.2 b.2 (a.3 ∙ sym b.3) in
      let kind : a.1 ≡ b.1 = same_kind a.1 b.1 (a.4 ∙ ap (λ (x : ScopeName). ((about_name x).body.form, types_of id (name_exprs s x))) one ∙ sym b.4) in
      cc (a.5, ap about_name one, kind, b.5)
  one_entry es (Whole form parts) span given e f a b = cc (a.2, same_kind a.0 b.0 (a.1 ∙ sym b.1), b.2)

  -- these are the entries of what occurs, each after those before it
  abbrev pub AreEntries : List Occurrence → List TypeDef → Type 0
  AreEntries seen es = (n : ℕ) (m : Occurrence) (e : TypeDef) → slice_get seen n ≡ Some m → slice_get es n ≡ Some e → IsEntryOf names owner_of id (take n es) m.key m.span m.given e

  pub one_arena : (seen : List Occurrence) (es fs : List TypeDef) → length es ≡ length seen → length fs ≡ length seen → AreEntries seen es → AreEntries seen fs → es ≡ fs
  one_arena seen es fs count count' a b = same_by_prefixes es fs (count ∙ sym count') agree
    where
      agree : (n : ℕ) (e f : TypeDef) → take n es ≡ take n fs → slice_get es n ≡ Some e → slice_get fs n ≡ Some f → e ≡ f
      agree n e f prefix at_e at_f =
          let lt = slice_get_within es n e at_e in
          let m = at_within seen n (omega (arith, lt, count)) in
          one_entry (take n es) m.0.key m.0.span m.0.given e f (a n m.0 e m.1 at_e) (subst (λ (l : List TypeDef). IsEntryOf names owner_of id l m.0.key m.0.span m.0.given f) (sym prefix) (b n m.0 f m.1 at_f))
