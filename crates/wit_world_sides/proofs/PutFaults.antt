-- What is found of a name, a link and setters that come onto a side of a world.
use Rattle.std.proofs.Common.{◌≡◌, ◌⊎◌, ◌&&◌, ℕ, Bool, true, false, List, [], ◌∷◌, Option, Some, None, Contains, nat_eq, is_none, inl, inr, refl, sym, ap, ◌∙◌, eq-eqb, eqb-true}
use Rattle.wit_arena.proofs.Common.{Constructor, Fault, Freestanding, Id, IsAllocationFailure, Link, Method, OnSide, ParseError, Refused, Role, SideItem, SideLink, Span, Static, WorldSide, any_found, at_contains, bytes_eq, contains_at, false_from_ne_true, fault_of, if◌then◌else◌, item_side, linked_twice, list_any, name_equal, name_itself, option_or, path_id}
use Rattle.wit_walk.proofs.Common.{Reports, any_some, first_in, is_extern, is_on_side, none_both, or_none, repeat_of, reports_back}
use Rattle.wit_refusals.specs.KeyedNames.{HasName}
use Rattle.wit_refusals.specs.NameScopes.{Name, AreUsed, IsDefinedAgain}
use Rattle.wit_rules.specs.Signatures.{across_of}
use Rattle.wit_sides.specs.declared.sides.Sides.{Sides}
use Rattle.wit_signatures.specs.FunctionsOfScope.{name_of_id}
use Rattle.wit_externs.specs.Clash.{again_fault, item_names, linked_on}
use Rattle.wit_externs.proofs.AloneFaults.{again_free, again_report}
use Rattle.wit_world_sides.specs.declared.members.Members.{Members}
use Rattle.wit_world_sides.specs.declared.sides.WorldSides.{WorldSides}
use Rattle.wit_world_sides.specs.Members.{clash_fault, put_fault, put_link_fault, side_fault}
use Rattle.wit_world_sides.proofs.Putting.{names_itself, names_under}

-- a name that is spelled like one of these, and one that is not
crossed_has : (as_crossed : List ℕ → Span → Fault) (names : List Name) (name : List ℕ) (span : Span) → HasName names name → repeat_of (λ (m : Name). m.0) (λ (m : Name). as_crossed m.0 m.1) names (name, span) ≡ Some (as_crossed name span)
crossed_has as_crossed names name span has =
    let hit = any_some (λ (m : Name). bytes_eq m.0 name) names has.place (name, has.span) has.at (name_itself name) in
    ap (λ (b : Bool). if b then Some (as_crossed name span) else None) hit

crossed_free : (as_crossed : List ℕ → Span → Fault) (names : List Name) (name : List ℕ) (span : Span) → (HasName names name → ⊥) → repeat_of (λ (m : Name). m.0) (λ (m : Name). as_crossed m.0 m.1) names (name, span) ≡ None
crossed_free as_crossed names name span free =
    let test = λ (m : Name). bytes_eq m.0 name in
    let miss : list_any test names ≡ false = false_from_ne_true (list_any test names) (λ hit. (
    let it = any_found test names hit in
    free (record { place = it.0; span = it.1.1; at = it.2 ∙ ap (λ (n : List ℕ). Some (n, it.1.1)) (name_equal it.1.0 name it.3) }))) in
    ap (λ (b : Bool). if b then Some (as_crossed name span) else None) miss

-- of the name of an import or an export: its key is new on its side; or the name is there, or it is not, and something is wrong
pub named_free : (as_crossed : List ℕ → Span → Fault) (names : List Name) (name : List ℕ) (span : Span) → (AreUsed names name → ⊥) → option_or (if true then repeat_of (λ (m : Name). m.0) (λ (m : Name). as_crossed m.0 m.1) names (name, span) else None) (again_fault names (name, span)) ≡ None
named_free as_crossed names name span free = none_both (crossed_free as_crossed names name span (λ has. free (record { place = has.place; earlier = (name, has.span); at = has.at; same = refl }))) (again_free names name span free)

pub named_has : (as_crossed : List ℕ → Span → Fault) (names : List Name) (name : List ℕ) (span : Span) (e : ParseError) → HasName names name → IsAllocationFailure e ⊎ (fault_of e ≡ as_crossed name span) → Reports (option_or (if true then repeat_of (λ (m : Name). m.0) (λ (m : Name). as_crossed m.0 m.1) names (name, span) else None) (again_fault names (name, span))) e
named_has as_crossed names name span e has h = elim h [
  | inl memory ↦ inl memory
  | inr is ↦ inr (ap (λ (o : Option Fault). option_or o (again_fault names (name, span))) (crossed_has as_crossed names name span has) ∙ ap Some (sym is))
]

pub named_other : (as_crossed : List ℕ → Span → Fault) (names : List Name) (name : List ℕ) (span : Span) (e : ParseError) → (HasName names name → ⊥) → Refused (IsDefinedAgain names name span) e → Reports (option_or (if true then repeat_of (λ (m : Name). m.0) (λ (m : Name). as_crossed m.0 m.1) names (name, span) else None) (again_fault names (name, span))) e
named_other as_crossed names name span e other h = reports_back (crossed_free as_crossed names name span other) (again_report names name span e h)

-- what is no import and no export
pub extern_none : (role : Role) → across_of role ≡ None → is_on_side role ≡ false
extern_none (Freestanding id form) is = refl
extern_none (Method of form) is = refl
extern_none (Static of form) is = refl
extern_none (Constructor of) is = refl
extern_none (OnSide side id form) is = absurd (let f : ⊥ = cc in f)

-- of what has one name, and of what has none
pub clash_one : (names : Sides) (sides : WorldSides) (x : SideItem) (side : WorldSide) (extern : Bool) (n : Name) → item_side x ≡ side → is_extern x ≡ extern → item_names x ≡ n ∷ [] → clash_fault names sides x ≡ side_fault names sides side extern n
clash_one names sides x side extern n there crosses named =
    ap (first_in (side_fault names sides (item_side x) (is_extern x))) named
    ∙ or_none (side_fault names sides (item_side x) (is_extern x) n)
    ∙ ap (λ (b : Bool). side_fault names sides (item_side x) b n) crosses
    ∙ ap (λ (s : WorldSide). side_fault names sides s extern n) there

clash_none : (names : Sides) (sides : WorldSides) (x : SideItem) → item_names x ≡ [] → clash_fault names sides x ≡ None
clash_none names sides x none = ap (first_in (side_fault names sides (item_side x) (is_extern x))) none

-- of a link under a name of its own
linked_named : (ids : List ℕ) (link : Link) (id : ℕ) (own : Id) → link.name ≡ Some own → (if is_none link.name && list_any (nat_eq id) ids then Some (linked_twice link.side (path_id link.path).span) else None) ≡ None
linked_named ids link id own named = ap (λ (n : Option Id). if is_none n && list_any (nat_eq id) ids then Some (linked_twice link.side (path_id link.path).span) else None) named

pub put_link_named : (m : Members) (link : Link) (id : ℕ) (own : Id) → link.name ≡ Some own → put_link_fault m link id ≡ side_fault m.in_use m.sides link.side true (name_of_id own)
put_link_named m link id own named =
    ap (λ (o : Option Fault). option_or o (put_fault m (SideLink link))) (linked_named (linked_on link.side m.links) link id own named)
    ∙ clash_one m.in_use m.sides (SideLink link) link.side true (name_of_id own) refl refl (names_under link own named)

-- and of one without: its interface is there, or it is not
linked_bare : (ids : List ℕ) (link : Link) (id : ℕ) (found : Bool) → link.name ≡ None → list_any (nat_eq id) ids ≡ found → (if is_none link.name && list_any (nat_eq id) ids then Some (linked_twice link.side (path_id link.path).span) else None) ≡ (if found then Some (linked_twice link.side (path_id link.path).span) else None)
linked_bare ids link id found bare is =
    ap (λ (n : Option Id). if is_none n && list_any (nat_eq id) ids then Some (linked_twice link.side (path_id link.path).span) else None) bare
    ∙ ap (λ (b : Bool). if b then Some (linked_twice link.side (path_id link.path).span) else None) is

put_link_bare : (m : Members) (link : Link) (id : ℕ) → link.name ≡ None → put_link_fault m link id ≡ (if is_none link.name && list_any (nat_eq id) (linked_on link.side m.links) then Some (linked_twice link.side (path_id link.path).span) else None)
put_link_bare m link id bare =
    let first = (if is_none link.name && list_any (nat_eq id) (linked_on link.side m.links) then Some (linked_twice link.side (path_id link.path).span) else None) in
    ap (option_or first) (clash_none m.in_use m.sides (SideLink link) (names_itself link bare)) ∙ or_none first

pub linked_free : (m : Members) (link : Link) (id : ℕ) → link.name ≡ None → (Contains (linked_on link.side m.links) id → ⊥) → put_link_fault m link id ≡ None
linked_free m link id bare free =
    let ids = linked_on link.side m.links in
    let miss : list_any (nat_eq id) ids ≡ false = false_from_ne_true (list_any (nat_eq id) ids) (λ hit. (
    let it = any_found (nat_eq id) ids hit in
    free (contains_at ids it.0 id (it.2 ∙ ap Some (sym (eqb-true id it.1 it.3)))))) in
    put_link_bare m link id bare ∙ linked_bare ids link id false bare miss

pub linked_report : (m : Members) (link : Link) (id : ℕ) (e : ParseError) → link.name ≡ None → Refused (λ f. Contains (linked_on link.side m.links) id × (f ≡ linked_twice link.side (path_id link.path).span)) e → Reports (put_link_fault m link id) e
linked_report m link id e bare h = elim h [
  | inl memory ↦ inl memory
  | inr again ↦ (
      let ids = linked_on link.side m.links in
      let there = at_contains ids id again.0 in
      let hit = any_some (nat_eq id) ids there.0 id there.1 (eq-eqb id id refl) in
      inr (put_link_bare m link id bare ∙ linked_bare ids link id true bare hit ∙ ap Some (sym again.1)))
]
