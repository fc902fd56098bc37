-- What a fault says of the rows: for callers.
use Rattle.std.proofs.Common.{◌≡◌, ℕ, ◌<◌, List, length, sym, ◌∙◌, ap, subst, Some, slice_get}
use Rattle.std.proofs.lemmas.Option.{slice_get_within, same_Some}
use Rattle.wit_type_tree.specs.declared.leaves.Id.{Id}
use Rattle.wit_type_tree.specs.declared.error.ParseErrorKind.{ParseErrorKind}
use Rattle.wit_type_tree.specs.RefusalText.{IsTypeCycle}
use Rattle.wit_graph.specs.Table.{Row, IsEdge}
use Rattle.wit_graph.specs.TableFaults.{IsFirstMissing, IsFirstCyclic}
use Rattle.wit_graph.specs.Refused.{IsNotFound, RefusesMissing, RefusesCycle}

-- an edge's name is at its index in the row
pub edge_need : (rs : List Row) (i k : ℕ) (id : Id) (row : Row) → IsEdge rs i k id → slice_get rs i ≡ Some row → slice_get row.needs k ≡ Some id
edge_need rs i k id row e at =
    let rows : Some e.0 ≡ Some row = sym e.1 ∙ at in
    ap (λ (v : Row). slice_get v.needs k) (sym (same_Some e.0 row rows)) ∙ e.2

pub edge_index : (rs : List Row) (i k : ℕ) (id : Id) (row : Row) → IsEdge rs i k id → slice_get rs i ≡ Some row → k < length row.needs
edge_index rs i k id row e at = slice_get_within row.needs k id (edge_need rs i k id row e at)

-- a refusal of the first missing name, by the id that is there
pub refuses_missing : (rs : List Row) (i k : ℕ) (id : Id) (row : Row) (sort : List ℕ) (kind : ParseErrorKind) → IsFirstMissing rs i k → slice_get rs i ≡ Some row → slice_get row.needs k ≡ Some id
    → IsNotFound id.span id.name.now sort kind → RefusesMissing rs sort kind
refuses_missing rs i k id row sort kind f at there says =
    let ids : Some f.id ≡ Some id = sym (edge_need rs i k f.id row f.first.is at) ∙ there in
    record { place = i; index = k; id = f.id; first = f.first; says = subst (λ (x : Id). IsNotFound x.span x.name.now sort kind) (sym (same_Some f.id id ids)) says }

pub refuses_cycle : (rs : List Row) (i k : ℕ) (id : Id) (row : Row) (sort : List ℕ) (kind : ParseErrorKind) → IsFirstCyclic rs i k → slice_get rs i ≡ Some row → slice_get row.needs k ≡ Some id
    → IsTypeCycle id.span id.name.now sort kind → RefusesCycle rs sort kind
refuses_cycle rs i k id row sort kind f at there says =
    let ids : Some f.id ≡ Some id = sym (edge_need rs i k f.id row f.first.is at) ∙ there in
    record { complete = f.complete; place = i; index = k; id = f.id; first = f.first; says = subst (λ (x : Id). IsTypeCycle x.span x.name.now sort kind) (sym (same_Some f.id id ids)) says }
