-- What it took to order a table.
use Rattle.std.specs.Prelude.{◌≡◌, List, length, sum_by}
use Rattle.wit_order.specs.declared.ready.Steps.{Steps}
use Rattle.wit_graph.specs.Table.{Row}

-- each name was put in once, and each needed name counted down once, repeats too
pub record IsCounted (rs : List Row) (steps : Steps) : Type 0 where
  pub entered : steps.entered ≡ length rs
  pub closed : steps.closed ≡ sum_by (λ (row : Row). length row.needs) rs
