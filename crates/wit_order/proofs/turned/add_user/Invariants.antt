use Rattle.std.proofs.Common.{◌≡◌, ℕ, ◌+◌, List, length, take, cond, nat_eq}
use Rattle.wit_order.specs.Heap.{times}
use Rattle.wit_order.specs.Turned.{IsFilling, HasRoom}
use Rattle.wit_order.proofs.turned.add_user.Given as goal

abbrev pub invariant-loop-w : goal.invariant-loop-w
invariant-loop-w l = record {
  wide : length l.users ≡ length l.initial.users;
  long : length l.prefixes ≡ length l.initial.prefixes;
  filling : (starts : List ℕ) (put : ℕ → ℕ) (seen : ℕ → ℕ → ℕ) → IsFilling starts put seen l.initial.users l.initial.prefixes → HasRoom starts put l.row
      → IsFilling starts (λ w. put w + times w (take l.w-index l.row)) (λ w q. seen w q + cond (nat_eq l.p q) (times w (take l.w-index l.row)) 0) l.users l.prefixes;
}
