use Rattle.std.proofs.Common.{◌≡◌, ◌++◌, Bool, true, false, List, map, Some, inl, inr, sym, ap, ◌∙◌}
use Rattle.wit_arena.proofs.Common.{Id, SourceFunction, codes, function_as_type, if◌then◌else◌, list_any, missing_at, name_word}
use Rattle.wit_walk.proofs.Common.{any-map, is_free, lost_word}
use Rattle.wit_rules.specs.declared.borrowed.BorrowedFunction.{BorrowedFunction}
use Rattle.wit_rules.specs.Signatures.{function_view}
use Rattle.wit_entries.proofs.names.refuse_word.Goals as goal

-- which of both faults it is
lost_is : (hs : List BorrowedFunction) (id : Id) (b : Bool) → list_any (λ (h : BorrowedFunction). is_free id.name.now (function_view h).role) hs ≡ b → lost_word (map function_view hs) id ≡ (if b then function_as_type id else missing_at 29 name_word id)
lost_is hs id b is = ap (λ (any : Bool). if any then function_as_type id else missing_at 29 name_word id) (any-map (λ (fn : SourceFunction). is_free id.name.now fn.role) function_view hs ∙ is)

pub returns-then-have_name : goal.returns-then-have_name
returns-then-have_name c = elim (c.refuse_in.ensures (codes "cannot use function `" ++ (c.args.id.name.now ++ codes "` as a type")) c.function_as_type.ensures) [
  | inl memory ↦ inl memory
  | inr says ↦ inr (ap Some (lost_is c.args.functions.now c.args.id true (sym c.have_name.ensures ∙ c.if-have_name.true) ∙ sym says))
]

pub returns : goal.returns
returns c = elim c.refuse_missing.ensures [
  | inl memory ↦ inl memory
  | inr says ↦ inr (ap Some (lost_is c.args.functions.now c.args.id false (sym c.have_name.ensures ∙ c.if-have_name.false) ∙ sym says))
]
