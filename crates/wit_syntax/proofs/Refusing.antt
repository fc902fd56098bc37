-- Refusals, passed on.
use Rattle.std.proofs.Common.{inl, inr}
use Rattle.wit_type_tree.specs.declared.error.ParseError.{ParseError}
use Rattle.wit_syntax.specs.Fault.{Fault}
use Rattle.wit_syntax.specs.Broken.{Refused}

-- a fault of one kind is one of a wider kind
pub refused_weaker : (P Q : Fault → Type 0) (e : ParseError) → ((f : Fault) → P f → Q f) → Refused P e → Refused Q e
refused_weaker P Q e weaker h = elim h [ inl memory ↦ inl memory | inr p ↦ inr (weaker _ p) ]
