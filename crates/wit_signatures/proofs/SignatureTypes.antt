-- The types that are written in a function, as the types in its signature.
use Rattle.std.proofs.Common.{◌≡◌, Option, Some, ap}
use Rattle.wit_arena.proofs.Common.{Id, ResourceFunc, SourceFunction, Word, option_map, option_map_or, resource_function, shape_of, «Type» as Written}
use Rattle.wit_type_tree.specs.declared.types.ResourceFunc.TheVariants as resource
use Rattle.wit_rules.specs.declared.borrowed.BorrowedFunction.{BorrowedFunction}
use Rattle.wit_rules.specs.declared.borrowed.BorrowedFunction.TheVariants as borrowed
use Rattle.wit_rules.specs.Signatures.{function_view}

-- the written type of a function's result has the shape of that
abbrev IsWritten : SourceFunction → Type 0
IsWritten fn = (t : Written) → fn.func.result ≡ Some t → fn.result ≡ Some (shape_of t)

written_of : (r : Id) (f : ResourceFunc) → IsWritten (resource_function r f)
written_of r (resource.Method f) t is = ap (option_map shape_of) is
written_of r (resource.Static f) t is = ap (option_map shape_of) is
written_of r (resource.Constructor docs attributes span params result) t is = ap (λ (o : Option Written). Some (option_map_or shape_of o (Word r))) is

written_view : (h : BorrowedFunction) → IsWritten (function_view h)
written_view (borrowed.Free f) t is = ap (option_map shape_of) is
written_view (borrowed.Of r f) t is = written_of r f.now t is
written_view (borrowed.Across side docs attributes name f) t is = ap (option_map shape_of) is

pub result_shape : (h : BorrowedFunction) (t : Written) → (function_view h).func.result ≡ Some t → (function_view h).result ≡ Some (shape_of t)
result_shape h t is = written_view h t is
