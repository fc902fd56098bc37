-- What a function's kind says: whether it is asynchronous, which accessor it is, and of which resource.
use Rattle.std.specs.Prelude.{ℕ, Bool, true, false, Option, Some, None}
use Rattle.std.specs.Borrow.{LendsIf, MutBor, Fml}
use Rattle.wit_values.specs.declared.accessor.AccessorKind.{AccessorKind}
use Rattle.wit_values.specs.declared.accessor.AccessorKind.TheVariants as accessor
use Rattle.wit_types.specs.contracts.arena.Id.{the_row as id_row}
use Rattle.wit_types.specs.contracts.ids.TypePlace.{the_row as place_row}
use Rattle.wit_functions.specs.contracts.function.FunctionKind.{the_row}
use Rattle.wit_functions.specs.declared.function.FunctionKind.{FunctionKind}
use Rattle.wit_functions.specs.declared.function.FunctionKind.TheVariants as kind

-- calls of it may wait
abbrev pub is_async : FunctionKind → Bool
is_async kind.Freestanding = false
is_async kind.AsyncFreestanding = true
is_async kind.Getter = false
is_async kind.Setter = false
is_async (kind.Method r) = false
is_async (kind.AsyncMethod r) = true
is_async (kind.MethodGetter r) = false
is_async (kind.MethodSetter r) = false
is_async (kind.Static r) = false
is_async (kind.AsyncStatic r) = true
is_async (kind.StaticGetter r) = false
is_async (kind.StaticSetter r) = false
is_async (kind.Constructor r) = false

-- which accessor it is, if it is one
abbrev pub accessor_of : FunctionKind → Option AccessorKind
accessor_of kind.Freestanding = None
accessor_of kind.AsyncFreestanding = None
accessor_of kind.Getter = Some accessor.Getter
accessor_of kind.Setter = Some accessor.Setter
accessor_of (kind.Method r) = None
accessor_of (kind.AsyncMethod r) = None
accessor_of (kind.MethodGetter r) = Some accessor.Getter
accessor_of (kind.MethodSetter r) = Some accessor.Setter
accessor_of (kind.Static r) = None
accessor_of (kind.AsyncStatic r) = None
accessor_of (kind.StaticGetter r) = Some accessor.Getter
accessor_of (kind.StaticSetter r) = Some accessor.Setter
accessor_of (kind.Constructor r) = None

-- the resource that it belongs to, if it belongs to one
abbrev pub resource_of : FunctionKind → Option ℕ
resource_of kind.Freestanding = None
resource_of kind.AsyncFreestanding = None
resource_of kind.Getter = None
resource_of kind.Setter = None
resource_of (kind.Method r) = Some r
resource_of (kind.AsyncMethod r) = Some r
resource_of (kind.MethodGetter r) = Some r
resource_of (kind.MethodSetter r) = Some r
resource_of (kind.Static r) = Some r
resource_of (kind.AsyncStatic r) = Some r
resource_of (kind.StaticGetter r) = Some r
resource_of (kind.StaticSetter r) = Some r
resource_of (kind.Constructor r) = Some r

-- the resource that it makes, of a constructor
abbrev pub constructed : FunctionKind → Option ℕ
constructed kind.Freestanding = None
constructed kind.AsyncFreestanding = None
constructed kind.Getter = None
constructed kind.Setter = None
constructed (kind.Method r) = None
constructed (kind.AsyncMethod r) = None
constructed (kind.MethodGetter r) = None
constructed (kind.MethodSetter r) = None
constructed (kind.Static r) = None
constructed (kind.AsyncStatic r) = None
constructed (kind.StaticGetter r) = None
constructed (kind.StaticSetter r) = None
constructed (kind.Constructor r) = Some r

-- the same kind of another resource
abbrev pub with_resource : FunctionKind → ℕ → FunctionKind
with_resource kind.Freestanding i = kind.Freestanding
with_resource kind.AsyncFreestanding i = kind.AsyncFreestanding
with_resource kind.Getter i = kind.Getter
with_resource kind.Setter i = kind.Setter
with_resource (kind.Method r) i = kind.Method i
with_resource (kind.AsyncMethod r) i = kind.AsyncMethod i
with_resource (kind.MethodGetter r) i = kind.MethodGetter i
with_resource (kind.MethodSetter r) i = kind.MethodSetter i
with_resource (kind.Static r) i = kind.Static i
with_resource (kind.AsyncStatic r) i = kind.AsyncStatic i
with_resource (kind.StaticGetter r) i = kind.StaticGetter i
with_resource (kind.StaticSetter r) i = kind.StaticSetter i
with_resource (kind.Constructor r) i = kind.Constructor i

-- k ends with the resource that was left after r, if it has one
abbrev pub LendsResource : MutBor FunctionKind → Option (MutBor ℕ) → Fml
LendsResource k r = LendsIf the_row (id_row place_row) k r (with_resource k.now) k.now
