mod SignatureTypes
mod FunctionParts
pub mod FunctionFaults
mod WholeFunctions
pub mod Mangling
