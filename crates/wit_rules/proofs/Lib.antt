pub mod FunctionRules
pub mod ListRules
