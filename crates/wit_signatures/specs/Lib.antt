pub mod FunctionsOfScope
