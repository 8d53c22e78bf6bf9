pub mod ScriptFacts
pub mod Decided
mod Examples
mod LocalExamples
pub mod Never
