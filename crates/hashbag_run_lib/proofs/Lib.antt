pub mod CommandLemmas
pub mod ExecutionLemmas
pub mod OutputLemmas
