pub mod StateLemmas
pub mod TextLemmas
pub mod UnitLemmas
