pub mod DeliveryLemmas
pub mod SlotUseLemmas
pub mod TextLemmas
