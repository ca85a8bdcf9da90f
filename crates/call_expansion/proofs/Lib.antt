-- Laws of cuboids written from slots.
pub mod Slots
