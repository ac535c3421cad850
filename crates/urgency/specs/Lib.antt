pub mod Keys
pub mod Urgency
