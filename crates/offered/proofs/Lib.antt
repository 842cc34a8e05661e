-- What the units hold, and the premises of the theorems of `unit`.
pub mod Offered
pub mod Units
pub mod Refused
