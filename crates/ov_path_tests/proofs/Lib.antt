-- What each call makes of the plain desk.
pub mod Plain
