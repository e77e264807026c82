-- The texts of replies have no fractions, so the printer's text of each is exact.
pub mod NoFloat
-- The texts of replies as the pieces that they are put together of.
pub mod Lines
-- What peer-get shows of a peer, as the pieces that it is put together of.
pub mod Viewed
-- Digits and addresses have no character that a JSON text escapes.
pub mod Plain
-- The digits of bytes, sixteen bytes at a time.
pub mod Woven
