pub mod Field
pub mod SBox
pub mod KeySchedule
pub mod Cipher
pub mod Aes
pub mod Words
pub mod Nibbles
pub mod RoundKeys
