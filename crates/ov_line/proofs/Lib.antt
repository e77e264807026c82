-- Facts on what objects have under names.
pub mod Has
-- Numbers of 32 bits: what the texts of lines ask of them.
pub mod Widths
-- Values of plain numbers and texts: their compact text reads as the value.
pub mod PlainText
-- The compact text of a line that sends a packet says the line.
pub mod TxText
-- The compact text of a line by which a datagram comes says the line.
pub mod RxText
-- The compact text of a line that makes a peer says the line.
pub mod PeerText
-- The compact text of a line that makes a key says the line.
pub mod KeyText
-- Digits by lanes: what a lane computes is what its digit stands for, and pairs of lanes are the bytes.
pub mod HexLanes
-- Facts on the names of objects.
pub mod Names
-- Facts on options and answers that the grammar's parts share.
pub mod Options
-- The words of lines tell their forms apart.
pub mod Words
-- A line that bytes say is as short as the grammar says.
pub mod Fitting
-- Bytes say one line at most.
pub mod Unique
