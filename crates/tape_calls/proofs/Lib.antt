-- The laws of the crate.
pub mod CellRooms
pub mod Rooms
