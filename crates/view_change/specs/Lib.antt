pub mod SeatList
pub mod Inside
