pub mod Answering
pub mod Checks
pub mod Choosing
pub mod Seats
pub mod Standing
pub mod UnderWay
