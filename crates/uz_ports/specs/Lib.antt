pub mod BoardStates
pub mod Boards
pub mod HeldStoreFits
