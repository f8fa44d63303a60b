-- Laws of a round's messages, for honest rounds, sessions and the simulator.
pub mod Formed
pub mod Joined
pub mod Parts
pub mod ReadBack
