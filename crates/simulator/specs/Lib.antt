-- What the contract of the simulator cites, and what is asked of its arguments: document 01, "Simulator".
pub mod Arguments
pub mod Simulator
