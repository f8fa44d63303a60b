-- A simulation is refused exactly when its arguments are not right, what one that is not refused has, and that what it writes is accepted.
pub mod Accepted
pub mod Arguments
pub mod NotRefused
