-- Laws of refusals by the state.
pub mod States
