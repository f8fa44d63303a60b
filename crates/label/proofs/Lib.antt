-- Laws of labels: their halves, their tests, their order.
pub mod Halves
pub mod Labels
pub mod Order
