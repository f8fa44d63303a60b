-- What the contracts of the C interface's books cite: include/canvasfox.h.
pub mod Numbers
