-- An audit's refusals by the length of its output, and what the header file says beside the contracts.
pub mod OutputLength
pub mod Header
