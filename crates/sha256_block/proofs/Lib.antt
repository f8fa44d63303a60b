-- The laws that several functions' proofs share.
mod MessageSchedule
mod Operations
mod Rounds
