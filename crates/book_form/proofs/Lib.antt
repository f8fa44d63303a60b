-- Laws of a book's form: what is written and read, labels that are not refused, and loops that end at a refusal.
pub mod BookLayout
pub mod LabelPlaces
pub mod Rising
pub mod RightValues
pub mod Loops
