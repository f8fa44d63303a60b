-- What is found in the worked book of three cards. Assumes nothing.
use mathlib.Core.Path.{◌≡◌}
use mathlib.Core.List.{[], ◌∷◌}
use Rattle.slices.specs.Slices.{joined, number, same, tabulate}
use Rattle.refusal.specs.Refusal.{unless, ◌or_else◌, first_where}
use Rattle.field.specs.Vector.{as_vector, vector}
use Rattle.label.specs.Tests.{are_digits, are_last, all_of, is_label}
use Rattle.book_form.specs.Book.{key_of, front_in, table_in, fields_in}
use Rattle.book_form.specs.Labels.{label_at}
use Rattle.book_reader.proofs.Examples.{label_ending, three_cards, worked_book}
use Rattle.book_lookup.specs.Answer.{Found, Absent}
use Rattle.book_lookup.specs.Lookup.{lookup_refusal, place_in, key_in, no_key, lookup_at, lookup_of}

pub worked_found : lookup_of three_cards (label_ending 16 243) ≡ record { answer = Found; key = as_vector (5 ∷ 6 ∷ []) }
unfolding three_cards label_ending lookup_of lookup_refusal lookup_at place_in key_in first_where same label_at is_label all_of are_digits are_last
    key_of front_in table_in fields_in joined number unless ◌or_else◌ vector tabulate
worked_found = simp worked_book

-- a label that is not among them
pub worked_absent : lookup_of three_cards (label_ending 32 1) ≡ no_key Absent
unfolding three_cards label_ending lookup_of lookup_refusal lookup_at place_in first_where same label_at is_label all_of are_digits are_last front_in table_in number unless ◌or_else◌
worked_absent = simp worked_book
