-- What is claimed of the lookup: document 02, paper 2. It names the fields of a well-formed book, and none of the definitions by which the code looks.
use Rattle.std.specs.Prelude.{ℕ, ◌<◌, ◌≡◌, ◌↔◌, List}
use Rattle.field.specs.Vector.{as_vector}
use Rattle.book_form.specs.Book.{label_of, key_of, Fields}
use Rattle.book_lookup.specs.Answer.{Found, Absent, LookedUp}

-- card i of a book has the label
abbrev pub HasLabel : Fields → List ℕ → ℕ → Type 0
HasLabel f label i = (i < f.front.count) × (label_of f.labels i ≡ label)

-- "answers the key, or absent exactly when no entry has the label"; no other card has it, since labels rise strictly
pub record RightAnswer (f : Fields) (label : List ℕ) (r : LookedUp) : Type 0 where
  pub absent_when : (r.answer ≡ Absent) ↔ ((i : ℕ) → HasLabel f label i → ⊥)
  pub found_when : (i : ℕ) → HasLabel f label i → r ≡ record { answer = Found; key = as_vector (key_of f.front f.keys i) }
  pub one_card : (i j : ℕ) → HasLabel f label i → HasLabel f label j → i ≡ j
