-- What an answer of the reader tells. Assumes nothing.
use Rattle.std.specs.Prelude.{ℕ, List, Result, Ok, Err, IfOk}
use mathlib.Core.Path.{◌≡◌, ap, ◌∙◌}
use Rattle.refusal.specs.declared.Refusal.{Refusal}
use Rattle.refusal.specs.Refusal.{number_of}
use Rattle.book_form.specs.declared.layout.Front.{Front}
use Rattle.book_form.specs.Book.{front_in}
use Rattle.book_form.proofs.Loops.{some_number}
use Rattle.book_reader.specs.Reader.{book_refusal}

-- where nothing is refused, the answer is count, q, n and m
pub reading_good : (b : List ℕ) (r : Result Front Refusal) → number_of r ≡ book_refusal b → IfOk r (λ front. front ≡ front_in b) → book_refusal b ≡ 0 → r ≡ Ok (front_in b)
reading_good b (Ok front) number read none = ap Ok read
reading_good b (Err refusal) number read none = absurd (some_number refusal (number ∙ none))
