-- The first line of a book's text, as antt computes it. Assumes nothing.
use mathlib.Core.Path.{◌≡◌, refl}
use mathlib.Core.List.{[], ◌∷◌}
use Rattle.text.specs.Text.{last_digit, decimal, numbered, line_feed}
use Rattle.book_lines.specs.BookLines.{q_word, n_word, m_word, count_word, sizes_line}

-- q 7 n 3 m 2 count 2000
pub worked_sizes : sizes_line (record { count = 2000; q = 7; n = 3; m = 2 }) ≡ 113 ∷ 32 ∷ 55 ∷ 32 ∷ 110 ∷ 32 ∷ 51 ∷ 32 ∷ 109 ∷ 32 ∷ 50 ∷ 32 ∷ 99 ∷ 111 ∷ 117 ∷ 110 ∷ 116 ∷ 32 ∷ 50 ∷ 48 ∷ 48 ∷ 48 ∷ 10 ∷ []
unfolding sizes_line numbered decimal last_digit q_word n_word m_word count_word line_feed
worked_sizes = refl
