-- What include/canvasfox.h says of numbers that no entry has.
use Rattle.std.specs.Prelude.{ℕ, List, eqb}
use Rattle.refusal.specs.Refusal.{unless, ◌or_else◌}
use Rattle.book_reader.specs.Reader.{book_refusal}
use Rattle.book_lookup.specs.Answer.{Answer, Found, Absent, Refused}
use Rattle.book_lookup.specs.Lookup.{lookup_of}

-- canvasfox.h: "2 where fields has not 7 bytes, whatever the book is; then the book's own"
unfoldable pub book_fields_refusal : List ℕ → ℕ → ℕ
book_fields_refusal b room = unless (eqb room 7) 2 or_else book_refusal b

-- canvasfox.h: "0 where it is found, 255 where it is absent, else the refusal's number"
unfoldable pub answer_number : Answer → ℕ
answer_number Found = 0
answer_number Absent = 255
answer_number (Refused number) = number

-- canvasfox.h: "2 where key has not 96 bytes, whatever the book is; then the lookup's own"
unfoldable pub lookup_number : List ℕ → List ℕ → ℕ → ℕ
lookup_number b label room = unless (eqb room 96) 2 or_else answer_number (lookup_of b label).answer
