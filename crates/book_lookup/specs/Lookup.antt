-- The lookup's answer: document 02, paper 2, "a lookup that answers the key, or absent exactly when no entry has the label".
use Rattle.std.specs.Prelude.{ℕ, ◌-◌, ◌≤◌, ◌<◌, ◌≡◌, true, false, cond, List, eqb, length, Option, Some, None, Result, Ok, Err}
use Rattle.slices.specs.Slices.{same, zeros}
use Rattle.refusal.specs.declared.Refusal.{Refusal}
use Rattle.refusal.specs.Refusal.{unless, ◌or_else◌, first_where, number}
use Rattle.field.specs.Vector.{as_vector}
use Rattle.label.specs.Tests.{is_label, is_below}
use Rattle.book_form.specs.Book.{key_of, front_in, table_in, fields_in}
use Rattle.book_form.specs.Labels.{label_at}
use Rattle.book_reader.specs.Reader.{book_refusal}
use Rattle.book_lookup.specs.Answer.{Answer, Found, Absent, Refused, LookedUp}

-- "a label looked up comes last, 2 before 12"
unfoldable pub lookup_refusal : List ℕ → List ℕ → ℕ
lookup_refusal b label = book_refusal b or_else unless (eqb (length label) 10) 2 or_else unless (is_label label) 12

-- the entry of a table that has the label, counted from 1; 0 where none has
unfoldable pub place_in : List ℕ → ℕ → List ℕ → ℕ
place_in table count label = first_where count (λ i. same (label_at 14 table i) label)

-- card i's key, "held by value in 96 bytes, zero beyond its length"
unfoldable pub key_in : List ℕ → ℕ → List ℕ
key_in b i = as_vector (key_of (front_in b) (fields_in b).keys i)

-- the values of each case: the key is zero where there is none
unfoldable pub no_key : Answer → LookedUp
no_key answer = record { answer = answer; key = zeros 96 }

unfoldable pub lookup_at : List ℕ → ℕ → LookedUp
lookup_at b place = cond (eqb place 0) (no_key Absent) (record { answer = Found; key = key_in b (place - 1) })

unfoldable pub lookup_of : List ℕ → List ℕ → LookedUp
lookup_of b label =
    cond (eqb (lookup_refusal b label) 0) (lookup_at b (place_in (table_in b) (front_in b).count label)) (no_key (Refused (lookup_refusal b label)))

-- this document's number for each of the answer's cases
unfoldable pub refusal_of : Answer → ℕ
refusal_of Found = 0
refusal_of Absent = 0
refusal_of (Refused number) = number

-- the case, the number and the values of each answer of the code
abbrev pub answered : Result (Option (List ℕ)) Refusal → LookedUp
answered (Ok (Some key)) = record { answer = Found; key = key }
answered (Ok None) = no_key Absent
answered (Err refusal) = no_key (Refused (number refusal))

-- ---- the search

-- so many labels of a table stand below this one, and those from there on do not
pub record LowerBound (table : List ℕ) (count : ℕ) (label : List ℕ) (place : ℕ) : Type 0 where
  pub within : place ≤ count
  pub before : (i : ℕ) → i < place → is_below (label_at 14 table i) label ≡ true
  pub behind : (i : ℕ) → place ≤ i → i < count → is_below (label_at 14 table i) label ≡ false
