-- Refusals as numbers, 0 for none, in document 01's order: the first that applies is the answer.
use Rattle.std.specs.Prelude.{ℕ, zero, suc, ◌+◌, Bool, cond, eqb, Option, Some, None, Result, Ok, Err}
use Rattle.refusal.specs.declared.Refusal.{Refusal}
use Rattle.refusal.specs.declared.Refusal.TheVariants.{Value, Length, Element, Challenge, Secret, Form, Mismatch, Rejected, NoFullSet, NotDue, Closed, LabelHalf, LabelOrder}

infixr 20 ◌or_else◌
-- "Refused because of the input", "Refused because of the state": the number of each refusal
abbrev pub number : Refusal → ℕ
number Value = 1
number Length = 2
number Element = 3
number Challenge = 4
number Secret = 5
number Form = 6
number Mismatch = 7
number Rejected = 8
number NoFullSet = 9
number NotDue = 10
number Closed = 11
number LabelHalf = 12
number LabelOrder = 13

-- "A refusal gives its number": that of an answer, 0 where it is none
abbrev pub number_of : {A : Type 0} → Result A Refusal → ℕ
number_of (Ok _) = 0
number_of (Err refusal) = number refusal

-- a place counted from 1, 0 for none
abbrev pub counted : Option ℕ → ℕ
counted None = 0
counted (Some i) = i + 1

-- the number k where the test fails
unfoldable pub unless : Bool → ℕ → ℕ
unless test k = cond test 0 k

-- the first of two that is no 0
unfoldable pub ◌or_else◌ : ℕ → ℕ → ℕ
first or_else later = cond (eqb first 0) later first

-- the first that is no 0 among refusal 0, .., refusal (n - 1)
unfoldable pub first_of : ℕ → (ℕ → ℕ) → ℕ
first_of zero refusal = 0
first_of (suc n) refusal = first_of n refusal or_else refusal n

-- the first i below n for which the test holds, counted from 1; 0 where there is none
unfoldable pub first_where : ℕ → (ℕ → Bool) → ℕ
first_where zero test = 0
first_where (suc n) test = first_where n test or_else cond (test n) (n + 1) 0

-- what is refused stays as it was
unfoldable pub kept : {A : Type 0} → ℕ → A → A → A
kept refusal old new = cond (eqb refusal 0) new old
