-- Document 02, Paper 1: what the end of a report says, and when there is one. Said of the text's bytes alone, by the lines, words and numbers that are read
-- off them, and of the record by its layout; how the report judges, counts and writes is not used, but for the words `accept` and `reject` themselves.
use Rattle.std.specs.Prelude.{ℕ, ◌+◌, ◌≤◌, ◌≡◌, ◌↔◌, List, [], ◌∷◌, ◌++◌, length}
use Rattle.std.proofs.Math.Option.{some}
use Rattle.text.specs.Reading.{lines, words, number_of}
use Rattle.system.specs.System.{q_of, n_of, m_of, WellFormedSystem}
use Rattle.record_form.specs.Record.{WellFormedRecord, header_in}
use Rattle.report_lines.specs.ReportLines.{accept_word, reject_word}
use Rattle.report_lines.specs.ReadLines.{verdict_name, of_name, rounds_name, accepted_name, rejected_name, refused_name, rounds_with}

-- ---- when there are rounds to report on

-- "Standard input holds a system and then a record, 65,536 bytes together at most": both well-formed, the record for the system's q, n and m
pub record Reportable (system b : List ℕ) : Type 0 where
  pub system_well_formed : WellFormedSystem system
  pub record_well_formed : WellFormedRecord b
  pub has_q : q_of system ≡ (header_in b).q
  pub has_n : n_of system ≡ (header_in b).n
  pub has_m : m_of system ≡ (header_in b).m
  pub together : length system + length b ≤ 65536

-- ---- what a text says at its end, of n rounds

-- "A third line follows the verdict: `rounds A accepted R rejected`, where A and R count the round lines with each word. A + R is N."; "verdict (accept only
-- if all), accepted rounds, N"
pub record RightEnd (text : List ℕ) (n : ℕ) : Type 0 where
  pub rounds : List (List ℕ)
  pub verdict : List ℕ
  pub totals : List ℕ
  pub all_lines : lines text ≡ rounds ++ (verdict ∷ totals ∷ [])
  pub a_line_a_round : length rounds ≡ n
  -- the verdict's word and its numbers
  pub word : List ℕ
  pub passed : List ℕ
  pub of_all : List ℕ
  pub verdict_words : words verdict ≡ verdict_name ∷ word ∷ passed ∷ of_name ∷ of_all ∷ []
  pub accepts_when : (word ≡ accept_word) ↔ (rounds_with reject_word text ≡ 0)
  pub rejects_when : (word ≡ reject_word) ↔ (rounds_with reject_word text ≡ 0 → ⊥)
  pub passed_is : number_of passed ≡ some (rounds_with accept_word text)
  pub of_all_is : number_of of_all ≡ some n
  -- A and R
  pub accepted : List ℕ
  pub rejected : List ℕ
  pub totals_words : words totals ≡ rounds_name ∷ accepted ∷ accepted_name ∷ rejected ∷ rejected_name ∷ []
  pub accepted_is : number_of accepted ≡ some (rounds_with accept_word text)
  pub rejected_is : number_of rejected ≡ some (rounds_with reject_word text)
  pub sum_is : rounds_with accept_word text + rounds_with reject_word text ≡ n

-- "A refusal prints only `refused` and its number."
pub record RefusedAlone (text : List ℕ) : Type 0 where
  pub line : List ℕ
  pub number : List ℕ
  pub one_line : lines text ≡ line ∷ []
  pub line_words : words line ≡ refused_name ∷ number ∷ []
