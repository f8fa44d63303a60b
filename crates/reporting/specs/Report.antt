-- Document 01, "Report program", and document 02, Paper 1: the text for an input.
use Rattle.std.specs.Prelude.{ℕ, zero, suc, ◌+◌, cond, List, [], ◌++◌, leb, eqb, length, take, drop}
use Rattle.slices.specs.Slices.{placed}
use Rattle.refusal.specs.Refusal.{unless, ◌or_else◌}
use Rattle.system.specs.System.{n_of, m_of, system_length}
use Rattle.record_form.specs.Record.{header_in}
use Rattle.transcript.specs.Transcript.{judge_refusal, round_challenge, accepted_round, accepted_count}
use Rattle.report_lines.specs.ReportLines.{accept_word, reject_word, round_line, verdict_line, totals_line, refused_line}
use Rattle.report_lines.specs.ReadLines.{rounds_with}

-- "Standard input holds a system and then a record": the system ends where its own q, n and m say
unfoldable pub system_part : List ℕ → List ℕ
system_part input = take (system_length (n_of input) (m_of input)) input

unfoldable pub record_part : List ℕ → List ℕ
record_part input = drop (system_length (n_of input) (m_of input)) input

-- "65,536 bytes together at most, else it prints `refused 2`"; then the system, the record and 7
unfoldable pub report_refusal : List ℕ → ℕ
report_refusal input = unless (leb (length input) 65536) 2 or_else judge_refusal (system_part input) (record_part input)

-- the lines of the first n rounds: "All rounds are judged."
unfoldable pub round_lines : List ℕ → List ℕ → ℕ → List ℕ
round_lines system b zero = []
round_lines system b (suc n) = round_lines system b n ++ round_line (n + 1) (round_challenge b n) (accepted_round system b n)

-- a line for each round, then the verdict; Paper 1: "A third line follows the verdict: `rounds A accepted R rejected`, where A and R count the round lines
-- with each word."
unfoldable pub judged_text : List ℕ → List ℕ → List ℕ
judged_text system b =
    let n = (header_in b).rounds in
    let rounds = round_lines system b n in
    rounds ++ (verdict_line (accepted_count system b n) n ++ totals_line (rounds_with accept_word rounds) (rounds_with reject_word rounds))

-- "A refusal prints only `refused` and its number."
unfoldable pub report_text : List ℕ → List ℕ
report_text input =
    cond (eqb (report_refusal input) 0) (judged_text (system_part input) (record_part input)) (refused_line (report_refusal input))

-- the text's length, and the text in a lent buffer, whose other bytes stay; 0 and nothing where the buffer is not 8,192 bytes long
unfoldable pub report_length : List ℕ → ℕ → ℕ
report_length input room = cond (eqb room 8192) (length (report_text input)) 0

unfoldable pub report_out : List ℕ → List ℕ → List ℕ
report_out input text = cond (eqb (length text) 8192) (placed text 0 (report_text input)) text
