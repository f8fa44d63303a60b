-- Verdict, numbers and line feed, each behind the last. Assumes nothing.
use borrow.Author.Rules.{rules}
use Rattle.text.specs.Text.{line_feed}
use Rattle.text.proofs.Appending.{appends_both}
use Rattle.report_lines.specs.ReportLines.{verdict_start, space_word, of_word, verdict_line}
use Rattle.report_lines.proofs.verdict_line.Goals as goal

pub returns-clause-puts : goal.returns-clause-puts
unfolding verdict_start space_word of_word line_feed verdict_line
returns-clause-puts c = search (rules, appends_both)
