-- The output's length, then the book; what is refused stays, else its first seven bytes are written. Assumes nothing.
use mathlib.Core.Path.{◌≡◌}
use native.Mathlib.Omega.{arith}
use lib.ListN.{take}
use lib.Seq.{length-take-le}
use Rattle.std.proofs.Common.{rules}
use Rattle.refusal.proofs.Answers.{goes_on_chain}
use Rattle.refusal.proofs.Chains.{ends_here}
use Rattle.capi_books.specs.Numbers.{book_fields_refusal}
use Rattle.capi_books.proofs.Outputs.{fits, seven}
use Rattle.capi_books.proofs.read_fields.Goals as goal

pub slice_bounds-first-end : goal.slice_bounds-first-end
slice_bounds-first-end c = omega (arith, length-take-le 7 c.args.book.now (seven _ c.in_ok-read.ensures.refusal))

pub copy_from_slice-requires : goal.copy_from_slice-requires
copy_from_slice-requires c =
    let long = length-take-le 7 c.args.book.now (seven _ c.in_ok-read.ensures.refusal) in
    omega (arith, long, fits _ 7 c.in_ok-require.ensures)
