-- What is not refused has the right lengths. Assumes nothing.
use mathlib.Core.Path.{sym, ap, ◌∙◌}
use lib.ListN.{length}
use borrow.Author.Tests.{leb-true}
use Rattle.refusal.proofs.Refusals.{test_holds, equal_holds}
use Rattle.sha256.proofs.DigestBytes.{length-sha256}
use Rattle.sha256.proofs.digest.Goals as goal

pub hash-d-requires : goal.hash-d-requires
hash-d-requires c = leb-true _ 65535 (test_holds _ 2 tt (sym c.in_ok-require.ensures))

pub copy_from_slice-requires : goal.copy_from_slice-requires
copy_from_slice-requires c = equal_holds _ 32 2 tt (sym c.in_ok-require-2.ensures) ∙ sym (ap length c.hash-d.ensures ∙ length-sha256 _)
