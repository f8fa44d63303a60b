-- What `digest` refuses.
use Rattle.std.specs.Prelude.{ℕ, leb, eqb}
use Rattle.refusal.specs.Refusal.{unless, ◌or_else◌}

-- "SHA-256 here takes messages of 0 to 65,535 bytes; a longer one is 2." "Outputs count as arguments with an exact length."
unfoldable pub digest_refusal : ℕ → ℕ → ℕ
digest_refusal message out = unless (leb message 65535) 2 or_else unless (eqb out 32) 2
