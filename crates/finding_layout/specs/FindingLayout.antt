-- The layout of what an audit answers: include/canvasfox.h states it for a finding, reference/README.md ("Audits") for a refusal too.
use Rattle.std.specs.Prelude.{ℕ, List, [], ◌∷◌, ◌++◌}
use Rattle.commitment.specs.declared.Text.{Text}
use Rattle.slices.specs.Slices.{word}
use Rattle.auditing.specs.declared.Finding.{Finding}
use Rattle.auditing.specs.declared.Finding.TheVariants.{Secret, Clash, Refused}
use Rattle.auditing.specs.declared.Audited.{Audited}

-- canvasfox.h: "Byte 0: 1 for a secret, 2 for a clash. Byte 1: a clash's k, else 0. Bytes 2 and 3: 0." Of a refusal: 0, its number, the record and the round
unfoldable pub kind_bytes : Finding → List ℕ
kind_bytes Secret = 1 ∷ 0 ∷ 0 ∷ 0 ∷ []
kind_bytes (Clash k) = 2 ∷ k ∷ 0 ∷ 0 ∷ []
kind_bytes (Refused number whose round) = 0 ∷ number ∷ whose ∷ round ∷ []

-- canvasfox.h: "A string: its length, four bytes, the lowest first, then 322 bytes, the string and zeros."
unfoldable pub text_bytes : Text → List ℕ
text_bytes t = word t.len ++ t.bytes

-- canvasfox.h: "Bytes 4 to 99: the secret, and zeros. Bytes 100 to 425: the first string. Bytes 426 to 751: the second string."
unfoldable pub finding_bytes : Audited → List ℕ
finding_bytes r = (kind_bytes r.finding ++ r.secret) ++ (text_bytes r.first ++ text_bytes r.second)
