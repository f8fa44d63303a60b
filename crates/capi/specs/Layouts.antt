-- What include/canvasfox.h says of numbers and bytes that no entry has: the layout of a record's fields, and an audit's answer.
use Rattle.std.specs.Prelude.{ℕ, ◌+◌, ◌*◌, List, [], ◌∷◌, ◌++◌, eqb}
use Rattle.refusal.specs.Refusal.{unless, ◌or_else◌}
use Rattle.system.specs.System.{system_refusal}
use Rattle.scheme.specs.Scheme.{byte_of}
use Rattle.record_form.specs.declared.layout.Layout.{Layout}
use Rattle.record_form.specs.Record.{entry}
use Rattle.record.specs.Reader.{record_refusal}
use Rattle.auditing.specs.declared.Finding.{Finding}
use Rattle.auditing.specs.declared.Finding.TheVariants.{Secret, Clash, Refused}

-- ---- a record's fields

-- canvasfox.h: "Bytes 0 to 5: edition, scheme, q, n, m, N. Then offset and length of the key, of the commitments and of the exchanges, four bytes each, the
-- lowest first."
unfoldable pub fields_bytes : Layout → List ℕ
fields_bytes l =
    (l.edition ∷ byte_of l.header.scheme ∷ l.header.q ∷ l.header.n ∷ l.header.m ∷ l.header.rounds ∷ []) ++
    (entry l.key ++ entry l.commitments ++ entry l.exchanges)

-- canvasfox.h: "2 where fields has not 30 bytes, whatever the record is; then the record's own"
unfoldable pub fields_refusal : List ℕ → ℕ → ℕ
fields_refusal b room = unless (eqb room 30) 2 or_else record_refusal b

-- ---- an audit's answer

-- canvasfox.h: "0 for a finding, else the refusal's number + 256 * the record + 65536 * the round"
unfoldable pub audit_number : Finding → ℕ
audit_number Secret = 0
audit_number (Clash k) = 0
audit_number (Refused number whose round) = number + 256 * whose + 65536 * round

-- canvasfox.h: "The system's refusals; 2 where finding has not 752 bytes, whatever the records are; then the audit's own"
unfoldable pub audit_refusal : List ℕ → Finding → ℕ → ℕ
audit_refusal b f room = system_refusal b or_else unless (eqb room 752) 2 or_else audit_number f
