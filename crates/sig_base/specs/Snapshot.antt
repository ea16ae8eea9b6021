-- The bytes of a transmitter's base, version 1: 01, the clients, the streams, the publications, and what was reported as faulty.
use Rattle.std.specs.Prelude.{◌==◌, ℕ, List, ◌++◌, Bool, true, Option, Some, None, Result, if◌then◌else◌}
use Rattle.sig_fields.specs.declared.fault.DecodeFault.{DecodeFault}
use Rattle.sig_fields.specs.Kinds as kinds
use Rattle.sig_fields.specs.Reading.{given, ruled, ◌>>=◌}
use Rattle.sig_fields.specs.Whole.{whole}
use Rattle.sig_base.specs.declared.base.Base.{Base}
use Rattle.sig_base.specs.Lists as lists
use Rattle.sig_base.specs.Parts as parts

-- the one kind of a transmitter's snapshots
abbrev pub kind_in : ℕ → Option Bool
kind_in b = if b == 1 then Some true else None

abbrev pub spelling_of : Base → List ℕ
spelling_of b =
    kinds.byte_bytes 1 ++ lists.list_bytes parts.client_bytes b.clients ++ lists.list_bytes parts.stream_bytes b.streams
    ++ lists.list_bytes parts.publication_bytes b.publications ++ parts.refusals_bytes b.refusals

abbrev pub read_base : List ℕ → Result (Base × List ℕ) (List ℕ)
read_base = do
  is_base ← ruled kind_in kinds.byte
  clients ← lists.list parts.client
  streams ← lists.list parts.stream
  publications ← lists.list parts.publication
  refusals ← parts.refusals
  given (record { clients = clients; streams = streams; publications = publications; refusals = refusals })

-- the base that bytes spell, or the offset of the first part that is cut or breaks its rule; where there is none and bytes follow the last
-- field, that of the first byte after it
abbrev pub decoded : List ℕ → Result Base DecodeFault
decoded = whole read_base
